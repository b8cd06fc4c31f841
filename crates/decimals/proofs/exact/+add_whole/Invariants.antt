-- `decimals::exact::add_whole` calls itself with one digit fewer. Assumes nothing.
use Rattle.decimals.proofs.exact.+add_whole.Given as goal

abbrev pub decreases-add_whole : goal.decreases-add_whole
decreases-add_whole l = l.count
