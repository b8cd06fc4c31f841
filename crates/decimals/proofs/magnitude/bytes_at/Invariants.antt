-- `decimals::magnitude::bytes_at` meets its contract: the value so far is that of the bytes behind the place. Assumes nothing.
use Rattle.decimals.proofs.Parts.{Gathered}
use Rattle.decimals.proofs.magnitude.bytes_at.Given as goal

abbrev pub invariant-loop-left : goal.invariant-loop-left
invariant-loop-left l = Gathered l.bytes l.at l.count l.value l.left

abbrev pub decreases-loop-left : goal.decreases-loop-left
decreases-loop-left l = l.left
