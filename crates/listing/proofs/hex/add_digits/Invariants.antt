-- `listing::hex::add_digits` stores the digits from the last one on. Assumes nothing.
use Rattle.listing.proofs.Digits.{Filling}
use Rattle.listing.proofs.hex.add_digits.Given as goal

abbrev pub invariant-loop-i : goal.invariant-loop-i
invariant-loop-i l = Filling l.base l.n l.count l.place l.initial.out l.out l.rest l.i

abbrev pub decreases-loop-i : goal.decreases-loop-i
decreases-loop-i l = l.i
