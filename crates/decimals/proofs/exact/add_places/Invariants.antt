-- `decimals::exact::add_places` stores one place after another. Assumes nothing.
use Prim.Native.Nat.{◌-◌}
use Rattle.decimals.specs.Magnitude.{rest_of, RestFits}
use Rattle.decimals.proofs.Spelling.{Placing}
use Rattle.decimals.proofs.exact.add_places.Given as goal

abbrev pub invariant-loop-i : goal.invariant-loop-i
invariant-loop-i l = Placing (rest_of l.initial.left) l.count l.place l.initial.out l.out (rest_of l.left) l.i × RestFits l.left

abbrev pub decreases-loop-i : goal.decreases-loop-i
decreases-loop-i l = l.count - l.i
