-- `float::root::whole_root` meets its contract: a mean is never below the root, and where it does not fall the last one is the root. Assumes nothing.
use Rattle.float.proofs.root.Means.{Falling}
use Rattle.float.proofs.root.whole_root.Given as goal

abbrev pub invariant-loop-t : goal.invariant-loop-t
invariant-loop-t l = Falling l.v l.s l.t

abbrev pub decreases-loop-t : goal.decreases-loop-t
decreases-loop-t l = l.s
