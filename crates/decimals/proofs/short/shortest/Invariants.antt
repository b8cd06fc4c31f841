-- `decimals::short::shortest` meets its contract: trying on from the places so far leads to the same. Assumes nothing.
use Prim.Native.Nat.{◌-◌}
use Rattle.decimals.specs.Magnitude.{rest_of, RestFits}
use Rattle.decimals.proofs.Shortest.{Trying}
use Rattle.decimals.proofs.short.shortest.Given as goal

abbrev pub invariant-loop-places : goal.invariant-loop-places
invariant-loop-places l =
    Trying l.rule l.word l.whole (rest_of l.initial.left) l.fraction l.places l.nines (rest_of l.left) × RestFits l.left

abbrev pub decreases-loop-places : goal.decreases-loop-places
decreases-loop-places l = 27 - l.places
