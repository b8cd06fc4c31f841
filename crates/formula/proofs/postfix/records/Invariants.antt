-- `formula::postfix::records` meets its contract: a token a turn. Assumes nothing.
use Prim.Native.Nat.{◌-◌}
use lib.ListN.{length}
use Rattle.formula.proofs.Walking.{Goes}
use Rattle.formula.proofs.postfix.records.Given as goal

abbrev pub invariant-loop-i : goal.invariant-loop-i
invariant-loop-i l = Goes l.letters l.bytes l.initial.out l.out l.i l.w

abbrev pub decreases-loop-i : goal.decreases-loop-i
decreases-loop-i l = length l.bytes - l.i
