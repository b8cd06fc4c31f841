-- `sheet_figures::sum::gather_all` meets its contract: what is gathered so far. Assumes nothing.
use Prim.Native.Nat.{◌-◌}
use Rattle.sheet_figures.specs.Limbs.{le}
use Rattle.sheet_figures.proofs.Gathering.{Gathers}
use Rattle.sheet_figures.proofs.sum.gather_all.Given as goal

abbrev pub invariant-loop-i : goal.invariant-loop-i
invariant-loop-i l = Gathers l.sheets (le l.s.plus) (le l.s.minus) l.i

abbrev pub decreases-loop-i : goal.decreases-loop-i
decreases-loop-i l = l.n - l.i
