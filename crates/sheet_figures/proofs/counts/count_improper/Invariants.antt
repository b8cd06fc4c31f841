-- `sheet_figures::counts::count_improper` meets its contract: what is counted and what the lines ahead make is the whole. Assumes nothing.
use mathlib.Core.Path.{◌≡◌}
use Prim.Native.Nat.{◌+◌, ◌-◌, ◌≤◌}
use lib.ListN.{drop}
use Rattle.sheet_bytes.specs.Ledger.{lines_of, closed_in}
use Rattle.sheet_figures.specs.Figures.{improper}
use Rattle.sheet_figures.proofs.counts.count_improper.Given as goal

abbrev pub invariant-loop-i : goal.invariant-loop-i
invariant-loop-i l =
    (l.i ≤ closed_in l.sheets) × (l.found ≤ l.i) × (l.found + improper (drop l.i (lines_of l.sheets)) ≡ improper (lines_of l.sheets))

abbrev pub decreases-loop-i : goal.decreases-loop-i
decreases-loop-i l = l.n - l.i
