-- `sheet_figures::counts::count_from` meets its contract: what is counted and what the lines ahead make is the whole. Assumes nothing.
use mathlib.Core.Path.{◌≡◌}
use Prim.Native.Nat.{◌+◌, ◌-◌, ◌≤◌}
use lib.ListN.{drop}
use Rattle.sheet_bytes.specs.Ledger.{lines_of, closed_in}
use Rattle.sheet_figures.specs.Figures.{count, serials}
use Rattle.sheet_figures.proofs.counts.count_from.Given as goal

abbrev pub invariant-loop-at : goal.invariant-loop-at
invariant-loop-at l =
    (l.at ≤ closed_in l.sheets) × (l.found ≤ l.at) × (l.found + count l.serial (serials (drop l.at (lines_of l.sheets))) ≡ count l.serial (serials (drop l.from (lines_of l.sheets))))

abbrev pub decreases-loop-at : goal.decreases-loop-at
decreases-loop-at l = l.n - l.at
