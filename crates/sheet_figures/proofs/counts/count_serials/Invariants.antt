-- `sheet_figures::counts::count_serials` meets its contract: a serial that does not stand further on is a new one. Assumes nothing.
use mathlib.Core.Path.{◌≡◌}
use Prim.Native.Nat.{◌+◌, ◌-◌, ◌≤◌}
use lib.Dec.{leb}
use lib.ListN.{drop}
use Rattle.sheet_bytes.specs.Ledger.{lines_of, closed_in}
use Rattle.sheet_figures.specs.Figures.{count, serials, once, many, different, repeated}
use Rattle.sheet_figures.proofs.counts.count_serials.Given as goal

abbrev pub invariant-loop-i : goal.invariant-loop-i
invariant-loop-i l =
    (l.i ≤ closed_in l.sheets)
    × (l.different ≤ l.i)
    × (l.repeated ≤ l.i)
    × (l.different + different (drop l.i (lines_of l.sheets)) ≡ different (lines_of l.sheets))
    × (l.repeated + many (λ x. leb 2 (count x (serials (lines_of l.sheets)))) (once (serials (drop l.i (lines_of l.sheets)))) ≡ repeated (lines_of l.sheets))

abbrev pub decreases-loop-i : goal.decreases-loop-i
decreases-loop-i l = l.n - l.i
