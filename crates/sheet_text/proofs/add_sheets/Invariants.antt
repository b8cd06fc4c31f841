-- `sheet_text::add_sheets` adds the line of one sheet after the other: so far they are the lines of the sheets passed. Assumes nothing.
use mathlib.Core.Path.{◌≡◌}
use Prim.Native.Nat.{◌+◌, ◌*◌, ◌-◌, ◌≤◌}
use lib.ListN.{length, drop}
use Rattle.sheet_bytes.specs.Ledger.{lines, closed_in}
use Rattle.listing.specs.Text.{Adds}
use Rattle.sheet_text.specs.Printout.{sheets_text}
use Rattle.sheet_text.proofs.add_sheets.Given as goal

abbrev pub invariant-loop-i : goal.invariant-loop-i
invariant-loop-i l =
    (l.i ≤ closed_in l.sheets) × (length l.out ≡ length l.initial.out)
    × Adds (sheets_text (lines l.i (drop 1 l.sheets))) l.initial.out l.out l.place l.next × (l.next ≤ l.place + 64 * l.i)

abbrev pub decreases-loop-i : goal.decreases-loop-i
decreases-loop-i l = l.count - l.i
