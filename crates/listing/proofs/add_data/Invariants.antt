-- `listing::add_data` adds the text of one byte after the other: so far it is the text of the bytes passed. Assumes nothing.
use mathlib.Core.Path.{◌≡◌}
use Prim.Native.Nat.{◌-◌, ◌≤◌}
use lib.ListN.{length, take}
use Rattle.listing.specs.Text.{Adds}
use Rattle.listing.specs.Listing.{data_text}
use Rattle.listing.proofs.add_data.Given as goal

abbrev pub invariant-loop-i : goal.invariant-loop-i
invariant-loop-i l =
    (l.i ≤ length l.bytes) × (length l.out ≡ length l.initial.out) × Adds (data_text (take l.i l.bytes)) l.initial.out l.out l.place l.next

abbrev pub decreases-loop-i : goal.decreases-loop-i
decreases-loop-i l = length l.bytes - l.i
