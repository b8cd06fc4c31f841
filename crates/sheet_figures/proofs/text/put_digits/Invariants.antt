-- `sheet_figures::text::put_digits` meets its contract: after i bytes the digits of the i highest stand in front. Assumes nothing.
use mathlib.Core.Path.{◌≡◌}
use Prim.Native.Nat.{◌*◌, ◌-◌, ◌≤◌}
use lib.ListN.{length, take, drop}
use Rattle.sheet_figures.specs.Limbs.{le}
use Rattle.sheet_figures.specs.Digits.{hex_digits}
use Rattle.sheet_figures.proofs.Adding.{Small}
use Rattle.sheet_figures.proofs.text.put_digits.Given as goal

abbrev pub invariant-loop-i : goal.invariant-loop-i
invariant-loop-i l =
    (l.i ≤ 24) × (length l.out ≡ 48) × (length l.size ≡ 24) × Small l.size × (take (2 * l.i) l.out ≡ hex_digits (2 * l.i) (le (drop (24 - l.i) l.size)))

abbrev pub decreases-loop-i : goal.decreases-loop-i
decreases-loop-i l = 24 - l.i
