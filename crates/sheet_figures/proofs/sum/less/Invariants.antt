-- `sheet_figures::sum::less` meets its contract: what is left, and what was taken off, make a with what was borrowed. Assumes nothing.
use mathlib.Core.Path.{◌≡◌}
use Prim.Native.Nat.{◌+◌, ◌*◌, ◌-◌, ◌^◌, ◌≤◌}
use lib.ListN.{length, take}
use Rattle.sheet_figures.specs.Limbs.{le}
use Rattle.sheet_figures.proofs.Adding.{Small}
use Rattle.sheet_figures.proofs.sum.less.Given as goal

abbrev pub invariant-loop-i : goal.invariant-loop-i
invariant-loop-i l = (l.i ≤ 24) × (length l.bytes ≡ 24) × (length l.b ≡ 24) × (l.borrowed ≤ 1) × Small l.bytes × Small l.b
    × (le l.bytes + le (take l.i l.b) ≡ le l.initial.bytes + l.borrowed * 256 ^ l.i)

abbrev pub decreases-loop-i : goal.decreases-loop-i
decreases-loop-i l = 24 - l.i
