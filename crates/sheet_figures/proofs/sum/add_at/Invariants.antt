-- `sheet_figures::sum::add_at` meets its contract: what is added so far and what is still carried make the sum. Assumes nothing.
use mathlib.Core.Path.{◌≡◌}
use Prim.Native.Nat.{◌+◌, ◌*◌, ◌-◌, ◌^◌, ◌≤◌, ◌<◌}
use lib.ListN.{length}
use Rattle.sheet_figures.specs.Limbs.{le}
use Rattle.sheet_figures.proofs.Adding.{Small}
use Rattle.sheet_figures.proofs.sum.add_at.Given as goal

abbrev pub invariant-loop-i : goal.invariant-loop-i
invariant-loop-i l = (l.i ≤ 24) × (length l.acc ≡ 24) × (l.left < 4294967296) × Small l.acc × (le l.acc + l.left * 256 ^ l.i ≡ le l.initial.acc + l.initial.left * 256 ^ l.initial.i)

abbrev pub decreases-loop-i : goal.decreases-loop-i
decreases-loop-i l = 24 - l.i
