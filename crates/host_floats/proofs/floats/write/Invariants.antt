-- `host_floats::floats::write` meets its contract: what stands is the words of the f64s so far, and the rest as it was. Assumes nothing.
use mathlib.Core.Path.{◌≡◌}
use Prim.Native.Nat.{◌-◌}
use lib.ListN.{length}
use Rattle.numbers.specs.Little.{le4}
use Rattle.host_floats.specs.Buffers.{float_entry}
use Rattle.host_floats.proofs.Writing.{Written}
use Rattle.host_floats.proofs.floats.write.Given as goal

abbrev pub invariant-loop-i : goal.invariant-loop-i
invariant-loop-i l = Written 4 le4 (float_entry l.rule l.floats) l.initial.out l.out l.n l.i × (length l.out ≡ length l.initial.out)

abbrev pub decreases-loop-i : goal.decreases-loop-i
decreases-loop-i l = l.n - l.i
