-- `host_floats::words::write` meets its contract: what stands is the f64s of the words so far, and the rest as it was. Assumes nothing.
use mathlib.Core.Path.{◌≡◌}
use Prim.Native.Nat.{◌-◌}
use lib.ListN.{length}
use Rattle.numbers.specs.Little.{le8}
use Rattle.host_floats.specs.Buffers.{word_entry}
use Rattle.host_floats.proofs.Writing.{Written}
use Rattle.host_floats.proofs.words.write.Given as goal

abbrev pub invariant-loop-i : goal.invariant-loop-i
invariant-loop-i l = Written 8 le8 (word_entry l.words) l.initial.out l.out l.n l.i × (length l.out ≡ length l.initial.out)

abbrev pub decreases-loop-i : goal.decreases-loop-i
decreases-loop-i l = l.n - l.i
