-- `host_floats::words::look` meets its contract: the words before the one looked at are proper, and a word is never rounded. Assumes nothing.
use Prim.Native.Nat.{◌-◌}
use Rattle.host_floats.specs.Buffers.{word_entry}
use Rattle.host_floats.proofs.Looking.{Seen}
use Rattle.host_floats.proofs.words.look.Given as goal

abbrev pub invariant-loop-i : goal.invariant-loop-i
invariant-loop-i l = Seen (word_entry l.words) l.n l.i 0

abbrev pub decreases-loop-i : goal.decreases-loop-i
decreases-loop-i l = l.n - l.i
