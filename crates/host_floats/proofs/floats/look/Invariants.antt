-- `host_floats::floats::look` meets its contract: the f64s before the one looked at are taken, and so many of them were rounded. Assumes nothing.
use Prim.Native.Nat.{◌-◌, ◌≤◌}
use Rattle.host_floats.specs.Buffers.{float_entry}
use Rattle.host_floats.proofs.Looking.{Seen}
use Rattle.host_floats.proofs.floats.look.Given as goal

abbrev pub invariant-loop-i : goal.invariant-loop-i
invariant-loop-i l = Seen (float_entry l.rule l.floats) l.n l.i l.rounded × (l.rounded ≤ l.i)

abbrev pub decreases-loop-i : goal.decreases-loop-i
decreases-loop-i l = l.n - l.i
