-- `record_text::trace::add_lines` adds the line of one record after the other: so far they are the lines of the records passed. Assumes nothing.
use Prim.Native.Nat.{◌-◌}
use lib.ListN.{length}
use Rattle.record_text.proofs.Tracing.{Going}
use Rattle.record_text.proofs.trace.add_lines.Given as goal

abbrev pub invariant-loop-at : goal.invariant-loop-at
invariant-loop-at l = Going l.mode l.rule l.input l.initial.out l.out l.place l.number l.at

abbrev pub decreases-loop-at : goal.decreases-loop-at
decreases-loop-at l = length l.input - l.at
