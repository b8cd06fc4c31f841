-- `record_text::told::add_groups` adds one word after another. Assumes nothing.
use Prim.Native.Nat.{◌-◌}
use lib.ListN.{length}
use Rattle.record_text.proofs.Telling.{Telling}
use Rattle.record_text.proofs.told.add_groups.Given as goal

abbrev pub invariant-loop-at : goal.invariant-loop-at
invariant-loop-at l = Telling l.bytes l.initial.out l.out l.place l.next l.at

abbrev pub decreases-loop-at : goal.decreases-loop-at
decreases-loop-at l = length l.bytes - l.at
