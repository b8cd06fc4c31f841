-- `record_text::named::named` looks for the name place by place. Assumes nothing.
use Prim.Native.Nat.{◌-◌}
use Rattle.record_text.proofs.Naming.{Sought}
use Rattle.record_text.proofs.named.named.Given as goal

abbrev pub invariant-loop-place : goal.invariant-loop-place
invariant-loop-place l = Sought l.text l.place

abbrev pub decreases-loop-place : goal.decreases-loop-place
decreases-loop-place l = 139 - l.place
