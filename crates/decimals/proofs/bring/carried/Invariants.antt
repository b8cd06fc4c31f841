-- `decimals::bring::carried` meets its contract: quotient and remainder make the number, doubled so often. Assumes nothing.
use Prim.Native.Nat.{◌+◌, ◌-◌, ◌*◌}
use Rattle.decimals.proofs.Quotients.{Onward}
use Rattle.decimals.proofs.bring.carried.Given as goal

abbrev pub invariant-loop-q : goal.invariant-loop-q
invariant-loop-q l = Onward (l.whole * l.d + l.rest) l.d l.q.whole l.q.rest l.q.bits

abbrev pub decreases-loop-q : goal.decreases-loop-q
decreases-loop-q l = 88 - l.q.bits
