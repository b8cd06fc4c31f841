-- `decimals::sum::read_bytes` meets its contract: reading on from the bytes so far leads to the number. Assumes nothing.
use Rattle.decimals.proofs.SumReading.{Filling}
use Rattle.decimals.proofs.sum.read_bytes.Given as goal

abbrev pub invariant-loop-left : goal.invariant-loop-left
invariant-loop-left l = Filling l.digits l.bytes l.left l.i

abbrev pub decreases-loop-left : goal.decreases-loop-left
decreases-loop-left l = l.left
