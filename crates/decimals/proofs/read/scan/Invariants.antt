-- `decimals::read::scan` meets its contract: reading on from the digits so far leads to the same. Assumes nothing.
use Prim.Native.Nat.{◌-◌}
use lib.ListN.{length}
use Rattle.decimals.proofs.Scanning.{Scanning}
use Rattle.decimals.proofs.read.scan.Given as goal

abbrev pub invariant-loop-i : goal.invariant-loop-i
invariant-loop-i l = Scanning l.text l.value l.i

abbrev pub decreases-loop-i : goal.decreases-loop-i
decreases-loop-i l = length l.text - l.i
