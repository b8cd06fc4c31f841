-- `formula::parts::copy` meets its contract: after i turns what is left to store is all but the first i of nine bytes. Assumes nothing.
use mathlib.Core.Path.{◌≡◌}
use Prim.Native.Nat.{◌+◌, ◌-◌, ◌≤◌}
use lib.ListN.{take, drop}
use lib.Seq.{sets}
use Rattle.formula.proofs.parts.copy.Given as goal

abbrev pub invariant-loop-i : goal.invariant-loop-i
invariant-loop-i l = (l.i ≤ 9) × (sets l.initial.out l.end (take 9 (drop l.at l.text)) ≡ sets l.out (l.end + l.i) (take (9 - l.i) (drop (l.at + l.i) l.text)))

abbrev pub decreases-loop-i : goal.decreases-loop-i
decreases-loop-i l = 9 - l.i
