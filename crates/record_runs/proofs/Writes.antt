-- Stores at the front of a list, and a part of a list that is lent and comes back. Assumes nothing.
use mathlib.Core.Path.{◌≡◌, ◌∙◌}
use mathlib.Core.List.{List, ◌++◌, append-nil}
use Prim.Native.Nat.{ℕ, ◌-◌, ◌≤◌}
use native.Mathlib.Omega.{arith}
use native.Mathlib.Nat.{zero-add}
use lib.ListN.{length, take, drop, length-drop, drop_of_length-le}
use lib.Seq.{take_all, sets, sets-eq}

-- a run of stores at the front
pub front : (vs room : List ℕ) → length vs ≤ length room → sets room 0 vs ≡ vs ++ drop (length vs) room
front vs room h = sets-eq vs room 0 (omega arith) ∙ rw (zero-add (length vs))

-- a part up to the end is all that is left
pub all_rest : (l : List ℕ) (a : ℕ) → take (length l - a) (drop a l) ≡ drop a l
all_rest l a = take_all (length l - a) (drop a l) (simp length-drop (omega arith))

-- once it is back, nothing stands after it
pub back : (l : List ℕ) (a : ℕ) (left : List ℕ) → take a l ++ (left ++ drop (length l - a) (drop a l)) ≡ take a l ++ left
back l a left = rw (drop_of_length-le (drop a l) {i = length l - a} (simp length-drop (omega arith)), append-nil left)
