-- Stores at every place of a list make it the list of what was stored, and bytes written over part of one are pasted there. Assumes nothing.
use mathlib.Core.Path.{◌≡◌, sym, ap, ap₂, ◌∙◌}
use mathlib.Core.List.{List, ◌++◌, append_assoc, append-nil}
use Prim.Native.Nat.{ℕ, ◌+◌}
use native.Mathlib.Omega.{arith}
use native.Mathlib.Nat.{zero-add}
use lib.ListN.{length, take, drop, drop_of_length-le}
use lib.Seq.{sets, sets-eq, paste, take_all, drop-drop}

pub filled : (vs l : List ℕ) → length l ≡ length vs → sets l 0 vs ≡ vs
filled vs l h =
    sets-eq vs l 0 (omega arith) ∙ rw (zero-add (length vs), drop_of_length-le l {i = length vs} (omega arith), append-nil vs)

-- n bytes written over part of a list
pub part_laid : (room x y : List ℕ) (i k n : ℕ) → k ≡ n → length y ≡ n → x ≡ y → take i room ++ (x ++ drop k (drop i room)) ≡ paste room i y n
part_laid room x y i k n f h e =
    ap (λ (m : ℕ). take i room ++ (x ++ drop m (drop i room))) f
    ∙ ap₂ (λ (l m : List ℕ). take i room ++ (l ++ m)) (e ∙ sym (take_all n y (omega (arith, h)))) (drop-drop n i room)
    ∙ sym (append_assoc (take i room) (take n y) (drop (i + n) room))
