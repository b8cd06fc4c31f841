-- Texts that are tested to be the same are equal, and the test says no more. Assumes nothing.
use mathlib.Core.Path.{◌≡◌, refl, sym, ap₂}
use mathlib.Core.Bool.{Bool, true, false, cond}
use mathlib.Core.List.{List, [], ◌∷◌}
use Prim.Native.Nat.{ℕ}
use borrow.Author.Tests.{eqb-true, eq-eqb}
use lib.Dec.{eqb}
use Rattle.record_text.specs.Letters.{same}
use Rattle.record_text.proofs.Tests.{clash}

pub same_true : (l m : List ℕ) → same l m ≡ true → l ≡ m
same_true [] [] e = refl
same_true [] (y ∷ m) e = clash e
same_true (x ∷ l) [] e = clash e
same_true (x ∷ l) (y ∷ m) e = go (eqb x y) refl e (λ f. same_true l m f)
  where
    go : (t : Bool) → eqb x y ≡ t → cond t (same l m) false ≡ true → (same l m ≡ true → l ≡ m) → x ∷ l ≡ y ∷ m
    go true f g k = ap₂ ◌∷◌ (eqb-true x y f) (k g)
    go false f g k = clash g

pub same_refl : (l : List ℕ) → same l l ≡ true
same_refl [] = refl
same_refl (x ∷ l) = rw (eq-eqb x x refl) (same_refl l)

-- an answer that is yes for equal texts alone, and for all of them, is the test
pub is_same : (r : Bool) (text name : List ℕ) → (r ≡ true → text ≡ name) → (text ≡ name → r ≡ true) → r ≡ same name text
is_same true text name f g = let e = f refl in rw e (sym (same_refl name))
is_same false text name f g = go (same name text) refl
  where
    go : (t : Bool) → same name text ≡ t → false ≡ t
    go true e = g (sym (same_true name text e))
    go false e = refl
