-- Digits are spelled one at a time: those of a whole number from the last one, those behind the point from the first. Assumes nothing.
use mathlib.Core.Path.{◌≡◌, refl, sym, ap, ◌∙◌, subst, subst₂}
use mathlib.Core.Bool.{Bool, true, false, cond}
use mathlib.Core.List.{List, [], ◌∷◌, ◌++◌, append_assoc, append-nil}
use Prim.Native.Nat.{ℕ, zero, suc, ◌+◌, ◌-◌, ◌*◌, ◌/◌, ◌%◌, ◌^◌, ◌≤◌, ◌<◌, zero-le}
use native.Mathlib.Nat.{add-zero, mod-eq_of_lt}
use native.Mathlib.Omega.{arith}
use borrow.Author.Tests.{ltb-true}
use lib.Dec.{ltb, eqb}
use lib.ListN.{length, take, set, length-append, length-set}
use lib.Seq.{length-take-le, take-suc-set}
use lib.Pow.{high, low}
use Rattle.listing.specs.Text.{digit, spelled, Adds}
use Rattle.listing.proofs.Adding.{nothing, both}
use Rattle.decimals.specs.Exact.{point, minus, places_text, sign_text, exact_text}

-- ---- a whole number
pub no_digits : (n count place : ℕ) (l : List ℕ) → count ≡ 0 → Adds (spelled count n) l l place place
unfolding spelled
no_digits n count place l e = rw e (nothing l place)

pub one_digit : (n count x : ℕ) {a b : List ℕ} {p q : ℕ} → (count ≡ 0 → ⊥) → ltb n 10 ≡ true → x ≡ digit (n % 10) → Adds (x ∷ []) a b p q → Adds
    (spelled count n) a b p q
unfolding spelled
one_digit n zero x z t e h = absurd (z refl)
one_digit n (suc count) x {a} {b} {p} {q} z t e h =
    subst (λ (s : Bool). Adds (cond s (digit n ∷ []) (spelled count (n / 10) ++ (digit (n % 10) ∷ []))) a b p q) (sym t)
    (subst (λ (y : ℕ). Adds (y ∷ []) a b p q) (e ∙ ap digit (mod-eq_of_lt (ltb-true n 10 t))) h)

pub more_digits : (n count x m : ℕ) {a b c : List ℕ} {p q r : ℕ} → (count ≡ 0 → ⊥) → ltb n 10 ≡ false → m ≡ n / 10 → x ≡ digit (n % 10)
    → Adds (spelled (count - 1) m) a b p q → Adds (x ∷ []) b c q r → Adds (spelled count n) a c p r
unfolding spelled
more_digits n zero x m z t f e h k = absurd (z refl)
more_digits n (suc count) x m {a} {b} {c} {p} {q} {r} z t f e h k =
    let i : suc count - 1 ≡ count = omega arith in
    rw t (both (subst₂ (λ (j y : ℕ). Adds (spelled j y) a b p q) i f h) (subst (λ (y : ℕ). Adds (y ∷ []) b c q r) e k))

-- ---- what is left below one
no_place_lem : (n r : ℕ) → n ≡ 0 → places_text n r ≡ []
unfolding places_text
no_place_lem n r e = rw e

one_place : (n r x s : ℕ) → x ≡ digit (r * 10 / 2 ^ 88) → s ≡ r * 10 % 2 ^ 88 → places_text (suc n) r ≡ x ∷ cond (eqb s 0) [] (places_text n s)
unfolding places_text
one_place n r x s e f = rw (e, f)

-- what stands before the place and the places are what has been written and the places of what is left
pub record Placing (r count place : ℕ) (before out : List ℕ) (left i : ℕ) : Type 0 where
  pub within : i ≤ count
  pub same : length out ≡ length before
  pub so_far : take place before ++ places_text count r ≡ take (place + i) out ++ places_text (count - i) left

module _ (r count place : ℕ) (before : List ℕ) (room : place + count ≤ length before) where
  pub placing_starts : Placing r count place before before r 0
  placing_starts = record { within = omega arith; same = refl; so_far = let z : count - 0 ≡ count = omega arith in rw (add-zero place, z) }

  placing_ends : {out : List ℕ} {i : ℕ} → i ≤ count → length out ≡ length before → take place before ++ places_text count r ≡ take (place + i) out
      → Adds (places_text count r) before out place (place + i)
  placing_ends {out} {i} w s e = record {
    moved = omega (
      arith,
      ap length e,
      length-append (take place before) (places_text count r),
      length-take-le place before (omega arith),
      length-take-le (place + i) out (omega arith),
    );
    reads = sym e;
  }

  pub placing_done : {out : List ℕ} {left i : ℕ} → Placing r count place before out left i → count ≤ i → Adds (places_text count r) before out place (place + i)
  placing_done {out} {left} {i} p h =
      placing_ends p.within p.same
      (p.so_far ∙ ap (λ (l : List ℕ). take (place + i) out ++ l) (no_place_lem (count - i) left (omega arith)) ∙ append-nil (take (place + i) out))

  -- one place more: the text ends with it, or goes on with what is left
  module _ {out : List ℕ} {left i x s : ℕ} (p : Placing r count place before out left i) (h : i < count) (e : x ≡ digit (left * 10 / 2 ^ 88))
      (f : s ≡ left * 10 % 2 ^ 88) where
    next : take place before ++ places_text count r ≡ take (place + (i + 1)) (set out (place + i) x) ++ cond (eqb s 0) [] (places_text (count - (i + 1)) s)
    next =
        let z : count - i ≡ suc (count - (i + 1)) = omega arith in
        let k : suc (place + i) ≡ place + (i + 1) = omega arith in
        p.so_far
        ∙ ap (λ (l : List ℕ). take (place + i) out ++ l) (ap (λ (n : ℕ). places_text n left) z ∙ one_place (count - (i + 1)) left x s e f)
        ∙ sym (append_assoc (take (place + i) out) (x ∷ []) (cond (eqb s 0) [] (places_text (count - (i + 1)) s)))
        ∙ ap (λ (l : List ℕ). l ++ cond (eqb s 0) [] (places_text (count - (i + 1)) s))
        (sym (take-suc-set out (place + i) x (omega (arith, p.same))) ∙ ap (λ (n : ℕ). take n (set out (place + i) x)) k)

    pub placing_last : eqb s 0 ≡ true → Adds (places_text count r) before (set out (place + i) x) place (place + (i + 1))
    placing_last t =
        placing_ends (omega arith) (length-set out (place + i) x ∙ p.same)
        (rw t at next ∙ append-nil (take (place + (i + 1)) (set out (place + i) x)))

    pub placing_more : eqb s 0 ≡ false → Placing r count place before (set out (place + i) x) s (i + 1)
    placing_more t = record { within = omega arith; same = length-set out (place + i) x ∙ p.same; so_far = rw t at next }

pub places_most : (most r : ℕ) → length (places_text most r) ≤ most
unfolding places_text
places_most zero r = zero-le
places_most (suc most) r = go (eqb (r * 10 % 2 ^ 88) 0) (places_most most (r * 10 % 2 ^ 88))
  where
    go : (t : Bool) → length (places_text most (r * 10 % 2 ^ 88)) ≤ most → length (digit (r * 10 / 2 ^ 88) ∷ cond t [] (places_text most
        (r * 10 % 2 ^ 88))) ≤ suc most
    go true h = omega arith
    go false h = omega arith

-- ---- the whole text
pub sign_most : (s : Bool) (n : ℕ) → length (sign_text s n) ≤ 1
sign_most false n = zero-le
sign_most true n = go (eqb n 0)
  where
    go : (t : Bool) → length (cond t [] (minus ∷ [])) ≤ 1
    go true = zero-le
    go false = omega arith

pub in_parts : (s : Bool) (h l a b : ℕ) {x y : List ℕ} {p q : ℕ} → a < 2 ^ 48 → b < 2 ^ 40
    → Adds (sign_text s ((h * 2 ^ 48 + l) * 2 ^ 88 + (a * 2 ^ 40 + b)) ++ (spelled 32 (h * 2 ^ 48 + l) ++ (point ∷ places_text 88 (a * 2 ^ 40 + b)))) x y p q
    → Adds (exact_text s ((h * 2 ^ 48 + l) * 2 ^ 88 + (a * 2 ^ 40 + b))) x y p q
in_parts s h l a b {x} {y} {p} {q} A B k =
    let n = (h * 2 ^ 48 + l) * 2 ^ 88 + (a * 2 ^ 40 + b) in
    let small : a * 2 ^ 40 + b < 2 ^ 88 = omega arith in
    subst₂ (λ (w r : ℕ). Adds (sign_text s n ++ (spelled 32 w ++ (point ∷ places_text 88 r))) x y p q) (sym (high (h * 2 ^ 48 + l) 88 small)) (sym (low
    (h * 2 ^ 48 + l) 88 small)) k
