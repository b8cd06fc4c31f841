-- Products, quotients and the change of sign by sign and magnitude, as the code forms them. Assumes nothing.
use Rattle.std.proofs.Common.{◌≡◌, ℕ, zero, suc, ◌-◌, ◌*◌, ◌/◌, ◌%◌, ◌<◌, ◌≤◌, Bool, true, false, not, eqb, ltb, ℤ, ◌*ℤ◌, neg_ℤ, sym, refl, ap, ◌∙◌, ap₂, ⊎_elim, le_trans, lt_of_le_of_lt, mod-eq_of_lt, div-lt_iff_lt-mul, mul-le-mul, pos_of_ne-zero, mul-pos, arith, lit<, le-ltb, lt-ltb, eq-eqb, ne_eqb, le-leb}
use native.Mathlib.Nat.{zero-div, div-zero, zero-mod}
use lib.Signed.{quot_z, shr_z}
use lib.Ieee.{unlike}
use borrow.Author.Tests.{lt-leb}
use Rattle.numbers.specs.Signed.{with_sign}
use Rattle.numbers.proofs.Differences.{either, same, neg_pos}
use Rattle.numbers.proofs.Signs.{zero_signed, times, opposite}
use Rattle.fixed.specs.Parts.{Words, negative_at, magnitude_at}
use Rattle.fixed.specs.Fixed.{signed, fits, low, overflow_if, outcome, either_least, mul, muu, div, chs}
use Rattle.fixed.proofs.LowBits.{not_negative}

pub upper_lt : (h m : ℕ) → 0 < h → m < 2 * h * h → m / (2 * h) < h
upper_lt h m p l = (div-lt_iff_lt-mul {k = 2 * h} {x = m} {y = h} (omega arith)).1 (omega arith)

pub upper_none : (h m : ℕ) (s : Bool) → m ≡ 0 → 0 < h → 0 ≡ low h (shr_z (with_sign s m) (2 * h))
unfolding low
upper_none h m s e p = sym (ap (λ (k : ℕ). low h (shr_z (with_sign s k) (2 * h))) e ∙ ap (λ (z : ℤ). low h (shr_z z (2 * h))) (zero_signed s)
    ∙ ap (λ (k : ℕ). k % (2 * h)) (zero-div (2 * h)) ∙ zero-mod (2 * h))

pub upper_pos : (h m : ℕ) (s : Bool) → s ≡ false → 0 < h → m < 2 * h * h → m / (2 * h) ≡ low h (shr_z (with_sign s m) (2 * h))
unfolding low
upper_pos h m s f p l = let u = upper_lt h m p l in rw f (sym (mod-eq_of_lt (omega arith)))

pub upper_neg : (h m : ℕ) (s : Bool) → s ≡ true → 0 < h → m < 2 * h * h → (m ≡ 0 → ⊥) → 2 * h - 1 - (m - 1) / (2 * h) ≡ low h (shr_z (with_sign s m) (2 * h))
unfolding low
upper_neg h zero s f p l n = absurd (n refl)
upper_neg h (suc m) s t p l n =
    rw t
    (let u = upper_lt h m p (omega arith) in
    let e : m / (2 * h) % (2 * h) ≡ m / (2 * h) = mod-eq_of_lt (omega arith) in
    let f : (suc m - 1) / (2 * h) ≡ m / (2 * h) = ap (λ (k : ℕ). k / (2 * h)) (omega arith) in
    omega arith)

-- ---- a word by its sign and its magnitude

pub abs_neg : (h w : ℕ) → h ≤ w → (2 * h - w ≡ magnitude_at h w) × (2 * h - w ≤ h)
abs_neg h w e = (rw (le-leb h w e), omega arith)

pub abs_pos : (h w : ℕ) → w < h → (w ≡ magnitude_at h w) × (w ≤ h)
abs_pos h w e = (rw (lt-leb h w e), omega arith)

pub signed_with_sign : (h w : ℕ) → w < 2 * h → signed h w ≡ with_sign (negative_at h w) (magnitude_at h w)
signed_with_sign h w l =
    ⊎_elim
    (λ (k : w < h). rw (lt-ltb w h k, lt-leb h w k))
    (λ (k : h ≤ w). rw (le-ltb w h k, le-leb h w k) (same w (2 * h) 0 (2 * h - w) (omega arith) ∙ sym (neg_pos (2 * h - w))))
    (either w h)

pub over : (s t : Bool) (m n : ℕ) → quot_z (with_sign s m) (with_sign t n) ≡ with_sign (unlike s t) (m / n)
over false false m n = refl
over true false zero n = rw (zero-div n)
over true false (suc m) n = refl
over false true m zero = rw (div-zero m)
over false true m (suc n) = refl
over true true zero zero = refl
over true true zero (suc n) = rw (zero-div (suc n))
over true true (suc m) zero = rw (div-zero (suc m))
over true true (suc m) (suc n) = refl

module _ (h b a : ℕ) (W : Words h b a) where
  pub product : signed h b *ℤ signed h a ≡ with_sign (unlike (negative_at h b) (negative_at h a)) (magnitude_at h b * magnitude_at h a)
  product = ap₂ ◌*ℤ◌ (signed_with_sign h b W.left) (signed_with_sign h a W.right) ∙ times (negative_at h b) (negative_at h a) (magnitude_at h b)
      (magnitude_at h a)

  pub quotient : quot_z (signed h b) (signed h a) ≡ with_sign (unlike (negative_at h b) (negative_at h a)) (magnitude_at h b / magnitude_at h a)
  quotient = ap₂ quot_z (signed_with_sign h b W.left) (signed_with_sign h a W.right) ∙ over (negative_at h b) (negative_at h a) (magnitude_at h b)
      (magnitude_at h a)

  pub mul_least : (t : Bool) → t ≡ either_least h b a → t ≡ true → outcome h 1 false ≡ mul h b a
  unfolding mul
  mul_least t e f = rw (sym e ∙ f)

  pub muu_least : (t : Bool) → t ≡ either_least h b a → t ≡ true → outcome h 1 false ≡ muu h b a
  unfolding muu
  muu_least t e f = rw (sym e ∙ f)

  pub div_none : a ≡ 0 → outcome b 8 false ≡ div h b a
  unfolding div
  div_none e = rw (eq-eqb a 0 e)

  pub div_least : (a ≡ 0 → ⊥) → (t : Bool) → t ≡ either_least h b a → t ≡ true → outcome h 1 false ≡ div h b a
  unfolding div
  div_least n t e f = rw (ne_eqb a 0 n, sym e ∙ f)

  -- what the code has: a sign, the magnitudes, and from them the word and the error
  module _ (t s : Bool) (x y : ℕ) (E : t ≡ either_least h b a) (F : t ≡ false) (S : s ≡ unlike (negative_at h b) (negative_at h a)) (X : x ≡ magnitude_at h b)
      (Y : y ≡ magnitude_at h a) where
    exact_product_lem : with_sign s (x * y) ≡ signed h b *ℤ signed h a
    exact_product_lem = (λ i. with_sign (S i) (X i * Y i)) ∙ sym product

    exact_quotient : with_sign s (x / y) ≡ quot_z (signed h b) (signed h a)
    exact_quotient = (λ i. with_sign (S i) (X i / Y i)) ∙ sym quotient

    pub mul_all : (w e : ℕ) (o : Bool) → w ≡ low h (with_sign s (x * y)) → o ≡ not (fits h (with_sign s (x * y))) → e ≡ overflow_if o → outcome w e false ≡ mul h b
        a
    unfolding mul
    mul_all w e o p q r = rw (sym E ∙ F) (λ i. outcome ((p ∙ ap (low h) exact_product_lem) i)
        ((r ∙ ap overflow_if (q ∙ ap (λ (z : ℤ). not (fits h z)) exact_product_lem)) i) false)

    pub muu_all : (w : ℕ) → w ≡ low h (shr_z (with_sign s (x * y)) (2 * h)) → outcome w 0 false ≡ muu h b a
    unfolding muu
    muu_all w p = rw (sym E ∙ F) (λ i. outcome ((p ∙ ap (λ (z : ℤ). low h (shr_z z (2 * h))) exact_product_lem) i) 0 false)

    pub div_all : (w : ℕ) → (a ≡ 0 → ⊥) → w ≡ low h (with_sign s (x / y)) → outcome w 0 false ≡ div h b a
    unfolding div
    div_all w n p = rw (ne_eqb a 0 n, sym E ∙ F) (λ i. outcome ((p ∙ ap (low h) exact_quotient) i) 0 false)

pub chs_all : (h a w e x : ℕ) → a < 2 * h → x ≡ magnitude_at h a → w ≡ low h (with_sign (ltb a h) x) → e ≡ overflow_if (eqb a h)
    → outcome w e false ≡ chs h a
unfolding chs
chs_all h a w e x l X p q =
    λ i. outcome ((p ∙ (λ j. low h (with_sign (not_negative h a j) (X j)))
    ∙ ap (low h) (sym (ap neg_ℤ (signed_with_sign h a l) ∙ opposite (negative_at h a) (magnitude_at h a)))) i) (q i) false

pub abs_some : (h w x : ℕ) → x ≡ magnitude_at h w → (w ≡ 0 → ⊥) → w < 2 * h → 0 < x
abs_some h w x e n l =
    ⊎_elim
    (λ (k : w < h). let f : x ≡ w = e ∙ rw (lt-leb h w k) in let g : 0 < w = pos_of_ne-zero n in omega arith)
    (λ (k : h ≤ w). let f : x ≡ 2 * h - w = e ∙ rw (le-leb h w k) in omega arith)
    (either w h)

pub product_few : (h x y : ℕ) → 0 < h → x ≤ h → y ≤ h → x * y < 2 * h * h
product_few h x y p k l =
    let u : x * y ≤ h * h = mul-le-mul k l in
    let v : 0 < h * h = mul-pos p p in
    omega arith

pub product_fits : (h x y : ℕ) → h ≤ 2147483648 → x ≤ h → y ≤ h → x * y < 18446744073709551616
product_fits h x y p k l = lt_of_le_of_lt (mul-le-mul (le_trans k p) (le_trans l p)) (lit< tt)
