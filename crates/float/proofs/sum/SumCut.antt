-- What the program computes of two addends is the cut of their exact sum. Assumes nothing.
use mathlib.Core.Path.{◌≡◌, refl, sym, ap, ap₂, ◌∙◌, subst, subst₂}
use mathlib.Core.Logic.{◌⊎◌, inl, inr}
use mathlib.Core.Bool.{Bool, true, false, not}
use Prim.Native.Nat.{ℕ, ◌+◌, ◌-◌, ◌*◌, ◌/◌, ◌%◌, ◌^◌, ◌≤◌, ◌<◌}
use native.Mathlib.Nat.{le_refl, le_trans, eq-or-lt_of_le, mul-le-mul_left, div-mul-le_self, lt_of_lt_of_le, zero-mul, mod-eq_of_lt, div-eq_of_lt, one-mul}
use native.Mathlib.Omega.{arith}
use lib.Dec.{lit<}
use lib.IntN.{ℤ, ◌+ℤ◌, +ℤ_comm}
use lib.Pow.{pow-lt, pow_mono, shr_le}
use lib.Ieee.{unlike}
use Rattle.numbers.specs.Signed.{with_sign}
use Rattle.numbers.proofs.Signs.{sum_alike, sum_unlike, opposite}
use Rattle.float.specs.Word.{size88, mantissa, biased, proper, negative, value}
use Rattle.terms.specs.declared.Rule.{Rule}
use Rattle.float.specs.Cut.{cut_size, cut}
use Rattle.float.specs.Float.{add, sub}
use Rattle.float.specs.Jam.{Jammed}
use Rattle.float.specs.Addend.{Addend, AddendOf, addend_size}
use Rattle.float.proofs.cut.Jams.{stands_cut}
use Rattle.float.proofs.cut.Signs.{cut_scaled}
use Rattle.float.proofs.sum.SumStands.{Normal, sum_stands, diff_stands}
use Rattle.float.proofs.word.Proper.{proper_cases}

pub addend_zero : (w : ℕ) → w ≡ 0 → AddendOf w 0
unfolding size88
addend_zero w z = record {
  size = sym (ap (λ (x : ℕ). x % 2 ^ 24 * 2 ^ biased x) z ∙ zero-mul (2 ^ biased 0));
  addend = record { narrow = lit< tt; normal = inl refl };
}

-- bit 31 off and bit 30 turned: the exponent plus 64, above the mantissa
pub addend_word : (w k : ℕ) → proper w ≡ true → (w ≡ 0 → ⊥) → k ≡ (w % 2 ^ 31 + 2 ^ 30) % 2 ^ 31 → AddendOf w k
unfolding size88
addend_word w k p nz e = record {
  size = ap₂ (λ (x y : ℕ). x * 2 ^ y) same place;
  addend = record { narrow = omega arith; normal = inr (subst (λ (x : ℕ). 8388608 ≤ x) (sym same) (big (proper_cases w p))) };
}
  where
    same : k % 16777216 ≡ mantissa w
    same = omega arith

    place : k / 16777216 ≡ biased w
    place = omega arith

    big : (w ≡ 0) ⊎ (8388608 ≤ mantissa w) → 8388608 ≤ mantissa w
    big (inl z) = absurd (nz z)
    big (inr g) = g

-- ---- a shift of a 64-bit number by d places
pub one_shifted : (d : ℕ) → d < 64 → 1 * 2 ^ d % 2 ^ 64 ≡ 2 ^ d
one_shifted d h = ap (λ (x : ℕ). x % 2 ^ 64) (one-mul (2 ^ d)) ∙ mod-eq_of_lt (pow-lt h)

pub jam_near : (v d t : ℕ) → d < 64 → Jammed (v / 2 ^ d) (v % (1 * 2 ^ d % 2 ^ 64)) t → Jammed (v / 2 ^ d) (v % 2 ^ d) t
jam_near v d t h j = subst (λ (x : ℕ). Jammed (v / 2 ^ d) (v % x) t) (one_shifted d h) j

pub jam_far : (v d t : ℕ) → v < 2 ^ 63 → 64 ≤ d → Jammed 0 v t → Jammed (v / 2 ^ d) (v % 2 ^ d) t
jam_far v d t h g j =
    let l : v < 2 ^ d = lt_of_lt_of_le h (pow_mono {i = 63} (omega arith)) in
    subst₂ (λ (x y : ℕ). Jammed x y t) (sym (div-eq_of_lt l)) (sym (mod-eq_of_lt l)) j

pub jammed_le : (q v t : ℕ) → Jammed q v t → t ≤ q + 1
jammed_le q v t (inl w) = let e = w.1 in omega arith
jammed_le q v t (inr w) = w.3

-- what is added fits 64 bits
pub sum_fits : (m n d v t : ℕ) → m < 16777216 → n < 16777216 → Jammed (n * 549755813888 / 2 ^ d) v t → m * 549755813888 + t < 2 ^ 64
sum_fits m n d v t M N j =
    let a = jammed_le (n * 549755813888 / 2 ^ d) v t j in
    let b = shr_le (n * 549755813888) d in
    omega arith

-- ---- the two ways of a sum of two addends
alike : (a b : Bool) → unlike a b ≡ false → a ≡ b
alike true true p = refl
alike true false p = p
alike false true p = sym p
alike false false p = refl

-- what the code has: m of the greater addend, raised, and t, the smaller one at its place; their difference or their sum is cut as the exact one
pub record Lower (r : Rule) (p q : Bool) (hi lo m t : ℕ) : Type 0 where
  pub below : t ≤ m * 2 ^ 39
  pub apart : unlike p q ≡ true → cut_size r p ((m * 2 ^ 39 - t) * 2 ^ (hi / 2 ^ 24 + 73)) 1 ≡ cut r (with_sign p (addend_size hi) +ℤ with_sign q (addend_size lo))
      (2 ^ 88)
  pub together : unlike p q ≡ false → cut_size r p ((m * 2 ^ 39 + t) * 2 ^ (hi / 2 ^ 24 + 73)) 1 ≡ cut r (with_sign p (addend_size hi) +ℤ with_sign q
      (addend_size lo)) (2 ^ 88)

module _ (r : Rule) (p q : Bool) (hi lo m n t : ℕ) (H : Addend hi) (o : lo ≤ hi) (M : m ≡ mantissa hi) (N : n ≡ mantissa lo)
    (j : Jammed (n * 2 ^ 39 / 2 ^ (hi / 2 ^ 24 - lo / 2 ^ 24)) (n * 2 ^ 39 % 2 ^ (hi / 2 ^ 24 - lo / 2 ^ 24)) t) where
  normal : Normal m (hi / 2 ^ 24)
  normal = go H.normal
    where
      go : (hi ≡ 0) ⊎ (8388608 ≤ hi % 16777216) → Normal m (hi / 16777216)
      go (inl z) = inl (M ∙ ap mantissa z, ap (λ (x : ℕ). x / 16777216) z)
      go (inr g) = inr (omega arith)

  few : n < 16777216
  few = omega arith

  places : lo / 2 ^ 24 ≤ hi / 2 ^ 24
  places = omega arith

  -- the smaller addend, shifted, is not above the greater
  under : t ≤ m * 2 ^ 39
  under = go (eq-or-lt_of_le places)
    where
      level : (d : ℕ) → d ≡ 0 → n ≤ m → Jammed (n * 2 ^ 39 / 2 ^ d) (n * 2 ^ 39 % 2 ^ d) t → t ≤ m * 2 ^ 39
      level d z l k = now (subst (λ (x : ℕ). Jammed (n * 2 ^ 39 / 2 ^ x) (n * 2 ^ 39 % 2 ^ x) t) z k)
        where
          now : Jammed (n * 2 ^ 39 / 1) (n * 2 ^ 39 % 1) t → t ≤ m * 2 ^ 39
          now (inl w) = let e = w.1 in omega arith
          now (inr w) = let e = w.0 in absurd (omega arith)

      lower : (d : ℕ) → 0 < d → 8388608 ≤ m → Jammed (n * 2 ^ 39 / 2 ^ d) (n * 2 ^ 39 % 2 ^ d) t → t ≤ m * 2 ^ 39
      lower d h g k =
          let a : n * 2 ^ 39 / 2 ^ d * 2 ≤ n * 2 ^ 39 = le_trans (mul-le-mul_left (n * 2 ^ 39 / 2 ^ d) (pow_mono {i = 1} {j = d} h))
          (div-mul-le_self (n * 2 ^ 39) (2 ^ d)) in
          let b = jammed_le (n * 2 ^ 39 / 2 ^ d) _ t k in
          let f = few in
          omega arith

      high : 0 < hi / 16777216 → Normal m (hi / 16777216) → 8388608 ≤ m
      high h (inl w) = let z = w.1 in absurd (omega arith)
      high h (inr g) = g

      go : (lo / 16777216 ≡ hi / 16777216) ⊎ (lo / 16777216 < hi / 16777216) → t ≤ m * 2 ^ 39
      go (inl e) = level (hi / 16777216 - lo / 16777216) (omega arith) (omega arith) j
      go (inr l) = lower (hi / 16777216 - lo / 16777216) (omega arith) (high (omega arith) normal) j

  sized : addend_size hi ≡ m * 2 ^ (hi / 2 ^ 24)
  sized = ap (λ (x : ℕ). x * 2 ^ (hi / 16777216)) (sym M)

  sized' : addend_size lo ≡ n * 2 ^ (lo / 2 ^ 24)
  sized' = ap (λ (x : ℕ). x * 2 ^ (lo / 16777216)) (sym N)

  both : with_sign p (addend_size hi) +ℤ with_sign q (addend_size lo) ≡ with_sign p (m * 2 ^ (hi / 2 ^ 24)) +ℤ with_sign q (n * 2 ^ (lo / 2 ^ 24))
  both = ap₂ (λ (x y : ℕ). with_sign p x +ℤ with_sign q y) sized sized'

  same_sign : unlike p q ≡ false → cut_size r p ((m * 2 ^ 39 + t) * 2 ^ (hi / 2 ^ 24 + 73)) 1 ≡ cut r (with_sign p (addend_size hi) +ℤ with_sign q
      (addend_size lo)) (2 ^ 88)
  same_sign e =
      let x = m * 2 ^ (hi / 2 ^ 24) in
      let y = n * 2 ^ (lo / 2 ^ 24) in
      sym (stands_cut r p ((x + y) * 2 ^ 112) 1 (m * 2 ^ 39 + t) (hi / 2 ^ 24 + 73) (le_refl 1)
      (sum_stands m n (hi / 2 ^ 24) (lo / 2 ^ 24) t normal few places j))
      ∙ sym (cut_scaled r p (x + y) 88 112 refl)
      ∙ ap (λ (z : ℤ). cut r z (2 ^ 88)) (sym (sum_alike p x y) ∙ ap (λ (s : Bool). with_sign p x +ℤ with_sign s y) (alike p q e) ∙ sym both)

  unlike_sign : unlike p q ≡ true → cut_size r p ((m * 2 ^ 39 - t) * 2 ^ (hi / 2 ^ 24 + 73)) 1 ≡ cut r (with_sign p (addend_size hi) +ℤ with_sign q
      (addend_size lo)) (2 ^ 88)
  unlike_sign e =
      let x = m * 2 ^ (hi / 2 ^ 24) in
      let y = n * 2 ^ (lo / 2 ^ 24) in
      let d = diff_stands m n (hi / 2 ^ 24) (lo / 2 ^ 24) t normal few places j under in
      sym (stands_cut r p ((x - y) * 2 ^ 112) 1 (m * 2 ^ 39 - t) (hi / 2 ^ 24 + 73) (le_refl 1) d.1)
      ∙ sym (cut_scaled r p (x - y) 88 112 refl)
      ∙ ap (λ (z : ℤ). cut r z (2 ^ 88)) (sym (sum_unlike p q x y e d.0) ∙ sym both)

  pub lower : Lower r p q hi lo m t
  lower = record { below = under; apart = unlike_sign; together = same_sign }

-- ---- the addends are the words'
-- B's value, and A's magnitude with a sign, by their addends; a sum does not ask for the order of its addends
module _ (r : Rule) (b a k l : ℕ) (x y : Bool) (first : x ≡ negative b) (B : AddendOf b k) (A : AddendOf a l) where
  abbrev exact : ℤ
  exact = value b +ℤ with_sign y (size88 a)

  pub sum_law : cut r (with_sign x (addend_size k) +ℤ with_sign y (addend_size l)) (2 ^ 88) ≡ cut r exact (2 ^ 88)
  unfolding value
  sum_law = ap₂ (λ (u v : ℤ). cut r (u +ℤ v) (2 ^ 88)) (ap₂ with_sign first B.size) (ap (with_sign y) A.size)

  pub swapped_law : cut r (with_sign y (addend_size l) +ℤ with_sign x (addend_size k)) (2 ^ 88) ≡ cut r exact (2 ^ 88)
  swapped_law = ap (λ (z : ℤ). cut r z (2 ^ 88)) (+ℤ_comm (with_sign y (addend_size l)) (with_sign x (addend_size k))) ∙ sum_law

pub add_law : (r : Rule) (b a : ℕ) (y : Bool) → y ≡ negative a → cut r (value b +ℤ with_sign y (size88 a)) (2 ^ 88) ≡ add r b a
unfolding add value
add_law r b a y e = ap (λ (s : Bool). cut r (value b +ℤ with_sign s (size88 a)) (2 ^ 88)) e

pub sub_law : (r : Rule) (b a : ℕ) (y : Bool) → y ≡ negative a → cut r (value b +ℤ with_sign (not y) (size88 a)) (2 ^ 88) ≡ sub r b a
unfolding sub value
sub_law r b a y e = ap (λ (z : ℤ). cut r (value b +ℤ z) (2 ^ 88)) (ap (λ (s : Bool). with_sign (not s) (size88 a)) e ∙ sym (opposite (negative a) (size88 a)))
