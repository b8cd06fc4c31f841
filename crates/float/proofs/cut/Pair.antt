-- The place of a cut: the pair m, k exists and is the only one; the cut of a larger magnitude is no smaller, under either rule. Assumes nothing.
use mathlib.Core.Path.{◌≡◌, sym, ap, ◌∙◌, subst}
use mathlib.Core.Logic.{◌⊎◌, inl, inr}
use native.Mathlib.Numerals.{add-one}
use borrow.Author.Tests.{lt-ltb, le-ltb}
use mathlib.Core.Bool.{Bool}
use Prim.Native.Nat.{ℕ, suc, ◌+◌, ◌-◌, ◌*◌, ◌/◌, ◌%◌, ◌^◌, ◌≤◌, ◌<◌, zero-le, compare}
use native.Mathlib.Nat.{le_refl, le-suc, le_trans, le_of_eq, lt_of_le_of_lt, lt_of_lt_of_le, le_antisymm, eq-or-lt_of_le, mul_comm, mul_assoc, mul-le-mul_right}
use native.Mathlib.Nat.{le-div_iff_mul-le, div-lt_iff_lt-mul, div-div-eq-div-mul, mul-pos, lt_of_not-le, not-le_of_lt, div-mul-le_self, lt-div-mul-add, mul-one}
use native.Mathlib.Nat.{one-mul, suc-mul, div-eq_of_lt-le, mul-lt-mul_of_pos_right}
use native.Mathlib.Omega.{arith}
use lib.Pow.{pow-add, pow_pos, pow_mono}
use lib.Ieee.{size}
use lib.Ieee.Digits.{size-lt, size-le, size_reaches}
use lib.Ieee.Fits.{kept-lt, nearest-le}
use lib.Ieee.Nearest.{closest_mono, nearest-ge, div_mono}
use Rattle.terms.specs.declared.Rule.{Rule}
use Rattle.terms.specs.declared.Rule.TheVariants.{Cut, Nearest}
use Rattle.float.specs.Cut.{whole, lost, kept, stored, zero_word, cut_size}

pub whole_mono : (r : Rule) (a b c d : ℕ) → 0 < b → 0 < d → a * d ≤ c * b → whole r a b ≤ whole r c d
whole_mono Cut a b c d B D h = div_mono a b c d B D h
whole_mono Nearest a b c d B D h = closest_mono a b c d B D h

pub whole_ge : (r : Rule) (n d : ℕ) → n / d ≤ whole r n d
whole_ge Cut n d = le_refl (n / d)
whole_ge Nearest n d = nearest-ge (n / d) (compare (n % d * 2) d)

pub whole_le : (r : Rule) (n d : ℕ) → whole r n d ≤ suc (n / d)
whole_le Cut n d = le-suc (n / d)
whole_le Nearest n d = nearest-le (n / d) (compare (n % d * 2) d)

-- equal fractions
pub whole_same : (r : Rule) (a b c d : ℕ) → 0 < b → 0 < d → a * d ≡ c * b → whole r a b ≡ whole r c d
whole_same r a b c d B D e = le_antisymm (whole_mono r a b c d B D (le_of_eq e)) (whole_mono r c d a b D B (le_of_eq (sym e)))

size_mono : (a b : ℕ) → a ≤ b → size a ≤ size b
size_mono a b h = size-le a (size b) (lt_of_le_of_lt h (size-lt b))

pub size_gt : (n j : ℕ) → 2 ^ j ≤ n → j < size n
size_gt n j h = lt_of_not-le (λ (g : size n ≤ j). not-le_of_lt (lt_of_lt_of_le (size-lt n) (pow_mono g)) h)

same_lost : (r : Rule) (k a b c d : ℕ) → 0 < b → 0 < d → a * d ≤ c * b → whole r a (b * 2 ^ k) * 2 ^ k ≤ whole r c (d * 2 ^ k) * 2 ^ k
same_lost r k a b c d B D h =
    mul-le-mul_right (2 ^ k)
    (whole_mono r a (b * 2 ^ k) c (d * 2 ^ k) (mul-pos B (pow_pos k)) (mul-pos D (pow_pos k))
    (le_trans (le_of_eq (sym (mul_assoc a d (2 ^ k)))) (le_trans (mul-le-mul_right (2 ^ k) h) (le_of_eq (mul_assoc c b (2 ^ k))))))

-- the kept number has 24 digits, or is 2 ^ 24
pub kept_le : (r : Rule) (n d : ℕ) → kept r n d ≤ 16777216
kept_le r n d =
    let k = lost n d in
    le_trans (whole_le r n (d * 2 ^ k)) (subst (λ (x : ℕ). x < 2 ^ 24) (div-div-eq-div-mul n d (2 ^ k)) (kept-lt 24 (n / d)))

all_in_use : (z : ℕ) → 0 < z - 24 → 23 + (z - 24) < z
all_in_use z h = omega arith

pub kept_ge : (r : Rule) (n d : ℕ) → 0 < lost n d → 8388608 ≤ kept r n d
kept_ge r n d K =
    let k = lost n d in
    let w = n / d in
    let a : 2 ^ 23 * 2 ^ k ≤ w = le_trans (le_of_eq (sym (pow-add 2 23 k))) (size_reaches w (23 + k) (all_in_use (size w) K)) in
    le_trans (subst (λ (x : ℕ). 2 ^ 23 ≤ x) (div-div-eq-div-mul n d (2 ^ k)) ((le-div_iff_mul-le (pow_pos k)).1 a)) (whole_ge r n (d * 2 ^ k))

fewer : (x y : ℕ) → x ≤ y → x - 24 ≤ y - 24
fewer x y h = omega arith

room : (j k : ℕ) → j < k → 24 + j ≤ 23 + k
room j k h = omega arith

-- Of two magnitudes the larger is brought to a value that is no smaller.
pub grid_mono : (r : Rule) (a b c d : ℕ) → 0 < b → 0 < d → a * d ≤ c * b → kept r a b * 2 ^ lost a b ≤ kept r c d * 2 ^ lost c d
grid_mono r a b c d B D h =
    let j = lost a b in
    let k = lost c d in
    elim (eq-or-lt_of_le (fewer (size (a / b)) (size (c / d)) (size_mono (a / b) (c / d) (div_mono a b c d B D h)))) [
      | inl e ↦ subst (λ (x : ℕ). whole r a (b * 2 ^ x) * 2 ^ x ≤ kept r c d * 2 ^ k) (sym e) (same_lost r k a b c d B D h)
      | inr l ↦
          le_trans (mul-le-mul_right (2 ^ j) (kept_le r a b))
          (le_trans (le_of_eq (sym (pow-add 2 24 j)))
          (le_trans (pow_mono (room j k l))
          (le_trans (le_of_eq (pow-add 2 23 k)) (mul-le-mul_right (2 ^ k) (kept_ge r c d (lt_of_le_of_lt zero-le l))))))
    ]

-- ---- the place of the cut, and the one mantissa

digits : (z k : ℕ) → z ≤ 24 + k → 23 + k < z → z - 24 ≡ k
digits z k h l = omega arith

-- n / d is from 2 ^ 23 up to 2 ^ 24, times 2 ^ k: so k digits are dropped
pub lost_is : (n d k : ℕ) → 0 < d → 8388608 * (d * 2 ^ k) ≤ n → n < 16777216 * (d * 2 ^ k) → lost n d ≡ k
lost_is n d k D lo hi =
    let e23 : 2 ^ (23 + k) * d ≡ 8388608 * (d * 2 ^ k) = ap (λ (x : ℕ). x * d) (pow-add 2 23 k) ∙ mul_assoc 8388608 (2 ^ k) d
    ∙ ap (λ (x : ℕ). 8388608 * x) (mul_comm (2 ^ k) d) in
    let e24 : 2 ^ (24 + k) * d ≡ 16777216 * (d * 2 ^ k) = ap (λ (x : ℕ). x * d) (pow-add 2 24 k) ∙ mul_assoc 16777216 (2 ^ k) d
    ∙ ap (λ (x : ℕ). 16777216 * x) (mul_comm (2 ^ k) d) in
    digits (size (n / d)) k
    (size-le (n / d) (24 + k) ((div-lt_iff_lt-mul D).1 (lt_of_lt_of_le hi (le_of_eq (sym e24)))))
    (size_gt (n / d) (23 + k) ((le-div_iff_mul-le D).1 (le_trans (le_of_eq e23) lo)))

-- The pair of the cut, by comparing products: m has 24 digits, and m steps of d * 2 ^ k reach n while one more passes it
abbrev pub PairAt : ℕ → ℕ → ℕ → ℕ → Type 0
PairAt n d m k = (8388608 ≤ m) × (m < 16777216) × (m * (d * 2 ^ k) ≤ n) × (n < suc m * (d * 2 ^ k))

-- at most one pair
pub cuts_only : (n d m k : ℕ) → 0 < d → PairAt n d m k → (kept Cut n d ≡ m) × (lost n d ≡ k)
cuts_only n d m k D h =
    let e : lost n d ≡ k =
    lost_is n d k D (le_trans (mul-le-mul_right (d * 2 ^ k) h.0) h.2) (lt_of_lt_of_le h.3 (mul-le-mul_right (d * 2 ^ k) h.1)) in
    (ap (λ (x : ℕ). n / (d * 2 ^ x)) e ∙ div-eq_of_lt-le (d * 2 ^ k) h.2 (subst (λ (x : ℕ). n < x * (d * 2 ^ k)) (sym (add-one m)) h.3), e)

-- and there is one, where the magnitude is at least 2 ^ 23 fine units
pub cuts_one : (n d : ℕ) → 0 < d → 8388608 * d ≤ n → PairAt n d (kept Cut n d) (lost n d)
cuts_one n d D h =
    let k = lost n d in
    let u : 0 < d * 2 ^ k = mul-pos D (pow_pos k) in (
      low (eq-or-lt_of_le (zero-le {n = lost n d})),
      subst (λ (x : ℕ). x < 2 ^ 24) (div-div-eq-div-mul n d (2 ^ k)) (kept-lt 24 (n / d)),
      div-mul-le_self n (d * 2 ^ k),
      subst (λ (x : ℕ). n < x) (sym (suc-mul (n / (d * 2 ^ k)) (d * 2 ^ k))) (lt-div-mul-add u),
    )
  where
    low : (0 ≡ lost n d) ⊎ (0 < lost n d) → 8388608 ≤ kept Cut n d
    low (inl e) = subst (λ (x : ℕ). 8388608 ≤ n / (d * 2 ^ x)) e ((le-div_iff_mul-le (mul-pos D (pow_pos 0))).1
        (le_trans (le_of_eq (ap (λ (x : ℕ). 8388608 * x) (mul-one d))) h))
    low (inr l) = kept_ge Cut n d l

-- ---- what a program that normalises by leading zeros computes: the magnitude is mag * 2 ^ x, its top bit brought to bit 63 by the shift s
pub normed : (r : Rule) (mag x s k : ℕ) → x + 40 ≡ s + k → 2 ^ 63 ≤ mag * 2 ^ s → mag * 2 ^ s < 2 ^ 64
    → (kept r (mag * 2 ^ x) 1 ≡ whole r (mag * 2 ^ s) (2 ^ 40)) × (lost (mag * 2 ^ x) 1 ≡ k)
normed r mag x s k e lo hi =
    let p : 2 ^ x * 2 ^ 40 ≡ 2 ^ s * 2 ^ k = sym (pow-add 2 x 40) ∙ ap (λ (y : ℕ). 2 ^ y) e ∙ pow-add 2 s k in
    let q : mag * 2 ^ x * 2 ^ 40 ≡ mag * 2 ^ s * 2 ^ k = mul_assoc mag (2 ^ x) (2 ^ 40) ∙ ap (λ (y : ℕ). mag * y) p ∙ sym (mul_assoc mag (2 ^ s) (2 ^ k)) in
    let K : 0 < 2 ^ k = pow_pos k in
    let l : 2 ^ 63 * 2 ^ k ≤ mag * 2 ^ s * 2 ^ k = mul-le-mul_right (2 ^ k) lo in
    let h : mag * 2 ^ s * 2 ^ k < 2 ^ 64 * 2 ^ k = mul-lt-mul_of_pos_right hi K in
    let d : lost (mag * 2 ^ x) 1 ≡ k = lost_is (mag * 2 ^ x) 1 k (le_refl 1) (omega arith) (omega arith) in (
      ap (λ (y : ℕ). whole r (mag * 2 ^ x) (1 * 2 ^ y)) d
          ∙ whole_same r (mag * 2 ^ x) (1 * 2 ^ k) (mag * 2 ^ s) (2 ^ 40) (mul-pos (le_refl 1) K) (pow_pos 40)
          (q ∙ ap (λ (y : ℕ). mag * 2 ^ s * y) (sym (one-mul (2 ^ k)))),
      d,
    )

-- ---- the word and the error, from m and k
pub cut_of : (r : Rule) (neg : Bool) (n d m k : ℕ) → 0 < n → m < 16777216 → (kept r n d ≡ m) × (lost n d ≡ k) → cut_size r neg n d ≡ stored neg m k
unfolding cut_size
cut_of r neg n d m k N M e = rw (lt-ltb 0 n N, e.0, e.1, lt-ltb m 16777216 M)

-- zero gives the zero word
pub cut_zero : (r : Rule) (neg : Bool) (n d : ℕ) → n ≡ 0 → cut_size r neg n d ≡ zero_word
unfolding cut_size
cut_zero r neg n d e = rw (le-ltb 0 n (le_of_eq e))

-- a magnitude of at least 2 ^ (23 + i) loses at least i digits
pub lost_least : (n d i : ℕ) → 0 < d → 2 ^ (23 + i) * d ≤ n → i ≤ lost n d
lost_least n d i D h = count (size (n / d)) (size_gt (n / d) (23 + i) ((le-div_iff_mul-le D).1 h))
  where
    count : (z : ℕ) → 23 + i < z → i ≤ z - 24
    count z l = omega arith
