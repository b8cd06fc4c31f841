-- Every magnitude that is not zero has one pair m, e and no other: two exponents are brought to one scale 2 ^ J, where both pairs are that of
-- one fraction of whole numbers. Assumes nothing.
use mathlib.Core.Path.{◌≡◌, sym, ap, ◌∙◌, subst, subst₂}
use mathlib.Core.Logic.{⊎_elim}
use Prim.Native.Nat.{ℕ, suc, ◌+◌, ◌-◌, ◌*◌, ◌^◌, ◌≤◌, ◌<◌}
use native.Mathlib.Nat.{le_trans, le_of_eq, le_of_lt, mul_assoc, mul_right_comm, mul-one, one-mul, mul-le-mul_left, mul-le-mul_right, mul-lt-mul_of_pos_right}
use native.Mathlib.Nat.{le_of_mul-le-mul_right, lt_of_mul-lt-mul_right}
use native.Mathlib.Numerals.{add-one}
use native.Mathlib.Omega.{arith}
use lib.IntN.{ℤ, pos, negsuc, sub_ℕ, ◌+ℤ◌, ◌-ℤ◌, +ℤ-neg_ℤ_cancel, -ℤ-+ℤ_cancel}
use lib.Pow.{pow-add, pow_pos}
use lib.Ieee.{up, down, size}
use lib.Ieee.Digits.{size-lt}
use Rattle.numbers.proofs.Differences.{either, sub_lt, sub_ge, same, above, beneath, parts}
use Rattle.terms.specs.declared.Rule.TheVariants.{Cut}
use Rattle.float.specs.Cut.{kept, lost}
use Rattle.float.proofs.cut.Pair.{PairAt, cuts_only, cuts_one}
use Rattle.promises.specs.FloatResults.{Pair}

-- the place of m's last digit: a word is m * 2 ^ (e - 24)
abbrev pub last_place : ℤ → ℤ
last_place e = e -ℤ pos 24

-- ---- 2 ^ (k - J), as a fraction
pub scale : (k J : ℕ) → up (sub_ℕ k J) * 2 ^ J ≡ 2 ^ k * down (sub_ℕ k J)
scale k J = ⊎_elim small large (either k J)
  where
    small : k < J → up (sub_ℕ k J) * 2 ^ J ≡ 2 ^ k * down (sub_ℕ k J)
    small h = rw (sub_lt k J h) (one-mul (2 ^ J) ∙ ap (λ (x : ℕ). 2 ^ x) count ∙ pow-add 2 k (suc (J - suc k)))
      where
        count : J ≡ k + suc (J - suc k)
        count = omega arith

    large : J ≤ k → up (sub_ℕ k J) * 2 ^ J ≡ 2 ^ k * down (sub_ℕ k J)
    large h = rw (sub_ge k J h) (sym (pow-add 2 (k - J) J) ∙ ap (λ (x : ℕ). 2 ^ x) count ∙ sym (mul-one (2 ^ k)))
      where
        count : k - J + J ≡ k
        count = omega arith

pub down_pos : (x : ℤ) → 0 < down x
down_pos (pos k) = omega arith
down_pos (negsuc k) = pow_pos (suc k)

-- ---- products at the fraction and at the scale
module _ (c n k J : ℕ) (x : ℤ) (X : x ≡ sub_ℕ k J) where
  pub scaled : c * up x * 2 ^ J ≡ c * 2 ^ k * down x
  scaled = mul_assoc c (up x) (2 ^ J) ∙ ap (λ (y : ℕ). c * y) (ap (λ (z : ℤ). up z * 2 ^ J) X ∙ scale k J ∙ ap (λ (z : ℤ). 2 ^ k * down z) (sym X))
      ∙ sym (mul_assoc c (2 ^ k) (down x))

  pub other : n * down x * 2 ^ J ≡ n * 2 ^ J * down x
  other = mul_right_comm n (down x) (2 ^ J)

  pub to_le : c * up x ≤ n * down x → c * 2 ^ k ≤ n * 2 ^ J
  to_le h = le_of_mul-le-mul_right (subst₂ (λ (a b : ℕ). a ≤ b) scaled other (mul-le-mul_right (2 ^ J) h)) (down_pos x)

  pub from_le : c * 2 ^ k ≤ n * 2 ^ J → c * up x ≤ n * down x
  from_le h = le_of_mul-le-mul_right (subst₂ (λ (a b : ℕ). a ≤ b) (sym scaled) (sym other) (mul-le-mul_right (down x) h)) (pow_pos J)

  pub to_lt : n * down x < c * up x → n * 2 ^ J < c * 2 ^ k
  to_lt h = lt_of_mul-lt-mul_right (down x) (subst₂ (λ (a b : ℕ). a < b) other scaled (mul-lt-mul_of_pos_right h (pow_pos J)))

  pub from_lt : n * 2 ^ J < c * 2 ^ k → n * down x < c * up x
  from_lt h = lt_of_mul-lt-mul_right (2 ^ J) (subst₂ (λ (a b : ℕ). a < b) (sym other) (sym scaled) (mul-lt-mul_of_pos_right h (down_pos x)))

-- ---- the pair at an exponent, and at k digits of the scale
pub to_scale : (n d m k J : ℕ) (e : ℤ) → e -ℤ pos 24 ≡ sub_ℕ k J → Pair n d m e → PairAt (n * 2 ^ J) d m k
to_scale n d m k J e X p = (
  p.low,
  p.high,
  subst (λ (y : ℕ). y ≤ n * 2 ^ J) (mul_assoc m d (2 ^ k)) (to_le (m * d) n k J (e -ℤ pos 24) X (subst (λ (y : ℕ). y ≤ n * down (e -ℤ pos 24))
      (sym (mul_assoc m d (up (e -ℤ pos 24)))) p.reached)),
  subst (λ (y : ℕ). n * 2 ^ J < y) (mul_assoc (m + 1) d (2 ^ k) ∙ ap (λ (y : ℕ). y * (d * 2 ^ k)) (add-one m))
      (to_lt ((m + 1) * d) n k J (e -ℤ pos 24) X (subst (λ (y : ℕ). n * down (e -ℤ pos 24) < y) (sym (mul_assoc (m + 1) d (up (e -ℤ pos 24)))) p.passed)),
)

pub from_scale : (n d m k J : ℕ) (e : ℤ) → e -ℤ pos 24 ≡ sub_ℕ k J → PairAt (n * 2 ^ J) d m k → Pair n d m e
from_scale n d m k J e X p = record {
  low = p.0;
  high = p.1;
  reached = subst (λ (y : ℕ). y ≤ n * down (e -ℤ pos 24)) (mul_assoc m d (up (e -ℤ pos 24))) (from_le (m * d) n k J (e -ℤ pos 24) X
      (subst (λ (y : ℕ). y ≤ n * 2 ^ J) (sym (mul_assoc m d (2 ^ k))) p.2));
  passed =
      subst (λ (y : ℕ). n * down (e -ℤ pos 24) < y) (mul_assoc (m + 1) d (up (e -ℤ pos 24)))
      (from_lt ((m + 1) * d) n k J (e -ℤ pos 24) X
      (subst (λ (y : ℕ). n * 2 ^ J < y) (sym (mul_assoc (m + 1) d (2 ^ k) ∙ ap (λ (y : ℕ). y * (d * 2 ^ k)) (add-one m))) p.3));
}

-- two whole numbers with a sign as differences from one number
pub at_one : (x z : ℤ) → (x ≡ sub_ℕ (above x + beneath z) (beneath x + beneath z)) × (z ≡ sub_ℕ (above z + beneath x) (beneath x + beneath z))
at_one x z = (
  parts x ∙ same (above x) (beneath x) (above x + beneath z) (beneath x + beneath z) (omega arith),
  parts z ∙ same (above z) (beneath z) (above z + beneath x) (beneath x + beneath z) (omega arith),
)

-- ---- at most one
pub one_pair : (n d m m' : ℕ) (e e' : ℤ) → 0 < d → Pair n d m e → Pair n d m' e' → (m ≡ m') × (e ≡ e')
one_pair n d m m' e e' D p p' =
    let x = last_place e in
    let x' = last_place e' in
    let J = beneath x + beneath x' in
    let c = cuts_only (n * 2 ^ J) d m (above x + beneath x') D (to_scale n d m _ J e (at_one x x').0 p) in
    let c' = cuts_only (n * 2 ^ J) d m' (above x' + beneath x) D (to_scale n d m' _ J e' (at_one x x').1 p') in
    let y : x ≡ x' = (at_one x x').0 ∙ ap (λ (z : ℕ). sub_ℕ z J) (sym c.1 ∙ c'.1) ∙ sym (at_one x x').1 in
    (sym c.0 ∙ c'.0, sym (-ℤ-+ℤ_cancel e (pos 24)) ∙ ap (λ (z : ℤ). z +ℤ pos 24) y ∙ -ℤ-+ℤ_cancel e' (pos 24))

-- ---- and one
pub a_pair : (n d : ℕ) → 0 < n → 0 < d → (m : ℕ) × (e : ℤ) × Pair n d m e
a_pair n d N D =
    let J = 23 + size d in
    let k = lost (n * 2 ^ J) d in
    let m = kept Cut (n * 2 ^ J) d in
    let e = sub_ℕ k J +ℤ pos 24 in
    (m, e, from_scale n d m k J e (+ℤ-neg_ℤ_cancel (sub_ℕ k J) (pos 24)) (cuts_one (n * 2 ^ J) d D large))
  where
    large : 8388608 * d ≤ n * 2 ^ (23 + size d)
    large =
        le_trans (mul-le-mul_left 8388608 (le_of_lt (size-lt d)))
        (le_trans (le_of_eq (sym (pow-add 2 23 (size d)) ∙ sym (one-mul (2 ^ (23 + size d))))) (mul-le-mul_right (2 ^ (23 + size d)) N))
