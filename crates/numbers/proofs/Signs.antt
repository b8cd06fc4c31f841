-- Whole numbers of a sign and a magnitude: sum, product and opposite, by cases of the signs. Assumes nothing.
use mathlib.Core.Path.{◌≡◌, refl, sym, ap, ap₂, ◌∙◌}
use mathlib.Core.Bool.{Bool, true, false, not, cond, true≢false}
use Prim.Native.Nat.{ℕ, zero, suc, ◌+◌, ◌-◌, ◌*◌, ◌≤◌}
use native.Mathlib.Nat.{mul-zero, zero-mul}
use native.Mathlib.Omega.{arith}
use lib.IntN.{pos, neg_ℤ, neg_ℤ-neg_ℤ, nat_abs, sub_ℕ, ◌+ℤ◌, ◌*ℤ◌}
use lib.Ieee.{unlike}
use Rattle.numbers.specs.Signed.{with_sign}
use Rattle.numbers.proofs.Differences.{sub_ge, same, sum_differences, neg_pos, pos_is}

pub sign_difference : (s : Bool) (n : ℕ) → with_sign s n ≡ sub_ℕ (cond s 0 n) (cond s n 0)
sign_difference true n = neg_pos n
sign_difference false n = pos_is n

-- zero has no sign
pub zero_signed : (s : Bool) → with_sign s 0 ≡ pos 0
zero_signed true = refl
zero_signed false = refl

pub sum_signs : (s t : Bool) (i j : ℕ) → with_sign s i +ℤ with_sign t j ≡ sub_ℕ (cond s 0 i + cond t 0 j) (cond s i 0 + cond t j 0)
sum_signs s t i j = ap₂ ◌+ℤ◌ (sign_difference s i) (sign_difference t j) ∙ sum_differences (cond s 0 i) (cond s i 0) (cond t 0 j) (cond t j 0)

pub sum_alike : (s : Bool) (i j : ℕ) → with_sign s i +ℤ with_sign s j ≡ with_sign s (i + j)
sum_alike true i j = sum_signs true true i j ∙ sym (neg_pos (i + j))
sum_alike false i j = refl

pub sum_unlike : (s t : Bool) (i j : ℕ) → unlike s t ≡ true → j ≤ i → with_sign s i +ℤ with_sign t j ≡ with_sign s (i - j)
sum_unlike true true i j e h = absurd (true≢false (sym e))
sum_unlike true false i j e h = sum_signs true false i j ∙ same (0 + j) (i + 0) 0 (i - j) (omega arith) ∙ sym (neg_pos (i - j))
sum_unlike false true i j e h = sum_signs false true i j ∙ sub_ge (i + 0) (0 + j) (omega arith) ∙ ap pos (omega arith)
sum_unlike false false i j e h = absurd (true≢false (sym e))

pub opposite : (s : Bool) (n : ℕ) → neg_ℤ (with_sign s n) ≡ with_sign (not s) n
opposite true n = neg_ℤ-neg_ℤ (pos n)
opposite false n = refl

pub times : (s t : Bool) (i j : ℕ) → with_sign s i *ℤ with_sign t j ≡ with_sign (unlike s t) (i * j)
times false false i j = refl
times true false zero j = ap pos (zero-mul j) ∙ ap (λ (x : ℕ). neg_ℤ (pos x)) (sym (zero-mul j))
times true false (suc i) j = refl
times false true i zero = ap pos (mul-zero i) ∙ ap (λ (x : ℕ). neg_ℤ (pos x)) (sym (mul-zero i))
times false true i (suc j) = refl
times true true zero zero = refl
times true true zero (suc j) = ap (λ (x : ℕ). neg_ℤ (pos x)) (zero-mul (suc j)) ∙ ap pos (sym (zero-mul (suc j)))
times true true (suc i) zero = ap (λ (x : ℕ). neg_ℤ (pos x)) (mul-zero (suc i)) ∙ ap pos (sym (mul-zero (suc i)))
times true true (suc i) (suc j) = refl

pub size_of_signed : (s : Bool) (n : ℕ) → nat_abs (with_sign s n) ≡ n
size_of_signed true zero = refl
size_of_signed true (suc n) = refl
size_of_signed false n = refl
