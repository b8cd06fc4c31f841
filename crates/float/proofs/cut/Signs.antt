-- Whole numbers of a sign and a magnitude: order, scale, and how a cut reads them. Assumes nothing.
use mathlib.Core.Path.{◌≡◌, refl, sym, ap, ap₂, ◌∙◌, subst₂}
use mathlib.Core.Logic.{inl}
use mathlib.Core.Bool.{Bool, true, false, cond}
use Prim.Native.Nat.{ℕ, zero, suc, ◌+◌, ◌*◌, ◌^◌, ◌≤◌}
use native.Mathlib.Omega.{arith}
use lib.IntN.{ℤ, pos, negsuc, nat_abs, ◌*ℤ◌}
use lib.Signed.{◌≤ℤ◌}
use lib.Ieee.{unlike}
use lib.Pow.{pow-add, pow_pos}
use Rattle.numbers.specs.Signed.{with_sign}
use Rattle.numbers.proofs.Differences.{above, beneath, le_differences, le_parts}
use Rattle.numbers.proofs.Signs.{sign_difference, times}
use Rattle.terms.specs.declared.Rule.{Rule}
use Rattle.float.specs.Cut.{below0, cut_size, cut}
use Rattle.float.proofs.cut.Pair.{cut_zero}
use Rattle.float.proofs.cut.Jams.{stands_cut}

pub signed_parts : (z : ℤ) → z ≡ with_sign (below0 z) (nat_abs z)
signed_parts (pos n) = refl
signed_parts (negsuc n) = refl

pub alone : (s : Bool) (n : ℕ) → with_sign (unlike s false) n ≡ with_sign s n
alone true n = refl
alone false n = refl

-- a number of magnitude 0 is zero
pub nought : (z : ℤ) → nat_abs z ≡ 0 → z ≡ pos 0
nought (pos n) e = ap pos e
nought (negsuc n) e = absurd (omega arith)

pub times_size : (z : ℤ) (k : ℕ) → z *ℤ pos k ≡ with_sign (below0 z) (nat_abs z * k)
times_size z k = ap (λ (u : ℤ). u *ℤ pos k) (signed_parts z) ∙ times (below0 z) false (nat_abs z) k ∙ alone (below0 z) (nat_abs z * k)

-- ---- the order
above_signed : (s : Bool) (n : ℕ) → above (with_sign s n) ≡ cond s 0 n
above_signed true zero = refl
above_signed true (suc n) = refl
above_signed false n = refl

beneath_signed : (s : Bool) (n : ℕ) → beneath (with_sign s n) ≡ cond s n 0
beneath_signed true zero = refl
beneath_signed true (suc n) = refl
beneath_signed false n = refl

pub signed_le : (s t : Bool) (i j : ℕ) → cond s 0 i + cond t j 0 ≤ cond t 0 j + cond s i 0 → with_sign s i ≤ℤ with_sign t j
signed_le s t i j h =
    subst₂ (λ (u v : ℤ). u ≤ℤ v) (sym (sign_difference s i)) (sym (sign_difference t j)) (le_differences (cond s 0 i) (cond s i 0) (cond t 0 j) (cond t j 0) h)

pub le_signed : (s t : Bool) (i j : ℕ) → with_sign s i ≤ℤ with_sign t j → cond s 0 i + cond t j 0 ≤ cond t 0 j + cond s i 0
le_signed s t i j h =
    let l = le_parts (with_sign s i) (with_sign t j) h in
    subst₂ (λ (x y : ℕ). x ≤ y) (ap₂ (λ (x y : ℕ). x + y) (above_signed s i) (beneath_signed t j)) (ap₂ (λ (x y : ℕ). x + y) (above_signed t j)
    (beneath_signed s i)) l

-- ---- the cut of a sign and a magnitude
pub cut_sign : (r : Rule) (s : Bool) (n d : ℕ) → cut r (with_sign s n) d ≡ cut_size r s (n * 2 ^ 200) d
unfolding cut
cut_sign r false n d = refl
cut_sign r true zero d = cut_zero r false (0 * 2 ^ 200) d refl ∙ sym (cut_zero r true (0 * 2 ^ 200) d refl)
cut_sign r true (suc n) d = refl

-- over a power of two, as 01 scales sums and products
pub cut_scaled : (r : Rule) (s : Bool) (n b c : ℕ) → b + c ≡ 200 → cut r (with_sign s n) (2 ^ b) ≡ cut_size r s (n * 2 ^ c) 1
cut_scaled r s n b c e =
    cut_sign r s n (2 ^ b)
    ∙ stands_cut r s (n * 2 ^ 200) (2 ^ b) n c (pow_pos b) (inl (ap (λ (x : ℕ). n * x) (ap (λ (x : ℕ). 2 ^ x) (sym e) ∙ pow-add 2 b c)))
