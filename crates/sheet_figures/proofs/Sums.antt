-- The sum of the proper values is one sum of magnitudes less another; 64 of them fit. Assumes nothing.
use Prim.Native.Nat.{ℕ, suc, ◌+◌, ◌*◌, ◌/◌, ◌^◌, ◌≤◌, ◌<◌, zero-le}
use mathlib.Core.Path.{◌≡◌, refl, sym, ap, subst, ◌∙◌}
use mathlib.Core.Bool.{Bool, true, false, cond}
use mathlib.Core.List.{List, [], ◌∷◌}
use native.Mathlib.Omega.{arith}
use native.Mathlib.Nat.{le_trans, lt_of_le_of_lt, mod-lt, mul-le-mul_left, mul-le-mul_right, le_of_lt, le-add_right, le-add_left}
use lib.Dec.{lit<, lit≤}
use lib.ListN.{length}
use lib.Pow.{pow_mono}
use lib.IntN.{ℤ, pos, sub_ℕ, ◌+ℤ◌, nat_abs}
use Rattle.float.specs.Word.{negative, biased, mantissa, proper, size88, value}
use Rattle.numbers.specs.Signed.{with_sign}
use Rattle.numbers.proofs.Differences.{sum_differences, neg_pos, pos_is, size_difference}
use Rattle.sheet_figures.specs.Limbs.{up, down, ups, downs, sum_limit}
use Rattle.sheet_figures.specs.Figures.{total, words, worth, worths, sum88}

-- one word
worth_is : (w : ℕ) → worth w ≡ sub_ℕ (up w) (down w)
unfolding value
worth_is w = pick (proper w) (negative w)
  where
    pick : (p n : Bool) → cond p (with_sign n (size88 w)) (pos 0) ≡ sub_ℕ (cond p (cond n 0 (size88 w)) 0) (cond p (cond n (size88 w) 0) 0)
    pick true true = neg_pos (size88 w)
    pick true false = pos_is (size88 w)
    pick false true = refl
    pick false false = refl

-- all of them
pub total_is : (l : List ℕ) → total (worths l) ≡ sub_ℕ (ups l) (downs l)
total_is [] = refl
total_is (w ∷ l) =
    ap (λ (x : ℤ). x +ℤ total (worths l)) (worth_is w)
    ∙ ap (λ (x : ℤ). sub_ℕ (up w) (down w) +ℤ x) (total_is l)
    ∙ sum_differences (up w) (down w) (ups l) (downs l)

-- ---- the bound

size_most : (w : ℕ) → size88 w ≤ 2 ^ 151
unfolding size88
size_most w =
    let m : mantissa w ≤ 2 ^ 24 = le_of_lt (mod-lt w (lit< tt)) in
    let b : biased w < 128 = mod-lt (w / 2 ^ 24 + 64) (lit< tt) in
    let e : 2 ^ biased w ≤ 2 ^ 127 = pow_mono {i = biased w} {j = 127} (omega arith) in
    le_trans (le_trans (mul-le-mul_right (2 ^ biased w) m) (mul-le-mul_left (2 ^ 24) e)) (lit≤ tt)

both_most : (w : ℕ) → up w + down w ≤ size88 w
both_most w = pick (proper w) (negative w)
  where
    pick : (p n : Bool) → cond p (cond n 0 (size88 w)) 0 + cond p (cond n (size88 w) 0) 0 ≤ size88 w
    pick true true = omega arith
    pick true false = omega arith
    pick false true = zero-le
    pick false false = zero-le

sums_most : (c : ℕ) → ((w : ℕ) → size88 w ≤ c) → (l : List ℕ) → ups l + downs l ≤ length l * c
sums_most c h [] = zero-le
sums_most c h (w ∷ l) =
    let a = both_most w in
    let b = h w in
    let d = sums_most c h l in
    omega arith

difference_most : (a b : ℕ) → nat_abs (sub_ℕ a b) ≤ a + b
difference_most a b = let e = size_difference a b in omega arith

pub length-words : (l : List (List ℕ)) → length (words l) ≡ length l
length-words [] = refl
length-words (x ∷ l) = ap suc (length-words l)

-- the sum is a difference of two sums of magnitudes
pub sum_is : (l : List (List ℕ)) → sum88 l ≡ sub_ℕ (ups (words l)) (downs (words l))
unfolding sum88
sum_is l = total_is (words l)

-- 64 sheets always fit
pub always_fits : (l : List (List ℕ)) → length l ≤ 64 → (nat_abs (sum88 l) ≤ 64 * 2 ^ 151) × (nat_abs (sum88 l) < 16 ^ 48)
always_fits l h =
    let w : List ℕ = words l in
    let n : length w ≤ 64 = subst (λ (k : ℕ). k ≤ 64) (sym (length-words l)) h in
    let m : nat_abs (sum88 l) ≤ 64 * 2 ^ 151 =
    subst (λ (z : ℤ). nat_abs z ≤ 64 * 2 ^ 151) (sym (sum_is l))
    (le_trans (difference_most (ups w) (downs w)) (le_trans (sums_most (2 ^ 151) size_most w) (mul-le-mul_right (2 ^ 151) n)))
    in
    (m, lt_of_le_of_lt m (lit< tt))

-- and so does either sum of magnitudes
limit_is : 64 * 2 ^ 151 < sum_limit
unfolding sum_limit
limit_is = lit< tt

pub ups_fit : (l : List ℕ) → length l ≤ 64 → (ups l < sum_limit) × (downs l < sum_limit)
ups_fit l h =
    let a = le_trans (sums_most (2 ^ 151) size_most l) (mul-le-mul_right (2 ^ 151) h) in
    (lt_of_le_of_lt (le_trans (le-add_right (ups l) (downs l)) a) limit_is, lt_of_le_of_lt (le_trans (le-add_left (downs l) (ups l)) a) limit_is)
