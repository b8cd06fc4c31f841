-- Each operation gives exactly the cut of the exact value, under either rule, and one step of 128 is enough: the exponents that it can reach lie
-- between the bounds that stand with it, which rounding does not move, since what is at most 2 ^ 24 - 1 steps of a place is brought to no more. Assumes
-- nothing.
use mathlib.Core.Path.{◌≡◌, refl, sym, ap, ◌∙◌, subst, subst₂}
use mathlib.Core.Logic.{◌⊎◌, inl, inr, ⊎_elim}
use mathlib.Core.Bool.{Bool, true, false, not, cond}
use Prim.Native.Nat.{ℕ, ◌+◌, ◌-◌, ◌*◌, ◌%◌, ◌^◌, ◌≤◌, ◌<◌}
use native.Mathlib.Nat.{le_refl, le_trans, le_of_eq, le_of_lt, lt_of_lt_of_le, lt_of_le_of_lt, eq-zero-or-pos, mul-one, one-mul, zero-mul, mul-zero, mul-pos}
use native.Mathlib.Nat.{mul-le-mul, mul-le-mul_left, mul-le-mul_right, mul-lt-mul_of_pos_right, mod-lt}
use native.Mathlib.Omega.{arith}
use borrow.Author.Tests.{lt-ltb, eq-eqb}
use lib.Dec.{lit<, lit≤}
use lib.IntN.{ℤ, pos, neg_ℤ, nat_abs, sub_ℕ, ◌+ℤ◌, ◌-ℤ◌}
use lib.Signed.{◌≤ℤ◌}
use lib.Ieee.{unlike}
use lib.Pow.{pow-add, pow_pos, pow_mono}
use Rattle.numbers.specs.Signed.{with_sign}
use Rattle.numbers.proofs.Differences.{either, same, above, beneath, parts, le_parts, le_differences, differences_le, less_difference, more_difference}
use Rattle.numbers.proofs.Differences.{size_difference}
use Rattle.numbers.proofs.Signs.{sum_signs, opposite, times, size_of_signed}
use Rattle.float.specs.declared.Flagged.{Flagged}
use Rattle.float.specs.Word.{negative, biased, exponent, mantissa, size88, value, proper}
use Rattle.terms.specs.declared.Rule.{Rule}
use Rattle.terms.specs.declared.Rule.TheVariants.{Cut, Nearest}
use Rattle.float.specs.Cut.{lost, kept, mantissa_of, digits_of, packed, stored, below0, cut}
use Rattle.float.specs.Float.{exact_sum, exact_difference, exact_product, dividend, divisor, add, sub, mul, div}
use Rattle.float.proofs.cut.Pair.{kept_le, grid_mono, cuts_one, cut_zero}
use Rattle.promises.proofs.float.OnePair.{from_scale}
use Rattle.promises.proofs.float.NearPair.{near_one}
use Rattle.promises.proofs.float.RulePair.{from_near}
use Rattle.float.proofs.cut.Signs.{nought}
use Rattle.float.proofs.cut.Values.{packed_mantissa, packed_biased, packed_sign, error_in_lem, error_over, error_under}
use Rattle.float.proofs.cut.Values.{digits_near, settled, grid, cut_stored}
use Rattle.float.proofs.Results.{kept_big, mantissa_big}
use Rattle.promises.proofs.float.Kept.{fits_exact}
use Rattle.promises.specs.FloatResults.{Pair, PairBy, Steps, CutsBy, ExactlyBy}
use Rattle.float.proofs.Results.{size_pos, div_cut}
use Rattle.float.proofs.Results.{size_ge}
use Rattle.float.proofs.cut.Pair.{lost_least}

-- ---- the exponent e = k - 176, in its three ranges
stored_exponent : (s : Bool) (m k b : ℕ) → m < 16777216 → (k + 16) % 128 ≡ b → exponent (packed s m k) ≡ sub_ℕ b 64
stored_exponent s m k b h e = ap (λ (x : ℕ). sub_ℕ x 64) (packed_biased s m k h ∙ e)

pub steps : (s : Bool) (m k : ℕ) → m < 16777216 → k < 368 → Steps (sub_ℕ k 176) (stored s m k)
steps s m k M K = record {
  within = λ a b.
      let l = differences_le 112 176 k 176 a in
      let h = differences_le k 176 239 176 b in
      (error_in_lem k (omega arith) (omega arith), stored_exponent s m k (k - 112) M (omega arith) ∙ same (k - 112) 64 k 176 (omega arith));
  over = λ a.
      let l = differences_le 240 176 k 176 a in (
        error_over k (omega arith),
        stored_exponent s m k (k - 240) M (omega arith) ∙ same (k - 240) 64 k (176 + 128) (omega arith)
            ∙ sym (less_difference k 176 128),
      );
  under = λ a.
      let l = differences_le k 176 111 176 a in (
        error_under k (omega arith),
        stored_exponent s m k (k + 16) M (omega arith) ∙ same (k + 16) 64 (k + 128) 176 (omega arith)
            ∙ sym (more_difference k 176 128),
      );
}

-- ---- the digits that are lost, between two bounds
-- a magnitude of at most 2 ^ 24 - 1 steps of 2 ^ j is brought to no more, so no more than j digits are lost below m
pub place_most : (r : Rule) (n d j : ℕ) → 0 < d → 8388608 * d ≤ n → n ≤ 16777215 * 2 ^ j * d → digits_of (kept r n d) (lost n d) ≤ j
place_most r n d j D h l =
    let q = kept r n d in
    let K = digits_of q (lost n d) in
    let g : grid r n d ≤ grid r (16777215 * 2 ^ j) 1 = grid_mono r n d (16777215 * 2 ^ j) 1 D (le_refl 1) (le_trans (le_of_eq (mul-one n)) l) in
    let f : grid r (16777215 * 2 ^ j) 1 ≡ 16777215 * 2 ^ j = fits_exact r (16777215 * 2 ^ j) 1 16777215 j (le_refl 1)
    (lit< tt) (sym (mul-one (16777215 * 2 ^ j))) in
    let s = (settled q (lost n d) (kept_le r n d)).0 in
    let m = (mantissa_big q (kept_big r n d D h) (kept_le r n d)).0 in
    below j K (le_trans (mul-le-mul_right (2 ^ K) m) (le_trans (le_of_eq s) (le_trans g (le_of_eq f))))
  where
    below : (j K : ℕ) → 8388608 * 2 ^ K ≤ 16777215 * 2 ^ j → K ≤ j
    below j K a = ⊎_elim (λ (t : j < K). absurd (far t)) (λ (t : K ≤ j). t) (either j K)
      where
        far : j < K → ⊥
        far t =
            let b : 2 ^ (j + 1) ≤ 2 ^ K = pow_mono {i = j + 1} {j = K} (omega arith) in
            let c : 2 ^ (j + 1) ≡ 2 ^ j * 2 = pow-add 2 j 1 in
            let p = pow_pos j in
            omega arith

-- ---- the pair under a rule, in the scale of fine units
cut_pair : (r : Rule) (n d : ℕ) (e : ℤ) → 0 < d → 8388608 * d ≤ n * 2 ^ 200 → e -ℤ pos 24 ≡ sub_ℕ (digits_of (kept r (n * 2 ^ 200) d) (lost (n * 2 ^ 200) d)) 200
    → PairBy r n d (mantissa_of (kept r (n * 2 ^ 200) d)) e
cut_pair Cut n d e D h X =
    let N = n * 2 ^ 200 in
    let c = cuts_one N d D h in
    let t = lt-ltb (kept Cut N d) 16777216 c.1 in
    let M : mantissa_of (kept Cut N d) ≡ kept Cut N d = rw t refl in
    let K : digits_of (kept Cut N d) (lost N d) ≡ lost N d = rw t refl in
    subst (λ (x : ℕ). Pair n d x e) (sym M) (from_scale n d (kept Cut N d) (lost N d) 200 e (X ∙ ap (λ (x : ℕ). sub_ℕ x 200) K) c)
cut_pair Nearest n d e D h X =
    let N = n * 2 ^ 200 in
    from_near n d (mantissa_of (kept Nearest N d)) (digits_of (kept Nearest N d) (lost N d)) 200 e X (near_one N d D h)

-- an exact value z / d of from 2 ^ 23 steps of 2 ^ i to 2 ^ 24 - 1 steps of 2 ^ j fine units
pub exactly : (r : Rule) (z : ℤ) (d i j : ℕ) → 0 < d → j < 368 → (0 < nat_abs z → (2 ^ (23 + i) * d ≤ nat_abs z * 2 ^ 200)
    × (nat_abs z * 2 ^ 200 ≤ 16777215 * 2 ^ j * d))
    → ExactlyBy r z d (sub_ℕ i 176) (sub_ℕ j 176) (cut r z d)
exactly r z d i j D J h = go (eq-zero-or-pos (nat_abs z))
  where
    go : (nat_abs z ≡ 0) ⊎ (0 < nat_abs z) → ExactlyBy r z d (sub_ℕ i 176) (sub_ℕ j 176) (cut r z d)
    go (inl e) = inl (nought z e, unfold cut in cut_zero r (below0 z) (nat_abs z * 2 ^ 200) d (ap (λ (x : ℕ). x * 2 ^ 200) e ∙ zero-mul (2 ^ 200)))
    go (inr p) =
        let n = nat_abs z * 2 ^ 200 in
        let q = kept r n d in
        let m = mantissa_of q in
        let k = digits_of q (lost n d) in
        let b = h p in
        let big : 8388608 * d ≤ n = le_trans (mul-le-mul_right d (pow_mono {i = 23} {j = 23 + i} (omega arith))) b.0 in
        let lo = le_trans (lost_least n d i D b.0) (digits_near q (lost n d)).0 in
        let hi = place_most r n d j D big b.1 in
        let M = (mantissa_big q (kept_big r n d D big) (kept_le r n d)).1 in
        let e : cut r z d ≡ stored (below0 z) m k = unfold cut in cut_stored r (below0 z) n d (mul-pos p (pow_pos 200)) in
        inr
        (subst (λ (x : Flagged). CutsBy r z d (sub_ℕ i 176) (sub_ℕ j 176) x) (sym e)
        (record {
          m = m;
          e = sub_ℕ k 176;
          pair = cut_pair r (nat_abs z) d (sub_ℕ k 176) D big (less_difference k 176 24);
          sign = packed_sign (below0 z) m k M;
          digits = packed_mantissa (below0 z) m k M;
          step = steps (below0 z) m k M (lt_of_le_of_lt hi J);
          at_least = le_differences i 176 k 176 (omega arith);
          at_most = le_differences k 176 j 176 (omega arith);
        }))

-- where the bounds are within -64 and 63 there is no error
pub no_error_within : {r : Rule} {z : ℤ} {d : ℕ} {x : Flagged} (i j : ℕ) → 112 ≤ i → j ≤ 239 → ExactlyBy r z d (sub_ℕ i 176) (sub_ℕ j 176) x → x.error ≡ 0
no_error_within i j I J (inl w) = ap (λ (y : Flagged). y.error) w.1
no_error_within i j I J (inr c) =
    (c.step.within (through (le_differences 112 176 i 176 (omega arith)) c.at_least) (through c.at_most (le_differences j 176 239 176 (omega arith)))).0
  where
    through : {x y z : ℤ} → x ≤ℤ y → y ≤ℤ z → x ≤ℤ z
    through {x} {y} {z} h k =
        let a = le_parts x y h in
        let b = le_parts y z k in
        subst₂ (λ (u v : ℤ). u ≤ℤ v) (sym (parts x)) (sym (parts z)) (le_differences (above x) (beneath x) (above z) (beneath z) (omega arith))

-- ---- the magnitude of a word, times 2 ^ 88
pub size-lt : (w : ℕ) → size88 w < 2 ^ 151
unfolding size88
size-lt w =
    lt_of_lt_of_le (mul-lt-mul_of_pos_right (mod-lt w (lit< {m = 0} {n = 16777216} tt)) (pow_pos (biased w)))
    (le_trans (mul-le-mul_left 16777216 (pow_mono {i = biased w} {j = 127} (omega arith))) (le_refl (2 ^ 151)))

-- a word's magnitude is at most 2 ^ 24 - 1 steps of 2 ^ 127
pub size_most : (w : ℕ) → size88 w ≤ 16777215 * 2 ^ 127
unfolding size88
size_most w =
    le_trans (mul-le-mul_right (2 ^ biased w) (less (mod-lt w (lit< {m = 0} {n = 16777216} tt))))
    (mul-le-mul_left 16777215 (pow_mono {i = biased w} {j = 127} (omega arith)))
  where
    less : mantissa w < 16777216 → mantissa w ≤ 16777215
    less h = omega arith

-- ---- sums
sum_size : (s t : Bool) (i j : ℕ) → nat_abs (with_sign s i +ℤ with_sign t j) ≤ i + j
sum_size s t i j = le_trans (le_of_eq (ap nat_abs (sum_signs s t i j) ∙ size_difference (cond s 0 i + cond t 0 j) (cond s i 0 + cond t j 0))) (go s t)
  where
    go : (s t : Bool) → (cond s 0 i + cond t 0 j - (cond s i 0 + cond t j 0)) + (cond s i 0 + cond t j 0 - (cond s 0 i + cond t 0 j)) ≤ i + j
    go true true = omega arith
    go true false = omega arith
    go false true = omega arith
    go false false = omega arith

both_within : (a b c p : ℕ) → c ≤ a + b → a ≤ p → b ≤ p → c ≤ p * 2
both_within a b c p h k l = omega arith

-- a sum's magnitude, times 2 ^ 88, is from 1 to 2 ^ 24 - 1 steps of 2 ^ 128
sum_exactly : (r : Rule) (s t : Bool) (i j : ℕ) → i ≤ 16777215 * 2 ^ 127 → j ≤ 16777215 * 2 ^ 127
    → ExactlyBy r (with_sign s i +ℤ with_sign t j) (2 ^ 88) (neg_ℤ (pos 87)) (pos 64) (cut r (with_sign s i +ℤ with_sign t j) (2 ^ 88))
sum_exactly r s t i j I J =
    exactly r (with_sign s i +ℤ with_sign t j) (2 ^ 88) 89 240 (pow_pos 88) (lit< tt) (λ p. (
      le_trans (le_of_eq (sym (one-mul (2 ^ 200)))) (mul-le-mul_right (2 ^ 200) p),
      mul-le-mul_right (2 ^ 200) (both_within i j (nat_abs (with_sign s i +ℤ with_sign t j)) (16777215 * 2 ^ 127) (sum_size s t i j) I J),
    ))

pub add_exactly : (r : Rule) (b a : ℕ) → ExactlyBy r (exact_sum b a) (2 ^ 88) (neg_ℤ (pos 87)) (pos 64) (add r b a)
unfolding add value
add_exactly r b a = sum_exactly r (negative b) (negative a) (size88 b) (size88 a) (size_most b) (size_most a)

pub sub_exactly : (r : Rule) (b a : ℕ) → ExactlyBy r (exact_difference b a) (2 ^ 88) (neg_ℤ (pos 87)) (pos 64) (sub r b a)
unfolding sub value
sub_exactly r b a =
    subst (λ (z : ℤ). ExactlyBy r (value b +ℤ z) (2 ^ 88) (neg_ℤ (pos 87)) (pos 64) (cut r (value b +ℤ z) (2 ^ 88))) (sym (opposite (negative a) (size88 a)))
    (sum_exactly r (negative b) (not (negative a)) (size88 b) (size88 a) (size_most b) (size_most a))

-- ---- products: the magnitude, times 2 ^ 176, is from 2 ^ 46 to below 2 ^ 302
factor_pos : (x y : ℕ) → 0 < x * y → (0 < x) × (0 < y)
factor_pos x y h = (left (eq-zero-or-pos x), right (eq-zero-or-pos y))
  where
    left : (x ≡ 0) ⊎ (0 < x) → 0 < x
    left (inl e) = let z : x * y ≡ 0 = ap (λ (u : ℕ). u * y) e ∙ zero-mul y in absurd (omega arith)
    left (inr p) = p

    right : (y ≡ 0) ⊎ (0 < y) → 0 < y
    right (inl e) = let z : x * y ≡ 0 = ap (λ (u : ℕ). x * u) e ∙ mul-zero x in absurd (omega arith)
    right (inr p) = p

pub mul_exactly : (r : Rule) (b a : ℕ) → proper b ≡ true → proper a ≡ true → ExactlyBy r (exact_product b a) (2 ^ 176) (neg_ℤ (pos 129)) (pos 126) (mul r b a)
unfolding mul
mul_exactly r b a B A =
    exactly r (exact_product b a) (2 ^ 176) 47 302 (pow_pos 176) (lit< tt) (λ p.
    let q = factor_pos (size88 b) (size88 a) (subst (λ (x : ℕ). 0 < x) magnitude p) in
    subst (λ (x : ℕ). (2 ^ 70 * 2 ^ 176 ≤ x * 2 ^ 200) × (x * 2 ^ 200 ≤ 16777215 * 2 ^ 302 * 2 ^ 176)) (sym magnitude) (
      le_trans (le_of_eq (sym (pow-add 2 46 200))) (mul-le-mul_right (2 ^ 200) (mul-le-mul (size_ge b B q.0) (size_ge a A q.1))),
      le_trans (mul-le-mul_right (2 ^ 200) (mul-le-mul (size_most b) (size_most a))) (lit≤ {m = 16777215 * 2 ^ 127 * (16777215 * 2 ^ 127) * 2 ^ 200}
          {n = 16777215 * 2 ^ 302 * 2 ^ 176} tt),
    ))
  where
    magnitude : nat_abs (exact_product b a) ≡ size88 b * size88 a
    magnitude = unfold value in ap nat_abs (times (negative b) (negative a) (size88 b) (size88 a)) ∙ size_of_signed (unlike (negative b) (negative a))
        (size88 b * size88 a)

-- ---- quotients: above 2 ^ -128 and below 2 ^ 128
pub div_exactly : (r : Rule) (b a : ℕ) → proper b ≡ true → proper a ≡ true → (mantissa a ≡ 0 → ⊥) → ExactlyBy r (dividend b a) (divisor a) (neg_ℤ (pos 127))
    (pos 128) (div r b a)
div_exactly r b a B A nz =
    subst (λ (x : Flagged). ExactlyBy r (dividend b a) (divisor a) (neg_ℤ (pos 127)) (pos 128) x) (sym (div_cut r b a nz))
    (exactly r (dividend b a) (divisor a) 49 304 S (lit< tt) (λ p.
    subst (λ (x : ℕ). (2 ^ 72 * size88 a ≤ x * 2 ^ 200) × (x * 2 ^ 200 ≤ 16777215 * 2 ^ 304 * size88 a)) (sym magnitude) (
      le_trans (mul-le-mul_left (2 ^ 72) (le_of_lt (size-lt a)))
          (le_trans (le_of_eq refl) (mul-le-mul_right (2 ^ 200) (size_ge b B (subst (λ (x : ℕ). 0 < x) magnitude p)))),
      le_trans (mul-le-mul_right (2 ^ 200) (size_most b)) (le_trans (lit≤ {m = 16777215 * 2 ^ 127 * 2 ^ 200} {n = 16777215 * 2 ^ 304 * 2 ^ 23} tt)
          (mul-le-mul_left (16777215 * 2 ^ 304) (size_ge a A S))),
    )))
  where
    S : 0 < size88 a
    S = size_pos a nz

    magnitude : nat_abs (dividend b a) ≡ size88 b
    magnitude = size_of_signed (unlike (negative b) (negative a)) (size88 b)

-- a zero divisor: B and divide by zero
pub div_by_zero : (r : Rule) (b a : ℕ) → mantissa a ≡ 0 → div r b a ≡ record { word = b; error = 8 }
unfolding div
div_by_zero r b a e = rw (eq-eqb (mantissa a) 0 e)
