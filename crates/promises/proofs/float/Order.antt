-- A cut keeps the order of exact values, signs included, so each operation keeps the order of words or turns it round, under either rule and
-- where no error is set: of two fractions the larger has the larger kept digits at the larger place. Assumes nothing.
use mathlib.Core.Path.{◌≡◌, refl, sym, ap, ◌∙◌, subst₂}
use mathlib.Core.Bool.{Bool, true, false, cond}
use Prim.Native.Nat.{ℕ, ◌+◌, ◌*◌, ◌^◌, ◌≤◌, ◌<◌}
use native.Mathlib.Nat.{mul-one, mul_right_comm, mul-le-mul_right, zero-mul}
use native.Mathlib.Omega.{arith}
use borrow.Author.Tests.{eq-eqb}
use lib.IntN.{ℤ, pos, neg_ℤ, nat_abs, ◌*ℤ◌}
use lib.Signed.{◌≤ℤ◌}
use lib.Ieee.{unlike}
use lib.Pow.{pow_pos}
use Rattle.numbers.specs.Signed.{with_sign}
use Rattle.numbers.proofs.Differences.{le_sum_left, le_sum_right, le_opposite}
use Rattle.numbers.proofs.Signs.{opposite, times}
use Rattle.float.specs.declared.Flagged.{Flagged}
use Rattle.float.specs.Word.{negative, mantissa, size88, value}
use Rattle.terms.specs.declared.Rule.{Rule}
use Rattle.float.specs.Cut.{below0, cut_size, cut}
use Rattle.float.specs.Float.{exact_sum, exact_difference, exact_product, dividend, divisor, add, sub, mul, div}
use Rattle.float.proofs.cut.Pair.{grid_mono}
use Rattle.float.proofs.cut.Signs.{signed_parts, times_size, signed_le, le_signed, cut_sign}
use Rattle.float.proofs.cut.Values.{grid, grid_zero, cut_value}
use Rattle.float.proofs.Results.{size_pos, div_cut}

-- the value of v is at most that of w
abbrev pub Le : ℕ → ℕ → Type 0
Le v w = value v ≤ℤ value w

-- the order kept, for false, or turned round, for true
abbrev pub LeBy : Bool → ℕ → ℕ → Type 0
LeBy true v w = Le w v
LeBy false v w = Le v w

-- ---- magnitudes with a sign
module _ (r : Rule) (n d n' d' : ℕ) (D : 0 < d) (D' : 0 < d') where
  -- the kept magnitudes x and x' of n / d and n' / d', in units of 2 ^ -88
  kept_order : (s t : Bool) (x x' : ℕ) → x * 2 ^ 112 ≡ grid r (n * 2 ^ 200) d → x' * 2 ^ 112 ≡ grid r (n' * 2 ^ 200) d'
      → cond s 0 (n * d') + cond t (n' * d) 0 ≤ cond t 0 (n' * d) + cond s (n * d') 0 → cond s 0 x + cond t x' 0 ≤ cond t 0 x' + cond s x 0
  kept_order s t x x' e e' h = go s t h
    where
      fine : (a b c : ℕ) → a * b ≤ c → a * 2 ^ 200 * b ≤ c * 2 ^ 200
      fine a b c l = subst₂ (λ (u v : ℕ). u ≤ v) (mul_right_comm a b (2 ^ 200)) refl (mul-le-mul_right (2 ^ 200) l)

      shrink : (a b : ℕ) → a * 2 ^ 112 ≤ b * 2 ^ 112 → a ≤ b
      shrink a b l = omega arith

      up : n * d' ≤ n' * d → x ≤ x'
      up l =
          shrink x x'
          (subst₂ (λ (u v : ℕ). u ≤ v) (sym e) (sym e')
          (grid_mono r (n * 2 ^ 200) d (n' * 2 ^ 200) d' D D' (subst₂ (λ (u v : ℕ). u ≤ v) refl (mul_right_comm n' d (2 ^ 200)) (fine n d' (n' * d) l))))

      down : n' * d ≤ n * d' → x' ≤ x
      down l =
          shrink x' x
          (subst₂ (λ (u v : ℕ). u ≤ v) (sym e') (sym e)
          (grid_mono r (n' * 2 ^ 200) d' (n * 2 ^ 200) d D' D (subst₂ (λ (u v : ℕ). u ≤ v) refl (mul_right_comm n d' (2 ^ 200)) (fine n' d (n * d') l))))

      nought : (a b : ℕ) → 0 < b → a * b ≤ 0 → a ≡ 0
      nought a b B l = let g = mul-le-mul_right a B in omega arith

      none : (a : ℕ) (c y : ℕ) → 0 < c → a ≡ 0 → y * 2 ^ 112 ≡ grid r (a * 2 ^ 200) c → y ≡ 0
      none a c y C z f =
          let g : y * 2 ^ 112 ≡ 0 = f ∙ ap (λ (u : ℕ). grid r u c) (ap (λ (u : ℕ). u * 2 ^ 200) z ∙ zero-mul (2 ^ 200)) ∙ grid_zero r c C in
          omega arith

      go : (s t : Bool) → cond s 0 (n * d') + cond t (n' * d) 0 ≤ cond t 0 (n' * d) + cond s (n * d') 0 → cond s 0 x + cond t x' 0 ≤ cond t 0 x' + cond s x 0
      go false false l = let k = up (omega arith) in omega arith
      go true true l = let k = down (omega arith) in omega arith
      go true false l = omega arith
      go false true l =
          let a = none n d x D (nought n d' D' (omega arith)) e in
          let b = none n' d' x' D' (nought n' d D (omega arith)) e' in
          omega arith

-- The cut keeps the order of two fractions z / d and z' / d'.
pub cut_keeps : (r : Rule) (z z' : ℤ) (d d' : ℕ) → 0 < d → 0 < d' → (z *ℤ pos d') ≤ℤ (z' *ℤ pos d) → (cut r z d).error ≡ 0 → (cut r z' d').error ≡ 0
    → Le (cut r z d).word (cut r z' d').word
cut_keeps r z z' d d' D D' h e e' =
    let s = below0 z in
    let n = nat_abs z in
    let t = below0 z' in
    let n' = nat_abs z' in
    let c : cut r z d ≡ cut_size r s (n * 2 ^ 200) d = ap (λ (y : ℤ). cut r y d) (signed_parts z) ∙ cut_sign r s n d in
    let c' : cut r z' d' ≡ cut_size r t (n' * 2 ^ 200) d' = ap (λ (y : ℤ). cut r y d') (signed_parts z') ∙ cut_sign r t n' d' in
    let v = cut_value r s (n * 2 ^ 200) d D (sym (ap (λ (x : Flagged). x.error) c) ∙ e) in
    let v' = cut_value r t (n' * 2 ^ 200) d' D' (sym (ap (λ (x : Flagged). x.error) c') ∙ e') in
    let l = le_signed s t (n * d') (n' * d) (subst₂ (λ (x y : ℤ). x ≤ℤ y) (times_size z d') (times_size z' d) h) in
    subst₂ (λ (x y : Flagged). Le x.word y.word) (sym c) (sym c')
    (subst₂ (λ (x y : ℤ). x ≤ℤ y) (sym v.0) (sym v'.0)
    (signed_le s t (size88 (cut_size r s (n * 2 ^ 200) d).word) (size88 (cut_size r t (n' * 2 ^ 200) d').word)
    (kept_order r n d n' d' D D' s t (size88 (cut_size r s (n * 2 ^ 200) d).word) (size88 (cut_size r t (n' * 2 ^ 200) d').word) v.1 v'.1 l)))

-- ---- factors
keep_factor : (x y : ℤ) (k : ℕ) → x ≤ℤ y → (x *ℤ pos k) ≤ℤ (y *ℤ pos k)
keep_factor x y k h =
    subst₂ (λ (u v : ℤ). u ≤ℤ v) (sym (times_size x k)) (sym (times_size y k))
    (signed_le (below0 x) (below0 y) (nat_abs x * k) (nat_abs y * k)
    (go (below0 x) (below0 y) (nat_abs x) (nat_abs y) (le_signed (below0 x) (below0 y) (nat_abs x) (nat_abs y) (subst₂ (λ (u v : ℤ). u ≤ℤ v) (signed_parts x)
    (signed_parts y) h))))
  where
    go : (s t : Bool) (i j : ℕ) → cond s 0 i + cond t j 0 ≤ cond t 0 j + cond s i 0 → cond s 0 (i * k) + cond t (j * k) 0 ≤ cond t 0 (j * k) + cond s (i * k) 0
    go false false i j l = let m = mul-le-mul_right k l in omega arith
    go true true i j l = let m = mul-le-mul_right k l in omega arith
    go true false i j l = omega arith
    go false true i j l = let m = mul-le-mul_right k l in omega arith

turn_factor : (x y : ℤ) (k : ℕ) → x ≤ℤ y → (y *ℤ with_sign true k) ≤ℤ (x *ℤ with_sign true k)
turn_factor x y k h = subst₂ (λ (u v : ℤ). u ≤ℤ v) (swap y) (swap x) (le_opposite (x *ℤ pos k) (y *ℤ pos k) (keep_factor x y k h))
  where
    negated : (b : Bool) (n : ℕ) → neg_ℤ (with_sign b n) ≡ with_sign (unlike b true) n
    negated true n = opposite true n
    negated false n = refl

    swap : (z : ℤ) → neg_ℤ (z *ℤ pos k) ≡ z *ℤ with_sign true k
    swap z =
        ap neg_ℤ (times_size z k) ∙ negated (below0 z) (nat_abs z * k) ∙ sym (times (below0 z) true (nat_abs z) k)
        ∙ ap (λ (u : ℤ). u *ℤ with_sign true k) (sym (signed_parts z))

-- a factor with a sign: the order is kept, or turned round where the factor is negative
abbrev By : Bool → ℤ → ℤ → Type 0
By true x y = y ≤ℤ x
By false x y = x ≤ℤ y

by_factor : (t : Bool) (x y : ℤ) (k : ℕ) → x ≤ℤ y → By t (x *ℤ with_sign t k) (y *ℤ with_sign t k)
by_factor true x y k h = turn_factor x y k h
by_factor false x y k h = keep_factor x y k h

-- two exact values over one scale
cut_by : (r : Rule) (t : Bool) (z z' : ℤ) (d : ℕ) → 0 < d → By t z z' → (cut r z d).error ≡ 0 → (cut r z' d).error ≡ 0 → LeBy t (cut r z d).word
    (cut r z' d).word
cut_by r true z z' d D h e e' = cut_keeps r z' z d d D D (keep_factor z' z d h) e' e
cut_by r false z z' d D h e e' = cut_keeps r z z' d d D D (keep_factor z z' d h) e e'

-- ---- the operations
pub add_keeps : (r : Rule) (b b' a : ℕ) → Le b b' → (add r b a).error ≡ 0 → (add r b' a).error ≡ 0 → Le (add r b a).word (add r b' a).word
unfolding add
add_keeps r b b' a h e e' = cut_by r false (exact_sum b a) (exact_sum b' a) (2 ^ 88) (pow_pos 88) (le_sum_left (value b) (value b') (value a) h) e e'

pub add_keeps_right : (r : Rule) (b a a' : ℕ) → Le a a' → (add r b a).error ≡ 0 → (add r b a').error ≡ 0 → Le (add r b a).word (add r b a').word
unfolding add
add_keeps_right r b a a' h e e' = cut_by r false (exact_sum b a) (exact_sum b a') (2 ^ 88) (pow_pos 88) (le_sum_right (value a) (value a') (value b) h) e e'

pub sub_keeps : (r : Rule) (b b' a : ℕ) → Le b b' → (sub r b a).error ≡ 0 → (sub r b' a).error ≡ 0 → Le (sub r b a).word (sub r b' a).word
unfolding sub
sub_keeps r b b' a h e e' = cut_by r false (exact_difference b a) (exact_difference b' a) (2 ^ 88) (pow_pos 88) (le_sum_left (value b) (value b') (neg_ℤ (value a))
    h) e e'

-- taking from a constant turns the order round
pub sub_turns : (r : Rule) (b a a' : ℕ) → Le a a' → (sub r b a).error ≡ 0 → (sub r b a').error ≡ 0 → Le (sub r b a').word (sub r b a).word
unfolding sub
sub_turns r b a a' h e e' =
    cut_by r true (exact_difference b a) (exact_difference b a') (2 ^ 88) (pow_pos 88) (le_sum_right (neg_ℤ (value a')) (neg_ℤ (value a)) (value b)
    (le_opposite (value a) (value a') h)) e e'

-- multiplying by a constant keeps the order, by a negative one turns it round
pub mul_order : (r : Rule) (b b' a : ℕ) → Le b b' → (mul r b a).error ≡ 0 → (mul r b' a).error ≡ 0 → LeBy (negative a) (mul r b a).word
    (mul r b' a).word
unfolding mul value
mul_order r b b' a h e e' = cut_by r (negative a) (exact_product b a) (exact_product b' a) (2 ^ 176) (pow_pos 176) (by_factor (negative a) (value b) (value b')
    (size88 a) h) e e'

-- a quotient with no error has a divisor that is not zero
pub no_zero_divisor : (r : Rule) (b a : ℕ) → (div r b a).error ≡ 0 → mantissa a ≡ 0 → ⊥
unfolding div
no_zero_divisor r b a e z = let x : ◌≡◌ {A = ℕ} 8 0 = rw (eq-eqb (mantissa a) 0 z) at e in omega arith

dividend_is : (b a : ℕ) → value b *ℤ with_sign (negative a) 1 ≡ dividend b a
unfolding value
dividend_is b a = times (negative b) (negative a) (size88 b) 1 ∙ ap (λ (x : ℕ). with_sign (unlike (negative b) (negative a)) x) (mul-one (size88 b))

-- dividing by a constant keeps the order, by a negative one turns it round
pub div_order : (r : Rule) (b b' a : ℕ) → Le b b' → (div r b a).error ≡ 0 → (div r b' a).error ≡ 0 → LeBy (negative a) (div r b a).word
    (div r b' a).word
div_order r b b' a h e e' =
    let nz = no_zero_divisor r b a e in
    rw (div_cut r b a nz, div_cut r b' a nz)
    (cut_by r (negative a) (dividend b a) (dividend b' a) (divisor a) (size_pos a nz)
    (subst₂ (λ (x y : ℤ). By (negative a) x y) (dividend_is b a) (dividend_is b' a) (by_factor (negative a) (value b) (value b') 1 h))
    (rw (div_cut r b a nz) at e) (rw (div_cut r b' a nz) at e'))
