-- The fields and the error of a cut word, and its magnitude in fine units where no error is set. Assumes nothing.
use mathlib.Core.Path.{◌≡◌, refl, sym, ap, ap₂, ◌∙◌, subst}
use mathlib.Core.Logic.{◌⊎◌, inl, inr}
use mathlib.Core.Bool.{Bool, true, false, cond}
use Prim.Native.Nat.{ℕ, ◌+◌, ◌-◌, ◌*◌, ◌%◌, ◌^◌, ◌≤◌, ◌<◌}
use native.Mathlib.Nat.{le_refl, eq-zero-or-pos, pos_of_ne-zero, zero-mul, mul-pos, zero-div, mod-eq_of_lt}
use native.Mathlib.Omega.{arith}
use borrow.Author.Tests.{lt-ltb, le-ltb, le-leb, lt-leb, ltb-true, ltb-false, leb-false}
use lib.Dec.{ltb, leb}
use lib.Pow.{pow-add, pow_pos}
use Rattle.numbers.specs.Signed.{with_sign}
use Rattle.float.specs.declared.Flagged.{Flagged}
use Rattle.float.specs.Word.{negative, biased, mantissa, size88, value}
use Rattle.terms.specs.declared.Rule.{Rule}
use Rattle.terms.specs.declared.Rule.TheVariants.{Cut, Nearest}
use Rattle.float.specs.Cut.{whole, lost, kept, mantissa_of, digits_of, packed, error_at, stored, cut_size}
use Rattle.float.proofs.Powers.{parted}
use Rattle.float.proofs.cut.Pair.{whole_same, kept_le, normed, cut_zero}

-- ---- the fields of a packed word
pub packed_mantissa : (s : Bool) (m k : ℕ) → m < 16777216 → mantissa (packed s m k) ≡ m
unfolding packed
packed_mantissa true m k h = omega arith
packed_mantissa false m k h = omega arith

pub packed_biased : (s : Bool) (m k : ℕ) → m < 16777216 → biased (packed s m k) ≡ (k + 16) % 128
unfolding packed
packed_biased true m k h = omega arith
packed_biased false m k h = omega arith

pub packed_sign : (s : Bool) (m k : ℕ) → m < 16777216 → negative (packed s m k) ≡ s
unfolding packed
packed_sign true m k h = le-leb 2147483648 (packed true m k) (omega arith)
packed_sign false m k h = lt-leb 2147483648 (packed false m k) (omega arith)

pub packed_lt : (s : Bool) (m k : ℕ) → m < 16777216 → packed s m k < 4294967296
unfolding packed
packed_lt true m k h = omega arith
packed_lt false m k h = omega arith

pub size_kept : (s : Bool) (m k : ℕ) → m < 16777216 → 112 ≤ k → k < 240 → size88 (packed s m k) * 2 ^ 112 ≡ m * 2 ^ k
unfolding size88
size_kept s m k h a b =
    ap₂ (λ (x y : ℕ). x * 2 ^ y * 2 ^ 112) (packed_mantissa s m k h) (packed_biased s m k h ∙ field) ∙ sym (parted m k (k - 112) 112 (omega arith))
  where
    field : (k + 16) % 128 ≡ k - 112
    field = omega arith

-- ---- the error
pub error_kept : (k : ℕ) → error_at k ≡ 0 → (112 ≤ k) × (k < 240)
unfolding error_at
error_kept k = go (leb 240 k) (ltb k 112) (leb-false 240 k) (ltb-false k 112)
  where
    go : (x y : Bool) → (x ≡ false → k < 240) → (y ≡ false → 112 ≤ k) → ◌≡◌ {A = ℕ} (cond x 1 (cond y 2 0)) 0 → (112 ≤ k) × (k < 240)
    go true y f g e = absurd (omega arith)
    go false true f g e = absurd (omega arith)
    go false false f g e = (g refl, f refl)

pub error_in_lem : (k : ℕ) → 112 ≤ k → k < 240 → error_at k ≡ 0
unfolding error_at
error_in_lem k a b = rw (lt-leb 240 k b, le-ltb k 112 a)

pub error_over : (k : ℕ) → 240 ≤ k → error_at k ≡ 1
unfolding error_at
error_over k h = rw (le-leb 240 k h)

pub error_under : (k : ℕ) → k < 112 → error_at k ≡ 2
unfolding error_at
error_under k h = rw (lt-leb 240 k (omega arith), lt-ltb k 112 h)

pub error_lt : (k : ℕ) → error_at k < 16
unfolding error_at
error_lt k = go (leb 240 k) (ltb k 112)
  where
    go : (x y : Bool) → cond x 1 (cond y 2 0) < 16
    go true y = omega arith
    go false true = omega arith
    go false false = omega arith

-- ---- a kept number q at k digits, where a carry to 2 ^ 24 moves to the digits
pub settled : (q k : ℕ) → q ≤ 16777216 → (mantissa_of q * 2 ^ digits_of q k ≡ q * 2 ^ k) × (mantissa_of q < 16777216)
settled q k h = go (ltb q 16777216) (ltb-true q 16777216) (ltb-false q 16777216)
  where
    double : (y : ℕ) → 16777216 * y ≡ 8388608 * (y * 2)
    double y = omega arith

    go : (b : Bool) → (b ≡ true → q < 16777216) → (b ≡ false → 16777216 ≤ q) → (cond b q 8388608 * 2 ^ cond b k (k + 1) ≡ q * 2 ^ k)
        × (cond b q 8388608 < 16777216)
    go true f g = (refl, f refl)
    go false f g =
        let l = g refl in
        let e : q ≡ 16777216 = omega arith in
        let p : 2 ^ (k + 1) ≡ 2 ^ k * 2 = pow-add 2 k 1 in
        (ap (λ (x : ℕ). 8388608 * x) p ∙ sym (ap (λ (x : ℕ). x * 2 ^ k) e ∙ double (2 ^ k)), omega arith)

pub digits_near : (q k : ℕ) → (k ≤ digits_of q k) × (digits_of q k ≤ k + 1)
digits_near q k = go (ltb q 16777216)
  where
    go : (b : Bool) → (k ≤ cond b k (k + 1)) × (cond b k (k + 1) ≤ k + 1)
    go true = (omega arith, omega arith)
    go false = (omega arith, omega arith)

pub settled_same : (s : Bool) (q k : ℕ) → q < 16777216 → stored s (mantissa_of q) (digits_of q k) ≡ stored s q k
settled_same s q k h = rw (lt-ltb q 16777216 h)

pub settled_up : (s : Bool) (q k : ℕ) → 16777216 ≤ q → stored s (mantissa_of q) (digits_of q k) ≡ stored s 8388608 (k + 1)
settled_up s q k h = rw (le-ltb q 16777216 h)

-- the cut's value in fine units, under either rule
abbrev pub grid : Rule → ℕ → ℕ → ℕ
grid r n d = kept r n d * 2 ^ lost n d

pub cut_stored : (r : Rule) (s : Bool) (n d : ℕ) → 0 < n → cut_size r s n d ≡ stored s (mantissa_of (kept r n d)) (digits_of (kept r n d) (lost n d))
unfolding cut_size
cut_stored r s n d N = rw (lt-ltb 0 n N)

-- what a program that brings the top bit to bit 63 by a shift s makes of mag * 2 ^ x: q of the 24 bits that are left, and k = x + 40 - s
module _ (r : Rule) (mag x s : ℕ) (place : 24 ≤ x) (few : s < 64) (lo : 2 ^ 63 ≤ mag * 2 ^ s) (hi : mag * 2 ^ s < 2 ^ 64) where
  top : (kept r (mag * 2 ^ x) 1 ≡ whole r (mag * 2 ^ s) (2 ^ 40)) × (lost (mag * 2 ^ x) 1 ≡ x + 40 - s)
  top = normed r mag x s (x + 40 - s) (omega arith) lo hi

  top_is : whole r (mag * 2 ^ s % 2 ^ 64) (2 ^ 40) ≡ kept r (mag * 2 ^ x) 1
  top_is = ap (λ (y : ℕ). whole r y (2 ^ 40)) (mod-eq_of_lt hi) ∙ sym top.0

  pub top_le : (q : ℕ) → q ≡ whole r (mag * 2 ^ s % 2 ^ 64) (2 ^ 40) → q ≤ 16777216
  top_le q e = subst (λ (y : ℕ). y ≤ 16777216) (sym (e ∙ top_is)) (kept_le r (mag * 2 ^ x) 1)

  pub top_cut : (neg : Bool) (q : ℕ) → (mag ≡ 0 → ⊥) → q ≡ whole r (mag * 2 ^ s % 2 ^ 64) (2 ^ 40) → stored neg (mantissa_of q)
      (digits_of q (x + 40 - s)) ≡ cut_size r neg (mag * 2 ^ x) 1
  top_cut neg q nz e =
      ap₂ (λ (y k : ℕ). stored neg (mantissa_of y) (digits_of y k)) (e ∙ top_is) (sym top.1)
      ∙ sym (cut_stored r neg (mag * 2 ^ x) 1 (mul-pos (pos_of_ne-zero nz) (pow_pos x)))

whole_zero : (r : Rule) (d : ℕ) → 0 < d → whole r 0 d ≡ 0
whole_zero Cut d D = zero-div d
whole_zero Nearest d D = whole_same Nearest 0 d 0 1 D (le_refl 1) (zero-mul 1 ∙ sym (zero-mul d))

pub grid_zero : (r : Rule) (d : ℕ) → 0 < d → grid r 0 d ≡ 0
grid_zero r d D = ap (λ (x : ℕ). x * 2 ^ lost 0 d) (whole_zero r (d * 2 ^ lost 0 d) (mul-pos D (pow_pos (lost 0 d)))) ∙ zero-mul (2 ^ lost 0 d)

-- the value of a cut word with no error: its sign, and its magnitude in fine units
pub cut_value : (r : Rule) (s : Bool) (n d : ℕ) → 0 < d → (cut_size r s n d).error ≡ 0
    → (value (cut_size r s n d).word ≡ with_sign s (size88 (cut_size r s n d).word)) × (size88 (cut_size r s n d).word * 2 ^ 112 ≡ grid r n d)
unfolding value
cut_value r s n d D e = go (eq-zero-or-pos n)
  where
    nothing : (b : Bool) → with_sign (negative 0) (size88 0) ≡ with_sign b (size88 0)
    nothing true = unfold size88 in refl
    nothing false = refl

    none : size88 0 * 2 ^ 112 ≡ 0
    none = unfold size88 in refl

    go : (n ≡ 0) ⊎ (0 < n)
        → (with_sign (negative (cut_size r s n d).word) (size88 (cut_size r s n d).word) ≡ with_sign s (size88 (cut_size r s n d).word))
        × (size88 (cut_size r s n d).word * 2 ^ 112 ≡ grid r n d)
    go (inl z) =
        let w : (cut_size r s n d).word ≡ 0 = ap (λ (x : Flagged). x.word) (cut_zero r s n d z) in
        (rw w (nothing s), rw w (none ∙ sym (ap (λ (x : ℕ). grid r x d) z ∙ grid_zero r d D)))
    go (inr p) =
        let q = kept r n d in
        let k = lost n d in
        let st = settled q k (kept_le r n d) in
        let c = cut_stored r s n d p in
        let f = error_kept (digits_of q k) (sym (ap (λ (x : Flagged). x.error) c) ∙ e) in
        let w : (cut_size r s n d).word ≡ packed s (mantissa_of q) (digits_of q k) = ap (λ (x : Flagged). x.word) c in (
          ap (λ (x : Bool). with_sign x (size88 (cut_size r s n d).word)) (ap negative w ∙ packed_sign s (mantissa_of q) (digits_of q k) st.1),
          ap (λ (x : ℕ). size88 x * 2 ^ 112) w ∙ size_kept s (mantissa_of q) (digits_of q k) st.1 f.0 f.1 ∙ st.0,
        )
