-- The pair of a magnitude under either rule: it is the same however the fraction is written; that of a word's own value is its mantissa and its exponent;
-- a magnitude of 2 ^ 63 or more has a pair that reaches 2 ^ 63, and a pair that reaches it is of a magnitude of 2 ^ 62 or more. Assumes nothing.
use mathlib.Core.Path.{◌≡◌, sym, ap, ◌∙◌, subst, subst₂}
use mathlib.Core.Logic.{⊎_elim}
use Prim.Native.Nat.{ℕ, suc, ◌+◌, ◌-◌, ◌*◌, ◌^◌, ◌≤◌, ◌<◌}
use native.Mathlib.Nat.{le_trans, le_of_eq, le_of_lt, lt_of_lt_of_le, lt_of_le_of_lt, not-le_of_lt, mul_assoc, mul_comm, mul_right_comm, mul-pos, mul-le-mul}
use native.Mathlib.Nat.{mul-le-mul_left, mul-le-mul_right, mul-lt-mul_of_pos_right, le_of_mul-le-mul_right, lt_of_mul-lt-mul_right, mod-lt}
use native.Mathlib.Omega.{arith}
use lib.Dec.{lit<}
use lib.IntN.{ℤ, pos, negsuc, ◌-ℤ◌}
use lib.Signed.{◌≤ℤ◌}
use lib.Pow.{pow_pos, pow_mono}
use lib.Ieee.{up, down}
use lib.Ieee.Fits.{up_pos, down_pos}
use Rattle.numbers.proofs.Differences.{either, above, beneath, parts, le_parts, sub_ge, less_difference}
use Rattle.terms.specs.declared.Rule.{Rule}
use Rattle.terms.specs.declared.Rule.TheVariants.{Cut, Nearest}
use Rattle.float.specs.Word.{mantissa, exponent, size88}
use Rattle.promises.proofs.float.OnePair.{last_place}
use Rattle.promises.proofs.float.NearPair.{mark_least, mark_more, least_or_more}
use Rattle.promises.proofs.float.RulePair.{rescaled}
use Rattle.promises.proofs.float.Moved.{word_size}
use Rattle.promises.proofs.float.Steps.{size-lt}
use Rattle.promises.specs.FloatResults.{below_mark, above_mark, Between, PairBy}

-- ---- one fraction written in two ways
exchanged : (c u d : ℕ) → c * u * d ≡ d * u * c
exchanged c u d = mul_right_comm c u d ∙ ap (λ (x : ℕ). x * u) (mul_comm c d) ∙ mul_right_comm d c u

module _ (a c b d m : ℕ) (e : ℤ) (C : 0 < c) (D : 0 < d) (same : a * d ≡ b * c) where
  numbers : (y : ℕ) → a * y * d ≡ b * y * c
  numbers y = mul_right_comm a y d ∙ ap (λ (x : ℕ). x * y) same ∙ mul_right_comm b c y

  units : (k y : ℕ) → k * (c * y) * d ≡ k * (d * y) * c
  units k y = mul_assoc k (c * y) d ∙ ap (λ (x : ℕ). k * x) (exchanged c y d) ∙ sym (mul_assoc k (d * y) c)

  abbrev U : ℕ
  U = up (last_place e)

  abbrev Y : ℕ
  Y = down (last_place e)

  pub pair_same : (r : Rule) → PairBy r a c m e → PairBy r b d m e
  pair_same Cut p =
      record {
        low = p.low;
        high = p.high;
        reached = le_of_mul-le-mul_right (subst₂ (λ (x y : ℕ). x ≤ y) (units m U) (numbers Y) (mul-le-mul_right d p.reached)) C;
        passed = lt_of_mul-lt-mul_right c (subst₂ (λ (x y : ℕ). x < y) (numbers Y) (units (m + 1) U) (mul-lt-mul_of_pos_right p.passed D));
      }
  pair_same Nearest p =
      record {
        low = p.low;
        high = p.high;
        marks = rescaled 4 (below_mark m) (above_mark m) m (a * Y) (c * U) (b * Y) (d * U) d c D C (numbers Y) (exchanged c U d) p.marks;
      }

-- ---- the marks of m
below_lt : (m : ℕ) → 8388608 ≤ m → below_mark m < 4 * m
below_lt m h = ⊎_elim
    (λ (e : m ≡ 8388608). subst (λ (x : ℕ). x < 4 * m) (sym (mark_least m e)) (omega arith))
    (λ (l : 8388608 < m). subst (λ (x : ℕ). x < 4 * m) (sym (mark_more m l)) (omega arith))
    (least_or_more m h)

below_ge : (m : ℕ) → 8388608 ≤ m → 2 * m ≤ below_mark m
below_ge m h = ⊎_elim
    (λ (e : m ≡ 8388608). subst (λ (x : ℕ). 2 * m ≤ x) (sym (mark_least m e)) (omega arith))
    (λ (l : 8388608 < m). subst (λ (x : ℕ). 2 * m ≤ x) (sym (mark_more m l)) (omega arith))
    (least_or_more m h)

-- ---- a word's own pair
at_itself : (n u m : ℕ) → 0 < u → 8388608 ≤ m → n ≡ m * u → Between (4 * n) (below_mark m * u) (above_mark m * u) m
at_itself n u m U h e =
    let f : 4 * n ≡ 4 * m * u = ap (λ (x : ℕ). 4 * x) e ∙ sym (mul_assoc 4 m u) in
    let under : below_mark m * u < 4 * n = subst (λ (x : ℕ). below_mark m * u < x) (sym f) (mul-lt-mul_of_pos_right (below_lt m h) U) in
    let over : 4 * n < above_mark m * u = subst (λ (x : ℕ). x < above_mark m * u) (sym f) (mul-lt-mul_of_pos_right (omega arith) U) in
    record {
      reached = le_of_lt under;
      passed = le_of_lt over;
      low_even = λ g. absurd (not-le_of_lt under g);
      high_even = λ g. absurd (not-le_of_lt over g);
    }

pub own_pair : (r : Rule) (w : ℕ) → 8388608 ≤ mantissa w → PairBy r (size88 w) (2 ^ 88) (mantissa w) (exponent w)
own_pair Cut w h =
    let u = 2 ^ 88 * up (exponent w -ℤ pos 24) in
    let U : 0 < u = mul-pos (pow_pos 88) (up_pos (exponent w -ℤ pos 24)) in
    let more : mantissa w < mantissa w + 1 = omega arith in
    record {
      low = h;
      high = mod-lt w (lit< tt);
      reached = le_of_eq (sym (word_size w));
      passed = subst (λ (x : ℕ). x < (mantissa w + 1) * u) (sym (word_size w)) (mul-lt-mul_of_pos_right more U);
    }
own_pair Nearest w h = record {
  low = h;
  high = mod-lt w (lit< tt);
  marks = at_itself (size88 w * down (exponent w -ℤ pos 24)) (2 ^ 88 * up (exponent w -ℤ pos 24)) (mantissa w)
      (mul-pos (pow_pos 88) (up_pos (exponent w -ℤ pos 24))) h (word_size w);
}

-- ---- against 2 ^ 63
-- m * 2 ^ x is 2 ^ 63 or more
abbrev pub Reaches : ℕ → ℤ → Type 0
Reaches m x = 2 ^ 63 * down x ≤ m * up x

-- a number of 24 digits at a place where 2 ^ 24 passes 2 ^ 63
reaches_at : (m : ℕ) (x : ℤ) → 8388608 ≤ m → 2 ^ 63 * down x < 2 ^ 24 * up x → Reaches m x
reaches_at m (pos k) h l = ⊎_elim
    (λ (g : k < 40). absurd (not-le_of_lt l (mul-le-mul_left (2 ^ 24) (pow_mono {i = k} {j = 39} (omega arith)))))
    (λ (g : 40 ≤ k). mul-le-mul h (pow_mono {i = 40} {j = k} g))
    (either k 40)
reaches_at m (negsuc k) h l =
    absurd (not-le_of_lt l (le_trans (pow_mono {i = 24} {j = 63} (omega arith)) (mul-le-mul_left (2 ^ 63) (pow_pos (suc k)))))

pub exponent_reaches : (m : ℕ) (e : ℤ) → 8388608 ≤ m → pos 64 ≤ℤ e → Reaches m (e -ℤ pos 24)
exponent_reaches m e h l =
    let b : 64 + beneath e ≤ above e + 0 = le_parts (pos 64) e l in
    let k = above e - (beneath e + 24) in
    let f : e -ℤ pos 24 ≡ pos k = ap (λ (z : ℤ). z -ℤ pos 24) (parts e) ∙ less_difference (above e) (beneath e) 24
    ∙ sub_ge (above e) (beneath e + 24) (omega arith) in
    subst (Reaches m) (sym f) (mul-le-mul h (pow_mono {i = 40} {j = k} (omega arith)))

-- the magnitude n / d against m * u / y, with d taken out
module _ (n d m u y : ℕ) (D : 0 < d) (Y : 0 < y) where
  passes : 2 ^ 63 * d * y < 2 ^ 24 * (d * u) → 2 ^ 63 * y < 2 ^ 24 * u
  passes h =
      lt_of_mul-lt-mul_right d
      (subst₂ (λ (a b : ℕ). a < b) (mul_right_comm (2 ^ 63) d y) (sym (mul_assoc (2 ^ 24) d u) ∙ mul_right_comm (2 ^ 24) d u) h)

  reached_times : 2 ^ 63 * y ≤ m * u → 2 ^ 63 * d * y ≤ m * (d * u)
  reached_times h =
      subst₂ (λ (a b : ℕ). a ≤ b) (mul_right_comm (2 ^ 63) y d) (mul_assoc m u d ∙ ap (λ (x : ℕ). m * x) (mul_comm u d)) (mul-le-mul_right d h)

  cut_passes : m < 2 ^ 24 → n * y < (m + 1) * (d * u) → 2 ^ 63 * d ≤ n → 2 ^ 63 * y < 2 ^ 24 * u
  cut_passes h p l =
      let few : m + 1 ≤ 2 ^ 24 = omega arith in
      passes (lt_of_le_of_lt (mul-le-mul_right y l) (lt_of_lt_of_le p (mul-le-mul_right (d * u) few)))

  near_passes : 0 < u → m < 2 ^ 24 → 4 * (n * y) ≤ above_mark m * (d * u) → 2 ^ 63 * d ≤ n → 2 ^ 63 * y < 2 ^ 24 * u
  near_passes U h p l =
      let few : 4 * m + 2 < 4 * 2 ^ 24 = omega arith in
      let a : 2 ^ 63 * d * y ≤ n * y = mul-le-mul_right y l in
      let b : above_mark m * (d * u) < 4 * 2 ^ 24 * (d * u) = mul-lt-mul_of_pos_right few (mul-pos D U) in
      let c : 4 * 2 ^ 24 * (d * u) ≡ 4 * (2 ^ 24 * (d * u)) = mul_assoc 4 (2 ^ 24) (d * u) in
      passes (omega arith)

  cut_large : m * (d * u) ≤ n * y → 2 ^ 63 * y ≤ m * u → 2 ^ 62 * d ≤ n
  cut_large p h =
      let a : 2 ^ 63 * d ≤ n = le_of_mul-le-mul_right (le_trans (reached_times h) p) Y in
      omega arith

  near_large : 8388608 ≤ m → below_mark m * (d * u) ≤ 4 * (n * y) → 2 ^ 63 * y ≤ m * u → 2 ^ 62 * d ≤ n
  near_large l p h =
      let a : 2 * m * (d * u) ≤ below_mark m * (d * u) = mul-le-mul_right (d * u) (below_ge m l) in
      let b : 2 * m * (d * u) ≡ 2 * (m * (d * u)) = mul_assoc 2 m (d * u) in
      let c = reached_times h in
      let f : 2 ^ 63 * d * y ≤ 2 * n * y = subst (λ (x : ℕ). 2 ^ 63 * d * y ≤ x) (sym (mul_assoc 2 n y)) (omega arith) in
      let g : 2 ^ 63 * d ≤ 2 * n = le_of_mul-le-mul_right f Y in
      omega arith

module _ (n d m : ℕ) (e : ℤ) (D : 0 < d) where
  -- a magnitude of 2 ^ 63 or more has a pair that reaches it
  pub pair_reaches : (r : Rule) → PairBy r n d m e → 2 ^ 63 * d ≤ n → Reaches m (e -ℤ pos 24)
  pair_reaches Cut p l = let x = e -ℤ pos 24 in reaches_at m x p.low (cut_passes n d m (up x) (down x) D (down_pos x) p.high p.passed l)
  pair_reaches Nearest p l =
      let x = e -ℤ pos 24 in
      reaches_at m x p.low (near_passes n d m (up x) (down x) D (down_pos x) (up_pos x) p.high p.marks.passed l)

  -- one that reaches it is of a magnitude of 2 ^ 62 or more
  pub reaches_large : (r : Rule) → PairBy r n d m e → Reaches m (e -ℤ pos 24) → 2 ^ 62 * d ≤ n
  reaches_large Cut p h = let x = e -ℤ pos 24 in cut_large n d m (up x) (down x) D (down_pos x) p.reached h
  reaches_large Nearest p h = let x = e -ℤ pos 24 in near_large n d m (up x) (down x) D (down_pos x) p.low p.marks.reached h

-- no word's own value reaches it
pub word_below : (w : ℕ) → Reaches (mantissa w) (exponent w -ℤ pos 24) → ⊥
word_below w h =
    let x = exponent w -ℤ pos 24 in
    let a : 2 ^ 63 * down x * 2 ^ 88 ≤ mantissa w * up x * 2 ^ 88 = mul-le-mul_right (2 ^ 88) h in
    let b : mantissa w * up x * 2 ^ 88 ≡ size88 w * down x = mul_assoc (mantissa w) (up x) (2 ^ 88) ∙ ap (λ (k : ℕ). mantissa w * k) (mul_comm (up x) (2 ^ 88))
    ∙ sym (word_size w) in
    let c : 2 ^ 63 * 2 ^ 88 * down x ≤ size88 w * down x = subst₂ (λ (i j : ℕ). i ≤ j) (mul_right_comm (2 ^ 63) (down x) (2 ^ 88)) b a in
    not-le_of_lt (size-lt w) (le_of_mul-le-mul_right {m = 2 ^ 63 * 2 ^ 88} c (down_pos x))
