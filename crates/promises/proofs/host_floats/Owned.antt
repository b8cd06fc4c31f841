-- An f64 of a proper word's value, zero aside, has that word's own bits, since a number of 53 digits stands at one place only; and either rule brings it to
-- that word. Assumes nothing.
use mathlib.Core.Path.{◌≡◌, sym, ap, ap₂, ◌∙◌}
use mathlib.Core.Logic.{⊎_elim}
use mathlib.Core.Bool.{Bool, false}
use Prim.Native.Nat.{ℕ, ◌+◌, ◌-◌, ◌*◌, ◌%◌, ◌^◌, ◌≤◌, ◌<◌}
use native.Mathlib.Nat.{eq_of_mul-eq-mul_right, mul_assoc, mul_right_comm, mul-le-mul, mod-lt}
use native.Mathlib.Omega.{arith}
use lib.Dec.{lit<}
use lib.IntN.{pos, ◌*ℤ◌}
use lib.Pow.{pow-add, pow_pos, pow_mono}
use lib.Ieee.{Float, nan, inf, fin, up, down, binary64, of_bits}
use lib.Ieee.Exact.{HasValue}
use lib.Ieee.Fits.{down_pos}
use Rattle.numbers.specs.Signed.{with_sign}
use Rattle.numbers.proofs.Differences.{either}
use Rattle.numbers.proofs.Signs.{times}
use Rattle.terms.specs.declared.Rule.{Rule}
use Rattle.float.specs.Word.{negative, biased, mantissa, size88, value}
use Rattle.promises.specs.FloatWords.{FloatWord}
use Rattle.float.proofs.cut.Signs.{alone}
use Rattle.promises.proofs.float.Kept.{own_value}
use Rattle.host_floats.specs.Double.{double_sign, double_field, double_fraction, double_bits, brought_of}
use Rattle.host_floats.proofs.Patterns.{joined, leading_many, bits_value, rejoined}
use Rattle.host_floats.proofs.WordSizes.{proper_cases}
use Rattle.host_floats.proofs.Outward.{not_zero}
use Rattle.host_floats.proofs.DoubleOut.{double_some}
use Rattle.host_floats.proofs.DoubleIn.{double_size}

word_times : (w d : ℕ) → value w *ℤ pos d ≡ with_sign (negative w) (size88 w * d)
unfolding value
word_times w d = times (negative w) false (size88 w) d ∙ alone (negative w) (size88 w * d)

-- ---- one float's value written in two ways
pub two_values : (x : Float) (s t : Bool) (a b c d : ℕ) → HasValue x s a c → HasValue x t b d → (s ≡ t) × (a * d ≡ b * c)
two_values nan s t a b c d h k = absurd h
two_values (inf z) s t a b c d h k = absurd h
two_values (fin z m e) s t a b c d h k = (
  sym h.0 ∙ k.0,
  eq_of_mul-eq-mul_right (down e) (down_pos e) (a * d) (b * c)
      (mul_right_comm a d (down e) ∙ ap (λ (y : ℕ). y * d) (sym h.1) ∙ mul_right_comm (m * up e) c d ∙ ap (λ (y : ℕ). y * c) k.1
      ∙ mul_right_comm b (down e) c),
)

-- ---- a number of 53 digits at a place: no other has its size
not_higher : (x y i j : ℕ) → x < 2 ^ 53 → 2 ^ 52 ≤ y → i < j → x * 2 ^ i ≡ y * 2 ^ j → ⊥
not_higher x y i j h l g e =
    let p : y * 2 ^ j ≡ y * 2 ^ (j - i) * 2 ^ i = ap (λ (z : ℕ). y * z) (ap (λ (z : ℕ). 2 ^ z) (count g) ∙ pow-add 2 (j - i) i)
    ∙ sym (mul_assoc y (2 ^ (j - i)) (2 ^ i)) in
    let q : x ≡ y * 2 ^ (j - i) = eq_of_mul-eq-mul_right (2 ^ i) (pow_pos i) x (y * 2 ^ (j - i)) (e ∙ p) in
    let r : 2 ^ 52 * 2 ^ 1 ≤ y * 2 ^ (j - i) = mul-le-mul l (pow_mono {i = 1} {j = j - i} (omega arith)) in
    omega arith
  where
    count : i < j → j ≡ j - i + i
    count g = omega arith

one_place : (x y i j : ℕ) → 2 ^ 52 ≤ x → x < 2 ^ 53 → 2 ^ 52 ≤ y → y < 2 ^ 53 → x * 2 ^ i ≡ y * 2 ^ j → (i ≡ j) × (x ≡ y)
one_place x y i j a b c d e = ⊎_elim
    (λ (l : i < j). absurd (not_higher x y i j b c l e))
    (λ (l : j ≤ i). ⊎_elim (λ (g : j < i). absurd (not_higher y x j i d a g (sym e))) (λ (g : i ≤ j). level (omega arith)) (either j i))
    (either i j)
  where
    level : i ≡ j → (i ≡ j) × (x ≡ y)
    level p = (p, eq_of_mul-eq-mul_right (2 ^ i) (pow_pos i) x y (e ∙ ap (λ (z : ℕ). y * 2 ^ z) (sym p)))

-- ---- the value of an f64 with a field of 1 to 2046
pub normal_value : (p : ℕ) → 0 < double_field p → double_field p < 2047 → HasValue (of_bits binary64 p) (double_sign p) (double_size p) (2 ^ 1074)
normal_value p l h = rw (leading_many binary64 (double_field p) (double_fraction p) l) at (bits_value binary64 p h)

module _ (p w : ℕ) (P : p < 2 ^ 64) (W : FloatWord w) (lo : 0 < double_field p) (hi : double_field p < 2047) (v : HasValue (of_bits binary64 p) (negative w)
    (size88 w) (2 ^ 88)) where
  both : (negative w ≡ double_sign p) × (size88 w * 2 ^ 1074 ≡ double_size p * 2 ^ 88)
  both = two_values (of_bits binary64 p) (negative w) (double_sign p) (size88 w) (double_size p) (2 ^ 88) (2 ^ 1074) v (normal_value p lo hi)

  -- either rule brings it to the word
  pub own_cut : (rule : Rule) → brought_of rule p ≡ record { word = w; error = 0 }
  own_cut rule =
      own_value rule w (with_sign (double_sign p) (double_size p)) (2 ^ 1074) W (pow_pos 1074)
      (word_times w (2 ^ 1074)
      ∙ ap₂ with_sign both.0 both.1
      ∙ sym (times (double_sign p) false (double_size p) (2 ^ 88) ∙ alone (double_sign p) (double_size p * 2 ^ 88)))

  -- the sizes as numbers of 53 digits
  placed : mantissa w * 2 ^ 29 * 2 ^ (biased w + 957) ≡ (2 ^ 52 + double_fraction p) * 2 ^ (double_field p - 1)
  placed =
      eq_of_mul-eq-mul_right (2 ^ 88) (pow_pos 88) (mantissa w * 2 ^ 29 * 2 ^ (biased w + 957)) ((2 ^ 52 + double_fraction p) * 2 ^ (double_field p - 1))
      (spread (mantissa w) (biased w) ∙ (unfold size88 in both.1))
    where
      count : (b : ℕ) → 29 + (b + 957) + 88 ≡ b + 1074
      count b = omega arith

      spread : (m b : ℕ) → m * 2 ^ 29 * 2 ^ (b + 957) * 2 ^ 88 ≡ m * 2 ^ b * 2 ^ 1074
      spread m b =
          ap (λ (x : ℕ). x * 2 ^ 88) (mul_assoc m (2 ^ 29) (2 ^ (b + 957)) ∙ ap (λ (x : ℕ). m * x) (sym (pow-add 2 29 (b + 957))))
          ∙ mul_assoc m (2 ^ (29 + (b + 957))) (2 ^ 88)
          ∙ ap (λ (x : ℕ). m * x) (sym (pow-add 2 (29 + (b + 957)) 88) ∙ ap (λ (x : ℕ). 2 ^ x) (count b) ∙ pow-add 2 b 1074)
          ∙ sym (mul_assoc m (2 ^ b) (2 ^ 1074))

  some : 8388608 ≤ mantissa w
  some = ⊎_elim (λ (l : 8388608 ≤ mantissa w). l) (λ (z : w ≡ 0). absurd (none z)) (proper_cases w W.is_proper)
    where
      none : w ≡ 0 → ⊥
      none z =
          let a : mantissa w * 2 ^ 29 * 2 ^ (biased w + 957) ≡ 0 = ap (λ (x : ℕ). mantissa x * 2 ^ 29 * 2 ^ (biased x + 957)) z in
          let b : 1 * 1 ≤ (2 ^ 52 + double_fraction p) * 2 ^ (double_field p - 1) =
          mul-le-mul {n₁ = 1} {m₁ = 1} {n₂ = 2 ^ 52 + double_fraction p} {m₂ = 2 ^ (double_field p - 1)} (omega arith) (pow_pos (double_field p - 1)) in
          let c = placed in
          omega arith

  pub own_bits : double_bits w ≡ p
  own_bits =
      let s = some in
      let m24 : mantissa w < 16777216 = mod-lt w (lit< tt) in
      let f52 : double_fraction p < 2 ^ 52 = mod-lt p (pow_pos 52) in
      let q = one_place (mantissa w * 2 ^ 29) (2 ^ 52 + double_fraction p) (biased w + 957) (double_field p - 1) (omega arith) (omega arith) (omega arith)
      (omega arith) placed in
      let i = q.0 in
      let x = q.1 in
      let l = lo in
      double_some w (not_zero w some)
      ∙ ap (λ (t : Bool). joined binary64 t (biased w + 958) (mantissa w % 2 ^ 23 * 2 ^ 29)) both.0
      ∙ ap₂ (λ (y z : ℕ). joined binary64 (double_sign p) y z) (omega arith) (omega arith)
      ∙ rejoined binary64 p P
