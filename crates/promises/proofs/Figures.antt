-- Numbers and charts by computation, bytes and fields by division. Assumes nothing.
use mathlib.Core.Path.{◌≡◌, refl, sym, ap₂, ◌∙◌}
use mathlib.Core.Logic.{⊎_elim}
use mathlib.Core.Bool.{Bool, true, false}
use mathlib.Core.List.{[], ◌∷◌, map}
use Prim.Native.Nat.{ℕ, ◌+◌, ◌-◌, ◌*◌, ◌/◌, ◌%◌, ◌^◌, ◌≤◌, ◌<◌}
use native.Mathlib.Omega.{arith}
use borrow.Author.Tests.{le-leb, lt-leb, ne_eqb}
use lib.IntN.{pos, neg_ℤ}
use Rattle.numbers.specs.Signed.{with_sign}
use Rattle.numbers.proofs.Differences.{either}
use Rattle.float.specs.Word.{negative, biased, mantissa, proper, size88, value}
use Rattle.stack.specs.Stack.{bytes_of, low_first}
use Rattle.codes.specs.Codes.{decoded}
use Rattle.promises.proofs.Measures.{value_is}
use Rattle.promises.specs.Figures.{chart, from, word_with, Figures}

codes : map decoded (from 128 0) ≡ chart
unfolding decoded
codes = refl

-- ---- bytes
two_steps : (x : ℕ) → x / 256 / 256 ≡ x / 65536
two_steps x = omega arith

three_steps : (x : ℕ) → x / 256 / 256 / 256 ≡ x / 16777216
three_steps x = omega arith

four : (x : ℕ) → (bytes_of 4 x ≡ x / 16777216 % 256 ∷ x / 65536 % 256 ∷ x / 256 % 256 ∷ x % 256 ∷ [])
    × (low_first 4 x ≡ x % 256 ∷ x / 256 % 256 ∷ x / 65536 % 256 ∷ x / 16777216 % 256 ∷ [])
four x = (
  ap₂ (λ (u v : ℕ). u % 256 ∷ v % 256 ∷ x / 256 % 256 ∷ x % 256 ∷ []) (three_steps x) (two_steps x),
  ap₂ (λ (u v : ℕ). x % 256 ∷ x / 256 % 256 ∷ v % 256 ∷ u % 256 ∷ []) (three_steps x) (two_steps x),
)

-- ---- the fields of a float word, the sign as a number
module _ (s k m : ℕ) (S : s ≤ 1) (K : k < 128) (M : m < 16777216) where
  abbrev at : ℕ
  at = s * 2147483648 + (k + 64) % 128 * 16777216 + m

  digits_are : at % 16777216 ≡ m
  digits_are = omega arith

  places_are : (at / 16777216 + 64) % 128 ≡ k
  places_are =
      let j : at / 16777216 ≡ s * 128 + (k + 64) % 128 = omega arith in
      omega arith

-- the value of a word by its fields
value_by : (w k m : ℕ) (sign : Bool) → negative w ≡ sign → biased w ≡ k → mantissa w ≡ m → value w ≡ with_sign sign (m * 2 ^ k)
unfolding value size88
value_by w k m sign a b c = rw (a, b, c)

positive : (k m : ℕ) → k < 128 → m < 16777216 → value (word_with false k m) ≡ pos (m * 2 ^ k)
positive k m K M =
    let small : (k + 64) % 128 * 16777216 + m < 2147483648 = omega arith in
    value_by (word_with false k m) k m false (lt-leb 2147483648 (word_with false k m) (omega arith)) (places_are 0 k m (omega arith) K M)
    (digits_are 0 k m (omega arith) K M)

minus : (k m : ℕ) → k < 128 → m < 16777216 → value (word_with true k m) ≡ neg_ℤ (pos (m * 2 ^ k))
minus k m K M =
    value_by (word_with true k m) k m true (le-leb 2147483648 (word_with true k m) (omega arith)) (places_are 1 k m (omega arith) K M)
    (digits_are 1 k m (omega arith) K M)

-- every word has fields
below_half : (w : ℕ) → w < 2147483648 → w ≡ ((w / 16777216 + 64) % 128 + 64) % 128 * 16777216 + w % 16777216
below_half w h =
    let j : w / 16777216 < 128 = omega arith in
    let b : ((w / 16777216 + 64) % 128 + 64) % 128 ≡ w / 16777216 = omega arith in
    omega arith

fields : (w : ℕ) → w < 4294967296 → (sign : Bool) × (k : ℕ) × (m : ℕ) × (k < 128) × (m < 16777216) × (w ≡ word_with sign k m)
fields w h =
    ⊎_elim
    (λ (i : w < 2147483648). (false, (w / 16777216 + 64) % 128, w % 16777216, omega arith, omega arith, let e = below_half w i in omega arith))
    (λ (i : 2147483648 ≤ w).
    let v = w - 2147483648 in
    let e = below_half v (omega arith) in
    (true, (v / 16777216 + 64) % 128, v % 16777216, omega arith, omega arith, omega arith))
    (either w 2147483648)

-- proper words
leading : (w : ℕ) → 8388608 ≤ w % 16777216 → proper w ≡ true
leading w h = rw (le-leb 8388608 (w % 16777216) h)

not_leading : (w : ℕ) → w % 16777216 < 8388608 → (w ≡ 0 → ⊥) → proper w ≡ false
not_leading w h n = rw (lt-leb 8388608 (w % 16777216) h, ne_eqb w 0 n)

mantissa_is : (sign : Bool) (k m : ℕ) → m < 16777216 → word_with sign k m % 16777216 ≡ m
mantissa_is true k m M = omega arith
mantissa_is false k m M = omega arith

-- ---- the statement
pub figures : Figures
figures = record {
  widths = (refl, refl, refl, refl);
  refusals = refl;
  codes = codes;
  two_bytes = λ x. (refl, refl);
  four_bytes_lem = λ x. four x;
  words_read = λ a b c d l. (omega arith, omega arith);
  float_value = λ k m K M. (sym (value_is (word_with false k m)) ∙ positive k m K M, sym (value_is (word_with true k m)) ∙ minus k m K M);
  every_word = λ w h. fields w h;
  proper_is = λ sign k m M h. leading (word_with sign k m) (let e = mantissa_is sign k m M in omega arith);
  proper_zero = refl;
  improper_is = λ w h n. not_leading w h n;
  error_bits = λ sign zero error carry a b c d. omega arith;
}
