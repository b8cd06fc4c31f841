-- The words of a formula's leaves are of 32 bits, and those that are proper are float words. Assumes nothing.
use mathlib.Core.Path.{◌≡◌, sym, ap, ◌∙◌, subst}
use mathlib.Core.Bool.{true}
use mathlib.Core.Logic.{⊎_elim}
use mathlib.Core.List.{List, [], ◌∷◌}
use Prim.Native.Nat.{ℕ, ◌+◌, ◌*◌, ◌^◌, ◌<◌}
use native.Mathlib.Omega.{arith}
use native.Mathlib.Nat.{mul_assoc, mul_comm, pow-suc}
use borrow.Author.Tests.{le-leb, lt-leb}
use lib.ListN.{length, take, drop, length-drop}
use lib.Seq.{length-take-le}
use Rattle.numbers.proofs.Differences.{either}
use Rattle.float.specs.Word.{FloatWord}
use Rattle.stack.specs.Stack.{Bytes}
use Rattle.stack.proofs.Words.{number_below, bytes_take, bytes_drop}
use Rattle.formula.specs.Formula.{Formula, Letter, Constant, Minus, Brackets, Joined}
use Rattle.formula.specs.Grammar.{is_digit, are_digits, IsSum, product, plus, less, IsProduct, factor, times, over, IsFactor, letter, constant, minus, brackets}
use Rattle.formula.specs.File.{letter_word, digit_value, hex_from, constant_word, proper_in}
use Rattle.formula.proofs.Digits.{both, digit_below, digit_above}

digit_lt : (b : ℕ) → is_digit b ≡ true → digit_value b < 16
digit_lt b h = ⊎_elim
    (λ i. let j = digit_above b h i in rw (lt-leb b 0x39 i) (omega arith))
    (λ i. let j = digit_below b h i in rw (le-leb b 0x39 i) (omega arith))
    (either 0x39 b)

hex_lt : (a k : ℕ) (s : List ℕ) → a < k → are_digits s ≡ true → hex_from a s < k * 16 ^ length s
hex_lt a k [] h d = omega arith
hex_lt a k (b ∷ s) h d =
    let e = both (is_digit b) (are_digits s) d in
    let v = digit_lt b e.0 in
    let more : k * 16 * 16 ^ length s ≡ k * 16 ^ length (b ∷ s) = mul_assoc k 16 (16 ^ length s) ∙ ap (λ (x : ℕ). k * x) (mul_comm 16 (16 ^ length s)
    ∙ sym (pow-suc 16 (length s))) in
    subst (λ (x : ℕ). hex_from (a * 16 + digit_value b) s < x) more (hex_lt (a * 16 + digit_value b) (k * 16) s (omega arith) e.1)

constant_lt : (s : List ℕ) → length s ≡ 8 → are_digits s ≡ true → constant_word s < 2 ^ 32
constant_lt s n d = let h = hex_lt 0 1 s (omega arith) d in let e : 16 ^ length s ≡ 4294967296 = ap (λ (k : ℕ). 16 ^ k) n in omega arith

letter_lt : (letters : List ℕ) (k : ℕ) → length letters ≡ 32 → Bytes letters → k < 8 → letter_word letters k < 2 ^ 32
unfolding letter_word
letter_lt letters k n B h =
    let l = take 4 (drop (4 * k) letters) in
    let m : length l ≡ 4 = length-take-le 4 (drop (4 * k) letters) (omega (arith, length-drop (4 * k) letters)) in
    let b = number_below l (bytes_take 4 (drop (4 * k) letters) (bytes_drop (4 * k) letters B)) in
    let e : 256 ^ length l ≡ 4294967296 = ap (λ (i : ℕ). 256 ^ i) m in
    omega arith

-- every leaf has a float word
abbrev pub Leaves : List ℕ → Formula → Type 0
Leaves letters (Letter k) = FloatWord (letter_word letters k)
Leaves letters (Constant s) = FloatWord (constant_word s)
Leaves letters (Minus f) = Leaves letters f
Leaves letters (Brackets f) = Leaves letters f
Leaves letters (Joined o l r) = Leaves letters l × Leaves letters r

module _ (letters : List ℕ) (n : length letters ≡ 32) (B : Bytes letters) where
  mutual
    unfolding proper_in

    sum_leaves : {s : List ℕ} {f : Formula} → IsSum s f → proper_in letters f ≡ true → Leaves letters f
    sum_leaves (product p) h = product_leaves p h
    sum_leaves (plus {f = f} {g = g} p q e) h = let t = both (proper_in letters f) (proper_in letters g) h in (sum_leaves p t.0, product_leaves q t.1)
    sum_leaves (less {f = f} {g = g} p q e) h = let t = both (proper_in letters f) (proper_in letters g) h in (sum_leaves p t.0, product_leaves q t.1)

    product_leaves : {s : List ℕ} {f : Formula} → IsProduct s f → proper_in letters f ≡ true → Leaves letters f
    product_leaves (factor p) h = factor_leaves p h
    product_leaves (times {f = f} {g = g} p q e) h = let t = both (proper_in letters f) (proper_in letters g) h
        in (product_leaves p t.0, factor_leaves q t.1)
    product_leaves (over {f = f} {g = g} p q e) h = let t = both (proper_in letters f) (proper_in letters g) h
        in (product_leaves p t.0, factor_leaves q t.1)

    factor_leaves : {s : List ℕ} {f : Formula} → IsFactor s f → proper_in letters f ≡ true → Leaves letters f
    factor_leaves (letter {k = k} i e) h = record { fits = letter_lt letters k n B i; is_proper = h }
    factor_leaves (constant {s = s} i d e) h = record { fits = constant_lt s i d; is_proper = h }
    factor_leaves (minus p e) h = factor_leaves p h
    factor_leaves (brackets p e) h = sum_leaves p h

  pub leaves : {s : List ℕ} {f : Formula} → IsSum s f → proper_in letters f ≡ true → Leaves letters f
  leaves p h = sum_leaves p h
