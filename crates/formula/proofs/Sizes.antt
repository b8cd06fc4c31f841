-- A file has at most 13 bytes for two of the text, and 3 more for a text of an odd number: a leaf that is a letter has 8 bytes for one, a sign or a minus 5 for
-- one. Assumes nothing.
use mathlib.Core.Path.{◌≡◌, refl, ap, ◌∙◌}
use mathlib.Core.List.{List, [], ◌∷◌, ◌++◌}
use Prim.Native.Nat.{ℕ, zero, suc, ◌+◌, ◌*◌, ◌%◌, ◌≤◌, ◌<◌}
use native.Mathlib.Omega.{arith}
use native.Mathlib.Nat.{mod-lt}
use lib.ListN.{length, length-append}
use Rattle.stack.specs.Stack.{Bytes}
use Rattle.stack.proofs.Words.{bytes_append}
use Rattle.formula.specs.Formula.{Operator, Plus, Less, Times, Over, Formula, Letter, Constant, Minus, Brackets, Joined}
use Rattle.formula.specs.Grammar.{IsSum, product, plus, less, IsProduct, factor, times, over, IsFactor, letter, constant, minus, brackets}
use Rattle.formula.specs.File.{code_of, push_record, command_record, minus_code, file_of}

abbrev Most : ℕ → ℕ → Type 0
Most file text = 2 * file ≤ 13 * text + 3 * (text % 2)

-- two operands and a sign: of two odd numbers and one the sum is odd
odd : (s t : ℕ) → s % 2 ≡ 1 → t % 2 ≡ 1 → (s + (t + 1)) % 2 ≡ 1
odd s t p q = omega arith

joined_most : (a b s t : ℕ) → Most a s → Most b t → Most (a + (b + 5)) (s + (t + 1))
joined_most a b s t p q = go (s % 2) refl (t % 2) refl (mod-lt s {m = 2} (omega arith)) (mod-lt t {m = 2} (omega arith))
  where
    go : (x : ℕ) → s % 2 ≡ x → (y : ℕ) → t % 2 ≡ y → x < 2 → y < 2 → Most (a + (b + 5)) (s + (t + 1))
    go zero h y k i j = omega arith
    go (suc x) h zero k i j = omega arith
    go (suc zero) h (suc zero) k i j = let o = odd s t h k in omega arith
    go (suc zero) h (suc (suc y)) k i j = absurd (omega arith)
    go (suc (suc x)) h (suc y) k i j = absurd (omega arith)

joined_length : (letters : List ℕ) (o : Operator) (f g : Formula) {text : List ℕ} (s t : List ℕ) (sign : ℕ) → text ≡ s ++ (sign ∷ t)
    → Most (length (file_of letters f)) (length s) → Most (length (file_of letters g)) (length t)
    → Most (length (file_of letters (Joined o f g))) (length text)
unfolding file_of
joined_length letters o f g {text} s t sign e p q =
    let a = file_of letters f in
    let b = file_of letters g in
    let n : length (a ++ (b ++ command_record (code_of o))) ≡ length a + (length b + 5) = length-append a (b ++ command_record (code_of o))
    ∙ ap (λ (k : ℕ). length a + k) (length-append b (command_record (code_of o))) in
    let m : length text ≡ length s + (length t + 1) = ap length e ∙ length-append s (sign ∷ t) ∙ omega arith in
    rw (n, m) (joined_most (length a) (length b) (length s) (length t) p q)

module _ (letters : List ℕ) where
  mutual
    unfolding file_of

    sum_most : {s : List ℕ} {f : Formula} → IsSum s f → Most (length (file_of letters f)) (length s)
    sum_most (product p) = product_most p
    sum_most (plus {s = s} {t = t} {f = f} {g = g} p q e) = joined_length letters Plus f g s t 0x2B e (sum_most p) (product_most q)
    sum_most (less {s = s} {t = t} {f = f} {g = g} p q e) = joined_length letters Less f g s t 0x2D e (sum_most p) (product_most q)

    product_most : {s : List ℕ} {f : Formula} → IsProduct s f → Most (length (file_of letters f)) (length s)
    product_most (factor p) = factor_most p
    product_most (times {s = s} {t = t} {f = f} {g = g} p q e) = joined_length letters Times f g s t 0x2A e (product_most p) (factor_most q)
    product_most (over {s = s} {t = t} {f = f} {g = g} p q e) = joined_length letters Over f g s t 0x2F e (product_most p) (factor_most q)

    factor_most : {s : List ℕ} {f : Formula} → IsFactor s f → Most (length (file_of letters f)) (length s)
    factor_most (letter h e) = let n = ap length e in omega arith
    factor_most (constant h d e) = let n = ap length e in omega arith
    factor_most (minus {f = f} p e) = let n = ap length e in let m = length-append (file_of letters f) (command_record minus_code) in let k = factor_most p
        in omega arith
    factor_most (brackets {s = s} p e) = let n = ap length e in let m = length-append s (0x29 ∷ []) in let k = sum_most p in omega arith

  pub file_most : {text : List ℕ} {f : Formula} → IsSum text f → length text ≤ 256 → length (file_of letters f) ≤ 1664
  file_most p h = let m = sum_most p in omega arith

  -- and every byte is one
  push_bytes : (w : ℕ) → Bytes (push_record w)
  push_bytes w = omega arith

  code_byte : (o : Operator) → code_of o < 256
  code_byte Plus = omega arith
  code_byte Less = omega arith
  code_byte Times = omega arith
  code_byte Over = omega arith

  pub file_bytes : (f : Formula) → Bytes (file_of letters f)
  unfolding file_of
  file_bytes (Letter k) = push_bytes _
  file_bytes (Constant s) = push_bytes _
  file_bytes (Minus f) = bytes_append (file_of letters f) (command_record minus_code) (file_bytes f) (omega arith)
  file_bytes (Brackets f) = file_bytes f
  file_bytes (Joined o l r) =
      bytes_append (file_of letters l) (file_of letters r ++ command_record (code_of o)) (file_bytes l) (bytes_append (file_of letters r) (command_record (code_of o))
      (file_bytes r) (omega (arith, code_byte o)))
