-- The digits of a number, read back, are the number; the sign is that of the sum. Assumes nothing.
use Prim.Native.Nat.{ℕ, zero, suc, ◌+◌, ◌*◌, ◌/◌, ◌%◌, ◌^◌, ◌≤◌, ◌<◌, zero-le}
use mathlib.Core.Path.{◌≡◌, refl, ap, subst, ◌∙◌}
use mathlib.Core.Logic.{⊎_elim}
use mathlib.Core.Bool.{Bool, true, false, cond}
use mathlib.Core.List.{List, [], ◌∷◌, ◌++◌}
use native.Mathlib.Omega.{arith}
use native.Mathlib.Nat.{pow-suc, not-suc-le-zero}
use borrow.Author.Tests.{lt-ltb, le-ltb, le-leb}
use lib.Dec.{leb, ltb, le→leb, ltb→lt}
use lib.ListN.{length, length-append}
use lib.IntN.{ℤ, pos, negsuc, nat_abs}
use lib.Signed.{◌≤ℤ◌, ◌<ℤ◌, le_z_yes}
use Rattle.numbers.proofs.Differences.{either}
use Rattle.sheet_promises.specs.Figures.{hex_digit, hex_digits, digit_value, all_hex, read_from, sign_of, sum_text, Reads}

-- ---- one digit

-- whether a character is one of 0 to 9 or A to F
abbrev is_hex : ℕ → Bool
is_hex c = cond (leb 48 c) (cond (ltb c 58) true (cond (leb 65 c) (ltb c 71) false)) false

digit_value_lem : (d : ℕ) → d < 16 → digit_value (hex_digit d) ≡ d
digit_value_lem d h =
    ⊎_elim
    (λ (p : d < 10). rw (lt-ltb d 10 p) (rw (lt-ltb (48 + d) 65 (omega arith)) (omega arith)))
    (λ (p : 10 ≤ d). rw (le-ltb d 10 p) (rw (le-ltb (55 + d) 65 (omega arith)) (omega arith)))
    (either d 10)

digit_hex : (d : ℕ) → d < 16 → is_hex (hex_digit d) ≡ true
digit_hex d h =
    ⊎_elim
    (λ (p : d < 10). rw (lt-ltb d 10 p) (rw (le-leb 48 (48 + d) (omega arith), lt-ltb (48 + d) 58 (omega arith))))
    (λ (p : 10 ≤ d). rw (le-ltb d 10 p) (rw (
      le-leb 48 (55 + d) (omega arith),
      le-ltb (55 + d) 58 (omega arith),
      le-leb 65 (55 + d) (omega arith),
      lt-ltb
          (55 + d) 71 (omega arith),
    )))
    (either d 10)

-- ---- a digit after others

read_last : (n c : ℕ) (l : List ℕ) → read_from n (l ++ (c ∷ [])) ≡ 16 * read_from n l + digit_value c
read_last n c [] = refl
read_last n c (x ∷ l) = read_last (16 * n + digit_value x) c l

hex_last : (c : ℕ) (l : List ℕ) → all_hex l ≡ true → is_hex c ≡ true → all_hex (l ++ (c ∷ [])) ≡ true
hex_last c [] h e = rw e
hex_last c (x ∷ l) h e = pick (is_hex x) h (λ k. hex_last c l k e)
  where
    pick : (t : Bool) → cond t (all_hex l) false ≡ true → (all_hex l ≡ true → all_hex (l ++ (c ∷ [])) ≡ true) → cond t (all_hex (l ++ (c ∷ []))) false ≡ true
    pick true k f = f k
    pick false k f = k

-- ---- all of them

length_digits : (k n : ℕ) → length (hex_digits k n) ≡ k
length_digits zero n = refl
length_digits (suc k) n =
    let e = length_digits k (n / 16) in
    length-append (hex_digits k (n / 16)) (hex_digit (n % 16) ∷ []) ∙ omega arith

digits_hex : (k n : ℕ) → all_hex (hex_digits k n) ≡ true
digits_hex zero n = refl
digits_hex (suc k) n = hex_last (hex_digit (n % 16)) (hex_digits k (n / 16)) (digits_hex k (n / 16)) (digit_hex (n % 16) (omega arith))

digits_read : (k n : ℕ) → n < 16 ^ k → read_from 0 (hex_digits k n) ≡ n
digits_read zero n h = omega arith
digits_read (suc k) n h =
    let b : n / 16 < 16 ^ k = shorter n (16 ^ k) (subst (λ (p : ℕ). n < p) (pow-suc 16 k) h) in
    let r = digits_read k (n / 16) b in
    let v = digit_value_lem (n % 16) (omega arith) in
    read_last 0 (hex_digit (n % 16)) (hex_digits k (n / 16)) ∙ last (read_from 0 (hex_digits k (n / 16))) (digit_value (hex_digit (n % 16))) n r v
  where
    shorter : (n p : ℕ) → n < p * 16 → n / 16 < p
    shorter n p h = omega arith

    last : (r v n : ℕ) → r ≡ n / 16 → v ≡ n % 16 → 16 * r + v ≡ n
    last r v n a b = omega arith

-- ---- the sum

sign_plus : (z : ℤ) → pos 0 ≤ℤ z → sign_of z ≡ 43
sign_plus (pos n) h = refl
sign_plus (negsuc n) h = absurd h.le

plus_sign : (z : ℤ) → sign_of z ≡ 43 → pos 0 ≤ℤ z
plus_sign (pos n) e = le_z_yes (le→leb 0 n zero-le)
plus_sign (negsuc n) e = let x : ⊥ = omega arith in absurd x

sign_minus : (z : ℤ) → z <ℤ pos 0 → sign_of z ≡ 45
sign_minus (pos n) h = absurd (not-suc-le-zero (ltb→lt n 0 h.lt))
sign_minus (negsuc n) h = refl

pub text_is_the_sum : (z : ℤ) → nat_abs z < 16 ^ 48 → Reads z (sum_text z)
text_is_the_sum z h = record {
  size_is = ap suc (length_digits 48 (nat_abs z));
  all_hex_lem = digits_hex 48 (nat_abs z);
  number_is = digits_read 48 (nat_abs z) h;
  plus_where = sign_plus z;
  plus_only = plus_sign z;
  else_minus = sign_minus z;
}
