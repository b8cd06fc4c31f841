-- Hex digits and letters: their tests, and the words made of them. Assumes nothing.
use mathlib.Core.Path.{◌≡◌, refl, sym, ◌∙◌, ap}
use mathlib.Core.Bool.{Bool, true, false, ◌&&◌, ◌||◌}
use mathlib.Core.List.{List, [], ◌∷◌}
use Prim.Native.Nat.{ℕ, zero, suc, ◌+◌, ◌*◌, ◌≤◌, ◌<◌}
use native.Mathlib.Omega.{arith}
use borrow.Author.Tests.{leb-true}
use lib.Dec.{leb}
use lib.ListN.{length, drop, get_or}
use lib.Seq.{drop-cons}
use Rattle.stack.proofs.Elems.{part, rest}
use Rattle.formula.specs.Grammar.{is_digit, are_digits}
use Rattle.formula.specs.Reader.{is_letter}
use Rattle.formula.specs.File.{digit_value, letter_word, constant_word, hex_from}
use Rattle.formula.proofs.Cases.{never_true}

pub both : (p q : Bool) → (p && q) ≡ true → (p ≡ true) × (q ≡ true)
both true q e = (refl, e)
both false q e = never_true e

-- ---- bytes
pub letter_range : (b : ℕ) → is_letter b ≡ true → (0x61 ≤ b) × (b ≤ 0x68)
letter_range b h = let t = both (leb 0x61 b) (leb b 0x68) h in (leb-true 0x61 b t.0, leb-true b 0x68 t.1)

pub digit_below : (b : ℕ) → is_digit b ≡ true → b ≤ 0x39 → 0x30 ≤ b
digit_below b h i = go (leb 0x30 b) refl (leb 0x41 b) refl h
  where
    go : (x : Bool) → leb 0x30 b ≡ x → (y : Bool) → leb 0x41 b ≡ y → ((x && leb b 0x39) || (y && leb b 0x46)) ≡ true → 0x30 ≤ b
    go true p y q k = leb-true 0x30 b p
    go false p true q k = let z = leb-true 0x41 b q in omega arith
    go false p false q k = never_true k

pub digit_above : (b : ℕ) → is_digit b ≡ true → 0x39 < b → (0x41 ≤ b) × (b ≤ 0x46)
digit_above b h i = go (leb 0x30 b && leb b 0x39) refl (leb 0x41 b && leb b 0x46) refl h
  where
    go : (x : Bool) → (leb 0x30 b && leb b 0x39) ≡ x → (y : Bool) → (leb 0x41 b && leb b 0x46) ≡ y → (x || y) ≡ true → (0x41 ≤ b) × (b ≤ 0x46)
    go true p y q k = let m = leb-true b 0x39 (both (leb 0x30 b) (leb b 0x39) p).1 in absurd (omega arith)
    go false p true q k = let t = both (leb 0x41 b) (leb b 0x46) q in (leb-true 0x41 b t.0, leb-true b 0x46 t.1)
    go false p false q k = never_true k

-- every one of some digits is one
pub digits_at : (s : List ℕ) (i : ℕ) → are_digits s ≡ true → i < length s → is_digit (get_or s i 0) ≡ true
digits_at [] i h l = absurd (omega arith)
digits_at (b ∷ s) zero h l = (both (is_digit b) (are_digits s) h).0
digits_at (b ∷ s) (suc i) h l = digits_at s i (both (is_digit b) (are_digits s) h).1 (omega arith)

-- digits from a place on
pub digits_from : (s : List ℕ) (i : ℕ) → i < length s → are_digits (drop i s) ≡ (is_digit (get_or s i 0) && are_digits (drop (suc i) s))
digits_from s i l = ap are_digits (drop-cons s i 0 l)

-- ---- words
pub four_bytes_lem : (l : List ℕ) (k : ℕ) → length l ≡ 32 → k < 8
    → ((get_or l (4 * k) 0 * 256 + get_or l (4 * k + 1) 0) * 256 + get_or l (4 * k + 2) 0) * 256 + get_or l (4 * k + 3) 0 ≡ letter_word l k
unfolding letter_word
four_bytes_lem l k h i =
    let m = 4 * k in
    let p : get_or l (m + 1) 0 ≡ get_or l (suc m) 0 = ap (λ (n : ℕ). get_or l n 0) (omega arith) in
    let q : get_or l (m + 2) 0 ≡ get_or l (suc (suc m)) 0 = ap (λ (n : ℕ). get_or l n 0) (omega arith) in
    let r : get_or l (m + 3) 0 ≡ get_or l (suc (suc (suc m))) 0 = ap (λ (n : ℕ). get_or l n 0) (omega arith) in
    rw (part l 4 m (omega arith)) (omega arith)

pub eight_digits : (s : List ℕ) → length s ≡ 8
    → (((digit_value (get_or s 0 0) * 16 + digit_value (get_or s 1 0)) * 256 + (digit_value (get_or s 2 0) * 16 + digit_value (get_or s 3 0)))
    * 256 + (digit_value (get_or s 4 0) * 16 + digit_value (get_or s 5 0))) * 256
    + (digit_value (get_or s 6 0) * 16 + digit_value (get_or s 7 0)) ≡ constant_word s
eight_digits s h = (omega arith) ∙ ap (hex_from 0) (sym (rest s 8 0 (omega arith)))
