-- The value of a word by what its digits were read as. Assumes nothing.
use mathlib.Core.Path.{◌≡◌, refl, sym}
use mathlib.Core.Bool.{Bool, true, false, cond}
use mathlib.Core.List.{List}
use Prim.Native.Nat.{ℕ, ◌≤◌, ◌<◌}
use native.Mathlib.Omega.{arith}
use borrow.Author.Tests.{eq-eqb, ne_eqb, lt-ltb, le-ltb, eqb-true}
use lib.Dec.{eqb}
use lib.ListN.{length}
use Rattle.terms.specs.declared.Rule.{Rule}
use Rattle.decimals.specs.declared.read.Scanned.TheVariants.{Digits, TooMany}
use Rattle.listing.specs.declared.hex.Hex.{Hex}
use Rattle.decimals.specs.Read.{scan_of}
use Rattle.listing.specs.Hex.{hex_of}
use Rattle.record_text.specs.declared.values.Fault.TheVariants.{NoNumber, OutOfRange, NoCode}
use Rattle.record_text.specs.declared.values.Value.TheVariants.{Number, Wrong}
use Rattle.record_text.specs.declared.values.Range.{Range}
use Rattle.record_text.specs.Values.{decimal_of, size_for, hex_value, bytes_of, range_of, ranged, number_for, code_hex, code_of}

-- ---- bytes of a push
module _ (rule : Rule) (text : List ℕ) (size : ℕ) (e : size ≡ size_for (length text)) where
  pub by_decimal : size ≡ 0 → decimal_of rule text ≡ bytes_of rule text
  unfolding bytes_of
  by_decimal z = rw (← e, z)

  pub by_hex : (h : Hex) → (size ≡ 0 → ⊥) → h ≡ hex_of text → hex_value rule text size h ≡ bytes_of rule text
  unfolding bytes_of
  by_hex h n f = rw (← e, ne_eqb size 0 n, ← f)

pub few_digits : (n : ℕ) → (size_for n ≡ 0 → ⊥) → n ≤ 8
few_digits n k = two (eqb n 2) refl
  where
    eight : (t : Bool) → eqb n 8 ≡ t → cond t 4 0 ≡ size_for n → n ≤ 8
    eight true e f = let z = eqb-true n 8 e in omega arith
    eight false e f = absurd (k (sym f))

    four : (t : Bool) → eqb n 4 ≡ t → cond t 2 (cond (eqb n 8) 4 0) ≡ size_for n → n ≤ 8
    four true e f = let z = eqb-true n 4 e in omega arith
    four false e f = eight (eqb n 8) refl f

    two : (t : Bool) → eqb n 2 ≡ t → n ≤ 8
    two true e = let z = eqb-true n 2 e in omega arith
    two false e = four (eqb n 4) refl (rw e)

-- ---- a number
module _ (r s : Range) (n : ℕ) (e : r ≡ s) where
  pub too_low : n < r.least → Wrong OutOfRange 0 ≡ ranged s n
  too_low h = rw (← e, lt-ltb n r.least h)

  pub too_high : r.least ≤ n → r.most < n → Wrong OutOfRange 0 ≡ ranged s n
  too_high l h = rw (← e, le-ltb n r.least l, lt-ltb r.most n h)

  pub in_range : r.least ≤ n → n ≤ r.most → Number n r.size ≡ ranged s n
  in_range l h = rw (← e, le-ltb n r.least l, le-ltb r.most n h)

module _ (kind : ℕ) (text : List ℕ) (value count : ℕ) (e : Digits value count ≡ scan_of text) where
  pub all_digits_lem : count ≡ length text → ranged (range_of kind) value ≡ number_for kind text
  unfolding number_for
  all_digits_lem c = rw (← e, eq-eqb count (length text) c)

  pub not_all : (count ≡ length text → ⊥) → Wrong NoNumber count ≡ number_for kind text
  unfolding number_for
  not_all c = rw (← e, ne_eqb count (length text) c)

pub too_many : (kind : ℕ) (text : List ℕ) (place : ℕ) → TooMany place ≡ scan_of text → Wrong OutOfRange place ≡ number_for kind text
unfolding number_for
too_many kind text place e = rw (← e)

-- ---- a code
module _ (text : List ℕ) where
  pub two_digits : (h : Hex) → length text ≡ 2 → h ≡ hex_of text → code_hex h ≡ code_of text
  unfolding code_of
  two_digits h e f = rw (eq-eqb (length text) 2 e, ← f)

  pub not_two : (length text ≡ 2 → ⊥) → Wrong NoCode 0 ≡ code_of text
  unfolding code_of
  not_two n = rw (ne_eqb (length text) 2 n)
