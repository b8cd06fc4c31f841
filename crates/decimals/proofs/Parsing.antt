-- A text is taken apart at its minus sign and at its point. Assumes nothing.
use mathlib.Core.Path.{◌≡◌, refl}
use mathlib.Core.Bool.{Bool, true, false}
use mathlib.Core.List.{List, [], ◌∷◌}
use Prim.Native.Nat.{ℕ, ◌+◌, ◌≤◌, ◌<◌}
use native.Mathlib.Omega.{arith}
use borrow.Author.Tests.{lt-ltb, le-ltb, eq-eqb, ne_eqb}
use lib.Dec.{eqb}
use lib.ListN.{length, drop, get_or}
use Rattle.decimals.specs.declared.read.Fault.TheVariants.{NoPoint, NoEnd}
use Rattle.decimals.specs.declared.read.Parsed.TheVariants.{Decimal, Wrong}
use Rattle.decimals.specs.declared.read.Scanned.TheVariants.{Digits}
use Rattle.decimals.specs.Exact.{point, minus}
use Rattle.decimals.specs.Read.{scan_of, places_from, point_from, whole_from, has_minus, parse_of}

pub no_minus : (l : List ℕ) → length l ≡ 0 → false ≡ has_minus l
no_minus [] e = refl
no_minus (c ∷ l) e = absurd (omega arith)

pub first_minus : (l : List ℕ) → (length l ≡ 0 → ⊥) → eqb (get_or l 0 0) minus ≡ has_minus l
first_minus [] n = absurd (n refl)
first_minus (c ∷ l) n = refl

pub minus_some : (l : List ℕ) → has_minus l ≡ true → 1 ≤ length l
minus_some [] e = let z : ◌≡◌ {A = ℕ} 0 1 = cc in absurd (omega arith)
minus_some (c ∷ l) e = omega arith

-- some places, and not too many: something stands behind them, or nothing does
module _ (n : ℕ) (neg : Bool) (whole i value count : ℕ) (some : count ≡ 0 → ⊥) (few : count ≤ 27) where
  pub not_ended : i + count < n → Wrong NoEnd (i + count) ≡ places_from n neg whole i (Digits value count)
  not_ended h = rw (ne_eqb count 0 some, le-ltb 27 count few, lt-ltb (i + count) n h)

  pub ended : n ≤ i + count → Decimal neg whole value count ≡ places_from n neg whole i (Digits value count)
  ended h = rw (ne_eqb count 0 some, le-ltb 27 count few, le-ltb (i + count) n h)

module _ (neg : Bool) (whole i : ℕ) (l : List ℕ) where
  pub no_text : length l ≤ i → Wrong NoPoint i ≡ point_from neg whole i l
  no_text h = rw (le-ltb i (length l) h)

  pub no_point : i < length l → (get_or l i 0 ≡ point → ⊥) → Wrong NoPoint i ≡ point_from neg whole i l
  no_point h n = rw (lt-ltb i (length l) h, ne_eqb (get_or l i 0) point n)

  pub at_point : i < length l → get_or l i 0 ≡ point → places_from (length l) neg whole (i + 1) (scan_of (drop (i + 1) l)) ≡ point_from neg whole i l
  at_point h e = rw (lt-ltb i (length l) h, eq-eqb (get_or l i 0) point e)

pub with_minus : (l : List ℕ) → has_minus l ≡ true → whole_from true 1 l (scan_of (drop 1 l)) ≡ parse_of l
unfolding parse_of
with_minus l e = rw e

pub without_minus : (l : List ℕ) → has_minus l ≡ false → whole_from false 0 l (scan_of (drop 0 l)) ≡ parse_of l
unfolding parse_of
without_minus l e = rw e
