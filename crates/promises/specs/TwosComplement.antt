-- 01, 'Fixed point, n = 16 or 32, two's complement': what fits, what carry and borrow are, and that FLTS and FLTD read
-- a word as the fixed-point commands
-- do. Definitions and the statement only: proofs/TwosComplement.antt proves it. Assumes nothing.
use Rattle.std.specs.Prelude.{ℕ, ◌+◌, ◌*◌, ◌≤◌, ◌<◌, ◌≡◌, Bool, true, false, cond, pos}
use Rattle.std.proofs.Math.IntN.{sub_ℕ}
use Rattle.terms.specs.declared.Width.{Width}
use Rattle.terms.specs.declared.Width.TheVariants.{Single, Double}
use Rattle.fixed.specs.Fixed.{add, sub, mul, muu, div, chs}
use Rattle.promises.specs.FloatResults.{integer}
use Rattle.promises.specs.Commands.{least, words, value_in, fits_in}

-- 2^(n-1)
abbrev pub half_of : Width → ℕ
half_of Single = 32768
half_of Double = 2147483648

-- a carry or a borrow as a number
abbrev pub bit : Bool → ℕ
bit carry = cond carry 1 0

-- ---- the statement; `sub_ℕ x y` is x - y, and every whole number is one
pub record TwosComplement (w : Width) : Type 0 where
  -- there are 2^n words, and the word of the least value is 2^(n-1)
  pub least_is : least w ≡ half_of w
  pub words_are : words w ≡ 2 * half_of w
  -- a word below 2^(n-1) is its own value, any other its own less 2^n
  pub value_below : (a : ℕ) → a < half_of w → value_in w a ≡ pos a
  pub value_above : (a : ℕ) → half_of w ≤ a → value_in w a ≡ sub_ℕ a (2 * half_of w)
  -- a whole number z fits exactly for -2^(n-1) <= z < 2^(n-1)
  pub fits_inside : (x y : ℕ) → y ≤ x + half_of w → x < y + half_of w → fits_in w (sub_ℕ x y) ≡ true
  pub fits_above : (x y : ℕ) → y + half_of w ≤ x → fits_in w (sub_ℕ x y) ≡ false
  pub fits_below : (x y : ℕ) → x + half_of w < y → fits_in w (sub_ℕ x y) ≡ false
  -- carry out: B + A = R + carry 2^n; borrow: B + borrow 2^n = R + A
  pub carry_out : (b a : ℕ) → b < 2 * half_of w → a < 2 * half_of w
      → b + a ≡ (add (least w) b a).word + bit (add (least w) b a).carry * (2 * half_of w)
  pub borrow : (b a : ℕ) → b < 2 * half_of w → a < 2 * half_of w
      → b + bit (sub (least w) b a).carry * (2 * half_of w) ≡ (sub (least w) b a).word + a
  -- no other operation carries
  pub no_carry : (b a : ℕ) → ((mul (least w) b a).carry ≡ false) × ((muu (least w) b a).carry ≡ false)
      × ((div (least w) b a).carry ≡ false) × ((chs (least w) a).carry ≡ false)
  -- FLTS and FLTD read A as the fixed-point commands do
  pub one_reading : (a : ℕ) → a < 2 * half_of w → integer (half_of w) a ≡ value_in w a
