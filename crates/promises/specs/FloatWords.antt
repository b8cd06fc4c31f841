-- 01, 'Float words': the fields of a word, which words are proper, their value and their order, and the exact results.
-- Definitions only. Assumes nothing.
use Rattle.std.specs.Prelude.{ℕ, ◌+◌, ◌*◌, ◌/◌, ◌%◌, ◌^◌, ◌<◌, ◌≡◌, Bool, true, false, ◌||◌, leb, eqb, ℤ, pos, negsuc, neg_ℤ, ◌+ℤ◌, ◌-ℤ◌, ◌*ℤ◌, ◌≤ℤ◌}
use Rattle.std.proofs.Math.IntN.{sub_ℕ}
use Rattle.std.specs.Float.Ieee.{unlike}

-- the whole number of a magnitude n that is negative or not
abbrev pub with_sign : Bool → ℕ → ℤ
with_sign true n = neg_ℤ (pos n)
with_sign false n = pos n

-- whether a whole number is below zero
abbrev pub below0 : ℤ → Bool
below0 (pos n) = false
below0 (negsuc n) = true

-- ---- a word
-- bit 31, the sign
abbrev pub negative : ℕ → Bool
negative w = leb (2 ^ 31) w

-- bits 30 to 24 hold the exponent e, -64 to 63, in two's complement; this is e + 64
abbrev pub biased : ℕ → ℕ
biased w = (w / 2 ^ 24 + 64) % 128

-- the exponent e itself
abbrev pub exponent : ℕ → ℤ
exponent w = sub_ℕ (biased w) 64

-- bits 23 to 0, the mantissa m
abbrev pub mantissa : ℕ → ℕ
mantissa w = w % 2 ^ 24

-- "A proper word has bit 23 set or is all zeros."
abbrev pub proper : ℕ → Bool
proper w = leb (2 ^ 23) (mantissa w) || eqb w 0

-- the magnitude m times 2 ^ (e - 24), taken times 2 ^ 88
abbrev pub size88 : ℕ → ℕ
size88 w = mantissa w * 2 ^ biased w

-- "Value: sign times m times 2^(e-24)", taken times 2 ^ 88: "the value of every word times 2^88 is" a whole number
abbrev pub value : ℕ → ℤ
value w = with_sign (negative w) (size88 w)

-- a proper word of 32 bits
pub record FloatWord (w : ℕ) : Type 0 where
  pub fits : w < 2 ^ 32
  pub is_proper : proper w ≡ true

-- the order of words by their values: that of v is at most that of w
abbrev pub Le : ℕ → ℕ → Type 0
Le v w = value v ≤ℤ value w

-- ---- the exact results
-- B + A, times 2 ^ 88
abbrev pub exact_sum : ℕ → ℕ → ℤ
exact_sum b a = value b +ℤ value a

-- B - A, times 2 ^ 88
abbrev pub exact_difference : ℕ → ℕ → ℤ
exact_difference b a = value b -ℤ value a

-- "An exact product is taken times 2^176"
abbrev pub exact_product : ℕ → ℕ → ℤ
exact_product b a = value b *ℤ value a

-- "an exact quotient as two whole numbers": the first, B's magnitude with the sign of the quotient
abbrev pub dividend : ℕ → ℕ → ℤ
dividend b a = with_sign (unlike (negative b) (negative a)) (size88 b)

-- the second, A's magnitude
abbrev pub divisor : ℕ → ℕ
divisor a = size88 a
