-- Float words: their fields, which of them are proper, and their value. Definitions only. Assumes nothing.
use Rattle.std.specs.Prelude.{◌≡◌, ℕ, ◌+◌, ◌*◌, ◌/◌, ◌%◌, ◌^◌, ◌<◌, Bool, true, ◌||◌, leb, eqb, ℤ}
use Rattle.std.proofs.Math.IntN.{sub_ℕ}
use Rattle.numbers.specs.Signed.{with_sign}

-- bit 31, the sign
abbrev pub negative : ℕ → Bool
negative w = leb (2 ^ 31) w

-- bits 30 to 24 hold the exponent e, -64 to 63, in two's complement; this is e + 64
abbrev pub biased : ℕ → ℕ
biased w = (w / 2 ^ 24 + 64) % 128

-- the exponent e itself
abbrev pub exponent : ℕ → ℤ
exponent w = sub_ℕ (biased w) 64

-- bits 23 to 0, the mantissa m
abbrev pub mantissa : ℕ → ℕ
mantissa w = w % 2 ^ 24

-- bit 23 is set, or the word is all zeros
abbrev pub proper : ℕ → Bool
proper w = leb (2 ^ 23) (mantissa w) || eqb w 0

-- the magnitude m * 2 ^ (e - 24) of the value, times 2 ^ 88
unfoldable pub size88 : ℕ → ℕ
size88 w = mantissa w * 2 ^ biased w

-- the value times 2 ^ 88, a whole number
unfoldable pub value : ℕ → ℤ
unfolding size88
value w = with_sign (negative w) (size88 w)

-- a proper word of 32 bits
pub record FloatWord (w : ℕ) : Type 0 where
  pub fits : w < 2 ^ 32
  pub is_proper : proper w ≡ true
