-- The cut: an exact value, a fraction of whole numbers, brought to a float word and an error. Definitions only. Assumes nothing.
use Rattle.std.specs.Prelude.{ℕ, ◌+◌, ◌-◌, ◌*◌, ◌/◌, ◌%◌, ◌^◌, Bool, true, false, cond, leb, ltb, ℤ, pos, negsuc, nat_abs}
use Rattle.std.specs.Float.Ieee.{size}
use Rattle.std.specs.Float.Ieee.Nearest.{closest}
use Rattle.terms.specs.declared.Rule.{Rule}
use Rattle.terms.specs.declared.Rule.TheVariants.{Cut, Nearest}
use Rattle.terms.specs.Errors.{overflow, underflow}
use Rattle.float.specs.declared.Flagged.{Flagged}

-- ---- the m and e of a magnitude, under either rule, in whole numbers alone

-- magnitudes are counted in fine units of 2 ^ -200, so small that every exact value of 01's scales has at least 24 binary digits before the point
abbrev pub fine : ℕ
fine = 200

-- m * 2 ^ (e - 24) is m * 2 ^ (176 + e) fine units: so many of their digits lie below m where e is 0
abbrev pub at_zero : ℕ
at_zero = fine - 24

-- the whole part of n / d, or the nearest whole number, of two the even one
abbrev pub whole : Rule → ℕ → ℕ → ℕ
whole Cut n d = n / d
whole Nearest n d = closest n d

-- of n / d fine units the 24 leading digits are kept, and so many before the point are lost below them: of a number of 177 digits 153
abbrev pub lost : ℕ → ℕ → ℕ
lost n d = size (n / d) - 24

-- what the rule makes of n / d in steps of the last digit that is kept
abbrev pub kept : Rule → ℕ → ℕ → ℕ
kept r n d = whole r n (d * 2 ^ lost n d)

-- m of the number q that is kept: q itself, or 2 ^ 23 where q was rounded up to 2 ^ 24
abbrev pub mantissa_of : ℕ → ℕ
mantissa_of q = cond (ltb q (2 ^ 24)) q (2 ^ 23)

-- the digits lost below m: k, or one more where q was rounded up to 2 ^ 24. Their number less 176 is e
abbrev pub digits_of : ℕ → ℕ → ℕ
digits_of q k = cond (ltb q (2 ^ 24)) k (k + 1)

-- ---- the word and the error

-- the word of a sign, m and e = k - 176. The field of seven bits holds e modulo 128, so e > 63 is stored as e - 128 and e < -64 as e + 128
unfoldable pub packed : Bool → ℕ → ℕ → ℕ
packed neg m k = cond neg (2 ^ 31) 0 + (k + (2 * 128 - at_zero)) % 128 * 2 ^ 24 + m

-- overflow where e > 63, underflow where e < -64
unfoldable pub error_at : ℕ → ℕ
error_at k = cond (leb (at_zero + 64) k) overflow (cond (ltb k (at_zero - 64)) underflow 0)

-- both
abbrev pub stored : Bool → ℕ → ℕ → Flagged
stored neg m k = record { word = packed neg m k; error = error_at k }

-- the zero word, with no error
abbrev pub zero_word : Flagged
zero_word = record { word = 0; error = 0 }

-- the cut of the magnitude n / d, in fine units, with its sign
unfoldable pub cut_size : Rule → Bool → ℕ → ℕ → Flagged
unfolding packed error_at
cut_size r neg n d = cond (ltb 0 n) (stored neg (mantissa_of (kept r n d)) (digits_of (kept r n d) (lost n d))) zero_word

-- whether a whole number is below zero
abbrev pub below0 : ℤ → Bool
below0 (pos n) = false
below0 (negsuc n) = true

-- the cut of the exact value z / d
unfoldable pub cut : Rule → ℤ → ℕ → Flagged
unfolding cut_size
cut r z d = cut_size r (below0 z) (nat_abs z * 2 ^ fine) d
