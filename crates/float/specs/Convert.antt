-- FLTD, FLTS, FIXD, FIXS and CHSF on words. Definitions only. Assumes nothing.
use Rattle.std.specs.Prelude.{ℕ, ◌+◌, ◌-◌, ◌*◌, ◌/◌, ◌%◌, ◌^◌, Bool, true, false, cond, leb, ℤ}
use Rattle.numbers.specs.Signed.{with_sign}
use Rattle.terms.specs.Errors.{overflow}
use Rattle.float.specs.declared.Flagged.{Flagged}
use Rattle.float.specs.Word.{negative, mantissa, size88}
use Rattle.terms.specs.declared.Rule.{Rule}
use Rattle.terms.specs.declared.Rule.TheVariants.{Cut}
use Rattle.float.specs.Cut.{cut}

-- the value of a number of two's complement of which half = 2 ^ (n - 1) is the least
abbrev pub integer : ℕ → ℕ → ℤ
integer half a = cond (leb half a) (with_sign true (2 * half - a)) (with_sign false a)

-- FLTD: A's value, cut to 24 bits under a rule
unfoldable pub fltd : Rule → ℕ → Flagged
unfolding cut
fltd r a = cut r (integer (2 ^ 31) a) 1

-- FLTS: A's value, of 16 bits, which no rule changes
unfoldable pub flts : ℕ → Flagged
unfolding cut
flts a = cut Cut (integer (2 ^ 15) a) 1

-- the whole part of the magnitude of a word
unfoldable pub whole_part : ℕ → ℕ
unfolding size88
whole_part w = size88 w / 2 ^ 88

-- a whole number of magnitude n below half, in two's complement
abbrev pub complement : ℕ → Bool → ℕ → ℕ
complement half neg n = cond neg ((2 * half - n) % (2 * half)) n

-- the whole part of A toward zero; where its magnitude is over half - 1, A unchanged and overflow
unfoldable pub fix : ℕ → ℕ → Flagged
unfolding whole_part
fix half a =
    cond (leb half (whole_part a)) (record { word = a; error = overflow })
    (record { word = complement half (negative a) (whole_part a); error = 0 })

-- FIXD: the limit is 2 ^ 31 - 1
abbrev pub fixd : ℕ → Flagged
fixd a = fix (2 ^ 31) a

-- FIXS: the limit is 32,767
abbrev pub fixs : ℕ → Flagged
fixs a = fix (2 ^ 15) a

-- CHSF: bit 31 is flipped where bit 23 is 1, else nothing changes
unfoldable pub chsf : ℕ → ℕ
chsf w = cond (leb (2 ^ 23) (mantissa w)) (cond (negative w) (w - 2 ^ 31) (w + 2 ^ 31)) w
