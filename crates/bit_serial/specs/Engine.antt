-- The second engine: MUL, MUU, DIV on words of n bits, FMUL and FDIV under a rule, the magnitudes or mantissas a bit at a time. Definitions only.
-- Assumes nothing.
use Rattle.std.specs.Prelude.{ℕ, ◌+◌, ◌-◌, ◌*◌, ◌^◌, true, not, ◌&&◌, cond, eqb, ℤ, Option, None, Some, Result, Ok, Err}
use Rattle.std.specs.Float.Ieee.{unlike}
use Rattle.std.specs.Int.Signed.{shr_z}
use Rattle.numbers.specs.Signed.{with_sign}
use Rattle.terms.specs.declared.Refusal.{Refusal}
use Rattle.terms.specs.declared.Refusal.TheVariants.{Improper}
use Rattle.terms.specs.declared.Rule.{Rule}
use Rattle.terms.specs.Errors.{divide_by_zero}
use Rattle.fixed.specs.Fixed.{low, fits, overflow_if, either_least}
use Rattle.fixed.specs.Parts.{negative_at, magnitude_at}
use Rattle.float.specs.declared.Flagged.{Flagged}
use Rattle.float.specs.Word.{negative, biased, mantissa, proper}
use Rattle.float.specs.Cut.{cut}
use Rattle.bit_serial.specs.declared.multiply.Product.{Product}
use Rattle.bit_serial.specs.declared.divide.Division.{Division}
use Rattle.bit_serial.specs.Answer.{Answer, worked}
use Rattle.bit_serial.specs.UpTo.{up_to}
use Rattle.bit_serial.specs.Product.{product}
use Rattle.bit_serial.specs.Quotient.{division}

-- ---- fixed point: h = 2 ^ (n - 1) is half of the number of words, and the word of the least value

-- the magnitudes of two words, unless a row names them: a least operand
abbrev pub sizes_of : ℕ → ℕ → ℕ → Option (ℕ × ℕ)
sizes_of h b a = cond (either_least h b a) None (Some (magnitude_at h b, magnitude_at h a))

-- the product, and the quotient, of the magnitudes of two words, in at most n steps
abbrev pub sizes_multiplied : ℕ → ℕ → ℕ → ℕ → Product
sizes_multiplied h n b a = product n (magnitude_at h b) (magnitude_at h a)

abbrev pub sizes_divided : ℕ → ℕ → ℕ → ℕ → Division
sizes_divided h n b a = division n (magnitude_at h b) (magnitude_at h a)

-- a magnitude with the sign of B x A and B / A
abbrev pub signed_for : ℕ → ℕ → ℕ → ℕ → ℤ
signed_for h b a m = with_sign (unlike (negative_at h b) (negative_at h a)) m

-- the row 'A or B least': least, overflow, and no step is made
abbrev pub least_answer : ℕ → Answer
least_answer h = worked h (overflow_if true) 0

abbrev pub unless_least : ℕ → ℕ → ℕ → Answer → Answer
unless_least h b a general = cond (either_least h b a) (least_answer h) general

-- the low half of a whole number, overflow where it does not fit; the upper half, and no error
abbrev pub low_half : ℕ → ℤ → ℕ → Answer
low_half h z steps = worked (low h z) (overflow_if (not (fits h z))) steps

abbrev pub upper_half : ℕ → ℤ → ℕ → Answer
upper_half h z steps = worked (low h (shr_z z (2 * h))) 0 steps

-- MUL: the low half of the product
unfoldable pub mul_answer : ℕ → ℕ → ℕ → ℕ → Answer
unfolding low up_to
mul_answer h n b a = unless_least h b a (low_half h (signed_for h b a (sizes_multiplied h n b a).partial) (sizes_multiplied h n b a).steps)

-- MUU: the upper half of the product
unfoldable pub muu_answer : ℕ → ℕ → ℕ → ℕ → Answer
unfolding low up_to
muu_answer h n b a = unless_least h b a (upper_half h (signed_for h b a (sizes_multiplied h n b a).partial) (sizes_multiplied h n b a).steps)

-- DIV: the quotient, which is cut toward zero since its magnitude is; with A = 0 the result is B, the error divide by zero, and no step is made
unfoldable pub div_answer : ℕ → ℕ → ℕ → ℕ → Answer
unfolding low up_to
div_answer h n b a =
    cond (eqb a 0)
    (worked b divide_by_zero 0)
    (unless_least h b a (worked (low h (signed_for h b a (sizes_divided h n b a).quotient)) 0 (n - (sizes_divided h n b a).left)))

-- ---- floats

-- the mantissas, or the refusal of an operand that is not proper
abbrev pub mantissas_of : ℕ → ℕ → Result (ℕ × ℕ) Refusal
mantissas_of b a = cond (proper b && proper a) (Ok (mantissa b, mantissa a)) (Err Improper)

-- an operand that is not proper is refused
abbrev pub unless_improper : ℕ → ℕ → Answer → Answer
unless_improper b a general = cond (proper b && proper a) general (Err Improper)

-- a magnitude with the sign of B x A and B / A
abbrev pub float_signed : ℕ → ℕ → ℕ → ℤ
float_signed b a m = with_sign (unlike (negative b) (negative a)) m

-- a word with its error, after so many steps
abbrev pub after : ℕ → Flagged → Answer
after steps r = worked r.word r.error steps

-- the product of the mantissas, all 24 bits of which may be needed
abbrev pub mantissas_multiplied : ℕ → ℕ → Product
mantissas_multiplied b a = product 24 (mantissa b) (mantissa a)

-- FMUL: that product at the place of both exponents, times 2 ^ 176 as the exact one, cut once
unfoldable pub fmul_answer : Rule → ℕ → ℕ → Answer
unfolding cut up_to
fmul_answer rule b a =
    unless_improper b a
    (after (mantissas_multiplied b a).steps (cut rule (float_signed b a ((mantissas_multiplied b a).partial * 2 ^ (biased b + biased a))) (2 ^ 176)))

-- the digits of a quotient that either rule needs: 24 that the mantissa keeps, one more that tells the side of the half, and one since the first of
-- them is 0 where B's mantissa is below A's
abbrev pub quotient_digits : ℕ
quotient_digits = 26

-- the quotient of the mantissas, times 2 ^ 25 so that the first digit is that of the ones
abbrev pub mantissas_divided : ℕ → ℕ → Division
mantissas_divided b a = division quotient_digits (mantissa b * 2 ^ (quotient_digits - 1)) (mantissa a)

-- the digits found and one more, 1 where a rest is left
abbrev pub marked : ℕ → ℕ → ℕ
marked quotient rest = 2 * quotient + cond (eqb rest 0) 0 1

-- FDIV: the marked quotient at the place of both exponents, cut once; where A is zero, R = B, the error is divide by zero, and no step is made
unfoldable pub fdiv_answer : Rule → ℕ → ℕ → Answer
unfolding cut up_to
fdiv_answer rule b a =
    unless_improper b a
    (cond (eqb (mantissa a) 0)
    (worked b divide_by_zero 0)
    (after (quotient_digits - (mantissas_divided b a).left)
    (cut rule (float_signed b a (marked (mantissas_divided b a).quotient (mantissas_divided b a).rest * 2 ^ biased b)) (2 ^ quotient_digits * 2 ^ biased a))))
