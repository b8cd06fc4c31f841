-- FADD, FSUB, FMUL, FDIV on words: the exact value is formed, then cut once. Definitions only. Assumes nothing.
use Rattle.std.specs.Prelude.{ℕ, ◌^◌, ◌<◌, cond, eqb, ℤ, ◌+ℤ◌, ◌-ℤ◌, ◌*ℤ◌}
use Rattle.std.specs.Float.Ieee.{unlike}
use Rattle.numbers.specs.Signed.{with_sign}
use Rattle.terms.specs.Errors.{divide_by_zero}
use Rattle.float.specs.declared.Flagged.{Flagged}
use Rattle.float.specs.Word.{negative, mantissa, size88, value, FloatWord}
use Rattle.terms.specs.declared.Rule.{Rule}
use Rattle.float.specs.Cut.{cut}

-- the exact sum, times 2 ^ 88
abbrev pub exact_sum : ℕ → ℕ → ℤ
exact_sum b a = value b +ℤ value a

-- the exact difference, times 2 ^ 88
abbrev pub exact_difference : ℕ → ℕ → ℤ
exact_difference b a = value b -ℤ value a

-- the exact product, times 2 ^ 176
abbrev pub exact_product : ℕ → ℕ → ℤ
exact_product b a = value b *ℤ value a

-- the exact quotient as two whole numbers: the first, B's magnitude with the sign of the quotient
abbrev pub dividend : ℕ → ℕ → ℤ
dividend b a = with_sign (unlike (negative b) (negative a)) (size88 b)

-- the second, A's magnitude
abbrev pub divisor : ℕ → ℕ
divisor a = size88 a

-- FADD: B + A
unfoldable pub add : Rule → ℕ → ℕ → Flagged
unfolding cut value
add r b a = cut r (exact_sum b a) (2 ^ 88)

-- FSUB: B - A
unfoldable pub sub : Rule → ℕ → ℕ → Flagged
unfolding cut value
sub r b a = cut r (exact_difference b a) (2 ^ 88)

-- FMUL: B x A
unfoldable pub mul : Rule → ℕ → ℕ → Flagged
unfolding cut value
mul r b a = cut r (exact_product b a) (2 ^ 176)

-- FDIV: B / A; where A is zero, R = B and the error is divide by zero
unfoldable pub div : Rule → ℕ → ℕ → Flagged
unfolding cut size88
div r b a = cond (eqb (mantissa a) 0) (record { word = b; error = divide_by_zero }) (cut r (dividend b a) (divisor a))

-- what an operation hands over: a proper word of 32 bits and an error of four bits
pub record Result (r : Flagged) : Type 0 where
  pub word : FloatWord r.word
  pub small : r.error < 16
