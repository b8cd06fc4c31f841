-- The five operations of request 10, and what their steps work on. Definitions only. Assumes nothing.
use Rattle.std.specs.Prelude.{ℕ, ◌-◌, ◌*◌, ◌^◌, ◌≤◌, ◌<◌, ◌&&◌, cond, eqb, Option, None, Some}
use Rattle.terms.specs.declared.Rule.{Rule}
use Rattle.terms.specs.declared.Width.{Width}
use Rattle.terms.specs.declared.Width.TheVariants.{Double}
use Rattle.terms.specs.Width.{bits_of}
use Rattle.fixed.specs.Fixed.{half, either_least}
use Rattle.fixed.specs.Parts.{magnitude_at}
use Rattle.float.specs.Word.{mantissa, proper}
use Rattle.bit_serial.specs.declared.Operation.{Operation}
use Rattle.bit_serial.specs.declared.Operation.TheVariants.{Mul, Muu, Div, Fmul, Fdiv}
use Rattle.bit_serial.specs.Answer.{Answer}
use Rattle.bit_serial.specs.declared.tasks.Task.{Task}
use Rattle.bit_serial.specs.declared.tasks.Task.TheVariants.{Multiply, Divide}
use Rattle.bit_serial.specs.Engine.{mul_answer, muu_answer, div_answer, fmul_answer, quotient_digits, fdiv_answer}

-- the width of an operation's words; float words have 32 bits
abbrev pub width_of : Operation → Width
width_of (Mul w) = w
width_of (Muu w) = w
width_of (Div w) = w
width_of Fmul = Double
width_of Fdiv = Double

-- b and a are words of that width
abbrev pub Operands : Operation → ℕ → ℕ → Type 0
Operands op b a = (b < 2 ^ bits_of (width_of op)) × (a < 2 ^ bits_of (width_of op))

-- what an operation makes of B and A; in fixed point the rule is not asked
abbrev pub answer_of : Operation → Rule → ℕ → ℕ → Answer
answer_of (Mul w) rule b a = mul_answer (half (bits_of w)) (bits_of w) b a
answer_of (Muu w) rule b a = muu_answer (half (bits_of w)) (bits_of w) b a
answer_of (Div w) rule b a = div_answer (half (bits_of w)) (bits_of w) b a
answer_of Fmul rule b a = fmul_answer rule b a
answer_of Fdiv rule b a = fdiv_answer rule b a

-- ---- what the steps work on

-- MUL and MUU: |B| times |A| in at most n steps; nothing where a row names the operands
unfoldable pub mul_task : ℕ → ℕ → ℕ → ℕ → Option Task
mul_task h n b a = cond (either_least h b a) None (Some (Multiply (magnitude_at h b) (magnitude_at h a) n))

-- DIV: |B| over |A| in at most n steps; nothing where a row names the operands
unfoldable pub div_task : ℕ → ℕ → ℕ → ℕ → Option Task
div_task h n b a = cond (eqb a 0) None (cond (either_least h b a) None (Some (Divide (magnitude_at h b) (magnitude_at h a) n)))

-- FMUL: the mantissas, in at most 24 steps; nothing where an operand is refused
unfoldable pub fmul_task : ℕ → ℕ → Option Task
fmul_task b a = cond (proper b && proper a) (Some (Multiply (mantissa b) (mantissa a) 24)) None

-- FDIV: the mantissas, in at most 26 steps; nothing where an operand is refused or A is zero
unfoldable pub fdiv_task : ℕ → ℕ → Option Task
fdiv_task b a = cond (proper b && proper a) (cond (eqb (mantissa a) 0) None (Some (Divide (mantissa b * 2 ^ (quotient_digits - 1)) (mantissa a)
    quotient_digits)))
    None

-- of each operation
abbrev pub task_of : Operation → ℕ → ℕ → Option Task
task_of (Mul w) b a = mul_task (half (bits_of w)) (bits_of w) b a
task_of (Muu w) b a = mul_task (half (bits_of w)) (bits_of w) b a
task_of (Div w) b a = div_task (half (bits_of w)) (bits_of w) b a
task_of Fmul b a = fmul_task b a
task_of Fdiv b a = fdiv_task b a

-- what keeps a task's steps within 64 bits: at most 32 of them, and a shifted operand of 32 bits
abbrev pub Narrow : Option Task → Type 0
Narrow None = Unit
Narrow (Some (Multiply x y n)) = (x < 2 ^ 32) × (n ≤ 32)
Narrow (Some (Divide v d n)) = (d < 2 ^ 32) × (n ≤ 32)
