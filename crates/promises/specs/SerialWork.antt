-- 02, request 10: the operands of the second engine, what its steps work on, how many there are, and the lines that
-- tell of them. Definitions only. Assumes nothing.
use Rattle.std.specs.Prelude.{ℕ, zero, suc, ◌+◌, ◌-◌, ◌*◌, ◌/◌, ◌%◌, ◌^◌, ◌≤◌, ◌<◌, ◌≡◌, ◌↔◌, false, ◌&&◌, ◌||◌, cond, List, [], ◌∷◌, ◌++◌, leb, ltb, eqb, length, Option, None, Some, Result, Ok, Err}
use Rattle.std.specs.Float.Ieee.{size}
use Rattle.terms.specs.declared.Refusal.{Refusal}
use Rattle.terms.specs.declared.Rule.{Rule}
use Rattle.terms.specs.declared.Rule.TheVariants.{Cut, Nearest}
use Rattle.terms.specs.declared.Width.{Width}
use Rattle.terms.specs.declared.Width.TheVariants.{Double}
use Rattle.bit_serial.specs.declared.Operation.{Operation}
use Rattle.bit_serial.specs.declared.Operation.TheVariants.{Mul, Muu, Div, Fmul, Fdiv}
use Rattle.bit_serial.specs.declared.Worked.{Worked}
use Rattle.bit_serial.specs.declared.tasks.Task.{Task}
use Rattle.bit_serial.specs.declared.tasks.Task.TheVariants.{Multiply, Divide}
use Rattle.step_text.specs.declared.asked.Found.TheVariants.{Operation as Named}
use Rattle.step_text.specs.Asked.{operation_at}
use Rattle.promises.specs.Stack.{size_of, bits_of}
use Rattle.promises.specs.RefusalNumbers.{number_of}
use Rattle.promises.specs.FloatWords.{mantissa, proper}
use Rattle.promises.specs.PrintedText.{written, decimal, hex_of}
use Rattle.promises.specs.Commands.{least, status_by}

-- ---- answers
-- a word with its error and the number of steps, or the refusal
abbrev pub Answer : Type 0
Answer = Result Worked Refusal

abbrev pub worked : ℕ → ℕ → ℕ → Answer
worked word error steps = Ok (record { word = word; error = error; steps = steps })

-- the number of an answer's refusal, 0 for a word
abbrev pub number_in : Answer → ℕ
number_in (Ok w) = 0
number_in (Err refusal) = number_of refusal

-- the number of its steps
abbrev pub steps_in : Answer → ℕ
steps_in (Ok w) = w.steps
steps_in (Err refusal) = 0

-- ---- operands
-- the width of an operation's words; float words have 32 bits
abbrev pub width_of : Operation → Width
width_of (Mul w) = w
width_of (Muu w) = w
width_of (Div w) = w
width_of Fmul = Double
width_of Fdiv = Double

-- b and a are words of that width
abbrev pub Operands : Operation → ℕ → ℕ → Type 0
Operands op b a = (b < 2 ^ bits_of (width_of op)) × (a < 2 ^ bits_of (width_of op))

-- the magnitude of a word in two's complement
abbrev pub size_in : Width → ℕ → ℕ
size_in w a = cond (leb (least w) a) (2 * least w - a) a

-- ---- what the steps work on: nothing where a row names the operands or one is refused; else x times y, or v over d,
-- in at most so many steps
abbrev pub task_of : Operation → ℕ → ℕ → Option Task
task_of (Mul w) b a = cond (eqb b (least w) || eqb a (least w)) None (Some (Multiply (size_in w b) (size_in w a) (bits_of w)))
task_of (Muu w) b a = cond (eqb b (least w) || eqb a (least w)) None (Some (Multiply (size_in w b) (size_in w a) (bits_of w)))
task_of (Div w) b a =
    cond (eqb a 0) None
    (cond (eqb b (least w) || eqb a (least w)) None (Some (Divide (size_in w b) (size_in w a) (bits_of w))))
task_of Fmul b a = cond (proper b && proper a) (Some (Multiply (mantissa b) (mantissa a) 24)) None
task_of Fdiv b a =
    cond (proper b && proper a)
    (cond (eqb (mantissa a) 0) None (Some (Divide (mantissa b * 2 ^ 25) (mantissa a) 26))) None

-- at most so many steps
abbrev pub most_of : Option Task → ℕ
most_of None = 0
most_of (Some (Multiply x y n)) = n
most_of (Some (Divide v d n)) = n

-- what remains after k steps: of the multiplier all bits but the last k; of the dividend the remainder by the divisor,
-- as many places up as digits are left
abbrev pub remains : Option Task → ℕ → ℕ
remains None k = 0
remains (Some (Multiply x y n)) k = y / 2 ^ k
remains (Some (Divide v d n)) k = v % (d * 2 ^ (n - k))

-- so many steps are made: at most the task's number, and fewer exactly where "no bits remain"
pub record StepsMade (task : Option Task) (steps : ℕ) : Type 0 where
  pub at_most : steps ≤ most_of task
  pub fewer : (k : ℕ) → k < most_of task → (steps ≤ k) ↔ (remains task k ≡ 0)

-- ---- the lines
-- after k steps: of a product the bits that are left and what was added up; of a quotient the digits that are left and
-- what is left of the dividend
abbrev pub left_after : Option Task → ℕ → ℕ
left_after None k = 0
left_after (Some (Multiply x y n)) k = size (y / 2 ^ k)
left_after (Some (Divide v d n)) k = n - k

abbrev pub partial_after : Option Task → ℕ → ℕ
partial_after None k = 0
partial_after (Some (Multiply x y n)) k = x * (y % 2 ^ k)
partial_after (Some (Divide v d n)) k = v % (d * 2 ^ (n - k))

-- `N LEFT PARTIAL`: its number and the bits or digits left, in decimal; the partial result in 16 hex digits
abbrev pub step_line : ℕ → ℕ → ℕ → List ℕ
step_line number left partial = decimal number ++ ((32 ∷ decimal left) ++ (32 ∷ (hex_of 16 partial ++ (10 ∷ []))))

-- so many lines, the first with the number k + 1
abbrev pub lines_after : Option Task → ℕ → ℕ → List ℕ
lines_after task zero k = []
lines_after task (suc more) k = step_line (k + 1) (left_after task (k + 1)) (partial_after task (k + 1))
    ++ lines_after task more (k + 1)

-- `word W error E status S`, the word in the digits of its width, the error in decimal, the status that the chip leaves
-- in two hex digits; or `refused R`
abbrev pub answer_line : Width → Answer → List ℕ
answer_line w (Ok r) =
    written "word " ++ (hex_of (2 * size_of w) r.word ++ (written " error" ++ ((32 ∷ decimal r.error)
    ++ (written " status " ++ (hex_of 2 (status_by w r.word r.error false) ++ (10 ∷ []))))))
answer_line w (Err refusal) = written "refused" ++ ((32 ∷ decimal (number_of refusal)) ++ (10 ∷ []))

-- ---- the arguments of ./steps: `CODE B A`, B and A four or eight hex digits, `--nearest` last for the other rule
-- the value of a hex digit, 0 to 9, A to F or a to f, and 16 for a character that is none
abbrev pub hex_digit : ℕ → ℕ
hex_digit c =
    cond (ltb c 48) 16
    (cond (ltb c 58) (c - 48)
    (cond (ltb c 65) 16
    (cond (ltb c 71) (c - 55)
    (cond (ltb c 97) 16
    (cond (ltb c 103) (c - 87) 16)))))

-- every character is one
abbrev pub AllHex : List ℕ → Type 0
AllHex [] = Unit
AllHex (c ∷ cs) = (hex_digit c < 16) × AllHex cs

-- the number that hex digits stand for, the top one first; a is the number of the digits before them
abbrev pub hex_number : ℕ → List ℕ → ℕ
hex_number a [] = a
hex_number a (c ∷ cs) = hex_number (a * 16 + hex_digit c) cs

-- so many hex digits that stand for a number
pub record IsHex (digits : ℕ) (text : List ℕ) (n : ℕ) : Type 0 where
  pub size : length text ≡ digits
  pub each : AllHex text
  pub stands : hex_number 0 text ≡ n

-- the rule of a call of so many words, its own name among them
pub data Ruled (words : ℕ) (option : List ℕ) : Rule → Type 0 where
  cut : words ≡ 4 → Ruled words option Cut
  nearest : words ≡ 5 → option ≡ written "--nearest" → Ruled words option Nearest

-- a call asks for an operation on B and A under a rule
pub record Asks (words : ℕ) (code b a option : List ℕ) (op : Operation) (rule : Rule) (x y : ℕ) : Type 0 where
  pub number : ℕ
  pub code_is : IsHex 2 code number
  pub names : operation_at number ≡ Named op
  pub ruled : Ruled words option rule
  pub b_is : IsHex (2 * size_of (width_of op)) b x
  pub a_is : IsHex (2 * size_of (width_of op)) a y
