-- Request 10, the chip's own way of working: a second engine that works a bit at a time gives the chip's answers, how
-- many steps it makes, and what ./steps tells of them. Definitions and statements only: proofs/Serial.antt proves them.
-- Assumes nothing.
use Rattle.std.specs.Prelude.{ℕ, ◌≤◌, ◌≡◌, ◌⊎◌, false, ◌&&◌, cond, List, [], ◌∷◌, ◌++◌, map, eqb, replicate, Ok, Err}
use Prim.Native.String.{String}
use Rattle.terms.specs.declared.Refusal.TheVariants.{Improper}
use Rattle.terms.specs.declared.Rule.{Rule}
use Rattle.terms.specs.declared.Rule.TheVariants.{Cut, Nearest}
use Rattle.terms.specs.declared.Width.TheVariants.{Single, Double}
use Rattle.fixed.specs.declared.Fixed.{Fixed}
use Rattle.fixed.specs.Fixed.{mul, muu, div}
use Rattle.float.specs.declared.Flagged.{Flagged}
use Rattle.float.specs.Float.{mul as fmul, div as fdiv}
use Rattle.codes.specs.Command.{Command}
use Rattle.codes.specs.Command.{Mul as MulCommand, Muu as MuuCommand, Div as DivCommand, Float}
use Rattle.codes.specs.declared.FloatOp.TheVariants.{Mul as FMul, Div as FDiv}
use Rattle.codes.specs.Command.{Known}
use Rattle.codes.specs.Codes.{decoded}
use Rattle.bit_serial.specs.declared.Operation.{Operation}
use Rattle.bit_serial.specs.declared.Operation.TheVariants.{Mul, Muu, Div, Fmul, Fdiv}
use Rattle.bit_serial.specs.Work.{answer_of}
use Rattle.step_text.specs.declared.asked.Found.{Found}
use Rattle.step_text.specs.declared.asked.Found.TheVariants.{Operation as Named, Nothing as Unnamed}
use Rattle.step_text.specs.Steps.{workings_of}
use Rattle.step_text.specs.Asked.{operation_at, told_of}
use Rattle.promises.specs.Stack.{bits_of}
use Rattle.promises.specs.FloatWords.{proper}
use Rattle.promises.specs.SerialWork.{Answer, worked, number_in, steps_in, width_of, Operands, task_of, StepsMade}
use Rattle.promises.specs.SerialWork.{lines_after, answer_line, Asks}
use Rattle.promises.specs.PrintedText.{written}
use Rattle.promises.specs.Figures.{from}
use Rattle.promises.specs.Commands.{least, word, Two, Refuses}

-- ---- the same answers

-- the first engine's word and error of an operation, after so many steps of the second, or the chip's refusal
abbrev pub fixed_answer : ℕ → Fixed → Answer
fixed_answer steps r = worked r.word r.error steps

abbrev pub float_answer : ℕ → ℕ → ℕ → Flagged → Answer
float_answer b a steps r = cond (proper b && proper a) (worked r.word r.error steps) (Err Improper)

abbrev pub first_answer : Operation → Rule → ℕ → ℕ → ℕ → Answer
first_answer (Mul w) rule b a steps = fixed_answer steps (mul (least w) b a)
first_answer (Muu w) rule b a steps = fixed_answer steps (muu (least w) b a)
first_answer (Div w) rule b a steps = fixed_answer steps (div (least w) b a)
first_answer Fmul rule b a steps = float_answer b a steps (fmul rule b a)
first_answer Fdiv rule b a steps = float_answer b a steps (fdiv rule b a)

-- the command of an operation
abbrev pub command_for : Operation → Command
command_for (Mul w) = MulCommand w
command_for (Muu w) = MuuCommand w
command_for (Div w) = DivCommand w
command_for Fmul = Float FMul
command_for Fdiv = Float FDiv

-- what the chip does with that command where B and A lie on top, whatever lies below, is what an answer says: its word
-- over C.. and 0, status by the
-- word and its error, no carry; or its refusal, the state as before
abbrev pub ChipGives : Rule → Operation → ℕ → ℕ → Answer → Type 0
ChipGives rule op b a (Ok w) = Two rule (width_of op) (command_for op) b a w.word w.error false 0
ChipGives rule op b a (Err refusal) = (cs : List ℕ)
    → Refuses rule (command_for op) (word (width_of op) a (word (width_of op) b cs)) refusal

-- the number of an answer: 0, or 4 for an operand that is not proper
abbrev pub ZeroOrFour : Answer → Type 0
ZeroOrFour r = (number_in r ≡ 0) ⊎ (number_in r ≡ 4)

-- for all operands, widths and rules
pub record SameEngine : Type 0 where
  -- the same word and error as the first engine's, or the same refusal
  pub answers : (op : Operation) (rule : Rule) (b a : ℕ) → Operands op b a
      → answer_of op rule b a ≡ first_answer op rule b a (steps_in (answer_of op rule b a))
  -- and the chip does what the answer says
  pub in_chip : (op : Operation) (rule : Rule) (b a : ℕ) → Operands op b a
      → ChipGives rule op b a (answer_of op rule b a)
  pub numbers : (op : Operation) (rule : Rule) (b a : ℕ) → Operands op b a → ZeroOrFour (answer_of op rule b a)

-- ---- the work

-- n for MUL, MUU and DIV, the bits of a mantissa for FMUL, for FDIV the quotient's digits that the rules need
abbrev pub most_steps : Operation → ℕ
most_steps (Mul w) = bits_of w
most_steps (Muu w) = bits_of w
most_steps (Div w) = bits_of w
most_steps Fmul = 24
most_steps Fdiv = 26

pub record Work : Type 0 where
  -- at most so many steps
  pub at_most : (op : Operation) (rule : Rule) (b a : ℕ) → Operands op b a
      → steps_in (answer_of op rule b a) ≤ most_steps op
  -- none where a row names the operands or one is refused; else fewer than so many exactly where no bits remain, of the
  -- multiplier or of the dividend
  pub fewer : (op : Operation) (rule : Rule) (b a : ℕ) → Operands op b a
      → StepsMade (task_of op b a) (steps_in (answer_of op rule b a))

-- ---- what ./steps tells

-- CODE: 6E 76 6F 2E 36 2F 12 13 and no other, over all 256
abbrev pub eight_codes : List Found
eight_codes =
    replicate 18 Unnamed ++ (Named Fmul ∷ Named Fdiv ∷ replicate 26 Unnamed)
    ++ (Named (Mul Double) ∷ Named (Div Double) ∷ replicate 6 Unnamed) ++ (Named (Muu Double) ∷ replicate 55 Unnamed)
    ++ (Named (Mul Single) ∷ Named (Div Single) ∷ replicate 6 Unnamed) ++ (Named (Muu Single) ∷ replicate 137 Unnamed)

-- what `./steps` tells for its arguments: CODE B A, and `--nearest` or nothing
abbrev pub steps : String → String → String → List ℕ
steps code b a = told_of 4 (written code) (written b) (written a) []

abbrev pub steps_nearest : String → String → String → List ℕ
steps_nearest code b a = told_of 5 (written code) (written b) (written a) (written "--nearest")

-- lines, parted by strokes
abbrev pub text_lines : String → List ℕ
text_lines text = map (λ (c : ℕ). cond (eqb c 47) 10 c) (written text) ++ (10 ∷ [])

-- a call with CODE, B and A, and the lines that it prints
pub record PrintedRow : Type 0 where
  pub code : String
  pub b : String
  pub a : String
  pub printed : List ℕ

abbrev pub prints : String → String → String → String → PrintedRow
prints code b a text = record { code = code; b = b; a = a; printed = text_lines text }

-- each code by its text, B before A: 5 x 3, the upper half of -9 x 4, -16384 / 2; the same at 32 bits; -2.5 x 0, 4 /
-- -2; B and A not proper; another code, digits too few or too many, no digit
abbrev pub printed_table : List PrintedRow
printed_table =
    prints "6E" "0005" "0003" "1 1 0000000000000005/2 0 000000000000000F/word 000F error 0 status 00"
    ∷ prints "76" "FFF7" "0004"
    "1 2 0000000000000000/2 1 0000000000000000/3 0 0000000000000024/word FFFF error 0 status 40"
    ∷ prints "6F" "C000" "0002"
    "1 15 0000000000004000/2 14 0000000000004000/3 13 0000000000000000/word E000 error 0 status 40"
    ∷ prints "2E" "FFFFFFFB" "00000003" "1 1 0000000000000005/2 0 000000000000000F/word FFFFFFF1 error 0 status 40"
    ∷ prints "36" "7654321F" "00000005"
    "1 2 000000007654321F/2 1 000000007654321F/3 0 000000024FA4FA9B/word 00000002 error 0 status 00"
    ∷ prints "2F" "C0000000" "00000002"
    "1 31 0000000040000000/2 30 0000000040000000/3 29 0000000000000000/word E0000000 error 0 status 40"
    ∷ prints "12" "81A00000" "00000000" "word 00000000 error 0 status 20"
    ∷ prints "13" "03800000" "82800000" "1 25 0000000000000000/word 82800000 error 0 status 40"
    ∷ prints "12" "01400000" "01800000" "refused 4" ∷ prints "13" "01800000" "80000000" "refused 4"
    ∷ prints "6C" "0005" "0003" "usage" ∷ prints "6E" "005" "0003" "usage"
    ∷ prints "6E" "0005" "00000003" "usage" ∷ prints "6E" "0005" "000G" "usage" ∷ []

pub record StepsText : Type 0 where
  -- its codes are the eight, each the chip's own command
  pub codes : map operation_at (from 256 0) ≡ eight_codes
  pub chips : (code : ℕ) (op : Operation) → operation_at code ≡ Named op → decoded code ≡ Known (command_for op)
  -- a line for each step, by its number, and then the answer
  pub lines : (op : Operation) (rule : Rule) (b a : ℕ) → Operands op b a
      → workings_of op rule b a ≡ lines_after (task_of op b a) (steps_in (answer_of op rule b a)) 0
      ++ answer_line (width_of op) (answer_of op rule b a)
  -- what a call asks for is told, and where it asks for nothing that the program does, `usage`
  pub told : (words : ℕ) (code b a option : List ℕ) (op : Operation) (rule : Rule) (x y : ℕ)
      → Asks words code b a option op rule x y
      → told_of words code b a option ≡ workings_of op rule x y
  pub not_told : (words : ℕ) (code b a option : List ℕ)
      → ((op : Operation) (rule : Rule) (x y : ℕ) → Asks words code b a option op rule x y → ⊥)
      → told_of words code b a option ≡ text_lines "usage"
  pub rows : map (λ (r : PrintedRow). steps r.code r.b r.a) printed_table
      ≡ map (λ (r : PrintedRow). r.printed) printed_table
  -- `--nearest` last is the other rule; hex digits may be in lower case
  pub third : steps "13" "01800000" "02C00000" ≡ workings_of Fdiv Cut 0x01800000 0x02C00000
  pub third_nearest : steps_nearest "13" "01800000" "02c00000" ≡ workings_of Fdiv Nearest 0x01800000 0x02C00000
  pub product_nearest : steps_nearest "12" "01800001" "01C00000" ≡ workings_of Fmul Nearest 0x01800001 0x01C00000
  pub third_words : (answer_of Fdiv Cut 0x01800000 0x02C00000 ≡ worked 0x7FAAAAAA 0 26)
      × (answer_of Fdiv Nearest 0x01800000 0x02C00000 ≡ worked 0x7FAAAAAB 0 26)
  -- "Anything else": another option, an argument too many
  pub usage : (told_of 5 (written "6E") (written "0005") (written "0003") (written "--cut") ≡ text_lines "usage")
      × (told_of 6 (written "6E") (written "0005") (written "0003") (written "--nearest") ≡ text_lines "usage")

-- ---- examples: the operation, B and A under a rule; the word, its error, the number of steps
pub record StepsRow : Type 0 where
  pub operation : Operation
  pub rule : Rule
  pub b : ℕ
  pub a : ℕ
  pub answer : Answer

abbrev pub row : Operation → Rule → ℕ → ℕ → ℕ → ℕ → ℕ → StepsRow
row op rule b a r error steps = record { operation = op; rule = rule; b = b; a = a; answer = worked r error steps }

abbrev pub steps_table : List StepsRow
steps_table =
    row (Mul Single) Cut 0x0005 0x0003 0x000F 0 2 ∷ row (Mul Single) Cut 0x0003 0x0000 0x0000 0 0
    ∷ row (Mul Single) Cut 0x0100 0x0100 0x0000 1 9 ∷ row (Mul Single) Cut 0x7FFF 0xFFFF 0x8001 0 1
    ∷ row (Mul Single) Cut 0x8000 0x0000 0x8000 1 0 ∷ row (Muu Single) Cut 0xFFFF 0x7FFF 0xFFFF 0 15
    ∷ row (Muu Double) Cut 0x7FFFFFFF 0x7FFFFFFF 0x3FFFFFFF 0 31 ∷ row (Div Single) Cut 0xFFF9 0x0002 0xFFFD 0 16
    ∷ row (Div Single) Cut 0x0008 0x0002 0x0004 0 14 ∷ row (Div Single) Cut 0x0000 0x0002 0x0000 0 0
    ∷ row (Div Single) Cut 0x0007 0x0000 0x0007 8 0 ∷ row (Div Single) Cut 0x8000 0x0000 0x8000 8 0
    ∷ row (Div Double) Cut 0x80000000 0x00000002 0x80000000 1 0
    ∷ row (Div Double) Cut 0x7FFFFFFF 0x00000002 0x3FFFFFFF 0 32 ∷ row Fmul Cut 0x3FFFFFFF 0x3FFFFFFF 0x7EFFFFFE 1 24
    ∷ row Fmul Cut 0x40800000 0x40800000 0x7F800000 2 24 ∷ row Fmul Cut 0x81800000 0x00000000 0x00000000 0 0
    ∷ row Fmul Cut 0x00000000 0x81800000 0x00000000 0 24 ∷ row Fdiv Cut 0x01800000 0x02C00000 0x7FAAAAAA 0 26
    ∷ row Fdiv Nearest 0x01800000 0x02C00000 0x7FAAAAAB 0 26 ∷ row Fdiv Cut 0x03800000 0x82800000 0x82800000 0 1
    ∷ row Fdiv Cut 0x00000000 0x81800000 0x00000000 0 0 ∷ row Fdiv Cut 0x01800000 0x00000000 0x01800000 8 0
    ∷ record { operation = Fmul; rule = Nearest; b = 0x01400000; a = 0x01800000; answer = Err Improper }
    ∷ record { operation = Fdiv; rule = Cut; b = 0x01800000; a = 0x80000000; answer = Err Improper } ∷ []

abbrev pub StepsBench : Type 0
StepsBench = map (λ (r : StepsRow). answer_of r.operation r.rule r.b r.a) steps_table
    ≡ map (λ (r : StepsRow). r.answer) steps_table
