-- 01, 'The stack' and 'Commands': events of the chip in turn, what they leave, and the operands that must be proper.
-- Definitions only. Assumes nothing.
use Rattle.std.specs.Prelude.{ℕ, zero, suc, ◌-◌, ◌/◌, ◌%◌, ◌^◌, ◌≡◌, Bool, true, false, ◌&&◌, not, cond, List, [], ◌∷◌, ◌++◌, map, leb, eqb, take, drop}
use Rattle.terms.specs.declared.Mode.{Mode}
use Rattle.terms.specs.declared.Mode.TheVariants.{Am9511A, Am9511}
use Rattle.terms.specs.declared.Rule.{Rule}
use Rattle.terms.specs.declared.Rule.TheVariants.{Cut, Nearest}
use Rattle.terms.specs.declared.Refusal.{Refusal}
use Rattle.terms.specs.declared.Refusal.TheVariants.{Done}
use Rattle.terms.specs.declared.Width.{Width}
use Rattle.terms.specs.declared.Width.TheVariants.{Single, Double}
use Rattle.fixed.specs.Fixed.{add, sub, mul, muu, div, chs}
use Rattle.float.specs.declared.Flagged.{Flagged}
use Rattle.float.specs.Float.{add as fadd, sub as fsub, mul as fmul, div as fdiv}
use Rattle.float.specs.Convert.{flts, fltd, fixs, fixd, chsf}
use Rattle.float.specs.Root.{sqrt}
use Rattle.codes.specs.declared.FloatOp.{FloatOp}
use Rattle.codes.specs.declared.FloatOp.TheVariants.{Add as FAdd, Sub as FSub, Mul as FMul, Div as FDiv}
use Rattle.codes.specs.Command.{Command as Operation}
use Rattle.codes.specs.Command.{Nop, Add, Sub, Mul, Muu, Div, Chs, Float, Chsf, Flt, Fix, Pto}
use Rattle.codes.specs.Command.{Pop as PopWord, Xch, Pupi, Sqrt}
use Rattle.promises.specs.Subjects.{Settings, State, Answer, ChipEvent as Event, Push, Pop, Command, Status}
use Rattle.promises.specs.Subjects.{Reset, Acknowledge, push_of, pop_of, command_under, answer_to}
use Rattle.promises.specs.Stack.{size_of, bits_of, zeros, bytes_of, low_first, tos, nos, popped}
use Rattle.promises.specs.RefusalNumbers.{number_of}
use Rattle.promises.specs.FloatWords.{proper}

-- ---- what is given beside a state
-- a mode and a rule
abbrev pub given : Mode → Rule → Settings
given mode rule = record { mode = mode; rule = rule }

-- a mode, and 01's rule: a float result is cut
abbrev pub under : Mode → Settings
under mode = given mode Cut

-- ---- states
-- status bit 7
abbrev pub busy : State → Bool
busy s = leb 128 s.status

-- "A run starts from any state that 13 does not turn away, with nothing pending."
pub record AtRest (s : State) : Type 0 where
  pub taken : busy s ≡ false
  pub whole : s.pending ≡ false

-- after a byte pushed or popped: the stack that this leaves, and pending the other way
abbrev pub moved : State → List ℕ → State
moved s stack = record { stack = stack; pending = not s.pending; status = s.status; service = s.service }

-- "Reset: stack all zero, nothing pending, status 0, service line low."
abbrev pub reset_state : State
reset_state = record { stack = zeros 16; pending = false; status = 0; service = false }

-- request 6: "In the older mode reset keeps all 16 bytes if no half word is pending. If one is, the top byte goes to
-- the bottom and the bottom two bytes become zero"
abbrev pub kept_stack : Bool → List ℕ → List ℕ
kept_stack pending stack = cond pending (take 14 (popped stack) ++ zeros 2) stack

-- after a reset of either part; "Pending, status and service line as in 01"
abbrev pub after_reset : Mode → State → State
after_reset Am9511A s = reset_state
after_reset Am9511 s = record { stack = kept_stack s.pending s.stack; pending = false; status = 0; service = false }

-- "Acknowledge: the service line goes low."
abbrev pub acknowledged : State → State
acknowledged s = record { stack = s.stack; pending = s.pending; status = s.status; service = false }

-- bits 4 to 1 of a status, the error: divide by zero 8, the root of a negative word 4, underflow 2, overflow 1
abbrev pub error_of : ℕ → ℕ
error_of status = status / 2 % 16

-- ---- answers
-- 0, the byte read, and the state after
abbrev pub done : ℕ → State → Answer
done byte after = record { refusal = Done; byte = byte; state = after }

-- a refusal: no byte, state as before
abbrev pub refused : Refusal → State → Answer
refused refusal s = record { refusal = refusal; byte = 0; state = s }

-- ---- events in turn
-- the state after them
abbrev pub after_events : Settings → State → List Event → State
after_events on s [] = s
after_events on s (e ∷ es) = after_events on (answer_to on s e).state es

-- whether every one is answered 0
abbrev pub answered : Settings → State → List Event → Bool
answered on s [] = true
answered on s (e ∷ es) = eqb (number_of (answer_to on s e).refusal) 0 && answered on (answer_to on s e).state es

-- whether a command leaves a status with bits 4 to 1 clear; no other event of a run sets the status
abbrev pub leaves_clear : Settings → State → Event → Bool
leaves_clear on s (Command code) = eqb (error_of (command_under on.rule s code).state.status) 0
leaves_clear on s (Push byte) = true
leaves_clear on s Pop = true
leaves_clear on s Status = true
leaves_clear on s Reset = true
leaves_clear on s Acknowledge = true

-- whether each command does so: the run raises no error bit
abbrev pub quiet : Settings → State → List Event → Bool
quiet on s [] = true
quiet on s (e ∷ es) = leaves_clear on s e && quiet on (answer_to on s e).state es

-- the n bytes of a word pushed, low byte first
abbrev pub pushes_of : ℕ → ℕ → List Event
pushes_of n w = map Push (low_first n w)

-- the state after bytes pushed in turn
abbrev pub after_pushes : State → List ℕ → State
after_pushes s [] = s
after_pushes s (b ∷ l) = after_pushes (push_of s b).state l

-- the state after k pops, and the bytes that they hand out
abbrev pub after_pops : ℕ → State → State
after_pops zero s = s
after_pops (suc k) s = after_pops k (pop_of s).state

abbrev pub bytes_popped : ℕ → State → List ℕ
bytes_popped zero s = []
bytes_popped (suc k) s = (pop_of s).byte ∷ bytes_popped k (pop_of s).state

-- ---- operands and results of the commands
-- A and B of a width, and half of the number of words
abbrev pub word_a : Width → List ℕ → ℕ
word_a w s = tos (size_of w) s

abbrev pub word_b : Width → List ℕ → ℕ
word_b w s = nos (size_of w) s

abbrev pub half_of : Width → ℕ
half_of w = 2 ^ (bits_of w - 1)

-- "operand of FADD, FSUB, FMUL, FDIV, FIXS, FIXD", and request 1's root, is proper; no other command asks it
abbrev pub proper_operands : Operation → List ℕ → Bool
proper_operands (Float op) s = proper (word_b Double s) && proper (word_a Double s)
proper_operands (Fix w) s = proper (word_a Double s)
proper_operands Sqrt s = proper (word_a Double s)
proper_operands Nop s = true
proper_operands (Add w) s = true
proper_operands (Sub w) s = true
proper_operands (Mul w) s = true
proper_operands (Muu w) s = true
proper_operands (Div w) s = true
proper_operands (Chs w) s = true
proper_operands Chsf s = true
proper_operands (Flt w) s = true
proper_operands (Pto w) s = true
proper_operands (PopWord w) s = true
proper_operands (Xch w) s = true
proper_operands Pupi s = true

-- FADD, FSUB, FMUL, FDIV of B and A
abbrev pub float_of : Rule → FloatOp → ℕ → ℕ → Flagged
float_of rule FAdd b a = fadd rule b a
float_of rule FSub b a = fsub rule b a
float_of rule FMul b a = fmul rule b a
float_of rule FDiv b a = fdiv rule b a

-- pi as a word: cut, or the nearest
abbrev pub pi_word : Rule → ℕ
pi_word Cut = 0x02c90fda
pi_word Nearest = 0x02c90fdb

-- the bytes of R, high byte first: the word that a command leaves on top in the result's width. NOP has none
abbrev pub result_bytes : Rule → Operation → List ℕ → List ℕ
result_bytes rule Nop s = []
result_bytes rule (Add w) s = bytes_of (size_of w) (add (half_of w) (word_b w s) (word_a w s)).word
result_bytes rule (Sub w) s = bytes_of (size_of w) (sub (half_of w) (word_b w s) (word_a w s)).word
result_bytes rule (Mul w) s = bytes_of (size_of w) (mul (half_of w) (word_b w s) (word_a w s)).word
result_bytes rule (Muu w) s = bytes_of (size_of w) (muu (half_of w) (word_b w s) (word_a w s)).word
result_bytes rule (Div w) s = bytes_of (size_of w) (div (half_of w) (word_b w s) (word_a w s)).word
result_bytes rule (Chs w) s = bytes_of (size_of w) (chs (half_of w) (word_a w s)).word
result_bytes rule (Float op) s = bytes_of 4 (float_of rule op (word_b Double s) (word_a Double s)).word
result_bytes rule Chsf s = bytes_of 4 (chsf (word_a Double s))
result_bytes rule (Flt Double) s = bytes_of 4 (fltd rule (word_a Double s)).word
result_bytes rule (Flt Single) s = bytes_of 4 (flts (word_a Single s)).word
result_bytes rule (Fix Double) s = bytes_of 4 (fixd (word_a Double s)).word
result_bytes rule (Fix Single) s =
    bytes_of (cond (eqb (fixs (word_a Double s)).error 0) 2 4) (fixs (word_a Double s)).word
result_bytes rule (PopWord w) s = take (size_of w) (drop (size_of w) s)
result_bytes rule (Pto w) s = take (size_of w) s
result_bytes rule (Xch w) s = take (size_of w) (drop (size_of w) s)
result_bytes rule Pupi s = bytes_of 4 (pi_word rule)
result_bytes rule Sqrt s =
    cond (eqb (sqrt rule (word_a Double s)).error 0) (bytes_of 4 (sqrt rule (word_a Double s)).word) (take 4 s)
