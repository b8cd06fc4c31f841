-- What the program's structs stand for: its state and its answer, and what became of a command on a stack. Definitions only. Assumes nothing.
use Rattle.std.specs.Prelude.{ℕ, ◌%◌, ◌≡◌, Bool, cond, not, List, eqb, Result, Ok, Err}
use Rattle.terms.specs.declared.Refusal.{Refusal}
use Rattle.terms.specs.declared.Refusal.TheVariants.{UnknownCode, DerivedCode, HalfWord, Improper}
use Rattle.terms.specs.declared.Rule.{Rule}
use Rattle.fixed.specs.declared.Fixed.{Fixed}
use Rattle.fixed.specs.Fixed.{add, sub, mul, muu, div, chs}
use Rattle.stack.specs.declared.Stack.{Stack}
use Rattle.stack.specs.Words.{bytes_in}
use Rattle.codes.specs.declared.FixedOp.{FixedOp}
use Rattle.codes.specs.declared.FixedOp.TheVariants.{Add, Sub, Mul, Muu, Div, Chs}
use Rattle.codes.specs.Command.{Command, Kind, Known, Derived, Unknown}
use Rattle.codes.specs.Codes.{decoded}
use Rattle.chip.specs.declared.State.{State as Held}
use Rattle.chip.specs.declared.Answer.{Answer as HeldAnswer}
use Rattle.chip.specs.declared.commands.Outcome.{Outcome}
use Rattle.chip.specs.State.{State, Answer, CommandOutcome, left}
use Rattle.chip.specs.Commands.{outcome_of, proper_operands}

-- a state of its parts
abbrev pub held : List ℕ → Bool → ℕ → Bool → State
held stack pending status service = record { stack = stack; pending = pending; status = status; service = service }

-- the state that a struct stands for, and the answer
abbrev pub state_in : Held → State
state_in s = held (bytes_in s.stack) s.pending s.status s.service

abbrev pub answer_in : HeldAnswer → Answer
answer_in a = record { refusal = a.refusal; byte = a.byte; state = state_in a.state }

-- pending after n bytes pushed or popped, and the state after them
abbrev pub flipped : ℕ → Bool → Bool
flipped n pending = cond (eqb (n % 2) 1) (not pending) pending

abbrev pub block_moved : Held → ℕ → List ℕ → State
block_moved s n stack = held stack (flipped n s.pending) s.status s.service

-- ---- a command on a stack: what it leaves, or its refusal
abbrev pub outcome_in : Outcome → CommandOutcome
outcome_in o = left (bytes_in o.stack) o.status

abbrev pub became : Result Outcome Refusal → Result CommandOutcome Refusal
became (Ok o) = Ok (outcome_in o)
became (Err refusal) = Err refusal

-- a command that leaves its stack where it stood, and answers with the status
abbrev pub left_by : Stack → Result ℕ Refusal → Result CommandOutcome Refusal
left_by stack (Ok status) = Ok (left (bytes_in stack) status)
left_by stack (Err refusal) = Err refusal

-- the result of a fixed-point operation over half of the number of words
abbrev pub result_of : FixedOp → ℕ → ℕ → ℕ → Fixed
result_of Add h b a = add h b a
result_of Sub h b a = sub h b a
result_of Mul h b a = mul h b a
result_of Muu h b a = muu h b a
result_of Div h b a = div h b a
result_of Chs h b a = chs h a

-- with nothing pending: accepted where its operands are proper, else 4
abbrev pub obeyed_of : Rule → Command → List ℕ → Result CommandOutcome Refusal
obeyed_of rule command s = cond (proper_operands command s) (Ok (outcome_of rule command s)) (Err Improper)

-- the same under either rule
abbrev pub ObeysEither : Command → Stack → Result Outcome Refusal → Type 0
ObeysEither command s o = (rule : Rule) → became o ≡ obeyed_of rule command (bytes_in s)

-- accepted, its operands asked for nothing, with the same outcome under either rule
abbrev pub LeavesEither : Command → Stack → Outcome → Type 0
LeavesEither command s o = ObeysEither command s (Ok o)

-- what a code stands for, with nothing pending
abbrev pub performed_of : Rule → Kind → List ℕ → Result CommandOutcome Refusal
performed_of rule (Known command) s = obeyed_of rule command s
performed_of rule Derived s = Err DerivedCode
performed_of rule Unknown s = Err UnknownCode

-- the refusal of a code with a half word pending
abbrev pub half_word : Kind → Refusal
half_word (Known command) = HalfWord
half_word Derived = DerivedCode
half_word Unknown = UnknownCode

-- a code on a stack, whatever stands beside it but pending
abbrev pub commanded_of : Rule → Bool → ℕ → List ℕ → Result CommandOutcome Refusal
commanded_of rule pending code s =
    cond pending (Err (half_word (decoded (code % 128)))) (performed_of rule (decoded (code % 128)) s)
