-- The state of document 01 by value, and what becomes of it. Definitions only. Assumes nothing.
use Rattle.std.specs.Prelude.{ℕ, Bool, false, not, cond, List, ◌++◌, leb, take}
use Rattle.terms.specs.declared.Refusal.{Refusal}
use Rattle.terms.specs.declared.Mode.{Mode}
use Rattle.terms.specs.declared.Mode.TheVariants.{Am9511A, Am9511}
use Rattle.stack.specs.Stack.{zeros, popped}

-- the stack's 16 bytes, top first, whether a half word is pending, the status, the service line
pub record State : Type 0 where
  pub stack : List ℕ
  pub pending : Bool
  pub status : ℕ
  pub service : Bool

-- what an event answers; the byte is 0 where there is none and in every refusal
pub record Answer : Type 0 where
  pub refusal : Refusal
  pub byte : ℕ
  pub state : State

-- status bit 7
abbrev pub busy : State → Bool
busy s = leb 128 s.status

-- after a byte pushed or popped: the stack that this leaves, and pending the other way
abbrev pub moved : State → List ℕ → State
moved s stack = record { stack = stack; pending = not s.pending; status = s.status; service = s.service }

-- after a reset: stack all zero, nothing pending, status 0, service line low
abbrev pub reset_state : State
reset_state = record { stack = zeros 16; pending = false; status = 0; service = false }

-- 02, ask 6: in the older mode "reset keeps all 16 bytes if no half word is pending. If one is, the top byte goes to the bottom and the bottom two bytes
-- become zero"
abbrev pub kept_stack : Bool → List ℕ → List ℕ
kept_stack pending stack = cond pending (take 14 (popped stack) ++ zeros 2) stack

-- after a reset of either part; "Pending, status and service line as in 01"
abbrev pub after_reset : Mode → State → State
after_reset Am9511A s = reset_state
after_reset Am9511 s = record { stack = kept_stack s.pending s.stack; pending = false; status = 0; service = false }

-- after an acknowledge: the service line low
abbrev pub acknowledged : State → State
acknowledged s = record { stack = s.stack; pending = s.pending; status = s.status; service = false }

-- what a command leaves: the stack and the status
pub record CommandOutcome : Type 0 where
  pub stack : List ℕ
  pub status : ℕ

abbrev pub left : List ℕ → ℕ → CommandOutcome
left stack status = record { stack = stack; status = status }

-- after an accepted command: the stack and the status that it leaves, and sr on the service line
abbrev pub settled : State → Bool → CommandOutcome → State
settled s sr left = record { stack = left.stack; pending = s.pending; status = left.status; service = sr }
