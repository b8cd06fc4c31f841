-- Demand 3: chains of steps on one float word. Definitions and the statement only: proofs/Chains.antt proves it.
-- Assumes nothing.
use Rattle.std.specs.Prelude.{ℕ, ◌+◌, ◌%◌, ◌≡◌, Bool, true, false, cond, List, [], ◌∷◌, ◌++◌, replicate}
use Rattle.terms.specs.declared.Mode.TheVariants.{Am9511A}
use Rattle.float.specs.declared.Flagged.{Flagged}
use Rattle.terms.specs.declared.Rule.{Rule}
use Rattle.float.specs.Float.{add, sub, mul, div}
use Rattle.float.specs.Convert.{chsf}
use Rattle.promises.specs.Subjects.{Settings, State, ChipEvent as Event, Command}
use Rattle.promises.specs.Stack.{tos}
use Rattle.promises.specs.FloatWords.{negative, FloatWord, Le}
use Rattle.promises.specs.BusEvents.{under, reset_state, error_of, after_events, answered, quiet, pushes_of, AtRest}

-- ---- chains
-- add, subtract, multiply or divide by a constant, take from a constant, change the sign
pub data Step : Type 0 where
  Add : ℕ → Step
  Subtract : ℕ → Step
  Multiply : ℕ → Step
  Divide : ℕ → Step
  TakeFrom : ℕ → Step
  Change : Step

-- a command with its bit 7, sr, set or clear
abbrev pub command_event : Bool → ℕ → Event
command_event sr code = Command (cond sr (code + 128) code)

-- FADD 10, FSUB 11, FMUL 12, FDIV 13, CHSF 15, XCHF 19; the commands of a step have the bits sr 0 and sr 1
abbrev pub events_of : (ℕ → Bool) → Step → List Event
events_of sr (Add c) = pushes_of 4 c ++ (command_event (sr 0) 0x10 ∷ [])
events_of sr (Subtract c) = pushes_of 4 c ++ (command_event (sr 0) 0x11 ∷ [])
events_of sr (Multiply c) = pushes_of 4 c ++ (command_event (sr 0) 0x12 ∷ [])
events_of sr (Divide c) = pushes_of 4 c ++ (command_event (sr 0) 0x13 ∷ [])
events_of sr (TakeFrom c) = pushes_of 4 c ++ (command_event (sr 0) 0x19 ∷ command_event (sr 1) 0x11 ∷ [])
events_of sr Change = command_event (sr 0) 0x15 ∷ []

-- how many commands a step gives
abbrev pub commands_in : Step → ℕ
commands_in (Add c) = 1
commands_in (Subtract c) = 1
commands_in (Multiply c) = 1
commands_in (Divide c) = 1
commands_in (TakeFrom c) = 2
commands_in Change = 1

-- the steps in turn; sr gives each command of the chain its bit 7, counted from 0
abbrev pub chain_of : (ℕ → Bool) → List Step → List Event
chain_of sr [] = []
chain_of sr (k ∷ ks) = events_of sr k ++ chain_of (λ (n : ℕ). sr (commands_in k + n)) ks

-- constants are proper words
abbrev pub Constant : Step → Type 0
Constant (Add c) = FloatWord c
Constant (Subtract c) = FloatWord c
Constant (Multiply c) = FloatWord c
Constant (Divide c) = FloatWord c
Constant (TakeFrom c) = FloatWord c
Constant Change = Unit

-- and so are all of a chain
abbrev pub Constants : List Step → Type 0
Constants [] = Unit
Constants (k ∷ ks) = Constant k × Constants ks

-- reversing are: sign change, taking from a constant, multiplying or dividing by a negative constant
abbrev pub is_reversing : Step → Bool
is_reversing (Add c) = false
is_reversing (Subtract c) = false
is_reversing (Multiply c) = negative c
is_reversing (Divide c) = negative c
is_reversing (TakeFrom c) = true
is_reversing Change = true

-- how many steps of a chain are reversing
abbrev pub reversing : List Step → ℕ
reversing [] = 0
reversing (k ∷ ks) = cond (is_reversing k) 1 0 + reversing ks

-- ---- the word that a chain makes of a word, by demand 2's definitions alone
-- B is the word and A the constant; taking from a constant has them change places
abbrev pub work_of : Rule → Step → ℕ → Flagged
work_of rule (Add c) w = add rule w c
work_of rule (Subtract c) w = sub rule w c
work_of rule (Multiply c) w = mul rule w c
work_of rule (Divide c) w = div rule w c
work_of rule (TakeFrom c) w = sub rule c w
work_of rule Change w = record { word = chsf w; error = 0 }

-- the steps in turn, each on the word that the one before made
abbrev pub word_after : Rule → ℕ → List Step → ℕ
word_after rule w [] = w
word_after rule w (k ∷ ks) = word_after rule (work_of rule k w).word ks

-- ---- runs
-- from which state, on which word, and bit 7 of each command
pub record Run : Type 0 where
  pub state : State
  pub word : ℕ
  pub sr : ℕ → Bool

-- a run may start from any state that 13 does not turn away, with nothing pending, whatever its stack, status and
-- service line, on a proper word
pub record Starts (x : Run) : Type 0 where
  pub at_rest : AtRest x.state
  pub proper : FloatWord x.word

-- its events: the word is pushed, then the chain is worked, sr giving each command its bit 7
abbrev pub run_events : ℕ → (ℕ → Bool) → List Step → List Event
run_events w sr ks = pushes_of 4 w ++ chain_of sr ks

abbrev pub events_of_run : Run → List Step → List Event
events_of_run x ks = run_events x.word x.sr ks

-- the state at the end
abbrev pub state_at_end : Settings → Run → List Step → State
state_at_end on x ks = after_events on x.state (events_of_run x ks)

-- the result: the TOS at the end
abbrev pub result_of : Settings → Run → List Step → ℕ
result_of on x ks = tos 4 (state_at_end on x ks).stack

-- no command of the run sets an error bit; bits that stood in the start status do not count
abbrev pub Quiet : Settings → Run → List Step → Type 0
Quiet on x ks = quiet on x.state (events_of_run x ks) ≡ true

-- ---- the statement, over the mode and the rule for float results. Chains are of any length, and a multiplier or a
-- divisor may even be zero
pub record Chains (on : Settings) : Type 0 where
  -- every event is answered 0, error bits or not
  pub every_answered : (x : Run) (ks : List Step) → Starts x → Constants ks
      → answered on x.state (events_of_run x ks) ≡ true
  -- the result is demand 2's word of the word and the chain alone: no stack, status, service line or sr bit enters
  pub by_word_alone : (x : Run) (ks : List Step) → Starts x → Constants ks
      → result_of on x ks ≡ word_after on.rule x.word ks
  -- equal words give equal words
  pub equal_words : (x y : Run) (ks : List Step) → Starts x → Starts y → Constants ks → x.word ≡ y.word
      → result_of on x ks ≡ result_of on y ks
  -- a chain of no steps gives the word itself
  pub no_steps : (x : Run) → Starts x → result_of on x [] ≡ x.word
  -- the result is a proper word, and the state is one from which a run may start
  pub proper_result : (x : Run) (ks : List Step) → Starts x → Constants ks → FloatWord (result_of on x ks)
  pub ready_again : (x : Run) (ks : List Step) → Starts x → Constants ks → AtRest (state_at_end on x ks)
  -- an even number of reversing steps keeps the order of the two values
  pub even_keeps : (x y : Run) (ks : List Step) → Starts x → Starts y → Constants ks → Quiet on x ks → Quiet on y ks
      → Le x.word y.word
      → reversing ks % 2 ≡ 0 → Le (result_of on x ks) (result_of on y ks)
  -- an odd number turns it round
  pub odd_turns : (x y : Run) (ks : List Step) → Starts x → Starts y → Constants ks → Quiet on x ks → Quiet on y ks
      → Le x.word y.word
      → reversing ks % 2 ≡ 1 → Le (result_of on y ks) (result_of on x ks)

-- demand 3: of the chip as it stands
abbrev pub Demand3 : Type 0
Demand3 = (on : Settings) → Chains on

-- ---- examples: the premise of the order can be met, and without it order can break
-- from reset, sr clear; and from a full stack with every error bit and the carry standing in the status, the service
-- line high, sr set
abbrev pub from_reset : ℕ → Run
from_reset w = record { state = reset_state; word = w; sr = λ (n : ℕ). false }

abbrev pub from_full : ℕ → Run
from_full w = record {
  state = record { stack = replicate 16 255; pending = false; status = 0x7f; service = true };
  word = w;
  sr = λ (n : ℕ). true;
}

-- times 2, take from 1
abbrev pub turned : List Step
turned = Multiply 0x02800000 ∷ TakeFrom 0x01800000 ∷ []

-- plus 1, times -2, take from 3, change sign, divided by 2, minus 1
abbrev pub every_kind : List Step
every_kind =
    Add 0x01800000 ∷ Multiply 0x82800000 ∷ TakeFrom 0x02c00000 ∷ Change ∷ Divide 0x02800000 ∷ Subtract 0x01800000 ∷ []

-- times the greatest word; and then plus zero, which leaves a status with no error bit
abbrev pub too_far : List Step
too_far = Multiply 0x3fffffff ∷ []

abbrev pub too_far_and_on : List Step
too_far_and_on = Multiply 0x3fffffff ∷ Add 0x00000000 ∷ []

pub record Examples : Type 0 where
  -- two runs that meet every premise, on 1 and 2, give -1 and -3: turned round once
  pub starts : Starts (from_reset 0x01800000) × Starts (from_full 0x02800000) × Constants turned
      × Le 0x01800000 0x02800000
  pub quiet_runs : Quiet (under Am9511A) (from_reset 0x01800000) turned
      × Quiet (under Am9511A) (from_full 0x02800000) turned
  pub results : (result_of (under Am9511A) (from_reset 0x01800000) turned ≡ 0x81800000)
      × (result_of (under Am9511A) (from_full 0x02800000) turned ≡ 0x82c00000)
  pub turned_round : (reversing turned ≡ 1) × (Le 0x81800000 0x82c00000 → ⊥)
  -- a chain of every kind of step, on 1 and 2, gives -4.5 and -5.5
  pub every_kind_lem : Constants every_kind × Quiet (under Am9511A) (from_reset 0x01800000) every_kind
      × Quiet (under Am9511A) (from_full 0x02800000) every_kind × (reversing every_kind ≡ 3)
  pub every_kind_results : (result_of (under Am9511A) (from_reset 0x01800000) every_kind ≡ 0x83900000)
      × (result_of (under Am9511A) (from_full 0x02800000) every_kind ≡ 0x83b00000)
  -- without the premise: no step reverses, the second run overflows, and the order of the values is broken
  pub overflows : (reversing too_far ≡ 0) × Quiet (under Am9511A) (from_reset 0x01800000) too_far
      × (quiet (under Am9511A) reset_state (events_of_run (from_reset 0x3fffffff) too_far) ≡ false)
  pub broken : (result_of (under Am9511A) (from_reset 0x01800000) too_far ≡ 0x3fffffff)
      × (result_of (under Am9511A) (from_reset 0x3fffffff) too_far ≡ 0x7efffffe)
  pub crossed : Le 0x01800000 0x3fffffff × (Le 0x3fffffff 0x7efffffe → ⊥)
  -- a look at the last status alone would miss it
  pub last_is_clear : (error_of (state_at_end (under Am9511A) (from_reset 0x3fffffff) too_far_and_on).status ≡ 0)
      × (result_of (under Am9511A) (from_reset 0x3fffffff) too_far_and_on ≡ 0x7efffffe)
