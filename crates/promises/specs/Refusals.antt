-- Demand 1, single events: which number each gets, in 01's order 13, 1, 2, 3, 4, and that nothing changes. Definitions
-- and the statement only:
-- proofs/Refusals.antt proves it. Assumes nothing.
use Rattle.std.specs.Prelude.{ℕ, ◌%◌, ◌≡◌, true, false}
use Rattle.codes.specs.Command.{Command}
use Rattle.codes.specs.Command.{Known, Derived, Unknown}
use Rattle.codes.specs.Codes.{decoded}
use Rattle.promises.specs.Subjects.{Settings, State, Answer, ChipEvent as Event, Push, Pop, Status, Reset}
use Rattle.promises.specs.Subjects.{Acknowledge, command_under, answer_to}
use Rattle.promises.specs.RefusalNumbers.{number_of}
use Rattle.promises.specs.BusEvents.{busy, proper_operands}

-- an answer with 01's number n, no byte read, and the very state
pub record TurnedAway (s : State) (a : Answer) (n : ℕ) : Type 0 where
  pub number : number_of a.refusal ≡ n
  pub byte : a.byte ≡ 0
  pub state : a.state ≡ s

pub record Numbers (on : Settings) : Type 0 where
  -- a busy state: 13 for every event, whatever it is
  pub busy_state : (s : State) (e : Event) → busy s ≡ true → TurnedAway s (answer_to on s e) 13
  -- an unknown code 1 and a derived function 2, with a half word pending or not
  pub unknown : (s : State) (code : ℕ) → busy s ≡ false
      → decoded (code % 128) ≡ Unknown → TurnedAway s (command_under on.rule s code) 1
  pub derived : (s : State) (code : ℕ) → busy s ≡ false → decoded (code % 128) ≡ Derived
      → TurnedAway s (command_under on.rule s code) 2
  -- a known command with a half word pending 3, with proper operands or not
  pub half_word_lem : (s : State) (code : ℕ) (k : Command) → busy s ≡ false → decoded (code % 128) ≡ Known k
      → s.pending ≡ true → TurnedAway s (command_under on.rule s code) 3
  -- else 4 where an operand is not proper
  pub improper : (s : State) (code : ℕ) (k : Command) → busy s ≡ false → decoded (code % 128) ≡ Known k
      → s.pending ≡ false → proper_operands k s.stack ≡ false
      → TurnedAway s (command_under on.rule s code) 4
  -- and else 0; every other event of a state that is not busy is answered 0
  pub command_done : (s : State) (code : ℕ) (k : Command) → busy s ≡ false → decoded (code % 128) ≡ Known k
      → s.pending ≡ false → proper_operands k s.stack ≡ true
      → number_of (command_under on.rule s code).refusal ≡ 0
  pub push_done : (s : State) (byte : ℕ) → busy s ≡ false → number_of (answer_to on s (Push byte)).refusal ≡ 0
  pub pop_done : (s : State) → busy s ≡ false → number_of (answer_to on s Pop).refusal ≡ 0
  pub read_done : (s : State) → busy s ≡ false → (number_of (answer_to on s Status).refusal ≡ 0)
      × ((answer_to on s Status).byte ≡ s.status) × ((answer_to on s Status).state ≡ s)
  pub reset_done : (s : State) → busy s ≡ false → number_of (answer_to on s Reset).refusal ≡ 0
  pub acknowledge_done : (s : State) → busy s ≡ false → number_of (answer_to on s Acknowledge).refusal ≡ 0

-- of the chip as it stands
abbrev pub Refusals : Type 0
Refusals = (on : Settings) → Numbers on
