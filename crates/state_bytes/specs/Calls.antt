-- What the run and the single event return and leave in each slice that they were lent. Definitions only. Assumes nothing.
use Rattle.std.specs.Prelude.{ℕ, ◌+◌, ◌*◌, ◌≡◌, cond, List, ◌++◌, eqb, ltb, length, drop}
use Rattle.terms.specs.declared.Refusal.{Refusal}
use Rattle.terms.specs.declared.Refusal.TheVariants.{NoSuchKind, InputTooLong, BadState, BadReport, BadMode, BadRule}
use Rattle.terms.specs.Refusal.{number_of}
use Rattle.terms.specs.Limits.{report_bytes, most_input}
use Rattle.terms.specs.declared.Settings.{Settings}
use Rattle.terms.specs.Settings.{is_mode, mode_of, is_rule, rule_of}
use Rattle.chip.specs.Step.{given}
use Rattle.chip.specs.Event.{Push, Pop, Command, Status, Reset, Acknowledge}
use Rattle.error_memory.specs.Event.{Chip, Recall, Forget}
use Rattle.error_memory.specs.Memory.{Card, CardAnswer, event_in}
use Rattle.terms.specs.declared.EventKind.{EventKind}
use Rattle.terms.specs.declared.EventKind.TheVariants.{Push as PushKind, Pop as PopKind, Command as CommandKind, Status as StatusKind}
use Rattle.terms.specs.declared.EventKind.TheVariants.{Reset as ResetKind, Acknowledge as AcknowledgeKind, Recall as RecallKind}
use Rattle.terms.specs.declared.EventKind.TheVariants.{Forget as ForgetKind, Unknown as UnknownKind}
use Rattle.terms.specs.Kind.{kind_named}
use Rattle.record_runs.specs.Run.{Outcome, run_of}
use Rattle.state_bytes.specs.Bytes.{is_state, card_in, laid_out, report_of}

-- what the numbers that are given with a call set: the mode and the rule
abbrev pub settings_of : ℕ → ℕ → Settings
settings_of mode rule = given (mode_of mode) (rule_of rule)

-- ---- the run

-- what the call returns, and what state, replies and report hold after
pub record Called : Type 0 where
  pub result : ℕ
  pub state : List ℕ
  pub replies : List ℕ
  pub report : List ℕ

-- after a run on a state of so many bytes: replies past the written ones stay
abbrev pub ran_of : ℕ → Outcome → List ℕ → Called
ran_of n o replies = record {
  result = o.refusal;
  state = laid_out n o.state;
  replies = o.written ++ drop (length o.written) replies;
  report = report_of o.refusal o.taken (length o.written);
}

-- turned away: only the report is written, both counts 0
abbrev pub away : Refusal → List ℕ → List ℕ → Called
away r state replies = record { result = number_of r; state = state; replies = replies; report = report_of (number_of r) 0 0 }

-- under settings: 13, then 9
abbrev pub call_under : Settings → List ℕ → List ℕ → List ℕ → Called
call_under on state input replies =
    cond (is_state state)
    (cond (ltb most_input (length input)) (away InputTooLong state replies) (ran_of (length state) (run_of (card_in on state) input (length replies)) replies))
    (away BadState state replies)

-- the order is 14, 16, 17, 13, 9; 14 writes nothing
unfoldable pub call_of : ℕ → ℕ → List ℕ → List ℕ → List ℕ → List ℕ → Called
call_of mode rule state input replies report =
    cond (eqb (length report) report_bytes)
    (cond (is_mode mode)
    (cond (is_rule rule) (call_under (settings_of mode rule) state input replies) (away BadRule state replies))
    (away BadMode state replies))
    (record { result = number_of BadReport; state = state; replies = replies; report = report })

-- what a call did beside the definition's
pub record Calls (c : Called) (result : ℕ) (state replies report : List ℕ) : Type 0 where
  pub result_is : result ≡ c.result
  pub state_is : state ≡ c.state
  pub replies_is : replies ≡ c.replies
  pub report_is : report ≡ c.report

-- ---- a single event

-- an event of a kind: 5 for one that is none
abbrev pub answered_by : Card → ℕ → EventKind → CardAnswer
answered_by c byte PushKind = event_in c (Chip (Push byte))
answered_by c byte PopKind = event_in c (Chip Pop)
answered_by c byte CommandKind = event_in c (Chip (Command byte))
answered_by c byte StatusKind = event_in c (Chip Status)
answered_by c byte ResetKind = event_in c (Chip Reset)
answered_by c byte AcknowledgeKind = event_in c (Chip Acknowledge)
answered_by c byte RecallKind = event_in c Recall
answered_by c byte ForgetKind = event_in c Forget
answered_by c byte UnknownKind = record { refusal = NoSuchKind; byte = 0; card = c }

-- and by its kind's number: 5 for one that is not 1 to 8
abbrev pub answer_to_kind : Card → ℕ → ℕ → CardAnswer
answer_to_kind c kind byte = answered_by c byte (kind_named kind)

-- what the call returns, and what the state holds after
pub record Signal : Type 0 where
  pub result : ℕ
  pub state : List ℕ

-- 256 times the refusal plus the byte read
abbrev pub joined_of : ℕ → ℕ → ℕ
joined_of refusal byte = 256 * refusal + byte

-- the state is written on 0 alone
abbrev pub signal_by : List ℕ → CardAnswer → Signal
signal_by state a = record {
  result = joined_of (number_of a.refusal) a.byte;
  state = cond (eqb (number_of a.refusal) 0) (laid_out (length state) a.card) state;
}

-- turned away: the number alone
abbrev pub unsent : Refusal → List ℕ → Signal
unsent r state = record { result = joined_of (number_of r) 0; state = state }

-- under settings: 13 first
abbrev pub signal_under : Settings → List ℕ → ℕ → ℕ → Signal
signal_under on state kind byte = cond (is_state state) (signal_by state (answer_to_kind (card_in on state) kind byte)) (unsent BadState state)

-- 16 and 17 come before
unfoldable pub signal_of : ℕ → ℕ → List ℕ → ℕ → ℕ → Signal
signal_of mode rule state kind byte =
    cond (is_mode mode)
    (cond (is_rule rule) (signal_under (settings_of mode rule) state kind byte) (unsent BadRule state))
    (unsent BadMode state)

pub record Signals (t : Signal) (result : ℕ) (state : List ℕ) : Type 0 where
  pub result_is : result ≡ t.result
  pub state_is : state ≡ t.state
