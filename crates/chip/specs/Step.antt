-- What each event answers: the refusal, the byte read, and the state after. Definitions only. Assumes nothing.
use Rattle.std.specs.Prelude.{ℕ, ◌%◌, Bool, cond}
use Rattle.terms.specs.declared.Refusal.{Refusal}
use Rattle.terms.specs.declared.Refusal.TheVariants.{Done, UnknownCode, DerivedCode, HalfWord, Improper, BadState}
use Rattle.stack.specs.Stack.{top_byte, pushed, popped}
use Rattle.codes.specs.Command.{Command}
use Rattle.codes.specs.Command.{Kind}
use Rattle.codes.specs.Command.{Known, Derived, Unknown}
use Rattle.codes.specs.Codes.{sr, decoded}
use Rattle.terms.specs.declared.Mode.{Mode}
use Rattle.terms.specs.declared.Rule.{Rule}
use Rattle.terms.specs.declared.Settings.{Settings}
use Rattle.chip.specs.State.{State}
use Rattle.chip.specs.State.{Answer}
use Rattle.chip.specs.Event.{Event}
use Rattle.chip.specs.Event.{Push, Pop, Command as CommandEvent, Status, Reset, Acknowledge}
use Rattle.chip.specs.State.{busy, moved, after_reset, acknowledged, settled}
use Rattle.chip.specs.Commands.{base_rule, outcome_of, proper_operands}

-- 0, the byte read, and the state after
abbrev pub done : ℕ → State → Answer
done byte after = record { refusal = Done; byte = byte; state = after }

-- a refusal: no byte, state as before
abbrev pub refused : Refusal → State → Answer
refused refusal s = record { refusal = refusal; byte = 0; state = s }

-- 13 comes before everything else
abbrev pub unless_busy : State → Answer → Answer
unless_busy s answer = cond (busy s) (refused BadState s) answer

unfoldable pub push_of : State → ℕ → Answer
push_of s byte = unless_busy s (done 0 (moved s (pushed s.stack byte)))

unfoldable pub pop_of : State → Answer
pop_of s = unless_busy s (done (top_byte s.stack) (moved s (popped s.stack)))

unfoldable pub reset_of : Mode → State → Answer
reset_of mode s = unless_busy s (done 0 (after_reset mode s))

unfoldable pub acknowledge_of : State → Answer
acknowledge_of s = unless_busy s (done 0 (acknowledged s))

-- a status read
unfoldable pub read_of : State → Answer
read_of s = unless_busy s (done s.status s)

-- a known command: 3 with a half word pending, then 4 for an operand that is not proper, else done
unfoldable pub carried : Rule → State → Bool → Command → Answer
carried rule s service command =
    cond s.pending (refused HalfWord s)
    (cond (proper_operands command s.stack) (done 0 (settled s service (outcome_of rule command s.stack))) (refused Improper s))

-- a code by its kind: 1 unknown, 2 derived
abbrev pub answer_by_kind : Rule → State → Bool → Kind → Answer
answer_by_kind rule s service (Known command) = carried rule s service command
answer_by_kind rule s service Derived = refused DerivedCode s
answer_by_kind rule s service Unknown = refused UnknownCode s

-- a command under a rule for float results: the order of refusals is 13, 1, 2, 3, 4
unfoldable pub command_under : Rule → State → ℕ → Answer
command_under rule s code = unless_busy s (answer_by_kind rule s (sr code) (decoded (code % 128)))

abbrev pub command_of : State → ℕ → Answer
command_of s code = command_under base_rule s code

-- ---- an event of the bus, a reset being of one part or the other and float results being formed under a rule
abbrev pub answer_to : Settings → State → Event → Answer
answer_to on s (Push byte) = push_of s byte
answer_to on s Pop = pop_of s
answer_to on s (CommandEvent code) = command_under on.rule s code
answer_to on s Status = read_of s
answer_to on s Reset = reset_of on.mode s
answer_to on s Acknowledge = acknowledge_of s

-- a mode and a rule
abbrev pub given : Mode → Rule → Settings
given mode rule = record { mode = mode; rule = rule }

-- a mode, and the one rule of the base
abbrev pub under : Mode → Settings
under mode = given mode base_rule
