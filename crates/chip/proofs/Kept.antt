-- A refused event hands back the very state, with no byte: every event is answered 0, or by a refusal of the state as it came. Assumes nothing.
use mathlib.Core.Path.{◌≡◌, refl}
use mathlib.Core.Logic.{◌⊎◌, inl, inr}
use mathlib.Core.Bool.{Bool, true, false, cond}
use Prim.Native.Nat.{ℕ, ◌%◌}
use Rattle.terms.specs.declared.Refusal.TheVariants.{Done, BadState}
use Rattle.terms.specs.declared.Rule.{Rule}
use Rattle.terms.specs.declared.Settings.{Settings}
use Rattle.codes.specs.Command.{Command}
use Rattle.codes.specs.Command.{Kind}
use Rattle.codes.specs.Command.{Known, Derived, Unknown}
use Rattle.codes.specs.Codes.{sr, decoded}
use Rattle.chip.specs.State.{State}
use Rattle.chip.specs.State.{Answer}
use Rattle.chip.specs.Event.{Event}
use Rattle.chip.specs.Event.{Push, Pop, Command as CommandEvent, Status, Reset, Acknowledge}
use Rattle.chip.specs.State.{busy}
use Rattle.chip.specs.Commands.{proper_operands}
use Rattle.chip.specs.Step.{refused, unless_busy, push_of, pop_of, reset_of, acknowledge_of, read_of, carried, answer_by_kind, command_under, answer_to}

-- an answer to a state: done, or refused with that state
abbrev pub Keeps : State → Answer → Type 0
Keeps s a = (a.refusal ≡ Done) ⊎ (a ≡ refused a.refusal s)

keeps_cond : (s : State) (t : Bool) (x y : Answer) → Keeps s x → Keeps s y → Keeps s (cond t x y)
keeps_cond s true x y p q = p
keeps_cond s false x y p q = q

unless_busy_lem : (s : State) (x : Answer) → Keeps s x → Keeps s (unless_busy s x)
unless_busy_lem s x p = keeps_cond s (busy s) (refused BadState s) x (inr refl) p

carried_keeps : (rule : Rule) (s : State) (service : Bool) (k : Command) → Keeps s (carried rule s service k)
unfolding carried
carried_keeps rule s service k = keeps_cond s s.pending _ _ (inr refl) (keeps_cond s (proper_operands k s.stack) _ _ (inl refl) (inr refl))

answer_keeps : (rule : Rule) (s : State) (service : Bool) (k : Kind) → Keeps s (answer_by_kind rule s service k)
answer_keeps rule s service (Known command) = carried_keeps rule s service command
answer_keeps rule s service Derived = inr refl
answer_keeps rule s service Unknown = inr refl

pub command_keeps : (rule : Rule) (s : State) (code : ℕ) → Keeps s (command_under rule s code)
unfolding command_under
command_keeps rule s code = unless_busy_lem s _ (answer_keeps rule s (sr code) (decoded (code % 128)))

-- every event of the bus
pub event_keeps : (on : Settings) (s : State) (e : Event) → Keeps s (answer_to on s e)
unfolding push_of pop_of read_of reset_of acknowledge_of
event_keeps on s (Push b) = unless_busy_lem s _ (inl refl)
event_keeps on s Pop = unless_busy_lem s _ (inl refl)
event_keeps on s (CommandEvent code) = command_keeps on.rule s code
event_keeps on s Status = unless_busy_lem s _ (inl refl)
event_keeps on s Reset = unless_busy_lem s _ (inl refl)
event_keeps on s Acknowledge = unless_busy_lem s _ (inl refl)
