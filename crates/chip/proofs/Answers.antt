-- The answer of an event, by what was tested on the way to it. Assumes nothing.
use mathlib.Core.Path.{◌≡◌, sym, ap, ◌∙◌}
use mathlib.Core.Bool.{Bool, true, false}
use Prim.Native.Nat.{ℕ, ◌%◌, ◌≤◌, ◌<◌}
use borrow.Author.Tests.{le-leb, lt-leb}
use Rattle.terms.specs.declared.Refusal.TheVariants.{BadState}
use Rattle.terms.specs.declared.Rule.{Rule}
use Rattle.codes.specs.Command.{Command}
use Rattle.codes.specs.Command.{Kind}
use Rattle.codes.specs.Command.{Known}
use Rattle.codes.specs.Codes.{sr, decoded}
use Rattle.chip.specs.State.{State}
use Rattle.chip.specs.State.{Answer}
use Rattle.chip.specs.State.{CommandOutcome, settled}
use Rattle.chip.specs.Commands.{outcome_of, proper_operands}
use Rattle.chip.specs.Step.{done, refused, unless_busy, carried, answer_by_kind, command_under}

module _ (s : State) {a : Answer} (x : Answer) where
  pub when_busy : 128 ≤ s.status → a ≡ refused BadState s → a ≡ unless_busy s x
  when_busy h e = e ∙ rw (le-leb 128 s.status h)

  pub when_ready : s.status < 128 → a ≡ x → a ≡ unless_busy s x
  when_ready h e = e ∙ rw (lt-leb 128 s.status h)

module _ (rule : Rule) (s : State) (service : Bool) (k : Command) {a : Answer} where
  pub carried_done : {o : CommandOutcome} → s.pending ≡ false → proper_operands k s.stack ≡ true → o ≡ outcome_of rule k s.stack
      → a ≡ done 0 (settled s service o) → a ≡ carried rule s service k
  unfolding carried
  carried_done p f h e = e ∙ ap (λ (x : CommandOutcome). done 0 (settled s service x)) h ∙ rw (p, f)

-- a command that is not busy is answered by its kind
pub command_by : (rule : Rule) (s : State) (code : ℕ) {k l : Kind} {a : Answer} → s.status < 128 → k ≡ decoded (code % 128) → k ≡ l
    → a ≡ answer_by_kind rule s (sr code) l → a ≡ command_under rule s code
unfolding command_under
command_by rule s code h e f g = when_ready s (answer_by_kind rule s (sr code) (decoded (code % 128))) h (g ∙ ap (answer_by_kind rule s (sr code)) (sym f ∙ e))

-- a known command is carried out with the service bit of its code
pub known_by : (rule : Rule) (s : State) (code : ℕ) {k : Kind} {v : Bool} {command : Command} {a : Answer} → s.status < 128 → k ≡ decoded (code % 128)
    → k ≡ Known command → v ≡ sr code → a ≡ carried rule s v command → a ≡ command_under rule s code
known_by rule s code {command = command} h e f v g = command_by rule s code h e f (g ∙ ap (λ (x : Bool). carried rule s x command) v)

-- a busy state is handed back by every command
pub command_busy : (rule : Rule) (s : State) (code : ℕ) {a : Answer} → 128 ≤ s.status → a ≡ refused BadState s → a ≡ command_under rule s code
unfolding command_under
command_busy rule s code h e = when_busy s (answer_by_kind rule s (sr code) (decoded (code % 128))) h e
