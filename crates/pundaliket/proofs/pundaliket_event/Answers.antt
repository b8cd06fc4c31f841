-- `pundaliket::pundaliket_event` meets its contract: turned away at the door, or the event of the kind. Assumes nothing.
use mathlib.Core.Path.{◌≡◌, refl, sym, ap, ◌∙◌}
use Prim.Native.Nat.{ℕ}
use Rattle.terms.specs.Refusal.{number_of}
use Rattle.state_bytes.specs.Bytes.{door_of}
use Rattle.state_bytes.specs.Calls.{joined_of}
use Rattle.state_bytes.proofs.Calling.{admitted}
use Rattle.pundaliket.proofs.Events.{signal_away, signalled}
use Rattle.pundaliket.proofs.pundaliket_event.Goals as goal

pub returns-then-refusal-ne0 : goal.returns-then-refusal-ne0
returns-then-refusal-ne0 c =
    let a = c.args in
    let door : c.number-refusal.result ≡ number_of (door_of a.mode a.rule a.state.now) = c.number-refusal.ensures.0 ∙ ap number_of c.admit.ensures in
    rw (signal_away a.mode a.rule a.state.now a.kind a.byte (λ z. c.if-refusal-ne0.true (door ∙ z)))
    record { result_is = c.joined.ensures ∙ ap (λ (n : ℕ). joined_of n 0) door; state_is = refl }

pub returns : goal.returns
returns c =
    let a = c.args in
    let door : c.number-refusal.result ≡ number_of (door_of a.mode a.rule a.state.now) = c.number-refusal.ensures.0 ∙ ap number_of c.admit.ensures in
    let open-door = admitted a.mode a.rule a.state.now (sym door ∙ c.if-refusal-ne0.false) in
    rw (signalled a.mode a.rule a.state.now a.kind a.byte open-door)
    (rw (
      c.mode_of.ensures,
      c.rule_of.ensures,
      c.kind_of.ensures,
    ) at c.event_on.ensures)
