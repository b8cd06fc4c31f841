-- `record_runs::step::pass_kind` meets its contract: each kind by its worker, and what a reset, an acknowledge and a clear leave. Assumes nothing.
use mathlib.Core.Path.{◌≡◌, refl, sym, ap, ◌∙◌}
use mathlib.Core.List.{List, []}
use Prim.Native.Nat.{ℕ, ◌+◌}
use borrow.Author.Tests.{lt-leb}
use Rattle.terms.specs.Refusal.{number_of}
use Rattle.chip.specs.State.{Answer}
use Rattle.chip.specs.Event.{Reset as ResetEvent, Acknowledge as AcknowledgeEvent}
use Rattle.chip.specs.Step.{given}
use Rattle.chip.specs.Held.{state_in}
use Rattle.chip.proofs.Held.{reset_done, acknowledge_done}
use Rattle.error_memory.specs.Memory.{Card, card_with, kept_after, answer_with}
use Rattle.record_runs.specs.Record.{Event, Reset, Acknowledge, Forget, kind_of, payload_of, answered_of, answer_of, data_of}
use Rattle.record_runs.specs.Held.{Leaves}
use Rattle.record_runs.proofs.step.pass_kind.Goals as goal

-- an event that asks no payload and answers no data, by the card that it leaves and the number of its answer
leaves : {c after : Card} (e : Event) → payload_of e ≡ 0 → (answered_of e ≡ 0) × (data_of c e ≡ []) → ((bytes : List ℕ) → after ≡ (answer_of c bytes e).card)
    → ((bytes : List ℕ) → 0 ≡ number_of (answer_of c bytes e).refusal) → Leaves c after (kind_of e + 128) e
leaves e p d k z = record { no_payload = p; no_data = d; kind_is = refl; card_is = k; done_is = z }

pub returns-in-Reset : goal.returns-in-Reset
returns-in-Reset c =
    let a = c.args in
    let e = c.reset in
    let on = given a.mode a.rule in
    let m = a.card.memory in
    let is = reset_done (state_in a.card.chip) c.requires.0 a.mode in
    let empties = c.empty-memory.ensures ∙ ap (λ (x : Answer). kept_after m ResetEvent x) (sym (e.ensures ∙ is)) in
    λ file same.
    rw c.in-Reset.is
    (c.pass_bare.ensures on Reset (leaves Reset refl (refl, refl)
    (λ bytes. ap (card_with on (state_in e.result.state)) empties ∙ ap (λ (x : Answer). (answer_with on m ResetEvent x).card) e.ensures)
    (λ bytes. ap (λ (x : Answer). number_of x.refusal) (sym is))) file)

pub returns-in-Acknowledge : goal.returns-in-Acknowledge
returns-in-Acknowledge c =
    let a = c.args in
    let e = c.acknowledge in
    let on = given a.mode a.rule in
    let is = acknowledge_done (state_in a.card.chip) c.requires.0 in
    λ file same.
    rw c.in-Acknowledge.is
    (c.pass_bare-in-Acknowledge.ensures on Acknowledge (leaves Acknowledge refl (refl, refl)
    (λ bytes. ap (λ (x : Answer). (answer_with on a.card.memory AcknowledgeEvent x).card) e.ensures)
    (λ bytes. ap (λ (x : Answer). number_of x.refusal) (sym is))) file)

pub returns-in-Forget : goal.returns-in-Forget
returns-in-Forget c =
    let a = c.args in
    let on = given a.mode a.rule in
    let s = state_in a.card.chip in
    let ready = lt-leb 128 s.status c.requires.0 in
    λ file same.
    rw c.in-Forget.is
    (c.pass_bare-in-Forget.ensures on Forget (leaves Forget refl (refl, refl)
    (λ bytes. ap (card_with on s) c.empty-memory-in-Forget.ensures ∙ rw ready) (λ bytes. rw ready)) file)
