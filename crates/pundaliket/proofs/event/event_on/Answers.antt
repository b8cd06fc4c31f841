-- `pundaliket::event::event_on` meets its contract: each kind by the method of its event. Assumes nothing.
use mathlib.Core.Path.{◌≡◌, ap, ◌∙◌}
use mathlib.Core.List.{List}
use Prim.Native.Nat.{ℕ}
use borrow.Author.Tests.{eq-eqb, ne_eqb}
use Rattle.terms.specs.Refusal.{number_of}
use Rattle.terms.specs.declared.Mode.{Mode}
use Rattle.terms.specs.declared.Rule.{Rule}
use Rattle.chip.specs.State.{State, Answer}
use Rattle.chip.specs.Event.{Command, Reset}
use Rattle.chip.specs.Step.{push_of, pop_of, read_of, reset_of, acknowledge_of, command_under, given}
use Rattle.chip.specs.declared.Answer.{Answer as HeldAnswer}
use Rattle.chip.specs.Held.{answer_in}
use Rattle.chip.proofs.Held.{reset_done}
use Rattle.error_memory.specs.Memory.{kept_after, card_answer}
use Rattle.state_bytes.specs.Bytes.{Sized, state_of, memory_in, with_memory}
use Rattle.state_bytes.specs.Calls.{signal_by, Signals}
use Rattle.state_bytes.proofs.States.{least, state_sized, state_ready}
use Rattle.pundaliket.specs.Held.{Settles}
use Rattle.pundaliket.proofs.Events.{put_sized, put_long, same_chip, kept_behind, unchanged_memory, settled, a_recall, a_forget}
use Rattle.pundaliket.proofs.event.event_on.Goals as goal

-- an event that is a method of the chip, with what is remembered as it was
by_method : (mode : Mode) (rule : Rule) (l : List ℕ) (f : State → Answer) (a : HeldAnswer) {s : State} {r : ℕ} {left : List ℕ}
    → answer_in a ≡ f s → s ≡ state_of l → Settles l a (memory_in l) r left
    → Signals (signal_by l (card_answer (given mode rule) (memory_in l) (f (state_of l)))) r left
by_method mode rule l f a is read kept = settled l a (given mode rule) kept (is ∙ ap f read)

pub chip_in-requires : goal.chip_in-requires
chip_in-requires c = least c.args.state.now (state_sized c.args.state.now c.requires)

pub chip_in-requires-in-Pop : goal.chip_in-requires-in-Pop
chip_in-requires-in-Pop c = least c.args.state.now (state_sized c.args.state.now c.requires)

pub chip_in-requires-in-Command : goal.chip_in-requires-in-Command
chip_in-requires-in-Command c = least c.args.state.now (state_sized c.args.state.now c.requires)

pub chip_in-requires-in-Status : goal.chip_in-requires-in-Status
chip_in-requires-in-Status c = least c.args.state.now (state_sized c.args.state.now c.requires)

pub chip_in-requires-in-Acknowledge : goal.chip_in-requires-in-Acknowledge
chip_in-requires-in-Acknowledge c = least c.args.state.now (state_sized c.args.state.now c.requires)

pub keep-requires : goal.keep-requires
keep-requires c = state_sized c.args.state.now c.requires

pub keep-requires-in-Pop : goal.keep-requires-in-Pop
keep-requires-in-Pop c = state_sized c.args.state.now c.requires

pub keep-requires-in-Status : goal.keep-requires-in-Status
keep-requires-in-Status c = state_sized c.args.state.now c.requires

pub keep-requires-in-Acknowledge : goal.keep-requires-in-Acknowledge
keep-requires-in-Acknowledge c = state_sized c.args.state.now c.requires

pub keep_errors-requires : goal.keep_errors-requires
keep_errors-requires c = state_sized c.args.state.now c.requires

pub put_memory-requires : goal.put_memory-requires
put_memory-requires c = state_sized c.args.state.now c.requires

pub put_memory-requires-in-Forget : goal.put_memory-requires-in-Forget
put_memory-requires-in-Forget c = state_sized c.args.state.now c.requires

pub memory_in-requires : goal.memory_in-requires
memory_in-requires c = state_sized c.args.state.now c.requires

pub chip_in-requires-in-Reset : goal.chip_in-requires-in-Reset
chip_in-requires-in-Reset c = put_long c.args.state.now c.requires _ c.put_memory.ensures

pub keep-requires-in-Command : goal.keep-requires-in-Command
keep-requires-in-Command c = put_sized c.args.state.now c.requires _ c.keep_errors.ensures

pub keep-requires-in-Reset : goal.keep-requires-in-Reset
keep-requires-in-Reset c = put_sized c.args.state.now c.requires _ c.put_memory.ensures

pub returns-in-Push : goal.returns-in-Push
returns-in-Push c =
    rw c.in-Push.is
    (by_method c.args.mode c.args.rule c.args.state.now (λ s. push_of s c.args.byte) c.push.result c.push.ensures
    c.chip_in.ensures c.keep.ensures)

pub returns-in-Pop : goal.returns-in-Pop
returns-in-Pop c = rw c.in-Pop.is
    (by_method c.args.mode c.args.rule c.args.state.now pop_of c.pop.result c.pop.ensures c.chip_in-in-Pop.ensures c.keep-in-Pop.ensures)

pub returns-in-Command : goal.returns-in-Command
returns-in-Command c =
    let sized : (Sized c.args.state.now) = state_sized c.args.state.now c.requires in
    let a = c.args in
    let l = a.state.now in
    let r = c.command-a in
    let b = command_under a.rule (state_of l) a.byte in
    let is = r.ensures ∙ ap (λ (s : State). command_under a.rule s a.byte)
    c.chip_in-in-Command.ensures in
    let put = c.keep_errors.ensures ∙ ap
    (λ (x : Answer). with_memory l (kept_after (memory_in l) (Command a.byte) x)) is in
    rw c.in-Command.is
    (kept_behind l c.requires (kept_after (memory_in l) (Command a.byte) b) put r.result (given a.mode a.rule) c.keep-in-Command.ensures is
    (λ z. put ∙ rw (ne_eqb (number_of b.refusal) 0 z) (unchanged_memory l sized)))

pub returns-in-Status : goal.returns-in-Status
returns-in-Status c = rw c.in-Status.is
    (by_method c.args.mode c.args.rule c.args.state.now read_of c.read.result c.read.ensures c.chip_in-in-Status.ensures c.keep-in-Status.ensures)

pub returns-in-Reset : goal.returns-in-Reset
returns-in-Reset c =
    let a = c.args in
    let l = a.state.now in
    let r = c.reset in
    let b = reset_of a.mode (state_of l) in
    let none = c.empty in
    let put = c.put_memory.ensures in
    let is = r.ensures ∙ ap (reset_of a.mode) (c.chip_in-in-Reset.ensures ∙ same_chip l c.requires none.result put) in
    let zero : number_of b.refusal ≡ 0 = ap (λ (x : Answer). number_of x.refusal) (reset_done (state_of l) (state_ready l c.requires) a.mode) in
    let empties : none.result ≡ kept_after (memory_in l) Reset b = none.ensures ∙ rw (eq-eqb (number_of b.refusal) 0 zero) in
    rw c.in-Reset.is
    (kept_behind l c.requires (kept_after (memory_in l) Reset b) (put ∙ ap (with_memory l) empties) r.result (given a.mode a.rule)
    c.keep-in-Reset.ensures is (λ z. absurd (z zero)))

pub returns-in-Acknowledge : goal.returns-in-Acknowledge
returns-in-Acknowledge c = rw c.in-Acknowledge.is
    (by_method c.args.mode c.args.rule c.args.state.now acknowledge_of c.acknowledge.result c.acknowledge.ensures c.chip_in-in-Acknowledge.ensures
    c.keep-in-Acknowledge.ensures)

pub returns-in-Recall : goal.returns-in-Recall
returns-in-Recall c =
    let a = c.args in
    let m = c.memory_in in
    rw c.in-Recall.is
    (a_recall (given a.mode a.rule) a.state.now c.requires m.result m.ensures c.joined.ensures)

pub returns-in-Forget : goal.returns-in-Forget
returns-in-Forget c =
    let a = c.args in
    let m = c.empty-in-Forget in
    rw c.in-Forget.is
    (a_forget (given a.mode a.rule) a.state.now c.requires m.result m.ensures c.joined-in-Forget.ensures
    c.put_memory-in-Forget.ensures)
