-- `record_runs::step::pass_command` meets its contract: held up, or the answer to the code. Assumes nothing.
use mathlib.Core.Path.{◌≡◌, refl, sym, ap, ◌∙◌}
use mathlib.Core.Bool.{true}
use Prim.Native.Nat.{◌≤◌, zero-le}
use lib.Dec.{eqb, lit≤}
use lib.ListN.{length, get_or}
use Rattle.chip.specs.Event.{Command as CommandEvent}
use Rattle.chip.specs.Step.{given}
use Rattle.chip.specs.Held.{state_in, answer_in}
use Rattle.error_memory.specs.Memory.{card_with, answer_with}
use Rattle.record_runs.specs.Record.{Command}
use Rattle.record_runs.proofs.Turning.{clears, exactly_held_up, took, refused_keeps, done_keeps}
use Rattle.record_runs.proofs.step.pass_command.Goals as goal

pub returns-then-number-ne0 : goal.returns-then-number-ne0
returns-then-number-ne0 c =
    let q = c.args.payload.now in
    λ mode file same.
    exactly_held_up file 1 (length q) (Command (get_or q 0 0)) c.requires.1 zero-le c.ready-why.ensures
    c.number.ensures.0
    c.if-number-ne0.true c.stop.ensures refl

pub open_reply-requires : goal.open_reply-requires
open_reply-requires c =
    let free : (let a = c.args in (eqb (length a.payload.now) 1 ≡ true) × (5 ≤ length a.room.now)) = clears c.requires.1 (lit≤ tt) c.ready-why.ensures c.number.ensures.0 c.if-number-ne0.false in
    (lit≤ tt, free.1)

pub returns-then-refusal-ne0 : goal.returns-then-refusal-ne0
returns-then-refusal-ne0 c =
    let free : (let a = c.args in (eqb (length a.payload.now) 1 ≡ true) × (5 ≤ length a.room.now)) = clears c.requires.1 (lit≤ tt) c.ready-why.ensures c.number.ensures.0 c.if-number-ne0.false in
    let a = c.args in
    let code = get_or a.payload.now 0 0 in
    let e = c.command-a in
    let m = a.card.memory in
    let n = c.number-refusal.ensures.0 in
    let go = free in
    λ mode file same.
    let on = given mode a.rule in
    rw go.0
    (took file (Command code) (answer_with on m (CommandEvent code) (answer_in e.result)) c.finish.ensures
    (ap (answer_with on m (CommandEvent code)) e.ensures)
    (ap (card_with on (state_in e.result.state)) (refused_keeps m code _ _ (λ z. c.if-refusal-ne0.true (n ∙ z)))) n refl
    c.open_reply.ensures go.1)

pub returns : goal.returns
returns c =
    let free : (let a = c.args in (eqb (length a.payload.now) 1 ≡ true) × (5 ≤ length a.room.now)) = clears c.requires.1 (lit≤ tt) c.ready-why.ensures c.number.ensures.0 c.if-number-ne0.false in
    let a = c.args in
    let code = get_or a.payload.now 0 0 in
    let e = c.command-a in
    let m = a.card.memory in
    let n = c.number-refusal.ensures.0 in
    let kept = c.remember in
    let go = free in
    λ mode file same.
    let on = given mode a.rule in
    rw go.0
    (took file (Command code) (answer_with on m (CommandEvent code) (answer_in e.result)) c.finish-2.ensures
    (ap (answer_with on m (CommandEvent code)) e.ensures)
    (ap (card_with on (state_in e.result.state)) (done_keeps m code _ _ (sym n ∙ c.if-refusal-ne0.false) kept.ensures)) n refl
    c.open_reply.ensures go.1)
