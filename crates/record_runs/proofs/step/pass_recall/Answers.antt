-- `record_runs::step::pass_recall` meets its contract: held up, or the memory's two bytes in the reply. Assumes nothing.
use mathlib.Core.Path.{◌≡◌, refl}
use mathlib.Core.Bool.{true}
use Prim.Native.Nat.{◌≤◌}
use native.Mathlib.Omega.{arith}
use borrow.Author.Tests.{lt-leb}
use lib.Dec.{eqb, lit≤}
use lib.ListN.{length, length-set}
use Rattle.terms.specs.declared.Refusal.TheVariants.{Done}
use Rattle.error_memory.specs.Held.{card_under}
use Rattle.record_runs.specs.Record.{Recall}
use Rattle.record_runs.proofs.Turning.{clears, exactly_held_up, took, recall_data}
use Rattle.record_runs.proofs.step.pass_recall.Goals as goal

pub returns-then-number-ne0 : goal.returns-then-number-ne0
returns-then-number-ne0 c = λ on file same. exactly_held_up file 0 (length c.args.payload.now) Recall c.requires.1 (lit≤ tt) c.ready-why.ensures c.number.ensures.0 c.if-number-ne0.true c.stop.ensures refl

pub bounds-room-5 : goal.bounds-room-5
bounds-room-5 c =
    let free : (let a = c.args in (eqb (length a.payload.now) 0 ≡ true) × (7 ≤ length a.room.now)) = clears c.requires.1 (lit≤ tt) c.ready-why.ensures c.number.ensures.0 c.if-number-ne0.false in
    omega (arith, free.1)

pub bounds-room-6 : goal.bounds-room-6
bounds-room-6 c =
    let free : (let a = c.args in (eqb (length a.payload.now) 0 ≡ true) × (7 ≤ length a.room.now)) = clears c.requires.1 (lit≤ tt) c.ready-why.ensures c.number.ensures.0 c.if-number-ne0.false in
    simp length-set (omega (arith, free.1))

pub open_reply-requires : goal.open_reply-requires
open_reply-requires c =
    let free : (let a = c.args in (eqb (length a.payload.now) 0 ≡ true) × (7 ≤ length a.room.now)) = clears c.requires.1 (lit≤ tt) c.ready-why.ensures c.number.ensures.0 c.if-number-ne0.false in
    (lit≤ tt, simp length-set (omega (arith, free.1)))

pub returns : goal.returns
returns c =
    let free : (let a = c.args in (eqb (length a.payload.now) 0 ≡ true) × (7 ≤ length a.room.now)) = clears c.requires.1 (lit≤ tt) c.ready-why.ensures c.number.ensures.0 c.if-number-ne0.false in
    let calm = c.requires.0 in
    let card = c.args.card in
    let go = free in
    λ on file same.
    rw go.0
    (took file Recall (record { refusal = Done; byte = card.memory.bits; card = card_under on card }) c.finish.ensures
    (rw (lt-leb 128 card.chip.status calm)) refl refl (recall_data (card_under on card) c.args.room.now calm go.1)
    c.open_reply.ensures go.1)
