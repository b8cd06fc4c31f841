-- `record_runs::step::pass_status` meets its contract: held up, or the status byte in the reply. Assumes nothing.
use mathlib.Core.Path.{◌≡◌, refl, sym, ap}
use mathlib.Core.Bool.{true}
use Prim.Native.Nat.{◌≤◌}
use native.Mathlib.Omega.{arith}
use lib.Dec.{eqb, lit≤}
use lib.ListN.{length, length-set}
use Rattle.chip.specs.State.{Answer}
use Rattle.chip.specs.Event.{Status as StatusEvent}
use Rattle.chip.specs.Step.{done}
use Rattle.chip.specs.Held.{state_in}
use Rattle.chip.proofs.Held.{read_done}
use Rattle.error_memory.specs.Memory.{answer_with}
use Rattle.error_memory.specs.Held.{card_under}
use Rattle.record_runs.specs.Record.{Status}
use Rattle.record_runs.proofs.Turning.{clears, exactly_held_up, took, status_data}
use Rattle.record_runs.proofs.step.pass_status.Goals as goal

pub returns-then-number-ne0 : goal.returns-then-number-ne0
returns-then-number-ne0 c =
    λ on file same.
    exactly_held_up file 0 (length c.args.payload.now) Status c.requires.1 (lit≤ tt) c.ready-why.ensures
    c.number.ensures.0 c.if-number-ne0.true c.stop.ensures refl

pub bounds-room-5 : goal.bounds-room-5
bounds-room-5 c =
    let free : (let a = c.args in (eqb (length a.payload.now) 0 ≡ true) × (6 ≤ length a.room.now)) = clears c.requires.1 (lit≤ tt) c.ready-why.ensures c.number.ensures.0 c.if-number-ne0.false in
    omega (arith, free.1)

pub open_reply-requires : goal.open_reply-requires
open_reply-requires c =
    let free : (let a = c.args in (eqb (length a.payload.now) 0 ≡ true) × (6 ≤ length a.room.now)) = clears c.requires.1 (lit≤ tt) c.ready-why.ensures c.number.ensures.0 c.if-number-ne0.false in
    (lit≤ tt, simp length-set (omega (arith, free.1)))

pub returns : goal.returns
returns c =
    let free : (let a = c.args in (eqb (length a.payload.now) 0 ≡ true) × (6 ≤ length a.room.now)) = clears c.requires.1 (lit≤ tt) c.ready-why.ensures c.number.ensures.0 c.if-number-ne0.false in
    let a = c.args in
    let s = state_in a.card.chip in
    let go = free in
    let is = read_done s c.requires.0 in
    λ on file same.
    rw go.0
    (took file Status (answer_with on a.card.memory StatusEvent (done s.status s)) c.finish.ensures
    (ap (answer_with on a.card.memory StatusEvent) (sym is)) refl refl
    (status_data (card_under on a.card) a.room.now s.status (ap (λ (x : Answer). x.byte) (sym is)) go.1)
    c.open_reply.ensures go.1)
