-- `record_runs::step::pass_push` meets its contract: held up, or the payload pushed at once. Assumes nothing.
use mathlib.Core.Path.{◌≡◌, refl, sym, ap, ◌∙◌}
use mathlib.Core.Bool.{true}
use Prim.Native.Nat.{◌≤◌, zero-le}
use borrow.Author.Tests.{lt-ltb, le-ltb, leb-true, leb-false}
use lib.Dec.{leb, lit≤}
use lib.ListN.{length}
use Rattle.stack.specs.Stack.{pushed_all}
use Rattle.stack.specs.Words.{bytes_in}
use Rattle.chip.specs.Step.{done}
use Rattle.chip.specs.Held.{flipped, state_in}
use Rattle.error_memory.specs.Memory.{card_answer}
use Rattle.record_runs.specs.Record.{Push, push_row, before, push_all}
use Rattle.record_runs.proofs.Blocks.{pushed_block}
use Rattle.record_runs.proofs.Turning.{clears, held_up, took}
use Rattle.record_runs.proofs.step.pass_push.Goals as goal

pub returns-then-number-ne0 : goal.returns-then-number-ne0
returns-then-number-ne0 c =
    let n = length c.args.payload.now in
    λ on file same.
    held_up file (leb 1 n) (Push n) (push_row n) (λ z. rw (le-ltb n 1 (leb-true 1 n z))) (λ z. rw (lt-ltb n 1 (leb-false 1 n z))) c.requires.2 zero-le
    c.ready-why.ensures c.number.ensures.0 c.if-number-ne0.true c.stop.ensures refl

pub open_reply-requires : goal.open_reply-requires
open_reply-requires c =
    let free : (let a = c.args in (leb 1 (length a.payload.now) ≡ true) × (5 ≤ length a.room.now)) = clears c.requires.2 (lit≤ tt) c.ready-why.ensures c.number.ensures.0 c.if-number-ne0.false in
    (lit≤ tt, free.1)

pub returns : goal.returns
returns c =
    let free : (let a = c.args in (leb 1 (length a.payload.now) ≡ true) × (5 ≤ length a.room.now)) = clears c.requires.2 (lit≤ tt) c.ready-why.ensures c.number.ensures.0 c.if-number-ne0.false in
    let a = c.args in
    let q = a.payload.now in
    let s = a.card.chip in
    let m = a.card.memory in
    let after = c.push_all-after in
    let go = free in
    let block = pushed_block (state_in s) c.requires.0 q (pushed_all (bytes_in s.stack) q) (flipped (length q) s.pending) refl refl in
    λ on file same.
    rw (le-ltb (length q) 1 (leb-true 1 (length q) go.0))
    (took file (Push (length q)) (card_answer on m (done 0 (state_in after.result))) c.finish.ensures
    (ap (card_answer on m) (ap (done 0) after.ensures ∙ block ∙ ap (push_all (before (state_in s))) (sym same))) refl refl refl
    c.open_reply.ensures go.1)
