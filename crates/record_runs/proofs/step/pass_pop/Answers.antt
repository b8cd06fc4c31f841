-- `record_runs::step::pass_pop` meets its contract: a payload that is no count, held up, or the bytes popped to their place in the reply. Assumes nothing.
use mathlib.Core.Path.{refl, ap, ◌∙◌}
use mathlib.Core.List.{List, ◌∷◌, ◌++◌}
use Prim.Native.Nat.{ℕ, ◌+◌, ◌-◌, ◌≤◌}
use native.Mathlib.Omega.{arith}
use lib.ListN.{length, drop, get_or, length-drop}
use Rattle.terms.specs.Limits.{most_payload}
use Rattle.stack.specs.Stack.{popped_all, handed_out}
use Rattle.stack.specs.Words.{bytes_in}
use Rattle.chip.specs.Step.{done}
use Rattle.chip.specs.Held.{flipped, state_in}
use Rattle.error_memory.specs.Memory.{card_answer}
use Rattle.record_runs.specs.Record.{Pop, le2}
use Rattle.record_runs.proofs.Blocks.{popped_block}
use Rattle.record_runs.proofs.Writes.{all_rest, back}
use Rattle.record_runs.proofs.Turning.{cleared, pop_held_up, a_count, pop_counts, took, behind}
use Rattle.record_runs.proofs.step.pass_pop.Goals as goal

pub returns-then-number-ne0 : goal.returns-then-number-ne0
returns-then-number-ne0 c =
    let a = c.args in
    λ on file same.
    pop_held_up file (length a.payload.now) (get_or a.payload.now 0 0) c.if-payload-ne1.false c.requires.1
    c.ready-why.ensures c.number.ensures.0 c.if-number-ne0.true c.stop-then-number-ne0.ensures refl

pub slice_bounds-pop_all-count : goal.slice_bounds-pop_all-count
slice_bounds-pop_all-count c =
    let clear : (let a = c.args in let n = get_or a.payload.now 0 0 in
    (1 ≤ n) × (n ≤ most_payload) × (5 + n ≤ length a.room.now)) = let n = get_or c.args.payload.now 0 0 in
    let go = cleared {m = 5 + n} c.requires.1 (λ right. omega (arith, (a_count n right).1)) c.ready-why.ensures c.number.ensures.0
    c.if-number-ne0.false in
    let is = a_count n go.0 in (is.0, is.1, go.1) in
    omega (arith, clear.2)

pub slice_bounds-pop_all-start : goal.slice_bounds-pop_all-start
slice_bounds-pop_all-start c =
    let clear : (let a = c.args in let n = get_or a.payload.now 0 0 in
    (1 ≤ n) × (n ≤ most_payload) × (5 + n ≤ length a.room.now)) = let n = get_or c.args.payload.now 0 0 in
    let go = cleared {m = 5 + n} c.requires.1 (λ right. omega (arith, (a_count n right).1)) c.ready-why.ensures c.number.ensures.0
    c.if-number-ne0.false in
    let is = a_count n go.0 in (is.0, is.1, go.1) in
    omega (arith, clear.2)

pub pop_all-after-requires : goal.pop_all-after-requires
pop_all-after-requires c =
    let clear : (let a = c.args in let n = get_or a.payload.now 0 0 in
    (1 ≤ n) × (n ≤ most_payload) × (5 + n ≤ length a.room.now)) = let n = get_or c.args.payload.now 0 0 in
    let go = cleared {m = 5 + n} c.requires.1 (λ right. omega (arith, (a_count n right).1)) c.ready-why.ensures c.number.ensures.0
    c.if-number-ne0.false in
    let is = a_count n go.0 in (is.0, is.1, go.1) in
    let room = c.args.room.now in
    rw (all_rest room 5) (omega (arith, length-drop 5 room, clear.2))

pub returns : goal.returns
returns c =
    let clear : (let a = c.args in let n = get_or a.payload.now 0 0 in
    (1 ≤ n) × (n ≤ most_payload) × (5 + n ≤ length a.room.now)) = let n = get_or c.args.payload.now 0 0 in
    let go = cleared {m = 5 + n} c.requires.1 (λ right. omega (arith, (a_count n right).1)) c.ready-why.ensures c.number.ensures.0
    c.if-number-ne0.false in
    let is = a_count n go.0 in (is.0, is.1, go.1) in
    let a = c.args in
    let n = get_or a.payload.now 0 0 in
    let s = a.card.chip in
    let m = a.card.memory in
    let room = a.room.now in
    let q = c.pop_all-after in
    let left = q.new.room in
    let one = c.if-payload-ne1.false in
    let go = clear in
    let e = popped_block (state_in s) c.requires.0 n (popped_all n (bytes_in s.stack)) (drop 5 room) left (flipped n s.pending) go.0 refl refl
    (q.ensures.room_after ∙ ap (λ (l : List ℕ). handed_out n (bytes_in s.stack) ++ drop n l) (all_rest room 5)) in
    λ on file same.
    rw (pop_counts most_payload (length a.payload.now) n one go.0 go.1)
    (took file (Pop n) (card_answer on m (done (get_or left (n - 1) 0) (state_in q.result))) c.finish.ensures
    (ap (card_answer on m) (ap (done (get_or left (n - 1) 0)) q.ensures.result_value ∙ e.0)) refl refl e.1
    (c.open_reply.ensures
    ∙ ap (λ (l : List ℕ). le2 (3 + n) ++ (le2 130 ++ (0 ∷ l))) (ap (drop 5) (back room 5 left) ∙ behind room left (omega (arith, go.2))))
    go.2)
