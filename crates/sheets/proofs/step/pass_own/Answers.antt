-- `sheets::step::pass_own` meets its contract: another payload, no room, or entered and answered. Assumes nothing.
use mathlib.Core.Path.{◌≡◌, refl, sym, ap, ◌∙◌}
use mathlib.Core.List.{◌∷◌, ◌++◌}
use Prim.Native.Nat.{ℕ, ◌+◌, ◌-◌}
use native.Mathlib.Omega.{arith}
use native.Mathlib.Nat.{add-sub_cancel_left}
use lib.Dec.{lit≤}
use lib.ListN.{take, drop}
use Rattle.numbers.specs.Little.{word_at, le2}
use Rattle.sheet_bytes.specs.Entering.{payload_for}
use Rattle.sheets.proofs.Lines.{owns}
use Rattle.sheets.proofs.Turning.{own_bad, own_full, own_done}
use Rattle.sheets.proofs.step.pass_own.Goals as goal

pub bounds-rest-2 : goal.bounds-rest-2
bounds-rest-2 c = let o = owns c.args.rest.now c.requires.1 in omega (arith, o.there, o.in_range)

pub bounds-rest-3 : goal.bounds-rest-3
bounds-rest-3 c = let o = owns c.args.rest.now c.requires.1
    in omega (arith, o.there, o.in_range)

pub bounds-rest-0 : goal.bounds-rest-0
bounds-rest-0 c = let o = owns c.args.rest.now c.requires.1
    in omega (arith, o.there, o.in_range)

pub bounds-rest-1 : goal.bounds-rest-1
bounds-rest-1 c = let o = owns c.args.rest.now c.requires.1
    in omega (arith, o.there, o.in_range)

pub returns-then-two-wanted : goal.returns-then-two-wanted
returns-then-two-wanted c =
    let a = c.args in
    λ on. own_bad a.sheets.now a.rest.now refl c.stop.ensures
    (λ z. c.if-two-wanted.true (c.two.ensures ∙ z ∙ ap (λ (k : ℕ). 2 + payload_for k) (sym c.two-kind.ensures)
    ∙ ap (λ (k : ℕ). 2 + k) (sym c.payload_for-wanted.ensures.0)))

pub returns-then-place : goal.returns-then-place
returns-then-place c =
    let a = c.args in
    let n = c.payload_for-wanted.ensures.0 in
    let w = c.two-kind.ensures in
    λ on.
    own_full a.sheets.now a.rest.now refl c.stop-then-place.ensures
    (sym c.two.ensures ∙ c.if-two-wanted.false ∙ ap (λ (k : ℕ). 2 + k) n ∙ ap (λ (k : ℕ). 2 + payload_for k) w)
    (c.requires.2.none 5 (lit≤ tt) c.if-place.true)

pub slice_bounds-enter-end : goal.slice_bounds-enter-end
slice_bounds-enter-end c =
    let o = owns c.args.rest.now c.requires.1 in
    omega (arith, o.there, c.two.ensures, c.if-two-wanted.false)

pub overflow_add-kind : goal.overflow_add-kind
overflow_add-kind c =
    let o = owns c.args.rest.now c.requires.1 in
    omega (arith, o.most, c.two-kind.ensures)

pub open_reply-requires : goal.open_reply-requires
open_reply-requires c =
    let s = c.requires.2 in
    (lit≤ tt, s.some 5 (lit≤ tt) c.if-place.false)

pub returns : goal.returns
returns c =
    let a = c.args in
    let l = a.rest.now in
    let room = a.room.now in
    let n = c.payload_for-wanted in
    let w = c.two-kind in
    let m : n.result ≡ payload_for (word_at l 2) = n.ensures.0 ∙ ap payload_for w.ensures in
    let e = c.enter-refusal in
    let q : take (4 + n.result - 4) (drop 4 l) ≡ take (payload_for (word_at l 2)) (drop 4 l) =
    ap (λ (k : ℕ). take k (drop 4 l)) (add-sub_cancel_left 4 n.result ∙ m) in
    let top = c.tos-top.ensures.0 in
    let entered = rw (w.ensures, q, top) at e.ensures in
    let sized = sym c.two.ensures ∙ c.if-two-wanted.false ∙ ap (λ (k : ℕ). 2 + k) m in
    let number = c.number in
    let replied = c.open_reply.ensures
    ∙ ap (λ (k : ℕ). le2 3 ++ (le2 (k + 32768) ++ (number.result ∷ drop 5 room))) w.ensures
    ∙ ap (λ (k : ℕ). le2 3 ++ (le2 (word_at l 2 + 32768) ++ (k ∷ drop 5 room))) number.ensures.0 in
    λ on.
    own_done a.sheets.now _ l e.result (4 + n.result) c.finish.ensures sized
    (c.requires.2.some 5 (lit≤ tt) c.if-place.false) entered replied (ap (λ (k : ℕ). 4 + k) m)
