-- `stack::Stack::pop_all` meets its contract: so many bytes are popped to their places so far, and the rest of the room is as it was. Assumes nothing.
use mathlib.Core.Path.{refl, ap, ◌∙◌}
use mathlib.Core.List.{List}
use Prim.Native.Nat.{ℕ, ◌+◌, ◌-◌, ◌≤◌}
use native.Mathlib.Omega.{arith}
use lib.Dec.{lit≤}
use lib.Seq.{paste}
use Rattle.stack.specs.Stack.{handed_out}
use Rattle.stack.specs.Words.{bytes_in}
use Rattle.numbers.proofs.Laid.{part_laid}
use Rattle.stack.proofs.Several.{length-handed}
use Rattle.stack.proofs.Reversed.{high_4, high_8}
use Rattle.stack.proofs.TwoWords.{turn_eight}
use Rattle.stack.proofs.Blocks.{left, eight_handed, word_handed, byte_laid, Popped, pop_none, pop_more, pop_not, pop_all_lem}
use Rattle.stack.proofs.Stack.pop_all.Goals as goal
use Rattle.stack.proofs.Stack.pop_all.Goals.{then-n-i-ge4, else-n-i-ge4, then-n-i-ge2, else-n-i-ge2}

pub loop-i-init : goal.loop-i-init
loop-i-init c = let a = c.args in pop_none a.n (bytes_in a.self) a.room.now

pub loop-i-preserved : goal.loop-i-preserved
loop-i-preserved c =
    let a = c.args in
    let l = c.loop-i in
    let s = bytes_in l.s in
    let put = c.put_eight in
    let e = put.ensures ∙ c.reversed_8.ensures ∙ high_8 _ ∙ eight_handed l.s.top l.s.rest in
    let laid = part_laid l.room put.new.out (handed_out 8 s) l.i (l.i + 8 - l.i) 8 (omega arith) (length-handed 8 s) e in
    pop_more a.n (bytes_in a.self) a.room.now s l.i l.room 8 a.n a.n c.requires l.invariant (omega arith) (omega arith)
    (left l.s.top l.s.rest 8 (lit≤ tt) (turn_eight l.s.top l.s.rest)) laid refl

pub put_high_4-requires : goal.put_high_4-requires
put_high_4-requires c = omega arith

pub overflow_sub-n-3 : goal.overflow_sub-n-3
overflow_sub-n-3 c =
    let a = c.args in
    let b = bytes_in a.self in
    let l = c.loop-i in
    let start : Popped 7 a.n b a.room.now (bytes_in l.s) l.i l.room =
    (l.invariant.0, omega arith, l.invariant.2, l.invariant.3, l.invariant.4) in
    let four : Popped 3 a.n b a.room.now (bytes_in c.if-n-i-ge4.s) c.if-n-i-ge4.i c.if-n-i-ge4.room =
    let s = l.s in
    let i = l.i in
    elim c.if-n-i-ge4.branch [
      | then-n-i-ge4 w ↦
          let h : i + 4 ≤ a.n = omega arith in
          let handed = high_4 _ ∙ word_handed s.top s.rest 4 (lit≤ tt) w.tos.result w.tos.ensures.0 in
          pop_more a.n b a.room.now (bytes_in s) i l.room 4 7 3 c.requires start h (omega arith)
          (ap bytes_in w.s-is ∙ left s.top s.rest 4 (lit≤ tt) w.turn-s.ensures)
          (w.room-is ∙ w.put_high_4.ensures ∙ ap (λ (x : List ℕ). paste l.room i x 4) handed) w.i-is
      | else-n-i-ge4 w ↦ pop_not a.n b a.room.now 7 3 start (omega arith) (ap bytes_in w.s-is) w.room-is w.i-is
    ] in
    omega (arith, four.0)

pub put_high_2-requires : goal.put_high_2-requires
put_high_2-requires c =
    let a = c.args in
    let b = bytes_in a.self in
    let l = c.loop-i in
    let start : Popped 7 a.n b a.room.now (bytes_in l.s) l.i l.room =
    (l.invariant.0, omega arith, l.invariant.2, l.invariant.3, l.invariant.4) in
    let four : Popped 3 a.n b a.room.now (bytes_in c.if-n-i-ge4.s) c.if-n-i-ge4.i c.if-n-i-ge4.room =
    let s = l.s in
    let i = l.i in
    elim c.if-n-i-ge4.branch [
      | then-n-i-ge4 w ↦
          let h : i + 4 ≤ a.n = omega arith in
          let handed = high_4 _ ∙ word_handed s.top s.rest 4 (lit≤ tt) w.tos.result w.tos.ensures.0 in
          pop_more a.n b a.room.now (bytes_in s) i l.room 4 7 3 c.requires start h (omega arith)
          (ap bytes_in w.s-is ∙ left s.top s.rest 4 (lit≤ tt) w.turn-s.ensures)
          (w.room-is ∙ w.put_high_4.ensures ∙ ap (λ (x : List ℕ). paste l.room i x 4) handed) w.i-is
      | else-n-i-ge4 w ↦ pop_not a.n b a.room.now 7 3 start (omega arith) (ap bytes_in w.s-is) w.room-is w.i-is
    ] in
    omega (arith, four.0, four.2)

pub bounds-room-i : goal.bounds-room-i
bounds-room-i c =
    let a = c.args in
    let b = bytes_in a.self in
    let l = c.loop-i in
    let start : Popped 7 a.n b a.room.now (bytes_in l.s) l.i l.room =
    (l.invariant.0, omega arith, l.invariant.2, l.invariant.3, l.invariant.4) in
    let four : Popped 3 a.n b a.room.now (bytes_in c.if-n-i-ge4.s) c.if-n-i-ge4.i c.if-n-i-ge4.room =
    let s = l.s in
    let i = l.i in
    elim c.if-n-i-ge4.branch [
      | then-n-i-ge4 w ↦
          let h : i + 4 ≤ a.n = omega arith in
          let handed = high_4 _ ∙ word_handed s.top s.rest 4 (lit≤ tt) w.tos.result w.tos.ensures.0 in
          pop_more a.n b a.room.now (bytes_in s) i l.room 4 7 3 c.requires start h (omega arith)
          (ap bytes_in w.s-is ∙ left s.top s.rest 4 (lit≤ tt) w.turn-s.ensures)
          (w.room-is ∙ w.put_high_4.ensures ∙ ap (λ (x : List ℕ). paste l.room i x 4) handed) w.i-is
      | else-n-i-ge4 w ↦ pop_not a.n b a.room.now 7 3 start (omega arith) (ap bytes_in w.s-is) w.room-is w.i-is
    ] in
    let two : Popped 1 a.n b a.room.now (bytes_in c.if-n-i-ge2.s) c.if-n-i-ge2.i c.if-n-i-ge2.room =
    let s = c.if-n-i-ge4.s in
    let i = c.if-n-i-ge4.i in
    let room = c.if-n-i-ge4.room in
    elim c.if-n-i-ge2.branch [
      | then-n-i-ge2 w ↦
          let h : i + 2 ≤ a.n = omega arith in
          let handed = word_handed s.top s.rest 2 (lit≤ tt) w.tos-then-n-i-ge2.result w.tos-then-n-i-ge2.ensures.0 in
          pop_more a.n b a.room.now (bytes_in s) i room 2 3 1 c.requires four h (omega arith)
          (ap bytes_in w.s-is ∙ left s.top s.rest 2 (lit≤ tt) w.turn-s-then-n-i-ge2.ensures)
          (w.room-is ∙ w.put_high_2.ensures ∙ ap (λ (x : List ℕ). paste room i x 2) handed) w.i-is
      | else-n-i-ge2 w ↦ pop_not a.n b a.room.now 3 1 four (omega arith) (ap bytes_in w.s-is) w.room-is w.i-is
    ] in
    omega (arith, two.2)

pub returns-then-i-n : goal.returns-then-i-n
returns-then-i-n c =
    let a = c.args in
    let b = bytes_in a.self in
    let l = c.loop-i in
    let start : Popped 7 a.n b a.room.now (bytes_in l.s) l.i l.room =
    (l.invariant.0, omega arith, l.invariant.2, l.invariant.3, l.invariant.4) in
    let four : Popped 3 a.n b a.room.now (bytes_in c.if-n-i-ge4.s) c.if-n-i-ge4.i c.if-n-i-ge4.room =
    let s = l.s in
    let i = l.i in
    elim c.if-n-i-ge4.branch [
      | then-n-i-ge4 w ↦
          let h : i + 4 ≤ a.n = omega arith in
          let handed = high_4 _ ∙ word_handed s.top s.rest 4 (lit≤ tt) w.tos.result w.tos.ensures.0 in
          pop_more a.n b a.room.now (bytes_in s) i l.room 4 7 3 c.requires start h (omega arith)
          (ap bytes_in w.s-is ∙ left s.top s.rest 4 (lit≤ tt) w.turn-s.ensures)
          (w.room-is ∙ w.put_high_4.ensures ∙ ap (λ (x : List ℕ). paste l.room i x 4) handed) w.i-is
      | else-n-i-ge4 w ↦ pop_not a.n b a.room.now 7 3 start (omega arith) (ap bytes_in w.s-is) w.room-is w.i-is
    ] in
    let two : Popped 1 a.n b a.room.now (bytes_in c.if-n-i-ge2.s) c.if-n-i-ge2.i c.if-n-i-ge2.room =
    let s = c.if-n-i-ge4.s in
    let i = c.if-n-i-ge4.i in
    let room = c.if-n-i-ge4.room in
    elim c.if-n-i-ge2.branch [
      | then-n-i-ge2 w ↦
          let h : i + 2 ≤ a.n = omega arith in
          let handed = word_handed s.top s.rest 2 (lit≤ tt) w.tos-then-n-i-ge2.result w.tos-then-n-i-ge2.ensures.0 in
          pop_more a.n b a.room.now (bytes_in s) i room 2 3 1 c.requires four h (omega arith)
          (ap bytes_in w.s-is ∙ left s.top s.rest 2 (lit≤ tt) w.turn-s-then-n-i-ge2.ensures)
          (w.room-is ∙ w.put_high_2.ensures ∙ ap (λ (x : List ℕ). paste room i x 2) handed) w.i-is
      | else-n-i-ge2 w ↦ pop_not a.n b a.room.now 3 1 four (omega arith) (ap bytes_in w.s-is) w.room-is w.i-is
    ] in
    let s = c.if-n-i-ge2.s in
    let i = c.if-n-i-ge2.i in
    let room = c.if-n-i-ge2.room in
    let byte = c.top_byte in
    let laid = byte_laid room (bytes_in s) i byte.result (omega (arith, two.2)) byte.ensures in
    let all =
    pop_all_lem a.n b a.room.now _ (i + 1) _
    (pop_more a.n b a.room.now (bytes_in s) i room 1 1 0 c.requires two (omega arith) (omega arith)
    (left s.top s.rest 1 (lit≤ tt) c.turn.ensures) laid refl) in
    record { result_value = all.0; room_after = all.1 }

pub returns : goal.returns
returns c =
    let a = c.args in
    let b = bytes_in a.self in
    let l = c.loop-i in
    let start : Popped 7 a.n b a.room.now (bytes_in l.s) l.i l.room =
    (l.invariant.0, omega arith, l.invariant.2, l.invariant.3, l.invariant.4) in
    let four : Popped 3 a.n b a.room.now (bytes_in c.if-n-i-ge4.s) c.if-n-i-ge4.i c.if-n-i-ge4.room =
    let s = l.s in
    let i = l.i in
    elim c.if-n-i-ge4.branch [
      | then-n-i-ge4 w ↦
          let h : i + 4 ≤ a.n = omega arith in
          let handed = high_4 _ ∙ word_handed s.top s.rest 4 (lit≤ tt) w.tos.result w.tos.ensures.0 in
          pop_more a.n b a.room.now (bytes_in s) i l.room 4 7 3 c.requires start h (omega arith)
          (ap bytes_in w.s-is ∙ left s.top s.rest 4 (lit≤ tt) w.turn-s.ensures)
          (w.room-is ∙ w.put_high_4.ensures ∙ ap (λ (x : List ℕ). paste l.room i x 4) handed) w.i-is
      | else-n-i-ge4 w ↦ pop_not a.n b a.room.now 7 3 start (omega arith) (ap bytes_in w.s-is) w.room-is w.i-is
    ] in
    let two : Popped 1 a.n b a.room.now (bytes_in c.if-n-i-ge2.s) c.if-n-i-ge2.i c.if-n-i-ge2.room =
    let s = c.if-n-i-ge4.s in
    let i = c.if-n-i-ge4.i in
    let room = c.if-n-i-ge4.room in
    elim c.if-n-i-ge2.branch [
      | then-n-i-ge2 w ↦
          let h : i + 2 ≤ a.n = omega arith in
          let handed = word_handed s.top s.rest 2 (lit≤ tt) w.tos-then-n-i-ge2.result w.tos-then-n-i-ge2.ensures.0 in
          pop_more a.n b a.room.now (bytes_in s) i room 2 3 1 c.requires four h (omega arith)
          (ap bytes_in w.s-is ∙ left s.top s.rest 2 (lit≤ tt) w.turn-s-then-n-i-ge2.ensures)
          (w.room-is ∙ w.put_high_2.ensures ∙ ap (λ (x : List ℕ). paste room i x 2) handed) w.i-is
      | else-n-i-ge2 w ↦ pop_not a.n b a.room.now 3 1 four (omega arith) (ap bytes_in w.s-is) w.room-is w.i-is
    ] in
    let all =
    pop_all_lem a.n b a.room.now (bytes_in c.if-n-i-ge2.s) c.if-n-i-ge2.i c.if-n-i-ge2.room
    (pop_not a.n b a.room.now 1 0 two (omega arith) refl refl refl) in
    record { result_value = all.0; room_after = all.1 }
