-- `stack::Stack::push_few` meets its contract: four, two and one byte, where so many are left. Assumes nothing.
use Rattle.std.proofs.Common.{Bor, List, arith, ◌∙◌, ◌≤◌, ap, sym, refl, take, length, ℕ, ◌++◌}
use Rattle.stack.specs.Stack.{bytes_of, pushed_all}
use Rattle.stack.specs.Words.{bytes_in}
use Rattle.stack.proofs.Several.{push_none}
use Rattle.stack.proofs.Blocks.{by_1, by_2, by_4, Left, left_more, left_not}
use Rattle.stack.proofs.Stack.push_few.Goals as goal
use Rattle.stack.proofs.Stack.push_few.Goals.{then-left-ge4, else-left-ge4, then-left-ge2, else-left-ge2}

pub returns-then-left-ge1 : goal.returns-then-left-ge1
returns-then-left-ge1 c =
    let a = c.args in
    let p = a.p.now in
    let s = bytes_in a.self in
    let whole = pushed_all s p in
    let start : Left 7 whole s p = record { bytes = λ j. omega (arith, c.type_inv.p j); few = omega (arith, c.requires); gives = refl } in
    let four : Left 3 whole (bytes_in c.if-left-ge4.s) c.if-left-ge4.left.now = elim c.if-left-ge4.branch [
      | then-left-ge4 w ↦
          let h : 4 ≤ length p = omega arith in
          let e = ap bytes_in w.s-is ∙ w.push-s.ensures ∙ ap (λ (x : ℕ). bytes_of 4 x ++ take 12 s) w.four_at.ensures ∙ by_4 s p 0 start.bytes h in
          left_more 4 7 3 whole s p start h (omega arith) e (ap (λ (b : Bor (List ℕ)). b.now) w.left-is)
      | else-left-ge4 w ↦ left_not 7 3 whole s p start (omega arith) (ap bytes_in w.s-is) (ap (λ (b : Bor (List ℕ)). b.now) w.left-is)
    ] in
    let q = c.if-left-ge4.left.now in
    let t = bytes_in c.if-left-ge4.s in
    let two : Left 1 whole (bytes_in c.if-left-ge2.s) c.if-left-ge2.left.now = elim c.if-left-ge2.branch [
      | then-left-ge2 w ↦
          let h : 2 ≤ length q = omega arith in
          let e = ap bytes_in w.s-is ∙ w.push-s-then-left-ge2.ensures ∙ ap (λ (x : ℕ). bytes_of 2 x ++ take 14 t) w.two.ensures ∙ by_2 t q 0 four.bytes h in
          left_more 2 3 1 whole t q four h (omega arith) e (ap (λ (b : Bor (List ℕ)). b.now) w.left-is)
      | else-left-ge2 w ↦ left_not 3 1 whole t q four (omega arith) (ap bytes_in w.s-is) (ap (λ (b : Bor (List ℕ)). b.now) w.left-is)
    ] in
    let r = c.if-left-ge2.left.now in
    let u = bytes_in c.if-left-ge2.s in
    c.push-s-then-left-ge1.ensures ∙ by_1 u r 0 two.bytes (omega arith) two.few ∙ two.gives

pub returns-else-left-ge1 : goal.returns-else-left-ge1
returns-else-left-ge1 c =
    let a = c.args in
    let p = a.p.now in
    let s = bytes_in a.self in
    let whole = pushed_all s p in
    let start : Left 7 whole s p = record { bytes = λ j. omega (arith, c.type_inv.p j); few = omega (arith, c.requires); gives = refl } in
    let four : Left 3 whole (bytes_in c.if-left-ge4.s) c.if-left-ge4.left.now = elim c.if-left-ge4.branch [
      | then-left-ge4 w ↦
          let h : 4 ≤ length p = omega arith in
          let e = ap bytes_in w.s-is ∙ w.push-s.ensures ∙ ap (λ (x : ℕ). bytes_of 4 x ++ take 12 s) w.four_at.ensures ∙ by_4 s p 0 start.bytes h in
          left_more 4 7 3 whole s p start h (omega arith) e (ap (λ (b : Bor (List ℕ)). b.now) w.left-is)
      | else-left-ge4 w ↦ left_not 7 3 whole s p start (omega arith) (ap bytes_in w.s-is) (ap (λ (b : Bor (List ℕ)). b.now) w.left-is)
    ] in
    let q = c.if-left-ge4.left.now in
    let t = bytes_in c.if-left-ge4.s in
    let two : Left 1 whole (bytes_in c.if-left-ge2.s) c.if-left-ge2.left.now = elim c.if-left-ge2.branch [
      | then-left-ge2 w ↦
          let h : 2 ≤ length q = omega arith in
          let e = ap bytes_in w.s-is ∙ w.push-s-then-left-ge2.ensures ∙ ap (λ (x : ℕ). bytes_of 2 x ++ take 14 t) w.two.ensures ∙ by_2 t q 0 four.bytes h in
          left_more 2 3 1 whole t q four h (omega arith) e (ap (λ (b : Bor (List ℕ)). b.now) w.left-is)
      | else-left-ge2 w ↦ left_not 3 1 whole t q four (omega arith) (ap bytes_in w.s-is) (ap (λ (b : Bor (List ℕ)). b.now) w.left-is)
    ] in
    let r = c.if-left-ge2.left.now in
    let u = bytes_in c.if-left-ge2.s in
    sym (push_none u r 0 (omega arith)) ∙ two.gives
