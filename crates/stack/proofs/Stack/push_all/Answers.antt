-- `stack::Stack::push_all` meets its contract: eight bytes more, and the few that are left. Assumes nothing.
use Rattle.std.proofs.Common.{arith, ◌∙◌, ◌≤◌, ap, refl, take, length, ℕ, ◌++◌}
use Rattle.stack.specs.Words.{eight, bytes_in}
use Rattle.stack.proofs.TwoWords.{push_eight}
use Rattle.stack.proofs.Blocks.{by_8, left_more}
use Rattle.stack.proofs.Stack.push_all.Goals as goal

pub loop-left-init : goal.loop-left-init
loop-left-init c = record { bytes = λ j. omega (arith, c.type_inv.p j); few = omega arith; gives = refl }

pub loop-left-preserved : goal.loop-left-preserved
loop-left-preserved c =
    let l = c.loop-left in
    let p = l.left.now in
    let s = bytes_in l.s in
    let w = c.eight_at-top in
    let h : 8 ≤ length p = omega arith in
    let e = push_eight l.s.top l.s.rest w.result ∙ ap (λ (x : ℕ). eight x ++ take 8 s) w.ensures ∙ by_8 s p 0 l.invariant.bytes h in
    left_more 8 _ _ _ s p l.invariant h (omega arith) e refl

pub returns : goal.returns
returns c = c.push_few.ensures ∙ c.loop-left.invariant.gives
