-- `formula::parts::copy` meets its contract: after i turns what is left to store is all but the first i of nine bytes. Assumes nothing.
use mathlib.Core.Path.{sym, ◌∙◌}
use native.Mathlib.Omega.{arith}
use Rattle.formula.proofs.Stores.{store_first, store_next, store_done}
use Rattle.formula.proofs.parts.copy.Goals as goal

pub loop-i-init : goal.loop-i-init
loop-i-init c = let a = c.args in (omega arith, store_first a.text.now a.out.now a.at a.end 9)

pub overflow_add-out : goal.overflow_add-out
overflow_add-out c = omega (arith, c.loop-i.invariant.0)

pub bounds-text-at : goal.bounds-text-at
bounds-text-at c = omega (arith, c.requires.1)

pub overflow_add-out-in-loop-i : goal.overflow_add-out-in-loop-i
overflow_add-out-in-loop-i c = omega arith

pub bounds-out-end : goal.bounds-out-end
bounds-out-end c = omega arith

pub overflow_add-i : goal.overflow_add-i
overflow_add-i c = omega arith

pub loop-i-smaller : goal.loop-i-smaller
loop-i-smaller c = omega arith

pub loop-i-preserved : goal.loop-i-preserved
loop-i-preserved c =
    let l = c.loop-i in
    let a = c.args in
    (omega arith, l.invariant.1 ∙ store_next a.text.now l.out a.at a.end 9 l.i (omega arith) (omega (arith, c.requires.1)))

pub returns : goal.returns
returns c =
    let l = c.loop-i in
    let a = c.args in
    sym (l.invariant.1 ∙ store_done a.text.now l.out a.at a.end 9 l.i (omega (arith, l.invariant.0)))
