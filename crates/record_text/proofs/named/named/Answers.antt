-- `record_text::named::named` looks for the name place by place. Assumes nothing.
use mathlib.Core.Path.{sym, ◌∙◌}
use native.Mathlib.Omega.{arith}
use Rattle.record_text.proofs.Naming.{starts, found, next, none}
use Rattle.record_text.proofs.named.named.Goals as goal

pub loop-place-init : goal.loop-place-init
loop-place-init c = starts _

pub returns-then-is_named : goal.returns-then-is_named
returns-then-is_named c =
    let h = c.loop-place-test.true in
    (found c.args.text.now c.loop-place.place c.loop-place.invariant h (sym c.is_named.ensures ∙ c.if-is_named.true), omega arith)

pub overflow_add-place : goal.overflow_add-place
overflow_add-place c = record { fits = let h = c.loop-place-test.true in omega arith }

pub loop-place-smaller : goal.loop-place-smaller
loop-place-smaller c = omega arith

pub loop-place-preserved : goal.loop-place-preserved
loop-place-preserved c =
    next c.args.text.now c.loop-place.place c.loop-place.invariant c.loop-place-test.true (sym c.is_named.ensures ∙ c.if-is_named.false)

pub returns : goal.returns
returns c = (none c.args.text.now c.loop-place.place c.loop-place.invariant c.loop-place-test.false, omega arith)
