-- `record_text::trace::add_lines` adds the line of one record after the other: so far they are the lines of the records passed. Assumes nothing.
use mathlib.Core.Path.{sym}
use Prim.Native.Nat.{◌+◌, ◌-◌}
use native.Mathlib.Omega.{arith}
use borrow.Author.Rules.{rules}
use lib.ListN.{length}
use lib.Seq.{length-take-le}
use Rattle.record_text.proofs.Tracing.{starts, ends, goes_on, none_left, cut_off, end_is}
use Rattle.record_text.proofs.trace.add_lines.Goals as goal

pub loop-at-init : goal.loop-at-init
loop-at-init c = let a = c.args in starts a.mode a.rule a.input.now a.out.now

pub returns-then-input-end-clause-adds : goal.returns-then-input-end-clause-adds
returns-then-input-end-clause-adds c =
    let l = c.loop-at in
    let a = c.args in
    let input = a.input.now in
    let test = c.loop-at-test.true in
    let end = end_is input l.at c.two.ensures in
    ends a.mode a.rule input a.out.now l.out l.place l.number l.at l.invariant (omega (arith, c.requires.0, c.requires.1))
    (cut_off (length input + 1 - l.number) a.mode a.rule input l.number l.at (omega (arith, test)) (omega (arith, c.if-input-end.true, end)))

pub slice_bounds-add_after-end : goal.slice_bounds-add_after-end
slice_bounds-add_after-end c =
    let a = c.args in
    sym (length-take-le _ a.input.now (omega (arith, c.if-input-end.false)))

pub add_after-place-requires : goal.add_after-place-requires
add_after-place-requires c =
    let l = c.loop-at in
    omega (arith, l.invariant.room, l.invariant.same, c.requires.0, c.requires.1, c.loop-at-test.true)

pub loop-at-preserved : goal.loop-at-preserved
loop-at-preserved c =
    let l = c.loop-at in
    let a = c.args in
    let input = a.input.now in
    let after = c.add_after-place in
    goes_on a.mode a.rule input a.out.now l.out l.place l.number l.at l.invariant (omega (arith, c.requires.0, c.requires.1))
    after.new.out after.result _ (omega (arith, c.loop-at-test.true)) (end_is input l.at c.two.ensures)
    (omega (arith, c.if-input-end.false)) (search rules) after.ensures.upper_bound after.ensures.adds

pub returns-clause-adds : goal.returns-clause-adds
returns-clause-adds c =
    let l = c.loop-at in
    let a = c.args in
    let input = a.input.now in
    ends a.mode a.rule input a.out.now l.out l.place l.number l.at l.invariant (omega (arith, c.requires.0, c.requires.1))
    (none_left (length input + 1 - l.number) a.mode a.rule input l.number l.at (omega (arith, c.loop-at-test.false)))
