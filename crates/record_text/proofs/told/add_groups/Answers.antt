-- `record_text::told::add_groups` adds one word after another. Assumes nothing.
use native.Mathlib.Omega.{arith}
use borrow.Author.Rules.{rules}
use Rattle.record_text.proofs.Telling.{word_length, tell_starts, tells, all_told}
use Rattle.record_text.proofs.told.add_groups.Goals as goal

pub loop-at-init : goal.loop-at-init
loop-at-init c = let a = c.args in tell_starts a.bytes.now a.out.now a.place

pub add_group-next-requires : goal.add_group-next-requires
add_group-next-requires c =
    let size = c.group_size in
    let l = c.loop-at in
    let w = word_length c.args.bytes.now l.at size.result size.ensures.3 in
    (omega (arith, size.ensures.1, w), omega (arith, c.requires, l.invariant.few, l.invariant.same, size.ensures.3, w))

pub loop-at-preserved : goal.loop-at-preserved
loop-at-preserved c =
    let added = c.add_group-next.ensures in
    let size = c.group_size in
    let l = c.loop-at in
    let a = c.args in
    tells a.bytes.now a.out.now l.out a.place l.next l.at l.invariant size.result _ _ c.loop-at-test.true
    size.ensures.0 size.ensures.3 added.adds added.upper_bound (search rules)

pub returns-clause-adds : goal.returns-clause-adds
returns-clause-adds c =
    let l = c.loop-at in
    let a = c.args in
    all_told a.bytes.now a.out.now l.out a.place l.next l.at l.invariant c.loop-at-test.false
