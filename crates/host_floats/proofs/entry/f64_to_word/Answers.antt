-- `host_floats::entry::f64_to_word` meets its contract: its steps are those of the cut, from 2^63 on it overflows, and each refusal is the definition's.
-- Assumes nothing.
use mathlib.Core.Path.{sym, ap, ◌∙◌}
use Prim.Native.Nat.{◌≤◌}
use native.Mathlib.Omega.{arith}
use borrow.Author.Tests.{eq-eqb}
use Rattle.host_floats.specs.Double.{double_field, judged_of, brought_of, inward_of}
use Rattle.host_floats.proofs.DoubleIn.{judged_over, judged_at}
use Rattle.host_floats.proofs.Places.{at_least, not_minus, not_plus, not_endless, over_at, judged_in, own_bits_at}
use Rattle.host_floats.proofs.entry.f64_to_word.Goals as goal

pub returns-then-field-eq2047 : goal.returns-then-field-eq2047
unfolding inward_of
returns-then-field-eq2047 c = simp (eq-eqb _ _ c.if-field-eq2047.true)

pub returns-then-place-ge-LARGE : goal.returns-then-place-ge-LARGE
returns-then-place-ge-LARGE c =
    let a = c.args in
    let some : 958 ≤ double_field a.bits = omega arith in
    let is = c.steps-place.ensures in
    sym (judged_at a.rule a.bits some c.if-field-eq2047.false (not_minus a.rule a.bits some _ is) (not_plus a.rule a.bits some _ is)
    ∙ judged_over a.bits (brought_of a.rule a.bits) (over_at a.rule a.bits some _ is c.if-place-ge-LARGE.true))

pub judge-requires : goal.judge-requires
judge-requires c =
    let a = c.args in
    let some : 958 ≤ double_field a.bits = omega arith in
    own_bits_at a.bits _ _ c.ranges.bits.fits (at_least a.rule a.bits some _ c.steps-place.ensures) c.if-place-ge-LARGE.false
    c.word_at.ensures

pub returns : goal.returns
returns c =
    let a = c.args in
    let some : 958 ≤ double_field a.bits = omega arith in
    let is = c.steps-place.ensures in
    let low = c.if-place-ge-LARGE.false in
    c.judge.ensures
    ∙ ap (judged_of a.bits) (judged_in a.rule a.bits some _ is low _ c.word_at.ensures)
    ∙ sym (judged_at a.rule a.bits some (not_endless a.rule a.bits some _ is low) (not_minus a.rule a.bits some _ is)
    (not_plus a.rule a.bits some _ is))
