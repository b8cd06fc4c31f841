-- `decimals::exact::add_places` stores one place after another. Assumes nothing.
use mathlib.Core.Path.{sym, ap, ◌∙◌}
use native.Mathlib.Omega.{arith}
use Rattle.listing.specs.Text.{digit}
use Rattle.decimals.specs.Magnitude.{rest_of}
use Rattle.decimals.proofs.Spelling.{placing_starts, placing_done, placing_last, placing_more}
use Rattle.decimals.proofs.exact.add_places.Goals as goal

pub loop-i-init : goal.loop-i-init
loop-i-init c =
    let a = c.args in
    (placing_starts (rest_of a.r) a.count a.place a.out.now c.requires.1, c.requires.0)

pub next_digit-t-requires : goal.next_digit-t-requires
next_digit-t-requires c = c.loop-i.invariant.1

pub digit-requires : goal.digit-requires
digit-requires c = let f = c.loop-i.invariant.1 in omega (arith, c.next_digit-t.ensures.0, f.high, f.low)

pub bounds-out-place : goal.bounds-out-place
bounds-out-place c = let l = c.loop-i in omega (arith, l.invariant.0.same, c.requires.1)

pub returns-then-is_nothing : goal.returns-then-is_nothing
returns-then-is_nothing c =
    let d = c.next_digit-t.ensures in
    let l = c.loop-i in
    let a = c.args in
    placing_last (rest_of a.r) a.count a.place a.out.now c.requires.1 l.invariant.0 c.loop-i-test.true
    (c.digit.ensures ∙ ap digit d.0) d.1 (sym c.is_nothing.ensures ∙ c.if-is_nothing.true)

pub loop-i-preserved : goal.loop-i-preserved
loop-i-preserved c =
    let d = c.next_digit-t.ensures in
    let l = c.loop-i in
    let a = c.args in (
      placing_more (rest_of a.r) a.count a.place a.out.now c.requires.1 l.invariant.0 c.loop-i-test.true
          (c.digit.ensures ∙ ap digit d.0) d.1 (sym c.is_nothing.ensures ∙ c.if-is_nothing.false),
      d.2,
    )

pub returns : goal.returns
returns c =
    let a = c.args in
    placing_done (rest_of a.r) a.count a.place a.out.now c.requires.1 c.loop-i.invariant.0 c.loop-i-test.false
