-- `decimals::exact::add_whole` adds the digits before the last one and then that one. Assumes nothing.
use Prim.Native.Nat.{◌-◌}
use native.Mathlib.Omega.{arith}
use mathlib.Core.Path.{sym, ap, ◌∙◌}
use Rattle.listing.specs.Text.{digit}
use Rattle.listing.proofs.Decimal.{at_most}
use Rattle.decimals.specs.Magnitude.{whole_of}
use Rattle.decimals.proofs.Spelling.{no_digits, one_digit, more_digits}
use Rattle.decimals.proofs.exact.+add_whole.Goals as goal

pub returns-then-count-eq0 : goal.returns-then-count-eq0
returns-then-count-eq0 t c = let a = c.args in no_digits (whole_of a.w) a.count a.place a.out.now c.if-count-eq0.true

pub returns-then-below_ten : goal.returns-then-below_ten
returns-then-below_ten t c =
    let a = c.args in
    one_digit (whole_of a.w) a.count _ c.if-count-eq0.false (sym c.below_ten.ensures ∙ c.if-below_ten.true)
    (c.digit.ensures ∙ ap digit c.last_digit-t.ensures.1) c.add.ensures

pub add-requires-2 : goal.add-requires-2
add-requires-2 t c =
    omega (arith, c.add_whole-next.ensures.moved, at_most (c.args.count - 1) (whole_of c.last_digit-t.result.whole))

pub returns : goal.returns
returns t c =
    let a = c.args in
    let d = c.last_digit-t.ensures in
    more_digits (whole_of a.w) a.count _ _ c.if-count-eq0.false (sym c.below_ten.ensures ∙ c.if-below_ten.false) d.0
    (c.digit.ensures ∙ ap digit d.1) c.add_whole-next.ensures c.add-2.ensures
