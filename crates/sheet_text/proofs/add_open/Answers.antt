-- `sheet_text::add_open` adds the parts of the line in turn, where a sheet is open. Assumes nothing.
use mathlib.Core.Path.{sym, ◌∙◌}
use native.Mathlib.Omega.{arith}
use Rattle.listing.proofs.Adding.{both}
use Rattle.listing.proofs.Decimal.{at_most}
use Rattle.sheet_text.proofs.Lines.{open_of_lem, open_short}
use Rattle.sheet_text.proofs.add_open.Goals as goal

pub add_field-b-requires : goal.add_field-b-requires
add_field-b-requires c = omega (arith, at_most 20 c.four_at.result)

pub add-requires : goal.add-requires
add-requires c = omega (arith, at_most 20 c.four_at.result)

pub returns : goal.returns
returns c =
    let l = c.args.sheets.now in
    let x =
    open_of_lem l (sym c.is_open.ensures ∙ c.if-not-is_open.false) c.four_at.ensures
    (both c.add-a.ensures (both c.add_field-b.ensures c.add.ensures)) in
    record { adds = x; upper_bound = omega (arith, x.moved, open_short l) }
