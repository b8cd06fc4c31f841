-- `sheet_text::add_sheet` adds the parts of the line in turn, which have room since a number has at most 20 digits. Assumes nothing.
use native.Mathlib.Omega.{arith}
use Rattle.listing.proofs.Adding.{both}
use Rattle.listing.proofs.Decimal.{at_most}
use Rattle.sheet_text.proofs.Lines.{sheet_short, sheet_of_lem}
use borrow.Author.Rules.{rules}
use Rattle.sheet_text.proofs.add_sheet.Goals as goal

pub add_field-b-requires : goal.add_field-b-requires
add_field-b-requires c = omega (arith, at_most 20 c.four_at.result)

pub add_words-c-requires : goal.add_words-c-requires
add_words-c-requires c = (search rules, omega (arith, at_most 20 c.four_at.result))

pub add-requires : goal.add-requires
add-requires c = omega (arith, at_most 20 c.four_at.result)

pub returns : goal.returns
returns c =
    let line = c.args.line.now in
    let x =
    sheet_of_lem line c.four_at.ensures
    (both c.add-a.ensures (both c.add_field-b.ensures (both c.add_words-c.ensures c.add.ensures))) in
    record { adds = x; upper_bound = omega (arith, x.moved, sheet_short line) }
