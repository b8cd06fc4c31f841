-- `step_text::lines::add_step` adds the parts of the line in turn; a number has at most 20 digits. Assumes nothing.
use native.Mathlib.Omega.{arith}
use Rattle.listing.proofs.Adding.{both}
use Rattle.listing.proofs.Decimal.{at_most}
use Rattle.listing.proofs.Digits.{digits_length}
use Rattle.step_text.proofs.lines.add_step.Goals as goal

pub add_decimal-a-requires : goal.add_decimal-a-requires
add_decimal-a-requires c = omega (arith, at_most 20 c.args.number)

pub add_field-b-requires : goal.add_field-b-requires
add_field-b-requires c = let a = c.args in omega (arith, at_most 20 a.number, at_most 20 a.left)

pub add-c-requires : goal.add-c-requires
add-c-requires c = let a = c.args in omega (arith, at_most 20 a.number, at_most 20 a.left)

pub add_digits-d-requires : goal.add_digits-d-requires
add_digits-d-requires c = let a = c.args in (omega arith, omega arith, omega (arith, at_most 20 a.number, at_most 20 a.left))

pub add-requires : goal.add-requires
add-requires c = let a = c.args in omega (arith, at_most 20 a.number, at_most 20 a.left, digits_length 16 16 a.partial)

pub returns : goal.returns
returns c =
    let a = c.args in (
      both c.add_decimal-a.ensures (both c.add_field-b.ensures (both c.add-c.ensures (both c.add_digits-d.ensures c.add.ensures))),
      omega (arith, at_most 20 a.number, at_most 20 a.left, digits_length 16 16 a.partial),
    )
