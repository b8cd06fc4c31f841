-- `record_text::told::add_told` is its definition, form by form. Assumes nothing.
use native.Mathlib.Omega.{arith}
use Rattle.listing.proofs.Decimal.{at_most}
use Rattle.record_text.proofs.told.add_told.Goals as goal

pub add_field-requires : goal.add_field-requires
add_field-requires c = omega (arith, c.requires, c.add_kind-next-in-Number.ensures.1, at_most 20 c.number_in.result)

pub returns-in-Number-clause-upper_bound : goal.returns-in-Number-clause-upper_bound
returns-in-Number-clause-upper_bound c =
    omega (arith, c.add_kind-next-in-Number.ensures.1, c.add_field.ensures.moved, at_most 20 c.number_in.result)
