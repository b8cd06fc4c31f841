-- `decimals::line::add_noted` adds the parts of the line in turn. Assumes nothing.
use native.Mathlib.Omega.{arith}
use Rattle.listing.proofs.Decimal.{at_most}
use Rattle.decimals.proofs.line.add_noted.Goals as goal

pub add_field-b-requires : goal.add_field-b-requires
add_field-b-requires c =
    omega (arith, c.requires.1, c.requires.2, c.add-a.ensures.moved, at_most 20 c.args.n)

pub add_end-requires : goal.add_end-requires
add_end-requires c =
    (c.requires.0, omega (arith, c.requires.1, c.requires.2, c.add-a.ensures.moved, c.add_field-b.ensures.moved, at_most 20 c.args.n))
