-- `decimals::line::add_places` adds the parts of a decimal in turn. Assumes nothing.
use Prim.Native.Nat.{◌+◌, ◌≤◌}
use native.Mathlib.Omega.{arith}
use Rattle.listing.proofs.Decimal.{at_most}
use Rattle.listing.proofs.Digits.{digits_length}
use Rattle.decimals.proofs.line.add_places.Goals as goal

pub add_decimal-b-requires : goal.add_decimal-b-requires
add_decimal-b-requires c =
    omega (arith, at_most 20 c.args.whole, c.add_minus-a.ensures.1)

pub add-c-requires : goal.add-c-requires
add-c-requires c =
    let to-point : (c.add_decimal-b.result ≤ c.args.place + 21) = omega (arith, at_most 20 c.args.whole, c.add_minus-a.ensures.1, c.add_decimal-b.ensures.moved) in
    omega (arith, to-point)

pub add_digits-requires : goal.add_digits-requires
add_digits-requires c =
    let to-point : (c.add_decimal-b.result ≤ c.args.place + 21) = omega (arith, at_most 20 c.args.whole, c.add_minus-a.ensures.1, c.add_decimal-b.ensures.moved) in
    (omega arith, omega arith, omega (arith, to-point, c.add-c.ensures.moved))

pub returns-clause-upper_bound : goal.returns-clause-upper_bound
returns-clause-upper_bound c =
    omega (
      arith,
      at_most 20 c.args.whole,
      c.add_minus-a.ensures.1,
      c.add_decimal-b.ensures.moved,
      c.add-c.ensures.moved,
      c.add_digits.ensures.moved,
      digits_length 10 c.args.places c.args.fraction,
    )
