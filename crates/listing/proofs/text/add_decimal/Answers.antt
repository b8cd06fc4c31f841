-- `listing::text::add_decimal` adds the fewest digits that hold the number, and these are its decimal. Assumes nothing.
use mathlib.Core.Path.{ap}
use native.Mathlib.Omega.{arith}
use lib.ListN.{length}
use Rattle.listing.proofs.Decimal.{is_decimal}
use borrow.Author.Rules.{rules}
use Rattle.listing.proofs.text.add_decimal.Goals as goal

pub add-requires : goal.add-requires
add-requires c =
    let d = c.decimal-k in
    omega (arith, ap length (is_decimal c.args.n d.result (search rules) d.ensures.len), ap length d.ensures.digits)

pub returns : goal.returns
returns c =
    let d = c.decimal-k in
    rw (is_decimal c.args.n d.result (search rules) d.ensures.len) (rw d.ensures.digits at c.add.ensures)
