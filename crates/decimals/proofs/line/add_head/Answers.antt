-- `decimals::line::add_head` adds eight digits and a blank. Assumes nothing.
use native.Mathlib.Omega.{arith}
use Rattle.listing.proofs.Adding.{both}
use Rattle.listing.proofs.Digits.{digits_length}
use Rattle.decimals.proofs.line.add_head.Goals as goal

pub add-requires : goal.add-requires
add-requires c =
    omega (arith, c.requires, c.add_digits-a.ensures.moved, digits_length 16 8 c.args.word)

pub returns : goal.returns
returns c =
    let told = both c.add_digits-a.ensures c.add.ensures in
    (told, omega (arith, c.add_digits-a.ensures.moved, c.add.ensures.moved, digits_length 16 8 c.args.word))
