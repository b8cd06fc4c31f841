-- `record_text::told::add_group` adds a blank and the digits of the bytes' number. Assumes nothing.
use Prim.Native.Nat.{◌*◌}
use native.Mathlib.Omega.{arith}
use lib.ListN.{length}
use Rattle.listing.proofs.Digits.{digits_length}
use Rattle.record_text.proofs.told.add_group.Goals as goal

pub returns-clause-upper_bound : goal.returns-clause-upper_bound
returns-clause-upper_bound c =
    let l = c.args.bytes.now in
    omega (arith, c.requires.0, c.add-next.ensures.moved, c.add_digits.ensures.moved, digits_length 16 (2 * length l) c.number_in.result)
