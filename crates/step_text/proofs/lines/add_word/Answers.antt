-- `step_text::lines::add_word` adds the parts of the line in turn. Assumes nothing.
use Prim.Native.Nat.{◌*◌}
use native.Mathlib.Omega.{arith}
use Rattle.listing.proofs.Decimal.{at_most}
use Rattle.listing.proofs.Digits.{digits_length}
use Rattle.step_text.proofs.lines.add_word.Goals as goal

pub add-c-requires : goal.add-c-requires
add-c-requires c = omega (arith, digits_length 16 (2 * c.size.result) c.args.word)

pub add_field-d-requires : goal.add_field-d-requires
add_field-d-requires c = let a = c.args in omega (arith, digits_length 16 (2 * c.size.result) a.word, at_most 20 a.error)

pub add_status-requires : goal.add_status-requires
add_status-requires c = let a = c.args in omega (arith, digits_length 16 (2 * c.size.result) a.word, at_most 20 a.error)
