-- `step_text::lines::add_status` adds the word, the two digits and the newline in turn. Assumes nothing.
use native.Mathlib.Omega.{arith}
use Rattle.listing.proofs.Digits.{digits_length}
use Rattle.step_text.proofs.lines.add_status.Goals as goal

pub add-requires : goal.add-requires
add-requires c = omega (arith, digits_length 16 2 c.status.result)
