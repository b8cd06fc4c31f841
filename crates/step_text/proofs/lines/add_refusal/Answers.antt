-- `step_text::lines::add_refusal` adds the word, the number and the newline in turn. Assumes nothing.
use native.Mathlib.Omega.{arith}
use Rattle.listing.proofs.Decimal.{at_most}
use Rattle.step_text.proofs.lines.add_refusal.Goals as goal

pub add_field-b-requires : goal.add_field-b-requires
add_field-b-requires c = omega (arith, at_most 20 c.number.result)

pub add-requires : goal.add-requires
add-requires c = omega (arith, at_most 20 c.number.result)
