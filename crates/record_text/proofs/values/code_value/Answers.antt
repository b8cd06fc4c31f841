-- `record_text::values::code_value` goes by the number of characters, and by whether they are hex digits. Assumes nothing.
use mathlib.Core.Path.{sym, ◌∙◌}
use native.Mathlib.Omega.{arith}
use Rattle.record_text.proofs.Valuing.{two_digits, not_two}
use Rattle.record_text.proofs.values.code_value.Goals as goal

pub returns-then-text-ne2 : goal.returns-then-text-ne2
returns-then-text-ne2 c = (not_two c.args.text.now c.if-text-ne2.true, omega arith)

pub returns-in-Number : goal.returns-in-Number
returns-in-Number c = (
  two_digits c.args.text.now _ c.if-text-ne2.false
      (sym c.in-Number.is ∙ c.read_hex-hex.ensures.0),
  (omega arith, omega arith),
)

pub returns-in-Nothing : goal.returns-in-Nothing
returns-in-Nothing c = (
  two_digits c.args.text.now _ c.if-text-ne2.false
      (sym c.in-Nothing.is ∙ c.read_hex-hex.ensures.0),
  omega arith,
)
