-- `record_text::values::byte_value` goes by the number of characters, and by whether they are hex digits. Assumes nothing.
use mathlib.Core.Path.{◌∙◌}
use native.Mathlib.Omega.{arith}
use Rattle.record_text.proofs.Valuing.{by_decimal, by_hex}
use Rattle.record_text.proofs.values.byte_value.Goals as goal

pub returns-then-size-eq0 : goal.returns-then-size-eq0
returns-then-size-eq0 c =
    let a = c.args in (
      c.decimal_value.ensures.0 ∙ by_decimal a.rule a.text.now c.size_for-size.result c.size_for-size.ensures.0 c.if-size-eq0.true,
      c.decimal_value.ensures.1,
    )

pub returns-in-Number : goal.returns-in-Number
returns-in-Number c =
    let a = c.args in
    let size = c.size_for-size in (
      by_hex a.rule a.text.now size.result size.ensures.0 _ c.if-size-eq0.false c.in-Number.ensures.0,
      (let n = c.if-size-eq0.false in omega arith, size.ensures.1),
    )

pub returns-in-Nothing : goal.returns-in-Nothing
returns-in-Nothing c =
    let a = c.args in
    let size = c.size_for-size in (
      c.decimal_value-in-Nothing.ensures.0 ∙ by_hex a.rule a.text.now size.result size.ensures.0 _ c.if-size-eq0.false c.in-Nothing.ensures.0,
      c.decimal_value-in-Nothing.ensures.1,
    )
