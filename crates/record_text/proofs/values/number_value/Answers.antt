-- `record_text::values::number_value` goes by the digits at the front. Assumes nothing.
use mathlib.Core.Path.{sym, ◌∙◌, subst}
use native.Mathlib.Omega.{arith}
use lib.ListN.{length}
use Rattle.decimals.specs.Read.{Scans}
use Rattle.record_text.proofs.Valuing.{all_digits_lem, not_all, too_many}
use Rattle.record_text.proofs.values.number_value.Goals as goal

pub returns-then-count-text : goal.returns-then-count-text
returns-then-count-text c =
    let a = c.args in (
      c.ranged_value.ensures.0
          ∙ all_digits_lem a.kind a.text.now _ _ (sym c.in-Digits.is ∙ c.scan-scanned.ensures.0) c.if-count-text.true,
      c.ranged_value.ensures.1,
    )

pub returns-else-count-text : goal.returns-else-count-text
returns-else-count-text c =
    let a = c.args in
    let s = subst (Scans (length a.text.now)) c.in-Digits.is c.scan-scanned.ensures.1 in
    (not_all a.kind a.text.now _ _ (sym c.in-Digits.is ∙ c.scan-scanned.ensures.0) c.if-count-text.false, omega (arith, s.2))

pub returns-in-TooMany : goal.returns-in-TooMany
returns-in-TooMany c =
    let a = c.args in
    let s = subst (Scans (length a.text.now)) c.in-TooMany.is c.scan-scanned.ensures.1 in
    (too_many a.kind a.text.now _ (sym c.in-TooMany.is ∙ c.scan-scanned.ensures.0), omega (arith, s))
