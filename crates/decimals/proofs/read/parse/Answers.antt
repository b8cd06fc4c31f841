-- `decimals::read::parse` passes over a minus sign. Assumes nothing.
use mathlib.Core.Path.{sym, ◌∙◌}
use Rattle.decimals.proofs.Parsing.{with_minus, without_minus}
use Rattle.decimals.proofs.read.parse.Goals as goal

pub returns-then-has_minus : goal.returns-then-has_minus
returns-then-has_minus c = (
  c.whole_at.ensures.0 ∙ with_minus c.args.text.now (sym c.has_minus.ensures
      ∙ c.if-has_minus.true),
  c.whole_at.ensures.1,
)

pub returns : goal.returns
returns c = (
  c.whole_at-2.ensures.0 ∙ without_minus c.args.text.now (sym c.has_minus.ensures
      ∙ c.if-has_minus.false),
  c.whole_at-2.ensures.1,
)
