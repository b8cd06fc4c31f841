-- `sheets::step::pass_line` meets its contract: a record of this library or one of the core. Assumes nothing.
use mathlib.Core.Path.{sym, ◌∙◌}
use Rattle.chip.specs.Step.{given}
use Rattle.sheets.specs.Step.{sheet_step}
use Rattle.sheets.proofs.step.pass_line.Goals as goal

pub returns-then-is_own : goal.returns-then-is_own
unfolding sheet_step
returns-then-is_own c =
    let a = c.args in
    rw (sym c.is_own.ensures ∙ c.if-is_own.true) (c.pass_own.ensures (given a.mode a.rule))

pub returns : goal.returns
unfolding sheet_step
returns c = rw (sym c.is_own.ensures ∙ c.if-is_own.false) c.pass_core.ensures
