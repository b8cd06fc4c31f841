-- `sheet_figures::sheet::number_at` meets its contract: the bytes of a line lie 20 apart. Assumes nothing.
use mathlib.Core.Path.{sym, refl, ◌∙◌}
use native.Mathlib.Omega.{arith}
use Rattle.sheet_figures.proofs.Lines.{four_at_lem}
use Rattle.sheet_figures.proofs.sheet.number_at.Goals as goal

pub returns : goal.returns
returns c = c.four_at.ensures ∙ sym (four_at_lem c.args.sheets.now c.args.i c.args.from _ c.requires.2
    (omega (arith, c.requires.3)) refl)
