-- The rows of `sheets_figures`, computed from its definition. Assumes nothing.
use mathlib.Core.Path.{refl}
use Rattle.float.specs.Word.{size88, value}
use Rattle.sheet_bytes.specs.Ledger.{is_sheets}
use Rattle.sheet_figures.specs.Figures.{sum88}
use Rattle.sheet_figures.specs.Telling.{figures_of}
use Rattle.sheet_promises.specs.FigureRows.{FigureRows}

pub figure_rows : FigureRows
unfolding figures_of is_sheets sum88 value size88
figure_rows = refl
