-- `sheet_figures::counts::count_improper` meets its contract: what is counted and what the lines ahead make is the whole. Assumes nothing.
use mathlib.Core.Path.{refl}
use Rattle.sheet_figures.specs.Figures.{improper}
use Rattle.sheet_figures.proofs.Running.{counted_all}
use Rattle.sheet_figures.proofs.counts.count_improper.Goals as goal

pub returns : goal.returns
returns c =
    let l = c.loop-i in
    counted_all improper c.args.sheets.now l.found l.i _ refl c.loop-i-test.false l.invariant.2
