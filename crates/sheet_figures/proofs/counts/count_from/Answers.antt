-- `sheet_figures::counts::count_from` meets its contract: what is counted and what the lines ahead make is the whole. Assumes nothing.
use mathlib.Core.Path.{refl}
use native.Mathlib.Omega.{arith}
use Rattle.sheet_figures.specs.Figures.{count, serials}
use Rattle.sheet_figures.proofs.Running.{count_on, counted_all}
use Rattle.sheet_figures.proofs.counts.count_from.Goals as goal

pub loop-at-preserved : goal.loop-at-preserved
loop-at-preserved c =
    let l = c.loop-at in (
      omega arith,
      omega (arith, c.one-found.ensures.1, l.invariant.1),
      count_on c.args.sheets.now l.found l.at _ _ c.loop-at-test.true
          c.args.serial _ c.number_at.ensures c.one-found.ensures.0 l.invariant.2,
    )

pub returns : goal.returns
returns c =
    let l = c.loop-at in
    counted_all (λ m. count c.args.serial (serials m)) c.args.sheets.now l.found l.at _ refl c.loop-at-test.false l.invariant.2
