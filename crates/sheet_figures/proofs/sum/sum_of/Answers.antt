-- `sheet_figures::sum::sum_of` meets its contract: the sum of those above zero less that of those below. Assumes nothing.
use Rattle.sheet_bytes.specs.Ledger.{lines_of}
use Rattle.sheet_figures.specs.Limbs.{le, sum_limit}
use Rattle.sheet_figures.proofs.Gathering.{sum_above, sum_below}
use Rattle.sheet_figures.proofs.sum.sum_of.Goals as goal

pub returns-then-d-eq0 : goal.returns-then-d-eq0
returns-then-d-eq0 c =
    let g = c.gather_all-s in
    let d = c.less-d in
    sum_above (lines_of c.args.sheets.now) (le g.result.plus) (le g.result.minus) (le d.result.bytes) sum_limit g.ensures.0 g.ensures.1
    d.result.borrowed c.if-d-eq0.true d.ensures.0

pub returns : goal.returns
returns c =
    let g = c.gather_all-s in
    let d = c.less-d in
    let e = c.less-e in
    sum_below (lines_of c.args.sheets.now) (le g.result.plus) (le g.result.minus) (le e.result.bytes) sum_limit g.ensures.0 g.ensures.1
    (le d.result.bytes) d.result.borrowed e.result.borrowed c.if-d-eq0.false d.ensures.2 e.ensures.2 d.ensures.1
    e.ensures.1 d.ensures.0 e.ensures.0
