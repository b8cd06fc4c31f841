-- `sheet_figures::sum::gather_all` meets its contract. Assumes nothing.
use Rattle.sheet_figures.proofs.Gathering.{gather_room, gather_on, gather_ends}
use Rattle.sheet_figures.proofs.sum.gather_all.Goals as goal

pub gather-s-requires : goal.gather-s-requires
gather-s-requires c =
    let l = c.loop-i in
    gather_room c.args.sheets.now _ _ l.i c.number_at.result c.loop-i-test.true c.number_at.ensures l.invariant c.requires.1

pub loop-i-preserved : goal.loop-i-preserved
loop-i-preserved c =
    let l = c.loop-i in
    gather_on c.args.sheets.now _ _ l.i c.number_at.result c.loop-i-test.true c.number_at.ensures l.invariant _ _
    c.gather-s.ensures.0 c.gather-s.ensures.1

pub returns : goal.returns
returns c = let l = c.loop-i in gather_ends c.args.sheets.now _ _ l.i c.loop-i-test.false l.invariant
