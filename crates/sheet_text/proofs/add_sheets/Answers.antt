-- `sheet_text::add_sheets` adds the line of one sheet after the other: so far they are the lines of the sheets passed. Assumes nothing.
use native.Mathlib.Omega.{arith}
use Rattle.listing.proofs.Adding.{both}
use Rattle.sheet_text.proofs.Lines.{next_line}
use borrow.Author.Rules.{rules}
use Rattle.sheet_text.proofs.add_sheets.Goals as goal

pub loop-i-preserved : goal.loop-i-preserved
loop-i-preserved c =
    let a = c.args in
    let l = c.loop-i in
    let s = c.add_sheet-next in
    (omega arith, search rules, rw (next_line l.i a.sheets.now) (both l.invariant.2 s.ensures.adds), omega (arith, s.ensures.upper_bound, l.invariant.3))
