-- `sheet_figures::write` meets its contract: each count, the sign and the digits in their places. Assumes nothing.
use mathlib.Core.Path.{sym}
use native.Mathlib.Omega.{arith}
use Rattle.sheet_bytes.specs.Ledger.{lines_of}
use Rattle.sheet_figures.proofs.Lines.{length-lines}
use Rattle.sheet_figures.proofs.Writing.{written_is}
use Rattle.sheet_figures.proofs.write.Goals as goal

pub returns : goal.returns
returns c =
    let s = c.count_serials-s.ensures in
    let t = c.sum_of-total.ensures in
    let d = c.put_digits in
    written_is (lines_of c.args.sheets.now) c.args.out.now d.new.out _ _ _ _ _ _ _ (omega (arith, c.requires.2))
    (sym (length-lines c.args.sheets.now)) s.0 s.1 c.count_improper-improper.ensures t.0 t.1 d.ensures c.put_front.ensures
