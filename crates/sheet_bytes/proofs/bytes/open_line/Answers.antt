-- `sheet_bytes::bytes::open_line` meets its contract: the serial and the words, one after the other. Assumes nothing.
use Rattle.sheet_bytes.specs.Ledger.{open_serial, open_words}
use Rattle.sheet_bytes.proofs.Ledgers.{two_parts, length-serial, length-words}
use Rattle.sheet_bytes.proofs.bytes.open_line.Goals as goal

pub returns : goal.returns
returns c =
    let l = c.args.sheets.now in
    two_parts (open_serial l) (open_words l) _ _ (length-serial l c.requires) (length-words l c.requires) c.lay.ensures c.lay-2.ensures
