-- `sheet_bytes::bytes::open` meets its contract: the bytes of a fresh sheet, laid over the open one's. Assumes nothing.
use mathlib.Core.Path.{ap, ◌∙◌}
use Rattle.sheet_bytes.specs.Ledger.{open_at, laid_at}
use Rattle.sheet_bytes.proofs.Ledgers.{opened_bytes}
use Rattle.sheet_bytes.proofs.bytes.open.Goals as goal

pub returns : goal.returns
returns c =
    c.lay-2.ensures ∙ ap (laid_at c.args.sheets.now open_at) (opened_bytes c.args.serial.now _ c.requires.1 c.lay.ensures)
