-- `sheet_text::add_rest` adds the closed sheets, the open one, and the figures, each at the end of what stands before. Assumes nothing.
use Rattle.listing.proofs.Adding.{both}
use Rattle.sheet_text.proofs.Lines.{rest_of}
use Rattle.sheet_text.proofs.add_rest.Goals as goal

pub returns : goal.returns
returns c =
    rest_of c.args.sheets.now c.sheets_figures.ensures.out_is
    (both c.add_sheets-a.ensures.adds (both c.add_open-b.ensures.adds c.add_figures.ensures))
