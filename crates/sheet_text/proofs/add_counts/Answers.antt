-- `sheet_text::add_counts` adds the lines of the four counts in turn. Assumes nothing.
use Rattle.listing.proofs.Adding.{both}
use Rattle.sheet_text.proofs.add_counts.Goals as goal

pub returns-clause-adds : goal.returns-clause-adds
returns-clause-adds c =
    both c.add_figure-a.ensures.adds (both c.add_figure-b.ensures.adds (both c.add_figure-c.ensures.adds c.add_figure.ensures.adds))
