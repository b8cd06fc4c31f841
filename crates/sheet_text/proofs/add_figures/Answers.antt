-- `sheet_text::add_figures` adds the four counts, then the sum, which is the bytes behind them. Assumes nothing.
use Rattle.record_runs.proofs.Writes.{all_rest}
use Rattle.listing.proofs.Adding.{both}
use Rattle.sheet_text.proofs.add_figures.Goals as goal

pub returns : goal.returns
returns c =
    let sum = rw (all_rest c.args.figures.now 4) at c.add-c.ensures in
    both c.add_counts-a.ensures.adds (both c.add-b.ensures (both sum c.add.ensures))
