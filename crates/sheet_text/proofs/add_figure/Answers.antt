-- `sheet_text::add_figure` adds the name, the count and the end of the line in turn; a count has at most 20 digits. Assumes nothing.
use native.Mathlib.Omega.{arith}
use Rattle.listing.proofs.Adding.{both}
use Rattle.listing.proofs.Decimal.{at_most}
use Rattle.sheet_text.proofs.Lines.{figure_short}
use Rattle.sheet_text.proofs.add_figure.Goals as goal

pub add_field-b-requires : goal.add_field-b-requires
add_field-b-requires c = let a = c.args in omega (
  arith,
  at_most 20 a.n,
  c.add-a.ensures.moved,
  c.requires,
)

pub add-requires : goal.add-requires
add-requires c = let a = c.args
    in omega (
      arith,
      at_most 20 a.n,
      c.add_field-b.ensures.moved,
      c.add-a.ensures.moved,
      c.requires,
    )

pub returns-clause-upper_bound : goal.returns-clause-upper_bound
returns-clause-upper_bound c =
    let x = both c.add-a.ensures (both c.add_field-b.ensures c.add.ensures) in
    omega (arith, x.moved, figure_short c.args.name.now c.args.n)
