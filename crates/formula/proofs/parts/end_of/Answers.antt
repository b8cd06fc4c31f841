-- `formula::parts::end_of` meets its contract: the place in the postfix. Assumes nothing.
use mathlib.Core.Path.{refl}
use Rattle.formula.specs.Told.{end_of}
use Rattle.formula.proofs.parts.end_of.Goals as goal

pub returns : goal.returns
unfolding end_of
returns c = refl
