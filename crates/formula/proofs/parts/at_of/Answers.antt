-- `formula::parts::at_of` meets its contract: the place in the text. Assumes nothing.
use mathlib.Core.Path.{refl}
use Rattle.formula.specs.Told.{at_of}
use Rattle.formula.proofs.parts.at_of.Goals as goal

pub returns : goal.returns
unfolding at_of
returns c = refl
