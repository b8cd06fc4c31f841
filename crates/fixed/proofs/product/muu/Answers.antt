-- `fixed::product::muu` meets its contract: the row of a least operand, else the upper bits of the product of the magnitudes with its sign.
-- Assumes nothing.
use Rattle.fixed.proofs.Products.{muu_least, muu_all}
use Rattle.std.proofs.Common.{◌∙◌}
use Rattle.fixed.proofs.product.muu.Goals as goal

pub returns-then-either_least : goal.returns-then-either_least
returns-then-either_least c = c.least_word.ensures ∙ muu_least _ _ _ c.requires _ c.either_least.ensures c.if-either_least.true

pub returns : goal.returns
returns c = muu_all _ _ _ c.requires _ _ _ _ c.either_least.ensures
    c.if-either_least.false c.unlike_signs-neg.ensures c.magnitude.ensures.0
    c.magnitude-2.ensures.0 _ c.upper_bits.ensures
