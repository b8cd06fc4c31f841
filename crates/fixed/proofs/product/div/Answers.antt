-- `fixed::product::div` meets its contract: the row of a zero, the row of a least operand, else the quotient of the magnitudes with its sign. Assumes
-- nothing.
use Rattle.fixed.proofs.Products.{div_none, div_least, div_all}
use Rattle.std.proofs.Common.{◌∙◌}
use Rattle.fixed.proofs.product.div.Goals as goal

pub returns-then-a-eq0 : goal.returns-then-a-eq0
returns-then-a-eq0 c = div_none _ _ _ c.requires c.if-a-eq0.true

pub returns-then-either_least : goal.returns-then-either_least
returns-then-either_least c = c.least_word.ensures ∙ div_least _ _ _ c.requires c.if-a-eq0.false _
    c.either_least.ensures c.if-either_least.true

pub returns : goal.returns
returns c = div_all _ _ _ c.requires _ _ _ _ c.either_least.ensures c.if-either_least.false c.unlike_signs-neg.ensures c.magnitude.ensures.0
    c.magnitude-2.ensures.0 _ c.if-a-eq0.false c.low_bits.ensures
