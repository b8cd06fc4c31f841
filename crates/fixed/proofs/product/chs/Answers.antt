-- `fixed::product::chs` meets its contract: the magnitude with its sign turned, of which the least word keeps its own. Assumes nothing.
use Rattle.fixed.proofs.Products.{chs_all}
use Rattle.fixed.proofs.product.chs.Goals as goal

pub returns : goal.returns
returns c = chs_all _ _ _ _ _ c.requires.2 c.magnitude.ensures.0 c.low_bits-word.ensures
    c.overflow_bit.ensures
