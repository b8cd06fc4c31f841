-- `fixed::parts::low_bits` meets its contract: m modulo 2h, or what that lacks to 2h, none where nothing is left. Assumes nothing.
use Rattle.fixed.proofs.LowBits.{low_none, low_pos, low_neg}
use Rattle.fixed.proofs.parts.low_bits.Goals as goal

pub returns-then-r-eq0 : goal.returns-then-r-eq0
returns-then-r-eq0 c = low_none _ _ c.requires.0 c.args.neg c.if-r-eq0.true

pub returns-then-neg : goal.returns-then-neg
returns-then-neg c = low_neg _ _ c.requires.0 _ c.if-neg.true c.if-r-eq0.false

pub returns : goal.returns
returns c = low_pos _ _ c.requires.0 _ c.if-neg.false
