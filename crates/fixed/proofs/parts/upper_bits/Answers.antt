-- `fixed::parts::upper_bits` meets its contract: -m over 2h, rounded down, is one less than (m - 1) / 2h with the sign turned. Assumes nothing.
use Rattle.fixed.proofs.Products.{upper_none, upper_pos, upper_neg}
use Rattle.fixed.proofs.parts.upper_bits.Goals as goal

pub returns-then-m-eq0 : goal.returns-then-m-eq0
returns-then-m-eq0 c = upper_none _ _ c.args.neg c.if-m-eq0.true c.requires.0

pub returns-then-neg : goal.returns-then-neg
returns-then-neg c = upper_neg _ _ _ c.if-neg.true c.requires.0 c.requires.2 c.if-m-eq0.false

pub returns : goal.returns
returns c = upper_pos _ _ _ c.if-neg.false c.requires.0 c.requires.2
