-- `float::sum::add_lower` meets its contract: the smaller addend, shifted, is added to the greater or taken from it. Assumes nothing.
use mathlib.Core.Path.{◌∙◌}
use Rattle.float.proofs.sum.SumCut.{lower}
use Rattle.float.proofs.sum.add_lower.Goals as goal

pub overflow_sub-big : goal.overflow_sub-big
overflow_sub-big c =
    (lower c.args.rule c.args.neg c.args.other _ _ _ _ _ c.requires.0 c.requires.2 c.mantissa_of-big.ensures.0 c.mantissa_of.ensures.0 c.shifted-small.ensures).below

pub returns-then-differ : goal.returns-then-differ
returns-then-differ c = c.cut_word.ensures
    ∙ (lower _ _ _ _ _ _ _ _ c.requires.0 c.requires.2 c.mantissa_of-big.ensures.0 c.mantissa_of.ensures.0 c.shifted-small.ensures).apart c.if-differ.true

pub returns : goal.returns
returns c = c.cut_word-2.ensures
    ∙ (lower _ _ _ _ _ _ _ _ c.requires.0 c.requires.2 c.mantissa_of-big.ensures.0 c.mantissa_of.ensures.0 c.shifted-small.ensures).together c.if-differ.false
