-- `fixed::sum::add` meets its contract: the wrapped sum is the low bits of the exact one, and it is below B exactly where there is a carry. Assumes nothing.
use Rattle.fixed.proofs.Sums.{wrapped_sum, sum_all}
use Rattle.fixed.proofs.sum.add.Goals as goal

pub returns : goal.returns
returns c =
    let p = c.requires in
    let r = wrapped_sum _ _ _ _ p.words p.wraps c.low_bits-word.ensures in
    sum_all _ _ _ _ p.words r _ _ _ c.unlike_signs.ensures c.unlike_signs-2.ensures c.overflow_bit.ensures
