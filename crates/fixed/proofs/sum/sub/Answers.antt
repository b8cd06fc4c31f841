-- `fixed::sum::sub` meets its contract: the wrapped difference is the low bits of the exact one, and B below A is the borrow. Assumes nothing.
use Rattle.fixed.proofs.Sums.{wrapped_difference, diff_all}
use Rattle.fixed.proofs.sum.sub.Goals as goal

pub returns : goal.returns
returns c =
    let p = c.requires in
    let r = wrapped_difference _ _ _ _ p.words p.wraps c.low_bits-word.ensures in
    diff_all _ _ _ _ p.words r.0 r.1 _ _ _ c.unlike_signs.ensures c.unlike_signs-2.ensures c.overflow_bit.ensures
