-- `decimals::bring::is_kept` takes the places apart, so that what is compared fits. Assumes nothing.
use native.Mathlib.Omega.{arith}
use Rattle.decimals.proofs.Kept.{below_not_kept, far_not_kept, other_not_kept, kept_where}
use Rattle.decimals.proofs.bring.is_kept.Goals as goal

pub returns-then-k-x : goal.returns-then-k-x
returns-then-k-x c = let a = c.args in let p = c.requires in below_not_kept a.m a.k a.t a.x p.0 p.1 p.2 c.if-k-x.true

pub returns-then-j-ge64 : goal.returns-then-j-ge64
returns-then-j-ge64 c =
    let a = c.args in
    let p = c.requires in
    far_not_kept a.m a.k a.t a.x p.0 p.1 p.2 (omega arith) (omega arith) c.if-j-ge64.true

pub returns-then-t-j : goal.returns-then-t-j
returns-then-t-j c =
    let a = c.args in
    let p = c.requires in
    other_not_kept a.m a.k a.t a.x p.0 p.1 p.2 (omega arith) c.if-t-j.true

pub returns : goal.returns
returns c =
    let a = c.args in
    let p = c.requires in
    kept_where a.m a.k a.t a.x p.0 p.1 p.2 (omega arith) (omega arith) c.if-t-j.false
