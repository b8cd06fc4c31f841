-- `decimals::bring::five_to` multiplies by five so many times. Assumes nothing.
use mathlib.Core.Path.{◌≡◌, refl, sym, ap, ◌∙◌}
use Prim.Native.Nat.{ℕ, ◌+◌, ◌*◌, ◌^◌}
use native.Mathlib.Omega.{arith}
use Rattle.decimals.proofs.Quotients.{five_lt, five_suc, five_pos}
use Rattle.decimals.proofs.bring.five_to.Goals as goal

pub loop-i-init : goal.loop-i-init
loop-i-init c = (omega arith, refl)

pub overflow_mul-power : goal.overflow_mul-power
overflow_mul-power c = let l = c.loop-i in omega (arith, five_suc l.i, five_lt (l.i + 1) (omega arith))

pub loop-i-preserved : goal.loop-i-preserved
loop-i-preserved c = let l = c.loop-i in (omega arith, ap (λ (x : ℕ). x * 5) l.invariant.1 ∙ sym (five_suc l.i))

pub returns : goal.returns
returns c =
    let l = c.loop-i in
    let n = c.args.n in
    let e : l.i ≡ n = omega arith in
    let f : l.power ≡ 5 ^ n = l.invariant.1 ∙ ap (λ (k : ℕ). 5 ^ k) e in
    (f, omega (arith, five_pos n), omega (arith, five_lt n (omega arith)))
