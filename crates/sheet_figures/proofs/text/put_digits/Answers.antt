-- `sheet_figures::text::put_digits` meets its contract: after i bytes the digits of the i highest stand in front. Assumes nothing.
use mathlib.Core.Path.{◌≡◌, ◌∙◌}
use Prim.Native.Nat.{◌+◌, ◌*◌, ◌-◌}
use native.Mathlib.Omega.{arith}
use lib.ListN.{set, length-set}
use Rattle.sheet_figures.proofs.Writing.{digits_on, digits_all}
use Rattle.sheet_figures.proofs.text.put_digits.Goals as goal

pub loop-i-preserved : goal.loop-i-preserved
loop-i-preserved c =
    let l = c.loop-i in (
      omega arith,
      length-set (set l.out (2 * l.i) c.hex.result) (2 * l.i + 1) c.hex-in-loop-i.result ∙ length-set l.out (2 * l.i)
          c.hex.result ∙ l.invariant.1,
      l.invariant.2,
      l.invariant.3,
      digits_on l.out c.args.size l.i _ _ l.invariant.1 l.invariant.2 c.loop-i-test.true
          (l.invariant.3 (23 - l.i)) c.hex.ensures c.hex-in-loop-i.ensures l.invariant.4,
    )

pub returns : goal.returns
returns c =
    let l = c.loop-i in
    let e : l.i ≡ 24 = omega (arith, l.invariant.0) in
    digits_all l.out c.args.size l.i e l.invariant.1 l.invariant.4
