-- `sheet_figures::sum::add_at` meets its contract: what is added so far and what is still carried make the sum. Assumes nothing.
use mathlib.Core.Path.{◌≡◌, subst, ◌∙◌}
use Prim.Native.Nat.{ℕ, ◌+◌, ◌*◌, ◌^◌, ◌<◌}
use native.Mathlib.Omega.{arith}
use lib.ListN.{length, length-set}
use borrow.Author.Rules.{rules}
use Rattle.sheet_figures.specs.Limbs.{le}
use Rattle.sheet_figures.proofs.Adding.{le_step, le_whole, small_set}
use Rattle.sheet_figures.proofs.sum.add_at.Goals as goal

pub loop-i-preserved : goal.loop-i-preserved
loop-i-preserved c =
    let l = c.loop-i in
    let h : l.i < length l.acc = omega (arith, l.invariant.1) in (
      search rules,
      length-set l.acc l.i _ ∙ l.invariant.1,
      omega (arith, l.invariant.3 l.i, l.invariant.2),
      small_set l.acc l.i _ h (omega arith) l.invariant.3,
      le_step l.acc l.i l.left _ h l.invariant.4,
    )

pub returns : goal.returns
returns c =
    let l = c.loop-i in
    let e : l.i ≡ 24 = omega (arith, l.invariant.0) in
    le_whole l.acc l.left _ (subst (λ (n : ℕ). le l.acc + l.left * 256 ^ n ≡ le c.args.sum + c.args.x * 256 ^ c.args.at) e l.invariant.4)
    c.requires.1
