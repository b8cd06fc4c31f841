-- `sheet_figures::sum::less` meets its contract: what is left, and what was taken off, make a with what was borrowed. Assumes nothing.
use mathlib.Core.Path.{◌≡◌, refl, ◌∙◌}
use Prim.Native.Nat.{◌<◌}
use native.Mathlib.Omega.{arith}
use lib.ListN.{length, length-set}
use borrow.Author.Rules.{rules}
use Rattle.sheet_figures.proofs.Adding.{less_step, le_limit, small_set, less_end}
use Rattle.sheet_figures.proofs.sum.less.Goals as goal

pub loop-i-preserved : goal.loop-i-preserved
loop-i-preserved c =
    let l = c.loop-i in
    let b = c.args.b in
    let h : l.i < length l.bytes = omega (arith, l.invariant.1) in
    let hb : l.i < length b = omega (arith, l.invariant.2) in (
      search rules,
      length-set l.bytes l.i _ ∙ l.invariant.1,
      l.invariant.2,
      omega arith,
      small_set l.bytes l.i _ h (omega arith) l.invariant.4,
      l.invariant.5,
      less_step l.bytes b l.i l.borrowed _ _ h hb (l.invariant.4 l.i) (l.invariant.5 l.i) l.invariant.3 refl l.invariant.6,
    )

pub returns : goal.returns
returns c =
    let l = c.loop-i in
    let e : l.i ≡ 24 = omega (arith, l.invariant.0) in
    (less_end l.bytes c.args.b _ l.borrowed l.i e l.invariant.2 l.invariant.6, le_limit l.bytes l.invariant.1 l.invariant.4, l.invariant.3)
