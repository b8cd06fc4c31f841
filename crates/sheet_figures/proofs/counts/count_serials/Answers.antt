-- `sheet_figures::counts::count_serials` meets its contract: a serial that does not stand further on is a new one. Assumes nothing.
use mathlib.Core.Path.{refl, ap, ◌∙◌}
use mathlib.Core.Bool.{cond}
use Prim.Native.Nat.{ℕ}
use native.Mathlib.Omega.{arith}
use native.Mathlib.Nat.{mul-le-mul_right}
use lib.Dec.{leb}
use Rattle.sheet_bytes.specs.Ledger.{lines_of}
use Rattle.sheet_figures.specs.Figures.{count, serials, once, many, different}
use Rattle.sheet_figures.proofs.Running.{different_on, tested_on, counted_all}
use Rattle.sheet_figures.proofs.counts.count_serials.Goals as goal

pub loop-i-preserved : goal.loop-i-preserved
loop-i-preserved c =
    let l = c.loop-i in
    let more = c.loop-i-test.true in
    let is = c.number_at-serial.ensures in
    let ahead = c.count_from.ensures in
    let last = c.one-last.ensures in
    let y = mul-le-mul_right c.one-again.result last.1 in
    let sheets = c.args.sheets.now in (
      omega arith,
      omega (arith, last.1, l.invariant.1),
      omega (arith, c.one-again.ensures.1, l.invariant.2),
      different_on sheets l.different l.i _ _ more _ _ is ahead last.0 l.invariant.3,
      tested_on sheets l.repeated l.i _ _ more (λ x. leb 2 (count x (serials (lines_of sheets)))) _ _ _ is ahead last.0 (c.one-again.ensures.0
          ∙ ap (λ (n : ℕ). cond (leb 2 n) 1 0) c.count_from-in-loop-i.ensures) l.invariant.4,
    )

pub returns : goal.returns
returns c =
    let l = c.loop-i in
    let sheets = c.args.sheets.now in (
      counted_all different sheets l.different l.i _ refl c.loop-i-test.false l.invariant.3,
      counted_all (λ m. many (λ x. leb 2 (count x (serials (lines_of sheets)))) (once (serials m))) sheets l.repeated l.i _ refl c.loop-i-test.false
          l.invariant.4,
    )
