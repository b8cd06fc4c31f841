-- `step_text::steps::add_product` tells the steps that are left to make, one line after each. Assumes nothing.
use mathlib.Core.Path.{◌≡◌, ap, ◌∙◌}
use Prim.Native.Nat.{ℕ, suc, ◌-◌}
use native.Mathlib.Nat.{sub-zero}
use native.Mathlib.Omega.{arith}
use borrow.Author.Rules.{rules}
use Rattle.bit_serial.specs.declared.multiply.Product.{Product}
use Rattle.bit_serial.specs.Product.{begun}
use Rattle.bit_serial.proofs.Adding.{adds}
use Rattle.bit_serial.proofs.Adding.{starts as begins}
use Rattle.listing.proofs.Adding.{told_as}
use Rattle.step_text.specs.Lines.{step_line}
use Rattle.step_text.specs.Steps.{product_lines}
use Rattle.step_text.proofs.Telling.{starts, none_left, all_told, next}
use Rattle.step_text.proofs.steps.add_product.Goals as goal

pub bits-init : goal.bits-init
bits-init c =
    let a = c.args in
    let e = c.begun-p.ensures in (
      begins _ _ _ e,
      starts _ (ap (λ (p : Product). product_lines (a.most - p.steps) a.x p) e ∙ ap (λ (m : ℕ). product_lines m a.x (begun a.y)) (sub-zero a.most))
          (ap (λ (p : Product). p.steps) e),
      ap (λ (p : Product). p.steps) e,
    )

pub added-p-requires : goal.added-p-requires
added-p-requires c =
    record { narrow = c.requires.0; few = omega arith; within = c.bits.invariant.0.within }

pub add_step-place-requires : goal.add_step-place-requires
add_step-place-requires c = let t = c.bits.invariant.1 in omega (arith, t.same, t.few)

pub bits-preserved : goal.bits-preserved
bits-preserved c =
    let l = c.bits in
    let s = ap (λ (p : Product). p.steps) c.added-p.ensures in
    let q = c.added-p.result in
    let left : c.args.most - l.p.steps ≡ suc (c.args.most - q.steps) = omega arith in (
      adds _ _ _ l.p l.invariant.0 (omega arith) c.if-p-eq0.false c.added-p.ensures,
      next _ _ _ l.invariant.1 left s c.if-p-eq0.false c.added-p.ensures
          (told_as (ap (λ (m : ℕ). step_line q.steps m q.partial) c.bits_left.ensures.0) c.add_step-place.ensures.0) c.add_step-place.ensures.1
          (search rules) (omega arith),
      omega arith,
    )

pub returns-after-bits : goal.returns-after-bits
returns-after-bits c = all_told _ _ _ _ _ c.bits.invariant.1 (omega arith) (omega arith)

pub returns-then-p-eq0 : goal.returns-then-p-eq0
returns-then-p-eq0 c = none_left _ _ _ _ _ c.bits.invariant.1 c.if-p-eq0.true (omega arith)
