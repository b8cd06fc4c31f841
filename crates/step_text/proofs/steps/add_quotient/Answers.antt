-- `step_text::steps::add_quotient` tells the digits that are left to find, one line after each. Assumes nothing.
use mathlib.Core.Path.{◌≡◌, ap}
use Prim.Native.Nat.{suc, ◌+◌, ◌-◌}
use native.Mathlib.Omega.{arith}
use borrow.Author.Rules.{rules}
use Rattle.bit_serial.specs.declared.divide.Division.{Division}
use Rattle.bit_serial.proofs.Subtracting.{subtracts, placed}
use Rattle.bit_serial.proofs.Subtracting.{starts as begins}
use Rattle.step_text.specs.Steps.{quotient_lines}
use Rattle.step_text.proofs.Telling.{starts, none_left, all_told, next}
use Rattle.step_text.proofs.steps.add_quotient.Goals as goal

pub bits-init : goal.bits-init
bits-init c =
    let a = c.args in
    let e = c.begun-s.ensures in (
      begins _ _ _ e,
      starts _ (ap (λ (s : Division). quotient_lines a.most s.left a.d s) e) (omega (arith, ap (λ (s : Division). s.left) e)),
      omega (arith, ap (λ (s : Division). s.left) e),
    )

pub subtracted-s-requires : goal.subtracted-s-requires
subtracted-s-requires c =
    placed _ _ _ c.bits.s c.bits.invariant.0 c.requires.0 c.requires.1 (omega arith)

pub overflow_sub-most : goal.overflow_sub-most
overflow_sub-most c =
    omega (arith, ap (λ (s : Division). s.left) c.subtracted-s.ensures, c.bits.invariant.0.few)

pub add_step-place-requires : goal.add_step-place-requires
add_step-place-requires c = let t = c.bits.invariant.1 in omega (arith, t.same, t.few)

pub bits-preserved : goal.bits-preserved
bits-preserved c =
    let l = c.bits in
    let i = ap (λ (s : Division). s.left) c.subtracted-s.ensures in
    let f = l.invariant.0.few in
    let n = c.args.most in
    let q = c.subtracted-s.result in
    let left : l.s.left ≡ suc q.left = omega arith in
    let made : n - q.left ≡ n - l.s.left + 1 = omega arith in (
      subtracts _ _ _ l.s l.invariant.0 (omega arith) c.if-s-eq0.false c.subtracted-s.ensures,
      next _ _ _ l.invariant.1 left made c.if-s-eq0.false c.subtracted-s.ensures c.add_step-place.ensures.0
          c.add_step-place.ensures.1 (search rules) (omega arith),
      omega arith,
    )

pub returns-after-bits : goal.returns-after-bits
returns-after-bits c = all_told _ _ _ _ _ c.bits.invariant.1 (omega arith) (omega arith)

pub returns-then-s-eq0 : goal.returns-then-s-eq0
returns-then-s-eq0 c = none_left _ _ _ _ _ c.bits.invariant.1 c.if-s-eq0.true (omega arith)
