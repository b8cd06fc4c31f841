-- `formula::store::store` meets its contract: after i turns what is left to store is all but the first i bytes. Assumes nothing.
use mathlib.Core.Path.{◌≡◌, refl, sym, ap, ◌∙◌}
use mathlib.Core.List.{List}
use Prim.Native.Nat.{ℕ, suc, ◌+◌, ◌<◌}
use native.Mathlib.Omega.{arith}
use native.Mathlib.Nat.{add-zero}
use native.Mathlib.Numerals.{add-one}
use lib.ListN.{length, drop, drop_of_length-le}
use lib.Seq.{sets, drop-cons}
use Rattle.formula.proofs.store.store.Goals as goal

pub loop-i-init : goal.loop-i-init
loop-i-init c = let a = c.args in (omega arith, refl, ap (λ (n : ℕ). sets a.out.now n a.bytes.now) (sym (add-zero a.at)))

pub overflow_add-at : goal.overflow_add-at
overflow_add-at c = omega arith

pub loop-i-preserved : goal.loop-i-preserved
loop-i-preserved c =
    let a = c.args in
    let i = c.loop-i.i in
    let out = c.put.new.out in
    let b = a.bytes.now in
    let h : i < length b = omega arith in (
      omega arith,
      c.put.auto.out ∙ c.loop-i.invariant.1,
      c.loop-i.invariant.2 ∙ ap (sets c.loop-i.out (a.at + i)) (drop-cons b i 0 h)
          ∙ ap (λ (o : List ℕ). sets o (suc (a.at + i)) (drop (suc i) b)) (sym c.put.ensures)
          ∙ (let e : suc (a.at + i) ≡ a.at + (i + 1) = omega arith in ap (λ (n : ℕ). sets out n (drop (suc i) b)) e)
          ∙ ap (λ (n : ℕ). sets out (a.at + (i + 1)) (drop n b)) (sym (add-one i)),
    )

pub returns : goal.returns
returns c =
    let a = c.args in
    sym (c.loop-i.invariant.2 ∙ ap (sets c.loop-i.out (a.at + c.loop-i.i)) (drop_of_length-le a.bytes.now c.loop-i-test.false))
