-- `formula::words::are_digits` meets its contract: so far every byte is a digit. Assumes nothing.
use mathlib.Core.Path.{◌≡◌, refl, sym, ap, ◌∙◌}
use mathlib.Core.Bool.{Bool, true, false, ◌&&◌}
use Prim.Native.Nat.{ℕ, suc}
use native.Mathlib.Omega.{arith}
use native.Mathlib.Numerals.{add-one}
use lib.ListN.{drop, get_or, drop_of_length-le}
use Rattle.formula.specs.Grammar.{is_digit, are_digits}
use Rattle.formula.proofs.Digits.{digits_from}
use Rattle.formula.proofs.words.are_digits.Goals as goal

pub loop-i-init : goal.loop-i-init
loop-i-init c = (omega arith, refl)

pub returns-then-not-is_digit : goal.returns-then-not-is_digit
returns-then-not-is_digit c =
    let s = c.args.s.now in
    let d : is_digit (get_or s c.loop-i.i 0) ≡ false = sym c.is_digit.ensures ∙ c.if-not-is_digit.true in
    sym (c.loop-i.invariant.1 ∙ digits_from s c.loop-i.i (omega arith) ∙ ap (λ (x : Bool). x && are_digits (drop (suc c.loop-i.i) s)) d)

pub loop-i-preserved : goal.loop-i-preserved
loop-i-preserved c =
    let s = c.args.s.now in
    let i = c.loop-i.i in
    let d : is_digit (get_or s i 0) ≡ true = sym c.is_digit.ensures ∙ c.if-not-is_digit.false in (
      omega arith,
      c.loop-i.invariant.1 ∙ digits_from s i (omega arith) ∙ ap (λ (x : Bool). x && are_digits (drop (suc i) s)) d ∙ ap (λ (n : ℕ). are_digits (drop n s))
          (sym (add-one i)),
    )

pub returns : goal.returns
returns c = sym (c.loop-i.invariant.1 ∙ ap are_digits (drop_of_length-le c.args.s.now c.loop-i-test.false))
