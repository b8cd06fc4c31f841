-- `formula::parts::constant` meets its contract: too few bytes, not all digits, or a constant. Assumes nothing.
use mathlib.Core.Path.{refl, ◌∙◌, ap}
use Prim.Native.Nat.{ℕ}
use native.Mathlib.Omega.{arith}
use lib.ListN.{take, drop}
use lib.Seq.{sets}
use Rattle.formula.specs.Told.{at_of, end_of}
use Rattle.formula.proofs.Places.{place_is}
use Rattle.formula.proofs.Reading.{none_reads, constant_reads, digits_told, no_digits}
use Rattle.formula.proofs.parts.constant.Goals as goal

pub returns-then-not-are_digits : goal.returns-then-not-are_digits
returns-then-not-are_digits c =
    let t = c.args.text.now in
    let at = c.at_of-at in
    let d = c.are_digits in
    none_reads refl
    (no_digits t (at_of c.args.place) (omega (arith, c.requires.0.inside, c.if-text-at-lt9.false, at.ensures))
    (digits_told t at.result (at_of c.args.place) d.ensures at.ensures ∙ c.if-not-are_digits.true))

pub overflow_add-result : goal.overflow_add-result
overflow_add-result c = let A = c.requires.0
    in omega (arith, place_is c.args.place, A.few, A.inside, A.short)

pub returns : goal.returns
returns c =
    let t = c.args.text.now in
    let o = c.args.out.now in
    let p = c.args.place in
    let at = c.at_of-at in
    let end = c.end_of in
    let d = c.are_digits in
    constant_reads c.requires.0.short c.requires.1 (omega (
      arith,
      c.requires.0.inside,
      c.if-text-at-lt9.false,
      at.ensures,
    ))
    (digits_told t at.result (at_of p) d.ensures at.ensures ∙ c.if-not-are_digits.false) refl
    (c.copy.ensures ∙ ap (λ (i : ℕ). sets o i (take 9 (drop at.result t))) end.ensures ∙ ap (λ (i : ℕ). sets o (end_of p) (take 9 (drop i t)))
    at.ensures)
