-- `step_text::asked::read_digits` looks at the length and reads. Assumes nothing.
use mathlib.Core.Path.{subst}
use Prim.Native.Nat.{ℕ, ◌^◌}
use borrow.Author.Tests.{eq-eqb, ne_eqb}
use Rattle.listing.specs.Hex.{Below}
use Rattle.step_text.specs.Asked.{read_hex}
use Rattle.step_text.proofs.asked.read_digits.Goals as goal

pub returns-then-text-digits : goal.returns-then-text-digits
unfolding read_hex
returns-then-text-digits c = (rw (ne_eqb _ _ c.if-text-digits.true), tt)

pub returns : goal.returns
unfolding read_hex
returns c =
    let e = c.if-text-digits.false in
    (rw (eq-eqb _ _ e) c.read_hex.ensures.0, subst (λ (n : ℕ). Below (16 ^ n) c.read_hex.result) e c.read_hex.ensures.1)
