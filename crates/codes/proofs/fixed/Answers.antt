-- `codes::fixed` meets its contract: 0C to 0F by their bits 1 and 0. Assumes nothing.
use mathlib.Core.Path.{ap, ◌∙◌}
use Prim.Native.Nat.{ℕ}
use native.Mathlib.Omega.{arith}
use Rattle.codes.specs.Codes.{decoded}
use Rattle.codes.specs.Format.{fixed_code}
use Rattle.codes.proofs.fixed.Goals as goal

pub returns-then-operation-eq3 : goal.returns-then-operation-eq3
returns-then-operation-eq3 c = c.arithmetic.ensures ∙ ap (λ (n : ℕ). decoded (fixed_code c.args.width n)) (omega arith)
