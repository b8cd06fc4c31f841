-- `sheet_figures::sum::add_size` meets its contract: a shift by the exponent is so many bytes and so many bits. Assumes nothing.
use mathlib.Core.Path.{ap, ◌∙◌}
use Prim.Native.Nat.{ℕ, ◌+◌}
use native.Mathlib.Omega.{arith}
use Rattle.sheet_figures.specs.Limbs.{le}
use Rattle.sheet_figures.proofs.Adding.{placed}
use Rattle.sheet_figures.proofs.sum.add_size.Goals as goal

pub add_at-requires : goal.add_at-requires
add_at-requires c = (omega arith, rw (placed c.args.word) c.requires)

pub returns : goal.returns
returns c = c.add_at.ensures ∙ ap (λ (n : ℕ). le c.args.sum + n) (placed c.args.word)
