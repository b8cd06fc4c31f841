-- `decimals::bring::is_small` compares places alone, over a power of two that fits. Assumes nothing.
use mathlib.Core.Path.{◌∙◌, ap}
use Prim.Native.Nat.{ℕ, ◌-◌, ◌/◌, ◌^◌}
use lib.Dec.{leb}
use native.Mathlib.Omega.{arith}
use Rattle.decimals.proofs.Kept.{many_small}
use Rattle.decimals.proofs.bring.is_small.Goals as goal

pub returns : goal.returns
returns c =
    let a = c.args in
    ap (λ (d : ℕ). leb a.fraction ((d - 1) / 2 ^ (65 - a.places))) c.five_to.ensures.0
    ∙ many_small a.whole a.fraction a.places (λ h. omega arith) (omega arith) (omega arith)
