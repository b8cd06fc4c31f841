-- `step_text::steps::add_product` tells the steps that are left to make, one line after each. Assumes nothing.
use mathlib.Core.Path.{◌≡◌}
use Prim.Native.Nat.{◌-◌}
use Rattle.bit_serial.specs.Product.{begun}
use Rattle.bit_serial.proofs.Adding.{Adding}
use Rattle.step_text.specs.Steps.{product_lines}
use Rattle.step_text.proofs.Telling.{Telling}
use Rattle.step_text.proofs.steps.add_product.Given as goal

abbrev pub invariant-bits : goal.invariant-bits
invariant-bits l =
    Adding l.most l.x l.y l.p × Telling (product_lines l.most l.x (begun l.y)) (product_lines (l.most - l.p.steps) l.x l.p) l.p.steps l.initial.out l.out l.place
    × (l.p.steps ≡ l.counter)
