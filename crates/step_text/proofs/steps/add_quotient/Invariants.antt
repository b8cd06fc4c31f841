-- `step_text::steps::add_quotient` tells the digits that are left to find, one line after each. Assumes nothing.
use mathlib.Core.Path.{◌≡◌}
use Prim.Native.Nat.{◌+◌, ◌-◌}
use Rattle.bit_serial.specs.Quotient.{begun}
use Rattle.bit_serial.proofs.Subtracting.{Subtracting}
use Rattle.step_text.specs.Steps.{quotient_lines}
use Rattle.step_text.proofs.Telling.{Telling}
use Rattle.step_text.proofs.steps.add_quotient.Given as goal

abbrev pub invariant-bits : goal.invariant-bits
invariant-bits l =
    Subtracting l.most l.v l.d l.s × Telling (quotient_lines l.most l.most l.d (begun l.v l.most)) (quotient_lines l.most l.s.left l.d l.s) (l.most - l.s.left) l.initial.out l.out l.place
    × (l.s.left + l.counter ≡ l.most)
