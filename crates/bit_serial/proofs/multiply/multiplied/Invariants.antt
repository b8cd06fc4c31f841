-- `bit_serial::multiply::multiplied` meets its contract: the steps that are left to make lead to the product. Assumes nothing.
use Rattle.std.proofs.Common.{◌≡◌}
use Rattle.bit_serial.proofs.Adding.{Adding}
use Rattle.bit_serial.proofs.multiply.multiplied.Given as goal

abbrev pub invariant-bits : goal.invariant-bits
invariant-bits l = record { adding : Adding l.most l.x l.y l.p; counted : l.p.steps ≡ l.counter }
