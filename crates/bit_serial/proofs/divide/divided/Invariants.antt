-- `bit_serial::divide::divided` meets its contract: the digits that are left to find lead to the quotient. Assumes nothing.
use Rattle.std.proofs.Common.{◌≡◌, ◌+◌}
use Rattle.bit_serial.proofs.Subtracting.{Subtracting}
use Rattle.bit_serial.proofs.divide.divided.Given as goal

abbrev pub invariant-bits : goal.invariant-bits
invariant-bits l = record { subtracting : Subtracting l.most l.v l.d l.s; counted : l.s.left + l.counter ≡ l.most }
