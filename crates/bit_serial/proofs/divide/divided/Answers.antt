-- `bit_serial::divide::divided` meets its contract: the digits that are left to find lead to the quotient. Assumes nothing.
use Rattle.std.proofs.Common.{ap, arith}
use Rattle.bit_serial.specs.declared.divide.Division.{Division}
use Rattle.bit_serial.proofs.UpTo.{early, all_made}
use Rattle.bit_serial.proofs.Subtracting.{starts, subtracts, placed}
use Rattle.bit_serial.proofs.divide.divided.Goals as goal

pub bits-init : goal.bits-init
bits-init c =
    record { subtracting = starts _ _ _ c.begun-s.ensures; counted = omega (arith, ap (λ (s : Division). s.left) c.begun-s.ensures) }

pub subtracted-s-requires : goal.subtracted-s-requires
subtracted-s-requires c = placed _ _ _ c.bits.s c.bits.invariant.subtracting c.requires.0 c.requires.1 (omega arith)

pub bits-preserved : goal.bits-preserved
bits-preserved c = let l = c.bits in record {
  subtracting = subtracts _ _ _ l.s l.invariant.subtracting (omega arith) c.if-s-eq0.false c.subtracted-s.ensures;
  counted = omega (arith, ap (λ (s : Division). s.left) c.subtracted-s.ensures);
}

pub returns-after-bits-clause-division : goal.returns-after-bits-clause-division
returns-after-bits-clause-division c = all_made _ _ _ c.bits.invariant.subtracting.leads (omega arith)

pub returns-then-s-eq0-clause-division : goal.returns-then-s-eq0-clause-division
returns-then-s-eq0-clause-division c = early _ _ _ c.bits.invariant.subtracting.leads c.if-s-eq0.true
