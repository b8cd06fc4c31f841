-- `bit_serial::multiply::multiplied` meets its contract: the steps that are left to make lead to the product. Assumes nothing.
use Rattle.std.proofs.Common.{ap, arith}
use Rattle.bit_serial.specs.declared.multiply.Product.{Product}
use Rattle.bit_serial.proofs.UpTo.{early, all_made}
use Rattle.bit_serial.proofs.Adding.{starts, adds}
use Rattle.bit_serial.proofs.multiply.multiplied.Goals as goal

pub bits-init : goal.bits-init
bits-init c = record { adding = starts _ _ _ c.begun-p.ensures; counted = ap (λ (p : Product). p.steps) c.begun-p.ensures }

pub added-p-requires : goal.added-p-requires
added-p-requires c = record { narrow = c.requires.0; few = omega arith; within = c.bits.invariant.adding.within }

pub bits-preserved : goal.bits-preserved
bits-preserved c = let l = c.bits in record {
  adding = adds _ _ _ l.p l.invariant.adding (omega arith) c.if-p-eq0.false c.added-p.ensures;
  counted = omega (arith, ap (λ (p : Product). p.steps) c.added-p.ensures);
}

pub returns-after-bits : goal.returns-after-bits
returns-after-bits c = all_made _ _ _ c.bits.invariant.adding.leads (omega arith)

pub returns-then-p-eq0 : goal.returns-then-p-eq0
returns-then-p-eq0 c = early _ _ _ c.bits.invariant.adding.leads c.if-p-eq0.true
