-- `decimals::bring::carried` meets its contract: quotient and remainder make the number, doubled so often. Assumes nothing.
use native.Mathlib.Omega.{arith}
use Rattle.decimals.proofs.Quotients.{begins, not_yet, goes_on}
use Rattle.decimals.proofs.bring.carried.Goals as goal

pub loop-q-init : goal.loop-q-init
loop-q-init c = begins c.args.d c.args.whole c.args.rest c.requires.0 c.requires.1 c.requires.2

pub next_bit-q-requires : goal.next_bit-q-requires
next_bit-q-requires c =
    let l = c.loop-q in
    (l.invariant.below, l.invariant.small, omega arith, not_yet _ _ _ _ _ l.invariant (omega arith))

pub loop-q-smaller : goal.loop-q-smaller
loop-q-smaller c =
    let l = c.loop-q in
    let n = not_yet _ _ _ _ _ l.invariant (omega arith) in
    omega (arith, c.next_bit-q.ensures.2)

pub loop-q-preserved : goal.loop-q-preserved
loop-q-preserved c =
    let l = c.loop-q in
    let e = c.next_bit-q.ensures in
    goes_on _ _ _ _ _ _ _ _ l.invariant (not_yet _ _ _ _ _ l.invariant (omega arith)) e.0 e.1 e.2

pub returns : goal.returns
returns c = let l = c.loop-q in record { same = l.invariant.same; below = l.invariant.below; enough = omega arith; few = l.invariant.few }
