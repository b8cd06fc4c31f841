-- `decimals::sum::read_bytes` meets its contract: reading on from the bytes so far leads to the number. Assumes nothing.
use native.Mathlib.Omega.{arith}
use Rattle.decimals.proofs.SumReading.{starts, fills, high_none, low_none, all_filled}
use Rattle.decimals.proofs.sum.read_bytes.Goals as goal

pub loop-left-init : goal.loop-left-init
loop-left-init c = starts _ _ c.requires.1

pub bounds-digits-i : goal.bounds-digits-i
bounds-digits-i c = let l = c.loop-left in omega (arith, l.invariant.places, c.requires.0, c.loop-left-test.true)

pub overflow_add-i : goal.overflow_add-i
overflow_add-i c = omega (arith, c.loop-left.invariant.places)

pub bounds-digits-i-in-loop-left : goal.bounds-digits-i-in-loop-left
bounds-digits-i-in-loop-left c = omega (arith, c.loop-left.invariant.places, c.requires.0, c.loop-left-test.true)

pub returns-then-high-ge16 : goal.returns-then-high-ge16
returns-then-high-ge16 c =
    let l = c.loop-left in
    high_none c.args.digits.now l.bytes l.left l.i l.invariant c.loop-left-test.true c.requires.0
    _ c.digit_value-high.ensures.0 c.if-high-ge16.true

pub returns-then-low-ge16 : goal.returns-then-low-ge16
returns-then-low-ge16 c =
    let l = c.loop-left in
    let high = c.digit_value-high.ensures.0 in
    let more = c.loop-left-test.true in
    low_none c.args.digits.now l.bytes l.left l.i l.invariant more c.requires.0
    _ _ high (omega (arith, c.if-high-ge16.false)) c.digit_value-low.ensures.0 c.if-low-ge16.true

pub bounds-bytes-left : goal.bounds-bytes-left
bounds-bytes-left c =
    let l = c.loop-left in
    omega (arith, l.invariant.places, l.invariant.long, c.loop-left-test.true)

pub overflow_add-i-in-loop-left : goal.overflow_add-i-in-loop-left
overflow_add-i-in-loop-left c = omega (arith, c.loop-left.invariant.places)

pub loop-left-preserved : goal.loop-left-preserved
loop-left-preserved c =
    let l = c.loop-left in
    fills c.args.digits.now l.bytes l.left l.i l.invariant c.loop-left-test.true c.requires.0
    _ _ c.digit_value-high.ensures.0 c.digit_value-low.ensures.0
    (omega (arith, c.if-high-ge16.false)) (omega (arith, c.if-low-ge16.false))

pub returns : goal.returns
returns c =
    let l = c.loop-left in
    all_filled c.args.digits.now l.bytes l.left l.i l.invariant c.requires.0 (omega (arith, c.loop-left-test.false))
