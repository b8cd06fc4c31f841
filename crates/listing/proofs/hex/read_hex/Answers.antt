-- `listing::hex::read_hex` meets its contract: reading on from the value so far leads to the number. Assumes nothing.
use mathlib.Core.Path.{subst}
use Prim.Native.Nat.{ℕ, ◌^◌, ◌<◌}
use native.Mathlib.Omega.{arith}
use Rattle.listing.proofs.HexReading.{starts, narrow, reads_on, unreadable, all_read}
use Rattle.listing.proofs.hex.read_hex.Goals as goal

pub loop-i-init : goal.loop-i-init
loop-i-init c = starts _

pub returns-then-d-ge16 : goal.returns-then-d-ge16
returns-then-d-ge16 c =
    (unreadable _ c.loop-i.value c.loop-i.i _ c.loop-i.invariant (omega arith) c.digit_value-d.ensures.0 c.if-d-ge16.true, tt)

pub overflow_mul-value : goal.overflow_mul-value
overflow_mul-value c = let n = narrow _ c.loop-i.value c.loop-i.i c.loop-i.invariant (omega arith) in omega arith

pub overflow_add-value : goal.overflow_add-value
overflow_add-value c = let n = narrow _ c.loop-i.value c.loop-i.i c.loop-i.invariant (omega arith) in omega arith

pub loop-i-preserved : goal.loop-i-preserved
loop-i-preserved c =
    reads_on _ c.loop-i.value c.loop-i.i _ c.loop-i.invariant (omega arith) c.digit_value-d.ensures.0 (omega arith)

pub overflow_cast-result : goal.overflow_cast-result
overflow_cast-result c = record { fits = narrow _ c.loop-i.value c.loop-i.i c.loop-i.invariant (omega arith) }

pub returns : goal.returns
returns c =
    (all_read _ c.loop-i.value c.loop-i.i c.loop-i.invariant (omega arith), subst (λ (n : ℕ). c.loop-i.value < 16 ^ n) (omega arith) c.loop-i.invariant.small)
