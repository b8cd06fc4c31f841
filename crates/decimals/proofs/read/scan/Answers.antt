-- `decimals::read::scan` meets its contract: reading on from the digits so far leads to the same. Assumes nothing.
use mathlib.Core.Path.{sym, ◌∙◌}
use native.Mathlib.Omega.{arith}
use Rattle.decimals.proofs.Scanning.{starts, stops, full, goes_on, ends, digit_within, digit_small, digit_room}
use Rattle.decimals.proofs.read.scan.Goals as goal

pub loop-i-init : goal.loop-i-init
loop-i-init c = starts _

pub returns-then-not-is_digit : goal.returns-then-not-is_digit
returns-then-not-is_digit c =
    let l = c.loop-i in (
      stops _ l.value l.i l.invariant (omega arith) (sym c.is_digit.ensures ∙ c.if-not-is_digit.true),
      (l.invariant.small, l.invariant.narrow, l.invariant.within),
    )

pub returns-then-value-ge-ROOM : goal.returns-then-value-ge-ROOM
returns-then-value-ge-ROOM c =
    let l = c.loop-i in (
      full _ l.value l.i l.invariant (omega arith) (sym c.is_digit.ensures ∙ c.if-not-is_digit.false)
          c.if-value-ge-ROOM.true,
      l.invariant.within,
    )

pub overflow_mul-value : goal.overflow_mul-value
overflow_mul-value c = let l = c.loop-i in omega (arith, c.if-value-ge-ROOM.false)

pub overflow_sub-value : goal.overflow_sub-value
overflow_sub-value c = (digit_within _ (sym c.is_digit.ensures ∙ c.if-not-is_digit.false)).0

pub overflow_cast-value : goal.overflow_cast-value
overflow_cast-value c = record { fits = digit_small _ (sym c.is_digit.ensures ∙ c.if-not-is_digit.false) }

pub overflow_add-value : goal.overflow_add-value
overflow_add-value c = record { fits = digit_room c.loop-i.value _ c.if-value-ge-ROOM.false (sym c.is_digit.ensures ∙ c.if-not-is_digit.false) }

pub loop-i-preserved : goal.loop-i-preserved
loop-i-preserved c =
    let l = c.loop-i in
    goes_on _ l.value l.i l.invariant (omega arith) (sym c.is_digit.ensures ∙ c.if-not-is_digit.false) c.if-value-ge-ROOM.false

pub returns : goal.returns
returns c =
    let l = c.loop-i in
    (ends _ l.value l.i l.invariant (omega arith), (l.invariant.small, l.invariant.narrow, l.invariant.within))
