-- `decimals::short::shortest` meets its contract: trying on from the places so far leads to the same. Assumes nothing.
use mathlib.Core.Path.{◌≡◌, sym, ◌∙◌, subst}
use Prim.Native.Nat.{◌+◌}
use native.Mathlib.Omega.{arith}
use Rattle.decimals.specs.Magnitude.{rest_of}
use Rattle.decimals.specs.Short.{tried_at, Brief}
use Rattle.decimals.proofs.Shortest.{starts, half_up, digit_below, next_small, now_nines, tried_is, goes_on, found, full, ends}
use Rattle.decimals.proofs.short.shortest.Goals as goal

pub loop-places-init : goal.loop-places-init
loop-places-init c = (starts _ _ _ (rest_of c.args.rest) (let p = c.requires.0 in omega (arith, p.high, p.low)), c.requires.0)

pub returns-then-fraction-ge-ROOM : goal.returns-then-fraction-ge-ROOM
returns-then-fraction-ge-ROOM c = let l = c.loop-places in (full _ _ _ _ l.fraction l.places l.nines _ l.invariant.0 (omega arith) c.if-fraction-ge-ROOM.true, tt)

pub next_digit-t-requires : goal.next_digit-t-requires
next_digit-t-requires c = c.loop-places.invariant.1

pub overflow_mul-fraction : goal.overflow_mul-fraction
overflow_mul-fraction c = omega (arith, c.if-fraction-ge-ROOM.false)

pub overflow_add-fraction : goal.overflow_add-fraction
overflow_add-fraction c =
    let l = c.loop-places in
    let d = digit_below _ _ _ _ l.fraction l.places l.nines _ l.invariant.0 _ c.next_digit-t.ensures.0 in
    omega (arith, d, c.if-fraction-ge-ROOM.false)

pub around-found-requires : goal.around-found-requires
around-found-requires c =
    let l = c.loop-places in
    let e = c.next_digit-t.ensures in
    let d = digit_below _ _ _ _ l.fraction l.places l.nines _ l.invariant.0 _ e.0 in (
      omega (arith, c.loop-places-test.true),
      next_small _ _ _ _ l.fraction l.places l.nines _ l.invariant.0 _ e.0,
      omega (arith, d, c.if-fraction-ge-ROOM.false),
      c.requires.1,
      now_nines _ _ _ _ l.fraction l.places l.nines _ l.invariant.0 _ _ _ c.loop-places-test.true c.if-fraction-ge-ROOM.false e.0 e.1
          c.still_nines-nines.ensures,
    )

pub returns-in-Decimal : goal.returns-in-Decimal
returns-in-Decimal c =
    let a = c.args in
    let l = c.loop-places in
    let e = c.next_digit-t.ensures in
    let tried : c.around-found.result ≡ tried_at a.rule a.word a.whole (rest_of a.rest) (l.places + 1) =
    c.around-found.ensures.0
    ∙ tried_is _ _ _ _ l.fraction l.places l.nines _ l.invariant.0 _ _ _ c.loop-places-test.true c.if-fraction-ge-ROOM.false e.0 e.1
    c.still_nines-nines.ensures _
    (half_up c.next_digit-t.result.rest.high c.next_digit-t.result.rest.low e.2.low) in (
      found _ _ _ _ l.fraction l.places l.nines _ l.invariant.0 _ _ _ c.loop-places-test.true
          c.if-fraction-ge-ROOM.false e.0 e.1 c.still_nines-nines.ensures _ _ _
          (sym tried ∙ c.in-Decimal.is),
      subst Brief c.in-Decimal.is c.around-found.ensures.1,
    )

pub loop-places-preserved : goal.loop-places-preserved
loop-places-preserved c =
    let a = c.args in
    let l = c.loop-places in
    let e = c.next_digit-t.ensures in
    let tried : c.around-found.result ≡ tried_at a.rule a.word a.whole (rest_of a.rest) (l.places + 1) =
    c.around-found.ensures.0
    ∙ tried_is _ _ _ _ l.fraction l.places l.nines _ l.invariant.0 _ _ _ c.loop-places-test.true c.if-fraction-ge-ROOM.false e.0 e.1
    c.still_nines-nines.ensures _
    (half_up c.next_digit-t.result.rest.high c.next_digit-t.result.rest.low e.2.low) in (
      goes_on _ _ _ _ l.fraction l.places l.nines _ l.invariant.0 _ _ _ c.loop-places-test.true
          c.if-fraction-ge-ROOM.false e.0 e.1 c.still_nines-nines.ensures
          (sym tried ∙ c.in_default.is),
      e.2,
    )

pub returns : goal.returns
returns c = let l = c.loop-places in (ends _ _ _ _ l.fraction l.places l.nines _ l.invariant.0 (omega arith), tt)
