-- `listing::hex::add_digits` stores the digits from the last one on. Assumes nothing.
use native.Mathlib.Omega.{arith}
use native.Mathlib.Nat.{mod-lt}
use Rattle.listing.proofs.Digits.{fill_starts, fill_next, filled}
use Rattle.listing.proofs.hex.add_digits.Goals as goal

pub loop-i-init : goal.loop-i-init
loop-i-init c = let a = c.args in fill_starts a.base a.n a.count a.place a.out.now

pub overflow_cast-rest : goal.overflow_cast-rest
overflow_cast-rest c =
    record { fits = omega (arith, mod-lt c.loop-i.rest c.requires.0, c.requires.1) }

pub digit-requires : goal.digit-requires
digit-requires c = omega (arith, mod-lt c.loop-i.rest c.requires.0, c.requires.1)

pub bounds-out-place : goal.bounds-out-place
bounds-out-place c =
    let l = c.loop-i in
    omega (arith, l.invariant.same, l.invariant.within, c.requires.2)

pub loop-i-preserved : goal.loop-i-preserved
loop-i-preserved c =
    let l = c.loop-i in
    let a = c.args in
    fill_next a.base a.n a.count a.place a.out.now l.out l.rest l.i _ c.requires.2 l.invariant c.loop-i-test.true
    c.digit.ensures

pub returns : goal.returns
returns c =
    let l = c.loop-i in
    let a = c.args in
    filled a.base a.n a.count a.place a.out.now l.out l.rest l.i l.invariant c.loop-i-test.false
