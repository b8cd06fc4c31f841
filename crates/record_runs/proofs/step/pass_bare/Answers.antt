-- `record_runs::step::pass_bare` meets its contract: held up, or the card that the event leaves. Assumes nothing.
use mathlib.Core.Path.{◌≡◌, refl}
use mathlib.Core.Bool.{true}
use Prim.Native.Nat.{◌≤◌}
use lib.Dec.{eqb, lit≤}
use lib.ListN.{length}
use Rattle.record_runs.proofs.Turning.{clears, bare_held_up}
use Rattle.record_runs.proofs.step.pass_bare.Goals as goal

pub returns-then-number-ne0 : goal.returns-then-number-ne0
returns-then-number-ne0 c = λ on e leaves file. bare_held_up file _ e leaves (length c.args.payload.now) c.requires c.ready-why.ensures c.number.ensures.0 c.if-number-ne0.true c.stop.ensures refl

pub open_reply-requires : goal.open_reply-requires
open_reply-requires c =
    let free : (let a = c.args in (eqb (length a.payload.now) 0 ≡ true) × (5 ≤ length a.room.now)) = clears c.requires (lit≤ tt) c.ready-why.ensures c.number.ensures.0 c.if-number-ne0.false in
    (lit≤ tt, free.1)
