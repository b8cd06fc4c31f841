-- `sheets::step::pass_core` meets its contract: the core's turn, then the open sheet dropped or not. Assumes nothing.
use mathlib.Core.Path.{sym, ◌∙◌}
use Prim.Native.Nat.{◌≤◌}
use native.Mathlib.Omega.{arith}
use lib.ListN.{length}
use Rattle.chip.specs.Step.{given}
use Rattle.error_memory.specs.Held.{card_under}
use Rattle.sheets.proofs.Lines.{core_four}
use Rattle.sheets.proofs.step.pass_core.Goals as goal

pub bounds-rest-2 : goal.bounds-rest-2
bounds-rest-2 c =
    let four : (4 ≤ length c.args.rest.now) = let a = c.args in
    core_four (card_under (given a.mode a.rule) a.card) a.rest.now (length a.room.now)
    (sym c.pass_record-t.ensures.refusal_is ∙ c.if-refusal-ne0.false) in
    omega (arith, four)

pub bounds-rest-3 : goal.bounds-rest-3
bounds-rest-3 c =
    let four : (4 ≤ length c.args.rest.now) = let a = c.args in
    core_four (card_under (given a.mode a.rule) a.card) a.rest.now (length a.room.now)
    (sym c.pass_record-t.ensures.refusal_is ∙ c.if-refusal-ne0.false) in
    omega (arith, four)
