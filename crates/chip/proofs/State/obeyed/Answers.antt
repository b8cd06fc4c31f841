-- `chip::State::obeyed` meets its contract: the state answers by what became of the code. Assumes nothing.
use Rattle.chip.specs.Held.{state_in}
use Rattle.chip.proofs.Held.{accepted, turned_down}
use Rattle.chip.proofs.State.obeyed.Goals as goal

pub returns-in-Ok : goal.returns-in-Ok
returns-in-Ok c =
    let a = c.args in
    accepted a.rule (state_in a.self) a.code a.stack a.status c.requires.free c.requires.on_stack _ _ _ c.in-Ok.is c.service.ensures c.of.ensures c.answer.ensures

pub returns-in-Err : goal.returns-in-Err
returns-in-Err c =
    let a = c.args in
    turned_down a.rule (state_in a.self) a.code a.stack a.status c.requires.free c.requires.on_stack _ c.in-Err.is c.refuse.ensures
