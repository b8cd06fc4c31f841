-- `state_bytes::put_memory` meets its contract: two stores where there is room for them. Assumes nothing.
use Rattle.state_bytes.proofs.Laid.{memory_laid}
use Rattle.state_bytes.proofs.put_memory.Goals as goal

pub returns-then-state-eq-LONG_STATE_BYTES : goal.returns-then-state-eq-LONG_STATE_BYTES
returns-then-state-eq-LONG_STATE_BYTES c =
    let a = c.args in
    memory_laid a.state.now a.m c.if-state-eq-LONG_STATE_BYTES.true
