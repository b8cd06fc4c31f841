-- `state_bytes::is_state` meets its contract: at each return the tests that led there say which it is. Assumes nothing.
use mathlib.Core.Path.{sym, ◌∙◌}
use Rattle.state_bytes.proofs.States.{short_state, bad_length, long_state, long_bad}
use Rattle.state_bytes.proofs.is_state.Goals as goal

pub returns-then-state-eq-STATE_BYTES : goal.returns-then-state-eq-STATE_BYTES
returns-then-state-eq-STATE_BYTES c = c.is_chip.ensures ∙ sym (short_state c.args.state.now c.if-state-eq-STATE_BYTES.true)

pub returns-then-state-ne-LONG_STATE_BYTES : goal.returns-then-state-ne-LONG_STATE_BYTES
returns-then-state-ne-LONG_STATE_BYTES c = sym (bad_length c.args.state.now c.if-state-eq-STATE_BYTES.false c.if-state-ne-LONG_STATE_BYTES.true)

pub returns-then-is_chip : goal.returns-then-is_chip
returns-then-is_chip c =
    let l = c.args.state.now in
    c.is_memory.ensures
    ∙ sym (long_state l c.if-state-ne-LONG_STATE_BYTES.false (sym c.is_chip-2.ensures
    ∙ c.if-is_chip.true))

pub returns-else-is_chip : goal.returns-else-is_chip
returns-else-is_chip c =
    let l = c.args.state.now in
    c.if-is_chip.false ∙ sym (long_bad l c.if-state-ne-LONG_STATE_BYTES.false (sym c.is_chip-2.ensures ∙ c.if-is_chip.false))
