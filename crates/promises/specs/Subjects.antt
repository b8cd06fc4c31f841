-- What the statements speak of: the functions of the calls' contracts, the operations of the chip, of a card and of a
-- file, and the types they work on.
-- Every other crate's name that a statement cites is listed in tests/subjects.txt. No definition stands here. Assumes
-- nothing.

-- ---- the seven calls of pundaliket.h: what each returns and leaves in each slice, and the relation that its contract
-- states
pub use Rattle.state_bytes.specs.Calls.{Called, Calls, call_of}
pub use Rattle.state_bytes.specs.Calls.{Signal, Signals, signal_of}
pub use Rattle.pundaliket.specs.Calls.{Sent, Sends, sent_of}
pub use Rattle.host_floats.specs.declared.Reply.{Reply}
pub use Rattle.host_floats.specs.Host.{host_of, host_reply, taken_of, taken_reply}
pub use Rattle.pundaliket.specs.FormulaCall.{Wrote, Writes, formula_call}
pub use Rattle.host_floats.specs.Buffers.{Turn, Turns, words_turn, floats_turn}
-- ---- the run of a file of records, on a card: under the limit of so many bytes to a record, and under today's
pub use Rattle.record_runs.specs.Run.{Outcome, run_under, run_of}
-- ---- a card, which is the settings of a call, a chip and its error memory; an event of it
pub use Rattle.terms.specs.declared.Settings.{Settings}
pub use Rattle.error_memory.specs.declared.Memory.{Memory}
pub use Rattle.error_memory.specs.Memory.{Card, event_in}
pub use Rattle.error_memory.specs.Event.{Event}
pub use Rattle.error_memory.specs.Event.{Chip, Recall, Forget}
-- ---- the chip by value: its state, its events, its answers
pub use Rattle.chip.specs.State.{State}
pub use Rattle.chip.specs.State.{Answer}
pub use Rattle.chip.specs.Event.{Event as ChipEvent}
pub use Rattle.chip.specs.Event.{Push, Pop, Command, Status, Reset, Acknowledge}
pub use Rattle.chip.specs.Step.{push_of, pop_of, command_under, answer_to}
