-- The events of document 01's bus, each of one byte at most. Definitions only. Assumes nothing.
use Rattle.std.specs.Prelude.{ℕ}

pub data Event : Type 0 where
  Push : ℕ → Event
  Pop : Event
  Command : ℕ → Event
  Status : Event
  Reset : Event
  Acknowledge : Event
