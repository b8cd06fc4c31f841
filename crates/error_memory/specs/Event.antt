-- The events of a chip with its memory: the chip's own, the memory read (kind 7), the memory cleared (kind 8). Definitions only. Assumes nothing.
use Rattle.chip.specs.Event.{Event as ChipEvent}

pub data Event : Type 0 where
  Chip : ChipEvent → Event
  Recall : Event
  Forget : Event
