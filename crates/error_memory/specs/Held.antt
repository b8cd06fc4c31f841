-- What the program's card stands for. Definitions only. Assumes nothing.
use Rattle.terms.specs.declared.Settings.{Settings}
use Rattle.chip.specs.Held.{state_in}
use Rattle.error_memory.specs.declared.Card.{Card as Held}
use Rattle.error_memory.specs.Memory.{Card, card_with}

-- the card of a struct, under the settings of its call
abbrev pub card_under : Settings → Held → Card
card_under on c = card_with on (state_in c.chip) c.memory
