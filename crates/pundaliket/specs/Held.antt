-- How the program settles an event of the chip. Definitions only. Assumes nothing.
use Rattle.std.specs.Prelude.{ℕ, List}
use Rattle.terms.specs.declared.Settings.{Settings}
use Rattle.chip.specs.declared.Answer.{Answer}
use Rattle.chip.specs.Held.{answer_in}
use Rattle.error_memory.specs.declared.Memory.{Memory}
use Rattle.error_memory.specs.Memory.{card_answer}
use Rattle.state_bytes.specs.Calls.{Signals, signal_by}

-- what the program does with the answer of an event of the chip, and with what that leaves remembered, whatever the settings
abbrev pub Settles : List ℕ → Answer → Memory → ℕ → List ℕ → Type 0
Settles state a m result left = (on : Settings) → Signals (signal_by state (card_answer on m (answer_in a))) result left
