-- How the program holds a state. Definitions only. Assumes nothing.
use Rattle.std.specs.Prelude.{ℕ, ◌≡◌, List}
use Rattle.chip.specs.Held.{state_in}
use Rattle.error_memory.specs.declared.Card.{Card as Held}
use Rattle.state_bytes.specs.Bytes.{state_of, memory_in}

-- a struct holds the card of a state
abbrev pub holds : Held → List ℕ → Type 0
holds c l = (state_in c.chip ≡ state_of l) × (c.memory ≡ memory_in l)
