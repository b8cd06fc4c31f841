-- 01, 'Record files', and request 3: which bytes are a state, the card that they stand for, and its bytes again; what
-- the numbers given with a call set.
-- Definitions only. Assumes nothing.
use Rattle.std.specs.Prelude.{ℕ, ◌≤◌, ◌<◌, ◌≡◌, ◌⊎◌, cond, List, [], ◌∷◌, ◌++◌, eqb, length, take, get_or}
use Rattle.terms.specs.declared.Mode.TheVariants.{Am9511A, Am9511}
use Rattle.terms.specs.declared.Rule.TheVariants.{Cut, Nearest}
use Rattle.promises.specs.Subjects.{Settings, State, Memory, Card}
use Rattle.promises.specs.Remembered.{empty_memory, Remembers}

-- which bytes are a state: 19 of them, or 21 with an error memory; pending and service 0 or 1, busy (status bit 7)
-- clear
pub record IsState (l : List ℕ) : Type 0 where
  pub size : (length l ≡ 19) ⊎ (length l ≡ 21)
  pub pending : get_or l 16 0 ≤ 1
  pub ready : get_or l 17 0 < 128
  pub service : get_or l 18 0 ≤ 1
  pub memory : length l ≡ 21 → Remembers (get_or l 19 0) (get_or l 20 0)

-- the chip of a state's bytes: "stack top first, pending 0 or 1, status, service 0 or 1"
abbrev pub state_of : List ℕ → State
state_of l =
    record { stack = take 16 l; pending = eqb (get_or l 16 0) 1; status = get_or l 17 0; service = eqb (get_or l 18 0) 1 }

-- "a 19-byte state is read with an empty memory"
abbrev pub memory_in : List ℕ → Memory
memory_in l = cond (eqb (length l) 19) empty_memory (record { bits = get_or l 19 0; code = get_or l 20 0 })

-- the card of a state's bytes, under the settings that the call was given
abbrev pub card_in : Settings → List ℕ → Card
card_in on l = record { on = on; chip = state_of l; memory = memory_in l }

-- the bytes of a card, of which so many were lent: of 19 the "memory dropped"
abbrev pub laid_out : ℕ → Card → List ℕ
laid_out n c =
    (c.chip.stack ++ (cond c.chip.pending 1 0 ∷ c.chip.status ∷ cond c.chip.service 1 0 ∷ []))
    ++ cond (eqb n 19) [] (c.memory.bits ∷ c.memory.code ∷ [])

-- "The mode is a number .. 0 for the Am9511A and 1 for the older part"; "a rule, 0 for cut or 1 for nearest, a number
-- given with each call as the mode is"
abbrev pub settings_of : ℕ → ℕ → Settings
settings_of mode rule = record { mode = cond (eqb mode 0) Am9511A Am9511; rule = cond (eqb rule 0) Cut Nearest }
