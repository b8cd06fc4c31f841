-- 02, request 3: the error memory, what an event leaves remembered, and what a history of statuses says. Definitions
-- only. Assumes nothing.
use Rattle.std.specs.Prelude.{ℕ, ◌*◌, ◌/◌, ◌%◌, ◌≤◌, ◌≡◌, Bool, cond, List, [], ◌∷◌, ◌++◌, eqb}
use Rattle.std.specs.Int.Bits.{bit_or}
use Rattle.promises.specs.Subjects.{Settings, State, Answer, ChipEvent, Push, Pop, Command, Status, Reset}
use Rattle.promises.specs.Subjects.{Acknowledge, answer_to}
use Rattle.promises.specs.Subjects.{Memory, Card, Event, Chip, Recall, Forget, event_in}
use Rattle.promises.specs.RefusalNumbers.{number_of}
use Rattle.promises.specs.BusEvents.{busy}

-- nothing remembered
abbrev pub empty_memory : Memory
empty_memory = record { bits = 0; code = 0 }

-- a chip with its memory, under settings
abbrev pub card_with : Settings → State → Memory → Card
card_with on s m = record { on = on; chip = s; memory = m }

-- the card after events in turn
abbrev pub after_all : Card → List Event → Card
after_all c [] = c
after_all c (e ∷ es) = after_all (event_in c e).card es

-- which two bytes stand for an error memory: no bit outside 4 to 1, no code without bits, no bits without a code
pub record Remembers (bits code : ℕ) : Type 0 where
  pub in_places : bits ≤ 30
  pub even : bits % 2 ≡ 0
  pub no_code : bits ≡ 0 → code ≡ 0
  pub no_bits : code ≡ 0 → bits ≡ 0

-- "the bits 4 to 1" of a status, in their places
abbrev pub errors_of : ℕ → ℕ
errors_of status = status / 2 % 16 * 2

-- whether an answer of the chip's is 0
abbrev pub accepted : Answer → Bool
accepted a = eqb (number_of a.refusal) 0

-- ---- one command more
-- "the code, sr removed, of the first accepted command that set any (0 if none)": the one that stood, else this
-- command's where it left any
abbrev pub first_code : ℕ → ℕ → ℕ → ℕ
first_code stood left code = cond (eqb stood 0) (cond (eqb left 0) 0 (code % 128)) stood

-- after an accepted command of this code that left this status: its bits "joined by or", the first code
abbrev pub remembered : Memory → ℕ → ℕ → Memory
remembered m code status =
    record { bits = bit_or m.bits (errors_of status); code = first_code m.code (errors_of status) code }

-- after a command of this code that was answered so: an accepted one adds, a refused one leaves the memory
abbrev pub kept_after : Memory → ℕ → Answer → Memory
kept_after m code a = cond (accepted a) (remembered m code a.state.status) m

-- ---- a history of statuses
-- an accepted command: its code and the status that it left
pub record AcceptedCommand : Type 0 where
  pub code : ℕ
  pub status : ℕ

-- the memory that stood at first, and the commands accepted since, the oldest first
pub record History : Type 0 where
  pub start : Memory
  pub since : List AcceptedCommand

-- the bits of the start "joined by or" with bits 4 to 1 of the status that each left
abbrev pub joined_bits : ℕ → List AcceptedCommand → ℕ
joined_bits bits [] = bits
joined_bits bits (t ∷ ts) = joined_bits (bit_or bits (errors_of t.status)) ts

-- the code of the first that left any, sr removed, else 0
abbrev pub first_of : List AcceptedCommand → ℕ
first_of [] = 0
first_of (t ∷ ts) = cond (eqb (errors_of t.status) 0) (first_of ts) (t.code % 128)

-- what a history says: the start's code where it is not 0, else the first's
abbrev pub memory_of : History → Memory
memory_of h = record {
  bits = joined_bits h.start.bits h.since;
  code = cond (eqb h.start.code 0) (first_of h.since) h.start.code;
}

-- no command yet, on top of a memory
abbrev pub from : Memory → History
from m = record { start = m; since = [] }

-- one command more
abbrev pub told : History → ℕ → ℕ → History
told h code status = record { start = h.start; since = h.since ++ (record { code = code; status = status } ∷ []) }

-- a reset and a clearing begin the history anew, an accepted command is told, nothing else counts
abbrev pub chip_tells : ChipEvent → Answer → History → History
chip_tells (Push b) a h = h
chip_tells Pop a h = h
chip_tells (Command code) a h = cond (accepted a) (told h code a.state.status) h
chip_tells Status a h = h
chip_tells Reset a h = cond (accepted a) (from empty_memory) h
chip_tells Acknowledge a h = h

abbrev pub tells : Card → Event → History → History
tells c (Chip e) h = chip_tells e (answer_to c.on c.chip e) h
tells c Recall h = h
tells c Forget h = cond (busy c.chip) h (from empty_memory)

-- the history of events in turn
abbrev pub history_of : Card → List Event → History → History
history_of c [] h = h
history_of c (e ∷ es) h = history_of (event_in c e).card es (tells c e h)
