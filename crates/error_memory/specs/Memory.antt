-- 02, ask 3: the error memory, and the events of a chip that has one. Definitions only. Assumes nothing.
use Rattle.std.specs.Prelude.{ℕ, ◌*◌, ◌/◌, ◌%◌, Bool, false, cond, not, eqb, ltb}
use Rattle.std.specs.Int.Bits.{bit_or}
use Rattle.terms.specs.declared.Refusal.{Refusal}
use Rattle.terms.specs.declared.Refusal.TheVariants.{Done, BadState}
use Rattle.terms.specs.Refusal.{number_of}
use Rattle.terms.specs.declared.Settings.{Settings}
use Rattle.chip.specs.State.{State}
use Rattle.chip.specs.State.{Answer}
use Rattle.chip.specs.Event.{Event as ChipEvent}
use Rattle.chip.specs.Event.{Push, Pop, Command, Status, Reset, Acknowledge}
use Rattle.chip.specs.State.{busy}
use Rattle.chip.specs.Step.{answer_to}
use Rattle.error_memory.specs.declared.Memory.{Memory}
use Rattle.error_memory.specs.Event.{Event}
use Rattle.error_memory.specs.Event.{Chip, Recall, Forget}

-- nothing remembered
abbrev pub empty_memory : Memory
empty_memory = record { bits = 0; code = 0 }

-- "the bits 4 to 1" of a status, in their places
abbrev pub errors_of : ℕ → ℕ
errors_of status = status / 2 % 16 * 2

-- "the code, sr removed, of the first accepted command that set any (0 if none)": the one that stood, else this command's where it left any
abbrev pub first_code : ℕ → ℕ → ℕ → ℕ
first_code stood left code = cond (eqb stood 0) (cond (eqb left 0) 0 (code % 128)) stood

-- after an accepted command of this code that left this status: its bits "joined by or", the first code
abbrev pub remembered : Memory → ℕ → ℕ → Memory
remembered m code status = record { bits = bit_or m.bits (errors_of status); code = first_code m.code (errors_of status) code }

-- whether two bytes stand for a memory: no bit outside 4 to 1, no code without bits, no bits without a code
abbrev pub is_memory : ℕ → ℕ → Bool
is_memory bits code = cond (ltb 30 bits) false (cond (eqb (bits % 2) 1) false (cond (eqb bits 0) (eqb code 0) (not (eqb code 0))))

-- ---- a chip with its memory, as they stand on the card, and the settings that its call was given: no event changes them, no state holds them
pub record Card : Type 0 where
  pub on : Settings
  pub chip : State
  pub memory : Memory

abbrev pub card_with : Settings → State → Memory → Card
card_with on s m = record { on = on; chip = s; memory = m }

-- what an event answers: the refusal, the byte read, and both afterwards
pub record CardAnswer : Type 0 where
  pub refusal : Refusal
  pub byte : ℕ
  pub card : Card

-- what an event of the chip leaves remembered, by the number of its refusal and the status that it left: an accepted command adds, an accepted reset
-- empties, nothing else counts
abbrev pub kept_by : Memory → ChipEvent → ℕ → ℕ → Memory
kept_by m (Push b) n status = m
kept_by m Pop n status = m
kept_by m (Command code) n status = cond (eqb n 0) (remembered m code status) m
kept_by m Status n status = m
kept_by m Reset n status = cond (eqb n 0) empty_memory m
kept_by m Acknowledge n status = m

abbrev pub kept_after : Memory → ChipEvent → Answer → Memory
kept_after m e a = kept_by m e (number_of a.refusal) a.state.status

-- whether an answer is 0
abbrev pub accepted : Answer → Bool
accepted a = eqb (number_of a.refusal) 0

-- an answer of the chip's, with what is remembered after it
abbrev pub card_answer : Settings → Memory → Answer → CardAnswer
card_answer on m a = record { refusal = a.refusal; byte = a.byte; card = card_with on a.state m }

-- an event of the chip, answered as by the chip alone
abbrev pub answer_with : Settings → Memory → ChipEvent → Answer → CardAnswer
answer_with on m e a = card_answer on (kept_after m e a) a

-- 13 first; the memory read hands out its bits, the memory cleared touches nothing else
abbrev pub unless_busy : Card → CardAnswer → CardAnswer
unless_busy c answer = cond (busy c.chip) (record { refusal = BadState; byte = 0; card = c }) answer

abbrev pub event_in : Card → Event → CardAnswer
event_in c (Chip e) = answer_with c.on c.memory e (answer_to c.on c.chip e)
event_in c Recall = unless_busy c (record { refusal = Done; byte = c.memory.bits; card = c })
event_in c Forget = unless_busy c (record { refusal = Done; byte = 0; card = card_with c.on c.chip empty_memory })
