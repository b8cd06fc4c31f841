-- The memory is what the history of statuses says: each event leaves both in step, and one command more is told at the end. Assumes nothing.
use mathlib.Core.Path.{◌≡◌, refl, ap, ap₂, ◌∙◌}
use mathlib.Core.Bool.{Bool, true, false, cond}
use mathlib.Core.List.{List, [], ◌∷◌, ◌++◌, map}
use Prim.Native.Nat.{ℕ, ◌%◌}
use lib.Bits.{bit_or}
use lib.Dec.{eqb}
use borrow.Author.Tests.{ne_eqb, eqb-true, eqb-false}
use Rattle.terms.specs.declared.Refusal.TheVariants.{Done, BadState}
use Rattle.terms.specs.declared.Rule.{Rule}
use Rattle.error_memory.specs.Memory.{CardAnswer, card_with, first_code, remembered, kept_after}
use Rattle.error_memory.proofs.Good.{error_coded}
use Rattle.promises.specs.Subjects.{Settings, State, Answer, ChipEvent, Push, Pop, Command, Status, Reset, Acknowledge, command_under, answer_to}
use Rattle.promises.specs.Subjects.{Memory, Card, Event, Chip, Recall, Forget, event_in}
use Rattle.promises.specs.BusEvents.{busy, after_events}
use Rattle.promises.specs.Remembered.{empty_memory, errors_of, accepted, AcceptedCommand, History, joined_bits, first_of, memory_of, from, told, chip_tells}
use Rattle.promises.specs.Remembered.{tells, history_of, after_all}

-- events of the chip leave the chip that they leave without a memory
pub chip_alone : (c : Card) (es : List ChipEvent) → (after_all c (map Chip es)).chip ≡ after_events c.on c.chip es
chip_alone c [] = refl
chip_alone c (e ∷ es) = chip_alone (event_in c (Chip e)).card es

-- ---- histories whose commands that left an error have a code
abbrev Coded : List AcceptedCommand → Type 0
Coded [] = Unit
Coded (t ∷ ts) = ((errors_of t.status ≡ 0 → ⊥) → t.code % 128 ≡ 0 → ⊥) × Coded ts

coded_more : (ts : List AcceptedCommand) (code status : ℕ) → Coded ts → ((errors_of status ≡ 0 → ⊥) → code % 128 ≡ 0 → ⊥)
    → Coded (ts ++ (record { code = code; status = status } ∷ []))
coded_more [] code status h g = (g, tt)
coded_more (t ∷ ts) code status h g = (h.0, coded_more ts code status h.1 g)

-- one command more, told at the end
bits_more : (b : ℕ) (ts : List AcceptedCommand) (code status : ℕ)
    → bit_or (joined_bits b ts) (errors_of status) ≡ joined_bits b (ts ++ (record { code = code; status = status } ∷ []))
bits_more b [] code status = refl
bits_more b (t ∷ ts) code status = bits_more (bit_or b (errors_of t.status)) ts code status

first_more : (ts : List AcceptedCommand) (code status : ℕ) → Coded ts
    → first_code (first_of ts) (errors_of status) code ≡ first_of (ts ++ (record { code = code; status = status } ∷ []))
first_more [] code status h = refl
first_more (t ∷ ts) code status h = by (first_more ts code status h.1) (eqb (errors_of t.status) 0) refl
  where
    by : first_code (first_of ts) (errors_of status) code ≡ first_of (ts ++ (record { code = code; status = status } ∷ []))
        → (x : Bool) → eqb (errors_of t.status) 0 ≡ x
        → first_code (cond x (first_of ts) (t.code % 128)) (errors_of status) code ≡ cond x (first_of (ts ++ (record { code = code; status = status } ∷ [])))
        (t.code % 128)
    by more true e = more
    by more false e = rw (ne_eqb (t.code % 128) 0 (h.0 (eqb-false (errors_of t.status) 0 e)))

code_more : (start : ℕ) (ts : List AcceptedCommand) (code status : ℕ) → Coded ts
    → first_code (cond (eqb start 0) (first_of ts) start) (errors_of status) code ≡ cond (eqb start 0)
    (first_of (ts ++ (record { code = code; status = status } ∷ []))) start
code_more start ts code status h = by (eqb start 0) refl
  where
    by : (x : Bool) → eqb start 0 ≡ x → first_code (cond x (first_of ts) start) (errors_of status) code ≡ cond x
        (first_of (ts ++ (record { code = code; status = status } ∷ []))) start
    by true e = first_more ts code status h
    by false e = rw e

told_more : (h : History) (code status : ℕ) → Coded h.since → remembered (memory_of h) code status ≡ memory_of (told h code status)
told_more h code status c =
    ap₂ (λ (b k : ℕ). record { bits = b; code = k }) (bits_more h.start.bits h.since code status) (code_more h.start.code h.since code status c)

-- ---- memory and history in step
pub record Agrees (m : Memory) (h : History) : Type 0 where
  pub says : m ≡ memory_of h
  pub coded : Coded h.since

starts : (m : Memory) → Agrees m (from m)
starts m = record { says = by (eqb m.code 0) refl; coded = tt }
  where
    by : (x : Bool) → eqb m.code 0 ≡ x → m ≡ memory_of (from m)
    by true e = let z : m.code ≡ 0 = eqb-true m.code 0 e in rw e (ap (λ (k : ℕ). record { bits = m.bits; code = k }) z)
    by false e = rw e

-- an accepted command
command_agrees : (rule : Rule) (s : State) (code : ℕ) (m : Memory) (h : History) → Agrees m h
    → Agrees (kept_after m (Command code) (command_under rule s code)) (chip_tells (Command code) (command_under rule s code) h)
command_agrees rule s code m h g = by (accepted (command_under rule s code)) refl
  where
    by : (x : Bool) → accepted (command_under rule s code) ≡ x
        → Agrees (cond x (remembered m code (command_under rule s code).state.status) m) (cond x (told h code (command_under rule s code).state.status) h)
    by true e = record {
      says = ap (λ (n : Memory). remembered n code (command_under rule s code).state.status) g.says
          ∙ told_more h code (command_under rule s code).state.status g.coded;
      coded = coded_more h.since code (command_under rule s code).state.status g.coded (error_coded rule s code e);
    }
    by false e = g

reset_agrees : (a : Answer) (m : Memory) (h : History) → Agrees m h → Agrees (kept_after m Reset a) (chip_tells Reset a h)
reset_agrees a m h g = by (accepted a)
  where
    by : (x : Bool) → Agrees (cond x empty_memory m) (cond x (from empty_memory) h)
    by true = starts empty_memory
    by false = g

chip_agrees : (on : Settings) (s : State) (e : ChipEvent) (m : Memory) (h : History) → Agrees m h
    → Agrees (kept_after m e (answer_to on s e)) (chip_tells e (answer_to on s e) h)
chip_agrees on s (Push b) m h g = g
chip_agrees on s Pop m h g = g
chip_agrees on s (Command code) m h g = command_agrees on.rule s code m h g
chip_agrees on s Status m h g = g
chip_agrees on s Reset m h g = reset_agrees (answer_to on s Reset) m h g
chip_agrees on s Acknowledge m h g = g

event_agrees : (c : Card) (e : Event) (h : History) → Agrees c.memory h → Agrees (event_in c e).card.memory (tells c e h)
event_agrees c (Chip e) h g = chip_agrees c.on c.chip e c.memory h g
event_agrees c Recall h g = by (busy c.chip)
  where
    by : (x : Bool) → Agrees (cond {A = CardAnswer} x (record { refusal = BadState; byte = 0; card = c })
        (record { refusal = Done; byte = c.memory.bits; card = c })).card.memory h
    by true = g
    by false = g
event_agrees c Forget h g = by (busy c.chip)
  where
    by : (x : Bool) → Agrees (cond {A = CardAnswer} x (record { refusal = BadState; byte = 0; card = c })
        (record { refusal = Done; byte = 0; card = card_with c.on c.chip empty_memory })).card.memory (cond x h (from empty_memory))
    by true = g
    by false = starts empty_memory

agrees : (c : Card) (es : List Event) (h : History) → Agrees c.memory h → Agrees (after_all c es).memory (history_of c es h)
agrees c [] h g = g
agrees c (e ∷ es) h g = agrees (event_in c e).card es (tells c e h) (event_agrees c e h g)

-- over every list of events, from every state and memory
pub memory_is_history : (c : Card) (es : List Event) → (after_all c es).memory ≡ memory_of (history_of c es (from c.memory))
memory_is_history c es = (agrees c es (from c.memory) (starts c.memory)).says
