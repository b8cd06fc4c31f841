-- Any core of the four calls' types that meets the promises is the chip of the statements. Definitions and the
-- statement only: proofs/Cores.antt proves
-- it. Assumes nothing.
use Rattle.std.specs.Prelude.{ℕ, ◌+◌, ◌*◌, ◌%◌, ◌^◌, ◌<◌, ◌≡◌, ◌⊎◌, Bool, true, ◌&&◌, List, [], ◌∷◌, map, eqb, length, take, get_or}
use Rattle.promises.specs.Subjects.{ChipEvent, Push, Pop, Command, Status, Reset, Acknowledge, Event, Chip}
use Rattle.promises.specs.Subjects.{Recall, Forget, Card, event_in}
use Rattle.promises.specs.Subjects.{host_of, taken_of, host_reply, taken_reply, Called, Signal, Sent, Calls, Signals}
use Rattle.promises.specs.Subjects.{sent_of, Sends}
use Rattle.promises.specs.Stack.{Bytes, bytes_of, tos}
use Rattle.promises.specs.RefusalNumbers.{number_of}
use Rattle.promises.specs.FloatWords.{FloatWord, Le}
use Rattle.promises.specs.BusEvents.{error_of}
use Rattle.promises.specs.Remembered.{after_all}
use Rattle.promises.specs.StateBytes.{IsState, card_in, laid_out}
use Rattle.promises.specs.Given.{Given, Chosen, settings_in, run_call, event_call}
use Rattle.promises.specs.Chains.{Step, Constants, reversing, word_after, run_events}

-- ---- cores
-- any four functions of the calls' types under the numbers that are given with them: what a call returns and what it
-- leaves in each slice, by what it was lent;
-- a program of the calls has one such core for each choice of numbers
pub record Core : Type 0 where
  pub run : List ℕ → List ℕ → List ℕ → List ℕ → Called
  pub event : List ℕ → ℕ → ℕ → Signal
  pub word_to_f32 : ℕ → List ℕ → Sent
  pub f32_to_word : ℕ → List ℕ → Sent

-- a core meets the promises where each call keeps its contract, for every slice of bytes that can be lent
pub record Meets (g : Given) (c : Core) : Type 0 where
  pub run : (state input replies report : List ℕ) → Bytes state → Bytes input → Bytes replies → Bytes report
      → Calls (run_call g state input replies report)
      (c.run state input replies report).result (c.run state input replies report).state
      (c.run state input replies report).replies (c.run state input replies report).report
  pub event : (state : List ℕ) (kind byte : ℕ) → Bytes state → kind < 2 ^ 32 → byte < 256
      → Signals (event_call g state kind byte) (c.event state kind byte).result (c.event state kind byte).state
  pub word_to_f32 : (word : ℕ) (out : List ℕ) → word < 2 ^ 32 → Bytes out
      → Sends (sent_of (host_reply (host_of word)) out) (c.word_to_f32 word out).result
      (c.word_to_f32 word out).out
  pub f32_to_word : (bits : ℕ) (out : List ℕ) → bits < 2 ^ 32 → Bytes out
      → Sends (sent_of (taken_reply (taken_of bits)) out) (c.f32_to_word bits out).result
      (c.f32_to_word bits out).out

-- the core that the contracts describe
abbrev pub described : Given → Core
described g = record {
  run = run_call g;
  event = event_call g;
  word_to_f32 = λ (word : ℕ) (out : List ℕ). sent_of (host_reply (host_of word)) out;
  f32_to_word = λ (bits : ℕ) (out : List ℕ). sent_of (taken_reply (taken_of bits)) out;
}

-- ---- events through the event call
-- an event's kind and its byte, which is the byte pushed or the code, else ignored
abbrev pub kind_number : Event → ℕ
kind_number (Chip (Push byte)) = 1
kind_number (Chip Pop) = 2
kind_number (Chip (Command code)) = 3
kind_number (Chip Status) = 4
kind_number (Chip Reset) = 5
kind_number (Chip Acknowledge) = 6
kind_number Recall = 7
kind_number Forget = 8

abbrev pub byte_of : Event → ℕ
byte_of (Chip (Push byte)) = byte
byte_of (Chip Pop) = 0
byte_of (Chip (Command code)) = code
byte_of (Chip Status) = 0
byte_of (Chip Reset) = 0
byte_of (Chip Acknowledge) = 0
byte_of Recall = 0
byte_of Forget = 0

-- the chip's own events
abbrev pub on_bus : List ChipEvent → List Event
on_bus = map Chip

-- the events given one at a time to a core's own event call: the state's bytes after them, and the numbers returned
abbrev pub driven : Core → List ℕ → List Event → List ℕ
driven c state [] = state
driven c state (e ∷ es) = driven c (c.event state (kind_number e) (byte_of e)).state es

abbrev pub returned : Core → List ℕ → List Event → List ℕ
returned c state [] = []
returned c state (e ∷ es) =
    (c.event state (kind_number e) (byte_of e)).result
    ∷ returned c (c.event state (kind_number e) (byte_of e)).state es

-- a card's answers as the calls give them: 256 times the refusal plus the byte read
abbrev pub answers_of : Card → List Event → List ℕ
answers_of k [] = []
answers_of k (e ∷ es) =
    (256 * number_of (event_in k e).refusal + (event_in k e).byte) ∷ answers_of (event_in k e).card es

-- the memory is not read
abbrev pub NoRecall : List Event → Type 0
NoRecall [] = Unit
NoRecall (Chip e ∷ es) = NoRecall es
NoRecall (Recall ∷ es) = ⊥
NoRecall (Forget ∷ es) = NoRecall es

-- a state that is lent with its memory, or events that do not read it
abbrev pub KeepsMemory : List ℕ → List Event → Type 0
KeepsMemory state es = (length state ≡ 21) ⊎ NoRecall es

-- the bytes pushed and the codes are bytes
abbrev pub Sendable : List Event → Type 0
Sendable [] = Unit
Sendable (e ∷ es) = (byte_of e < 256) × Sendable es

-- whether every number of a list is 0
abbrev pub all_zero : List ℕ → Bool
all_zero [] = true
all_zero (n ∷ l) = eqb n 0 && all_zero l

-- whether each command leaves a state whose status, byte 17, has bits 4 to 1 clear
abbrev pub clear_after : Event → List ℕ → Bool
clear_after (Chip (Command code)) state = eqb (error_of (get_or state 17 0)) 0
clear_after (Chip (Push byte)) state = true
clear_after (Chip Pop) state = true
clear_after (Chip Status) state = true
clear_after (Chip Reset) state = true
clear_after (Chip Acknowledge) state = true
clear_after Recall state = true
clear_after Forget state = true

abbrev pub driven_quietly : Core → List ℕ → List Event → Bool
driven_quietly c state [] = true
driven_quietly c state (e ∷ es) =
    clear_after e (c.event state (kind_number e) (byte_of e)).state
    && driven_quietly c (c.event state (kind_number e) (byte_of e)).state es

-- ---- chains through the event call
-- the bytes of a state that 13 does not turn away, with nothing pending, and a proper word
pub record Begins (state : List ℕ) (w : ℕ) : Type 0 where
  pub bytes : Bytes state
  pub good : IsState state
  pub whole : get_or state 16 0 ≡ 0
  pub proper : FloatWord w

-- a chain's events as the calls take them
abbrev pub bus_run : ℕ → (ℕ → Bool) → List Step → List Event
bus_run w sr ks = on_bus (run_events w sr ks)

-- the word that lies on top at the end, read off the state's first four bytes
abbrev pub word_left : Core → List ℕ → List Event → ℕ
word_left c state es = tos 4 (driven c state es)

-- ---- the statement: of the 19 or 21 bytes of any good state, and any events
pub record Driven (g : Given) (c : Core) : Type 0 where
  -- the bytes after the events are those of the card that the statements speak of, as many as were lent
  pub states : (state : List ℕ) (es : List Event) → Bytes state → IsState state → Sendable es
      → driven c state es ≡ laid_out (length state) (after_all (card_in (settings_in g) state) es)
  -- and the calls return its answers; of 19 bytes the memory is gone after each call
  pub returns : (state : List ℕ) (es : List Event) → Bytes state → IsState state → Sendable es → KeepsMemory state es
      → returned c state es ≡ answers_of (card_in (settings_in g) state) es
  -- demand 3 at the event call: every call of a run returns 0, error bits or not
  pub chain_answers : (state : List ℕ) (w : ℕ) (sr : ℕ → Bool) (ks : List Step) → Begins state w → Constants ks
      → all_zero (returned c state (bus_run w sr ks)) ≡ true
  -- at the end the word of demand 2 lies on top, high byte first, a function of the word and the chain alone
  pub chain_bytes : (state : List ℕ) (w : ℕ) (sr : ℕ → Bool) (ks : List Step) → Begins state w → Constants ks
      → take 4 (driven c state (bus_run w sr ks)) ≡ bytes_of 4 (word_after (settings_in g).rule w ks)
  pub chain_word : (state : List ℕ) (w : ℕ) (sr : ℕ → Bool) (ks : List Step) → Begins state w → Constants ks
      → word_left c state (bus_run w sr ks) ≡ word_after (settings_in g).rule w ks
  -- where neither run leaves an error bit, an even number of reversing steps keeps the order of the values
  pub chain_even : (state state' : List ℕ) (v w : ℕ) (sr sr' : ℕ → Bool) (ks : List Step) → Begins state v
      → Begins state' w → Constants ks
      → driven_quietly c state (bus_run v sr ks) ≡ true → driven_quietly c state' (bus_run w sr' ks) ≡ true → Le v w
      → reversing ks % 2 ≡ 0 → Le (word_left c state (bus_run v sr ks)) (word_left c state' (bus_run w sr' ks))
  -- and an odd number turns it round
  pub chain_odd : (state state' : List ℕ) (v w : ℕ) (sr sr' : ℕ → Bool) (ks : List Step) → Begins state v
      → Begins state' w → Constants ks
      → driven_quietly c state (bus_run v sr ks) ≡ true → driven_quietly c state' (bus_run w sr' ks) ≡ true → Le v w
      → reversing ks % 2 ≡ 1 → Le (word_left c state' (bus_run w sr' ks)) (word_left c state (bus_run v sr ks))

-- every core that meets the promises
abbrev pub Cores : Type 0
Cores = (g : Given) → Chosen g → (c : Core) → Meets g c → Driven g c
