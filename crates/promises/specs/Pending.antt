-- 01, 'The stack': what a push, a pop, a reset, an acknowledge and a status read leave, written out, and when a half
-- word is pending, over any events.
-- Definitions and the statement only: proofs/Pending.antt proves it. Assumes nothing.
use Rattle.std.specs.Prelude.{ℕ, suc, ◌%◌, ◌≤◌, ◌<◌, ◌≡◌, Bool, true, false, not, List, [], ◌∷◌, ◌++◌, length, take, get_or}
use Rattle.terms.specs.declared.Mode.TheVariants.{Am9511A, Am9511}
use Rattle.promises.specs.Subjects.{Settings, State, Answer, ChipEvent as Event, Push, Pop, Command, Status}
use Rattle.promises.specs.Subjects.{Reset, Acknowledge, answer_to}
use Rattle.promises.specs.Stack.{Bytes, IsStack}
use Rattle.promises.specs.RefusalNumbers.{number_of}
use Rattle.promises.specs.BusEvents.{after_events}
use Rattle.promises.specs.StateBytes.{IsState}
use Rattle.promises.specs.Given.{Given, Chosen}
use Rattle.promises.specs.Cores.{Core, Meets, Sendable, on_bus, driven}

-- an answer's number, the byte read, and the whole state after
pub record AnswerIs (a : Answer) (n byte : ℕ) (stack : List ℕ) (pending : Bool) (status : ℕ) (service : Bool)
    : Type 0 where
  pub number : number_of a.refusal ≡ n
  pub byte_read : a.byte ≡ byte
  pub state : a.state ≡ record { stack = stack; pending = pending; status = status; service = service }

-- a state by its parts
abbrev pub state_with : List ℕ → Bool → ℕ → Bool → State
state_with stack pending status service = record { stack = stack; pending = pending; status = status; service = service }

-- pushes plus pops since the last reset, n having gone before; no other event counts
abbrev pub moved_since : ℕ → List Event → ℕ
moved_since n [] = n
moved_since n (Push byte ∷ es) = moved_since (suc n) es
moved_since n (Pop ∷ es) = moved_since (suc n) es
moved_since n (Reset ∷ es) = moved_since 0 es
moved_since n (Command code ∷ es) = moved_since n es
moved_since n (Status ∷ es) = moved_since n es
moved_since n (Acknowledge ∷ es) = moved_since n es

-- a flag that is set where a number is odd
pub record Odd (flag : Bool) (n : ℕ) : Type 0 where
  pub set : n % 2 ≡ 1 → flag ≡ true
  pub clear : n % 2 ≡ 0 → flag ≡ false

-- ---- the statement, of every state that 13 does not turn away
pub record Bus (on : Settings) : Type 0 where
  -- push: the byte becomes the top, the bottom byte is lost, pending turns; status and service line stay
  pub push_leaves : (b : ℕ) (l : List ℕ) (p : Bool) (u : ℕ) (v : Bool) → u < 128
      → AnswerIs (answer_to on (state_with l p u v) (Push b)) 0 0 (b ∷ take 15 l) (not p) u v
  -- pop: the top byte is handed out and goes to the bottom, pending turns
  pub pop_leaves : (b : ℕ) (l : List ℕ) (p : Bool) (u : ℕ) (v : Bool) → u < 128
      → AnswerIs (answer_to on (state_with (b ∷ l) p u v) Pop) 0 b (l ++ (b ∷ [])) (not p) u v
  -- reset: stack all zero, nothing pending, status 0, service line low
  pub reset_leaves : on.mode ≡ Am9511A → (l : List ℕ) (p : Bool) (u : ℕ) (v : Bool) → u < 128
      → AnswerIs (answer_to on (state_with l p u v) Reset) 0 0
      (0 ∷ 0 ∷ 0 ∷ 0 ∷ 0 ∷ 0 ∷ 0 ∷ 0 ∷ 0 ∷ 0 ∷ 0 ∷ 0 ∷ 0 ∷ 0 ∷ 0 ∷ 0 ∷ []) false 0 false
  -- of the older part: all bytes stay, or with half a word pending the top byte goes and the bottom two become zero
  pub older_reset_keeps : on.mode ≡ Am9511 → (l : List ℕ) (u : ℕ) (v : Bool) → u < 128
      → AnswerIs (answer_to on (state_with l false u v) Reset) 0 0 l false 0 false
  pub older_reset_realigns : on.mode ≡ Am9511 → (b : ℕ) (l : List ℕ) (u : ℕ) (v : Bool) → length l ≡ 15 → u < 128
      → AnswerIs (answer_to on (state_with (b ∷ l) true u v) Reset) 0 0 (take 14 l ++ (0 ∷ 0 ∷ [])) false 0 false
  -- acknowledge: the service line goes low, and nothing else changes
  pub acknowledge_leaves : (l : List ℕ) (p : Bool) (u : ℕ) (v : Bool) → u < 128
      → AnswerIs (answer_to on (state_with l p u v) Acknowledge) 0 0 l p u false
  -- a status read hands out the status, and nothing changes
  pub read_leaves : (l : List ℕ) (p : Bool) (u : ℕ) (v : Bool) → u < 128
      → AnswerIs (answer_to on (state_with l p u v) Status) 0 u l p u v
  -- every event of a state whose busy bit is set: 13, no byte, and the state as it came
  pub busy_answers : (e : Event) (l : List ℕ) (p : Bool) (u : ℕ) (v : Bool) → 128 ≤ u
      → AnswerIs (answer_to on (state_with l p u v) e) 13 0 l p u v
  -- a half word is pending when pushes plus pops since reset are odd in number: over any events, refused ones among
  -- them, from a state reached by n
  pub half_pending : (s : State) (n : ℕ) (es : List Event) → IsStack s.stack → s.status < 128 → Sendable (on_bus es)
      → Odd s.pending n
      → Odd (after_events on s es).pending (moved_since n es)

-- the same of the event call of any core that meets the promises: byte 16 of the state is that number modulo 2
abbrev pub PendingByte : Type 0
PendingByte =
    (g : Given) → Chosen g → (c : Core) → Meets g c → (state : List ℕ) (es : List Event) → Bytes state → IsState state
    → Sendable (on_bus es)
    → get_or (driven c state (on_bus es)) 16 0 ≡ moved_since (get_or state 16 0) es % 2

-- of the chip as it stands
abbrev pub BusEvents : Type 0
BusEvents = (on : Settings) → Bus on
