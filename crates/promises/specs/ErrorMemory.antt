-- 02, ask 3: "The bits are to be proved equal to what the history of statuses says", through the event call and through
-- files; and a state of 19 bytes.
-- Definitions and the statements only: proofs/ErrorMemory.antt proves them. Assumes nothing.
use Rattle.std.specs.Prelude.{ℕ, ◌+◌, ◌^◌, ◌≤◌, ◌<◌, ◌≡◌, cond, List, [], ◌∷◌, ◌++◌, map, eqb, ltb, length, take, drop, get_or, replicate}
use Rattle.promises.specs.Subjects.{Push, Pop, Command, Status, Reset, Acknowledge, Memory, Event, Chip, Recall}
use Rattle.promises.specs.Subjects.{Forget, Card, run_of}
use Rattle.promises.specs.Stack.{Bytes}
use Rattle.promises.specs.Remembered.{empty_memory, History, memory_of, from, told, after_all, history_of}
use Rattle.promises.specs.StateBytes.{IsState, card_in}
use Rattle.promises.specs.Records.{joined, EachTaken, replies_of}
use Rattle.promises.specs.Given.{Given, Chosen, settings_in}
use Rattle.promises.specs.Cores.{Core, Meets, kind_number, byte_of, Sendable, driven}

-- ---- through the event call
-- the history of calls: a reset and a clearing that return less than 256 begin it anew, a command that does is told
-- with its code and byte 17 of the state
-- after it; nothing else counts
abbrev pub noted : Event → ℕ → ℕ → History → History
noted (Chip (Push byte)) n status h = h
noted (Chip Pop) n status h = h
noted (Chip (Command code)) n status h = cond (ltb n 256) (told h code status) h
noted (Chip Status) n status h = h
noted (Chip Reset) n status h = cond (ltb n 256) (from empty_memory) h
noted (Chip Acknowledge) n status h = h
noted Recall n status h = h
noted Forget n status h = cond (ltb n 256) (from empty_memory) h

abbrev pub call_history : Core → List ℕ → List Event → History → History
call_history c state [] h = h
call_history c state (e ∷ es) h =
    call_history c (c.event state (kind_number e) (byte_of e)).state es
    (noted e (c.event state (kind_number e) (byte_of e)).result
    (get_or (c.event state (kind_number e) (byte_of e)).state 17 0) h)

-- the two bytes behind the 19
abbrev pub memory_at : List ℕ → Memory
memory_at state = record { bits = get_or state 19 0; code = get_or state 20 0 }

-- ---- through files
-- the events of a record, by its kind and its payload: each byte of a block is one
abbrev pub record_events : List ℕ → List Event
record_events r =
    cond (eqb (get_or r 2 0) 1) (map (λ (b : ℕ). Chip (Push b)) (drop 4 r))
    (cond (eqb (get_or r 2 0) 2) (replicate (get_or r 4 0) (Chip Pop))
    (cond (eqb (get_or r 2 0) 3) (Chip (Command (get_or r 4 0)) ∷ [])
    (cond (eqb (get_or r 2 0) 4) (Chip Status ∷ [])
    (cond (eqb (get_or r 2 0) 5) (Chip Reset ∷ [])
    (cond (eqb (get_or r 2 0) 6) (Chip Acknowledge ∷ [])
    (cond (eqb (get_or r 2 0) 7) (Recall ∷ [])
    (Forget ∷ [])))))))

abbrev pub events_of_records : List (List ℕ) → List Event
events_of_records [] = []
events_of_records (r ∷ rs) = record_events r ++ events_of_records rs

-- what the history of a card's events says
abbrev pub remembered_after : Card → List Event → Memory
remembered_after k es = memory_of (history_of k es (from k.memory))

-- what is lent for records in turn and one of kind 7 behind them: a good state, a report of nine bytes, records that
-- are each taken, room for the reply
pub record RecordsLent (g : Given) (state : List ℕ) (rs : List (List ℕ)) (replies report : List ℕ) : Type 0 where
  pub bytes : Bytes state × Bytes (joined rs) × Bytes replies × Bytes report
  pub good : IsState state
  pub nine : length report ≡ 9
  pub each : EachTaken (card_in (settings_in g) state) rs (length replies)
  pub short : length (joined rs) + 4 ≤ 12288
  pub room : length (joined (replies_of (card_in (settings_in g) state) rs (length replies))) + 7 ≤ length replies

-- ---- the statement, of every core that meets the promises
pub record MemoryIsHistory (g : Given) (c : Core) : Type 0 where
  -- the event call on 21 bytes: after any events the last two are what the history of the calls says, on top of the two
  -- that stood
  pub events : (state : List ℕ) (es : List Event) → Bytes state → IsState state → length state ≡ 21 → Sendable es
      → memory_at (driven c state es) ≡ memory_of (call_history c state es (from (memory_at state)))
  -- files on 21 bytes: the last two are what the history of the records' events says
  pub files : (state : List ℕ) (rs : List (List ℕ)) (replies report : List ℕ) → RecordsLent g state rs replies report
      → length state ≡ 21
      → memory_at (c.run state (joined rs) replies report).state
      ≡ remembered_after (card_in (settings_in g) state) (events_of_records rs)
  -- files on 19 or 21 bytes: a record of kind 7 behind them is answered with the two, which on 19 bytes began empty
  pub recalled : (state : List ℕ) (rs : List (List ℕ)) (replies report : List ℕ) → RecordsLent g state rs replies report
      → take 7 (drop (length (joined (replies_of (card_in (settings_in g) state) rs (length replies))))
      (c.run state (joined rs ++ (2 ∷ 0 ∷ 7 ∷ 0 ∷ [])) replies report).replies)
      ≡ 5 ∷ 0 ∷ 135 ∷ 0 ∷ 0 ∷ (remembered_after (card_in (settings_in g) state) (events_of_records rs)).bits
      ∷ (remembered_after (card_in (settings_in g) state) (events_of_records rs)).code ∷ []

abbrev pub ErrorMemory : Type 0
ErrorMemory = (g : Given) → Chosen g → (c : Core) → Meets g c → MemoryIsHistory g c

-- the run of records in turn is the run of their events, whatever stands on the card
abbrev pub RecordsAreEvents : Type 0
RecordsAreEvents = (k : Card) (rs : List (List ℕ)) (room : ℕ) → EachTaken k rs room
    → (run_of k (joined rs) room).state ≡ after_all k (events_of_records rs)

-- ---- a state of 19 bytes
-- the same state with an empty memory
abbrev pub lengthened : List ℕ → List ℕ
lengthened state = state ++ (0 ∷ 0 ∷ [])

-- "a 19-byte state is read with an empty memory and written back as 19 bytes, memory dropped": whatever 19 bytes they
-- are, good or not
pub record Shortened (c : Core) : Type 0 where
  pub run : (state input replies report : List ℕ) → length state ≡ 19 → Bytes state → Bytes input → Bytes replies
      → Bytes report
      → c.run state input replies report
      ≡ record {
        result = (c.run (lengthened state) input replies report).result;
        state = take 19 (c.run (lengthened state) input replies report).state;
        replies = (c.run (lengthened state) input replies report).replies;
        report = (c.run (lengthened state) input replies report).report;
      }
  pub event : (state : List ℕ) (kind byte : ℕ) → length state ≡ 19 → Bytes state → kind < 2 ^ 32 → byte < 256
      → c.event state kind byte
      ≡ record {
        result = (c.event (lengthened state) kind byte).result;
        state = take 19 (c.event (lengthened state) kind byte).state;
      }

abbrev pub ShortStates : Type 0
ShortStates = (g : Given) → Chosen g → (c : Core) → Meets g c → Shortened c
