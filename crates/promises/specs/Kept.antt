-- Demand 1: what is turned away leaves all as it stood, and a bad or cut file keeps the records done before.
-- Definitions and statements only:
-- proofs/Kept.antt proves them. Assumes nothing.
use Rattle.std.specs.Prelude.{ℕ, ◌-◌, ◌≤◌, ◌<◌, ◌≡◌, List, [], ◌∷◌, length, take, drop, get_or}
use Rattle.promises.specs.Subjects.{Card, Reply, run_of, Settings, Called, sent_of}
use Rattle.promises.specs.Stack.{Bytes}
use Rattle.promises.specs.RecordFiles.{ended}
use Rattle.promises.specs.StateBytes.{IsState, card_in, laid_out}
use Rattle.promises.specs.Given.{Given, Chosen, run_call, event_call}
use Rattle.promises.specs.Records.{count_at}

-- ---- a call that is turned away

-- 14 writes nothing, whatever else is wrong
abbrev pub NoReport : Type 0
NoReport =
    (g : Given) (state input replies report : List ℕ) → (length report ≡ 9 → ⊥)
    → run_call g state input replies report ≡ record { result = 14; state = state; replies = replies; report = report }

-- 13 writes the report alone, both counts 0
abbrev pub NoState : Type 0
NoState =
    (g : Given) → Chosen g → (state input replies report : List ℕ) → length report ≡ 9 → (IsState state → ⊥)
    → run_call g state input replies report
    ≡ record { result = 13; state = state; replies = replies; report = 13 ∷ 0 ∷ 0 ∷ 0 ∷ 0 ∷ 0 ∷ 0 ∷ 0 ∷ 0 ∷ [] }

-- and so does 9, over 12,288 bytes
abbrev pub LongInput : Type 0
LongInput =
    (g : Given) → Chosen g → (state input replies report : List ℕ) → length report ≡ 9 → IsState state
    → 12288 < length input
    → run_call g state input replies report
    ≡ record { result = 9; state = state; replies = replies; report = 9 ∷ 0 ∷ 0 ∷ 0 ∷ 0 ∷ 0 ∷ 0 ∷ 0 ∷ 0 ∷ [] }

-- a state is taken and nothing else is: the run of an input of no bytes, and a status read, tell
abbrev pub GoodStates : Type 0
GoodStates =
    (g : Given) → Chosen g → (state replies report : List ℕ) → length report ≡ 9
    → (IsState state → (run_call g state [] replies report).result ≡ 0)
    × ((IsState state → ⊥) → (run_call g state [] replies report).result ≡ 13)
    × (IsState state → (event_call g state 6 0).result ≡ 0)
    × ((IsState state → ⊥) → (event_call g state 6 0).result ≡ 3328)

-- they come back as they were: nothing is lost in reading and writing a state
abbrev pub StateReturns : Type 0
StateReturns = (on : Settings) (l : List ℕ) → IsState l → laid_out (length l) (card_in on l) ≡ l

-- an input of no bytes ends at once with 0
abbrev pub EmptyInput : Type 0
EmptyInput =
    (g : Given) → Chosen g → (state replies report : List ℕ) → length report ≡ 9 → IsState state
    → run_call g state [] replies report
    ≡ record { result = 0; state = state; replies = replies; report = 0 ∷ 0 ∷ 0 ∷ 0 ∷ 0 ∷ 0 ∷ 0 ∷ 0 ∷ 0 ∷ [] }

-- a refused event leaves every byte of the state
abbrev pub EventKept : Type 0
EventKept =
    (g : Given) (state : List ℕ) (kind byte : ℕ) → Bytes state → 256 ≤ (event_call g state kind byte).result
    → (event_call g state kind byte).state ≡ state

-- a refused conversion leaves every byte of the slice
abbrev pub OutKept : Type 0
OutKept = (reply : Reply) (out : List ℕ) → ((sent_of reply out).result ≡ 0 → ⊥) → (sent_of reply out).out ≡ out

-- a run and an event leave bytes that stand for a state again, as many as were lent
abbrev pub StateStays : Type 0
StateStays =
    (g : Given) (state input replies report : List ℕ) → Bytes state → Bytes input → IsState state
    → (IsState (run_call g state input replies report).state)
    × (length (run_call g state input replies report).state ≡ length state)

abbrev pub StateStaysEvent : Type 0
StateStaysEvent =
    (g : Given) (state : List ℕ) (kind byte : ℕ) → Bytes state → byte < 256 → IsState state
    → (IsState (event_call g state kind byte).state) × (length (event_call g state kind byte).state ≡ length state)

-- ---- replies

-- every byte of replies at or past the report's second count stays, and their number
abbrev pub RepliesStay : Type 0
RepliesStay =
    (g : Given) (state input replies report : List ℕ)
    → (length (run_call g state input replies report).replies ≡ length replies)
    × ((i : ℕ) → count_at (run_call g state input replies report).report 5 ≤ i
    → get_or (run_call g state input replies report).replies i 0 ≡ get_or replies i 0)

-- ---- a bad file

-- a run that does not end with 0 ends with 5 to 8, the refusal of the record that stands after the bytes taken
abbrev pub StopsThere : Type 0
StopsThere =
    (s : Card) (l : List ℕ) (room : ℕ) → ((run_of s l room).refusal ≡ 0 → ⊥)
    → (5 ≤ (run_of s l room).refusal) × ((run_of s l room).refusal ≤ 8)
    × (run_of (run_of s l room).state (drop (run_of s l room).taken l) (room - length (run_of s l room).written)
    ≡ ended (run_of s l room).refusal (run_of s l room).state)

-- all that it leaves but the refusal is what the file of the bytes taken leaves: the records done before, and nothing
-- of the one that stops
abbrev pub BadFile : Type 0
BadFile =
    (g : Given) → Chosen g → (state input replies report : List ℕ) → length report ≡ 9 → IsState state
    → length input ≤ 12288
    → run_call g state (take (count_at (run_call g state input replies report).report 1) input) replies report
    ≡ record {
      result = 0;
      state = (run_call g state input replies report).state;
      replies = (run_call g state input replies report).replies;
      report = 0 ∷ drop 1 (run_call g state input replies report).report;
    }

-- ---- a file cut after any byte

-- the call on a cut of k bytes beside the call on n bytes that are whole records
pub record CutCall (cut whole : Called) (k n : ℕ) : Type 0 where
  pub upto : n ≤ k
  pub whole_done : whole.result ≡ 0
  pub whole_taken : count_at whole.report 1 ≡ n
  pub state_is : cut.state ≡ whole.state
  pub replies_is : cut.replies ≡ whole.replies
  pub counts_are : drop 1 cut.report ≡ drop 1 whole.report
  pub at_end : k ≡ n → cut.result ≡ 0
  pub in_one : n < k → cut.result ≡ 6

-- a file that ends with 0, cut after any byte and run on the same state in the same room, leaves what its whole records
-- leave
abbrev pub CutFile : Type 0
CutFile =
    (g : Given) (state input replies report : List ℕ) → (run_call g state input replies report).result ≡ 0 → (k : ℕ)
    → k ≤ length input
    → (n : ℕ)
    × CutCall (run_call g state (take k input) replies report) (run_call g state (take n input) replies report) k n

-- and n is the last record end at or below k: no longer front of the file, up to k, ends with 0
abbrev pub LastEnd : Type 0
LastEnd =
    (g : Given) (state input replies report : List ℕ) → (run_call g state input replies report).result ≡ 0 → (k n : ℕ)
    → k ≤ length input
    → CutCall (run_call g state (take k input) replies report) (run_call g state (take n input) replies report) k n
    → (m : ℕ) → m ≤ k → (run_call g state (take m input) replies report).result ≡ 0 → m ≤ n
