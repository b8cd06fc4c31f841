-- Demand 2 for files: every whole record of a file in turn, and the two counts as sums. Definitions and statements
-- only: proofs/Records.antt proves
-- them. Assumes nothing.
use Rattle.std.specs.Prelude.{ℕ, ◌+◌, ◌*◌, ◌-◌, ◌≤◌, ◌<◌, ◌≡◌, false, List, [], ◌∷◌, ◌++◌, length, get_or}
use Rattle.promises.specs.Subjects.{State, Settings, command_under, Memory, Card, Outcome, run_of}
use Rattle.promises.specs.Stack.{Bytes, IsStack}
use Rattle.promises.specs.RefusalNumbers.{number_of}
use Rattle.promises.specs.BusEvents.{busy, after_reset, acknowledged, after_pushes, after_pops, bytes_popped}
use Rattle.promises.specs.Remembered.{Remembers, kept_after, empty_memory, card_with}
use Rattle.promises.specs.StateBytes.{IsState, card_in}
use Rattle.promises.specs.RecordFiles.{IsRecord, data_in, ended, took, after}
use Rattle.promises.specs.Given.{Given, Chosen, settings_in, run_call}

-- ---- records in turn

-- the bytes of a list of records
abbrev pub joined : List (List ℕ) → List ℕ
joined [] = []
joined (r ∷ rs) = r ++ joined rs

-- each is a whole record and is taken, run as a file of its own on the card and in the room that the one before left
abbrev pub EachTaken : Card → List (List ℕ) → ℕ → Type 0
EachTaken s [] room = Unit
EachTaken s (r ∷ rs) room =
    IsRecord r × ((run_of s r room).refusal ≡ 0)
    × EachTaken (run_of s r room).state rs (room - length (run_of s r room).written)

-- the replies of records so run
abbrev pub replies_of : Card → List (List ℕ) → ℕ → List (List ℕ)
replies_of s [] room = []
replies_of s (r ∷ rs) room =
    (run_of s r room).written ∷ replies_of (run_of s r room).state rs (room - length (run_of s r room).written)

-- the records one at a time, then the rest: each adds its own bytes and its own reply
abbrev pub in_turn : Card → List (List ℕ) → List ℕ → ℕ → Outcome
in_turn s [] rest room = run_of s rest room
in_turn s (r ∷ rs) rest room =
    after (length r) (run_of s r room).written
    (in_turn (run_of s r room).state rs rest (room - length (run_of s r room).written))

-- for every split of a file into whole records, each taken, and a rest: state, replies and counts are those of one at a
-- time, then the rest
abbrev pub InTurn : Type 0
InTurn = (s : Card) (rs : List (List ℕ)) (rest : List ℕ) (room : ℕ) → EachTaken s rs room
    → run_of s (joined rs ++ rest) room ≡ in_turn s rs rest room

-- the refusal byte of each reply is 0 to 4
abbrev pub EachSmall : List (List ℕ) → Type 0
EachSmall [] = Unit
EachSmall (r ∷ rs) = (get_or r 4 0 ≤ 4) × EachSmall rs

-- a card that 13 does not turn away
pub record Accepted (s : Card) : Type 0 where
  pub stack : IsStack s.chip.stack
  pub calm : busy s.chip ≡ false
  pub memory : Remembers s.memory.bits s.memory.code
  pub code : s.memory.code < 256

-- from any such card every record is answered 0 to 4, in its reply, and the run goes on
abbrev pub InReply : Type 0
InReply =
    (s : Card) (rs : List (List ℕ)) (room : ℕ) → Accepted s → Bytes (joined rs) → EachTaken s rs room
    → EachSmall (replies_of s rs room)

-- ---- the counts

abbrev pub total : List ℕ → ℕ
total [] = 0
total (n ∷ ns) = n + total ns

abbrev pub lengths : List (List ℕ) → List ℕ
lengths [] = []
lengths (l ∷ ls) = length l ∷ lengths ls

-- every file is such a list of records and a rest that is empty or begins with the record that stops the run; the two
-- counts are the sums of
-- the sizes of those records and of their replies
pub record Split (s : Card) (l : List ℕ) (room : ℕ) (o : Outcome) : Type 0 where
  pub records : List (List ℕ)
  pub rest : List ℕ
  pub parts : l ≡ joined records ++ rest
  pub each : EachTaken s records room
  pub replies : o.written ≡ joined (replies_of s records room)
  pub taken : o.taken ≡ total (lengths records)
  pub written : length o.written ≡ total (lengths (replies_of s records room))
  pub complete : o.refusal ≡ 0 → rest ≡ []
  pub stopped : (o.refusal ≡ 0 → ⊥)
      → run_of o.state rest (room - length o.written) ≡ ended o.refusal o.state

abbrev pub Counted : Type 0
Counted = (s : Card) (l : List ℕ) (room : ℕ) → Split s l room (run_of s l room)

-- four bytes from a place, little-endian
abbrev pub count_at : List ℕ → ℕ → ℕ
count_at l i = get_or l i 0 + 256 * (get_or l (i + 1) 0 + 256 * (get_or l (i + 2) 0 + 256 * get_or l (i + 3) 0))

-- the report's two counts are exact
abbrev pub CountsExact : Type 0
CountsExact =
    (g : Given) → Chosen g → (state input replies report : List ℕ) → length report ≡ 9 → IsState state
    → length input ≤ 12288
    → (count_at (run_call g state input replies report).report 1
    ≡ (run_of (card_in (settings_in g) state) input (length replies)).taken)
    × (count_at (run_call g state input replies report).report 5
    ≡ length (run_of (card_in (settings_in g) state) input (length replies)).written)

-- ---- one whole record, by the table of kinds, on a chip beside a memory

abbrev pub PushRecord : Type 0
PushRecord =
    (on : Settings) (s : State) (m : Memory) (payload : List ℕ) (room : ℕ) → busy s ≡ false → 1 ≤ length payload
    → length payload ≤ 240 → 5 ≤ room
    → run_of (card_with on s m) ((2 + length payload) ∷ 0 ∷ 1 ∷ 0 ∷ payload) room
    ≡ took (card_with on (after_pushes s payload) m) (4 + length payload) (3 ∷ 0 ∷ 129 ∷ 0 ∷ 0 ∷ [])

abbrev pub PopRecord : Type 0
PopRecord =
    (on : Settings) (s : State) (m : Memory) (n room : ℕ) → busy s ≡ false → 1 ≤ n → n ≤ 240 → 5 + n ≤ room
    → run_of (card_with on s m) (3 ∷ 0 ∷ 2 ∷ 0 ∷ n ∷ []) room
    ≡ took (card_with on (after_pops n s) m) 5 ((3 + n) ∷ 0 ∷ 130 ∷ 0 ∷ 0 ∷ bytes_popped n s)

abbrev pub CommandRecord : Type 0
CommandRecord =
    (on : Settings) (s : State) (m : Memory) (code room : ℕ) → 5 ≤ room
    → run_of (card_with on s m) (3 ∷ 0 ∷ 3 ∷ 0 ∷ code ∷ []) room
    ≡ took (card_with on (command_under on.rule s code).state (kept_after m code (command_under on.rule s code))) 5
    (3 ∷ 0 ∷ 131 ∷ 0 ∷ number_of (command_under on.rule s code).refusal ∷ [])

abbrev pub StatusRecord : Type 0
StatusRecord =
    (on : Settings) (s : State) (m : Memory) (room : ℕ) → busy s ≡ false → 6 ≤ room
    → run_of (card_with on s m) (2 ∷ 0 ∷ 4 ∷ 0 ∷ []) room
    ≡ took (card_with on s m) 4 (4 ∷ 0 ∷ 132 ∷ 0 ∷ 0 ∷ s.status ∷ [])

abbrev pub ResetRecord : Type 0
ResetRecord =
    (on : Settings) (s : State) (m : Memory) (room : ℕ) → busy s ≡ false → 5 ≤ room
    → run_of (card_with on s m) (2 ∷ 0 ∷ 5 ∷ 0 ∷ []) room
    ≡ took (card_with on (after_reset on.mode s) empty_memory) 4 (3 ∷ 0 ∷ 133 ∷ 0 ∷ 0 ∷ [])

abbrev pub AcknowledgeRecord : Type 0
AcknowledgeRecord =
    (on : Settings) (s : State) (m : Memory) (room : ℕ) → busy s ≡ false → 5 ≤ room
    → run_of (card_with on s m) (2 ∷ 0 ∷ 6 ∷ 0 ∷ []) room
    ≡ took (card_with on (acknowledged s) m) 4 (3 ∷ 0 ∷ 134 ∷ 0 ∷ 0 ∷ [])

-- 02, ask 3: "Record kind 7 returns the two bytes in that order; kind 8 clears them; neither has a payload"
abbrev pub RecallRecord : Type 0
RecallRecord =
    (on : Settings) (s : State) (m : Memory) (room : ℕ) → busy s ≡ false → 7 ≤ room
    → run_of (card_with on s m) (2 ∷ 0 ∷ 7 ∷ 0 ∷ []) room
    ≡ took (card_with on s m) 4 (5 ∷ 0 ∷ 135 ∷ 0 ∷ 0 ∷ m.bits ∷ m.code ∷ [])

abbrev pub ForgetRecord : Type 0
ForgetRecord =
    (on : Settings) (s : State) (m : Memory) (room : ℕ) → busy s ≡ false → 5 ≤ room
    → run_of (card_with on s m) (2 ∷ 0 ∷ 8 ∷ 0 ∷ []) room ≡ took (card_with on s empty_memory) 4 (3 ∷ 0 ∷ 136 ∷ 0 ∷ 0 ∷ [])

-- a whole record whose reply has no room is 8, and nothing of it is done
abbrev pub NoRoomRecord : Type 0
NoRoomRecord = (s : Card) (r : List ℕ) (room : ℕ) (one : IsRecord r) → room < 5 + data_in one
    → run_of s r room ≡ ended 8 s

-- a file that begins with no whole record ends at once with 5, 6 or 7, and nothing is done; which of them, Fronts tells
-- from the bytes
abbrev pub BadHead : Type 0
BadHead =
    (s : Card) (l : List ℕ) (room : ℕ) → 0 < length l → ((r rest : List ℕ) → IsRecord r → l ≡ r ++ rest → ⊥)
    → (n : ℕ) × (5 ≤ n) × (n ≤ 7) × (run_of s l room ≡ ended n s)
