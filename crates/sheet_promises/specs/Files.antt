-- 02, ask 11: what holds of the core's files holds of files with sheets, by the book's run: records in turn, a bad
-- file, a cut file, the counts; and what a run leaves of the slice. Statements only: proofs/Files.antt proves them.
-- Assumes nothing.
use Rattle.std.specs.Prelude.{ℕ, ◌*◌, ◌-◌, ◌≤◌, ◌<◌, ◌≡◌, true, List, ◌++◌, length, take, drop}
use Rattle.sheet_promises.specs.Bytes.{Bytes}
use Rattle.sheet_promises.specs.Sheets.{is_sheets}
use Rattle.sheet_promises.specs.Records.{records_of, joined}
use Rattle.sheet_promises.specs.Runs.{is_state, Ran, onward, turn, ran}

-- what a run stands on: numbers, 21 bytes of state and sheets that are not turned away
pub record Start (mode rule : ℕ) (state sheets : List ℕ) : Type 0 where
  pub mode_taken : mode ≤ 1
  pub rule_taken : rule ≤ 1
  pub bytes : Bytes state
  pub long : length state ≡ 21
  pub state_taken : is_state state ≡ true
  pub sheets_taken : is_sheets sheets ≡ true

-- whatever follows a file that ends with 0 is run on what that left, in the room that that left
abbrev pub Appended : Type 0
Appended =
    (mode rule : ℕ) (state sheets l rest : List ℕ) (room : ℕ) → Start mode rule state sheets → Bytes l → Bytes rest
    → (ran mode rule state sheets l room).refusal ≡ 0
    → ran mode rule state sheets (l ++ rest) room
    ≡ onward (ran mode rule state sheets l room)
    (ran mode rule (ran mode rule state sheets l room).state (ran mode rule state sheets l room).sheets rest
    (room - length (ran mode rule state sheets l room).written))

-- a run that does not end with 0 leaves what the file of the bytes taken leaves, which ends with 0: the records done
-- before, and nothing of the one that stops; that one stands next, and its refusal is 5 to 8
pub record KeptBefore (mode rule : ℕ) (state sheets l : List ℕ) (room : ℕ) (o : Ran) : Type 0 where
  pub done_before : ran mode rule state sheets (take o.taken l) room
      ≡ record { refusal = 0; state = o.state; sheets = o.sheets; taken = o.taken; written = o.written }
  pub range : (o.refusal ≡ 0 → ⊥) → (5 ≤ o.refusal) × (o.refusal ≤ 8)
  pub stops_there : (o.refusal ≡ 0 → ⊥)
      → (turn mode rule o.state o.sheets (drop o.taken l) (room - length o.written)).refusal ≡ o.refusal

-- every run
abbrev pub BadLines : Type 0
BadLines =
    (mode rule : ℕ) (state sheets l : List ℕ) (room : ℕ) → Start mode rule state sheets → Bytes l
    → KeptBefore mode rule state sheets l room (ran mode rule state sheets l room)

-- a file that ends with 0, cut after k bytes: state, sheets, replies and count of its whole records, n bytes; 0 at a
-- record's end, else 6
pub record CutAfter (cut whole : Ran) (k n : ℕ) : Type 0 where
  pub upto : n ≤ k
  pub whole_done : whole.refusal ≡ 0
  pub whole_taken : whole.taken ≡ n
  pub state_is : cut.state ≡ whole.state
  pub sheets_is : cut.sheets ≡ whole.sheets
  pub taken_is : cut.taken ≡ n
  pub written_is : cut.written ≡ whole.written
  pub at_end : k ≡ n → cut.refusal ≡ 0
  pub in_one : n < k → cut.refusal ≡ 6

-- at every byte
abbrev pub CutLines : Type 0
CutLines =
    (mode rule : ℕ) (state sheets l : List ℕ) (room : ℕ) → Start mode rule state sheets → Bytes l
    → (ran mode rule state sheets l room).refusal ≡ 0 → (k : ℕ) → k ≤ length l
    → (n : ℕ) × CutAfter (ran mode rule state sheets (take k l) room) (ran mode rule state sheets (take n l) room) k n

-- what is taken stands in the file, all of it where the run ends with 0; the replies fit the room and are few for the
-- bytes taken
pub record Counted (l : List ℕ) (room : ℕ) (o : Ran) : Type 0 where
  pub in_file : o.taken ≤ length l
  pub all_taken : o.refusal ≡ 0 → o.taken ≡ length l
  pub in_room : length o.written ≤ room
  pub few : length o.written ≤ 245 * o.taken

-- every run
abbrev pub CountedLines : Type 0
CountedLines =
    (mode rule : ℕ) (state sheets l : List ℕ) (room : ℕ) → Start mode rule state sheets → Bytes l
    → Counted l room (ran mode rule state sheets l room)

-- of the records of a file as many are taken as there are replies: the two counts are the sums of the sizes of the
-- former and of the latter
pub record Sums (l : List ℕ) (o : Ran) : Type 0 where
  pub taken_is : o.taken ≡ length (joined (take (length (records_of o.written)) (records_of l)))
  pub written_is : o.written ≡ joined (records_of o.written)

-- every run
abbrev pub CountedSums : Type 0
CountedSums =
    (mode rule : ℕ) (state sheets l : List ℕ) (room : ℕ) → Start mode rule state sheets → Bytes l
    → Sums l (ran mode rule state sheets l room)
