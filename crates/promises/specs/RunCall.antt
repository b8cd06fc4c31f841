-- 01, 'Record files': the exported run over the run of a file, byte by byte, and the record at which a bad file stops,
-- said of the call. Definitions and
-- the statement only: proofs/RunCall.antt proves it. Assumes nothing.
use Rattle.std.specs.Prelude.{ℕ, ◌/◌, ◌%◌, ◌≤◌, ◌≡◌, cond, List, [], ◌∷◌, ◌++◌, length, drop, get_or}
use Rattle.promises.specs.Subjects.{Card, Outcome, run_of, Called}
use Rattle.promises.specs.Stack.{Bytes}
use Rattle.promises.specs.Remembered.{empty_memory}
use Rattle.promises.specs.StateBytes.{IsState}
use Rattle.promises.specs.Given.{Given, Chosen, settings_in, run_call}
use Rattle.promises.specs.Records.{count_at}

-- the bytes of a card, of which there are n: 0 to 15 the stack, top first, 16 pending, 17 status, 18 service, and of 21
-- the memory's bits and its code
pub record Laid (n : ℕ) (bytes : List ℕ) (c : Card) : Type 0 where
  pub sixteen : length c.chip.stack ≡ 16
  pub short : n ≡ 19
      → bytes ≡ c.chip.stack ++ (cond c.chip.pending 1 0 ∷ c.chip.status ∷ cond c.chip.service 1 0 ∷ [])
  pub long : n ≡ 21
      → bytes ≡ c.chip.stack ++ (cond c.chip.pending 1 0 ∷ c.chip.status ∷ cond c.chip.service 1 0
      ∷ c.memory.bits ∷ c.memory.code ∷ [])

-- the card that bytes stand for: "a 19-byte state is read with an empty memory"
pub record StandsFor (bytes : List ℕ) (c : Card) : Type 0 where
  pub laid : Laid (length bytes) bytes c
  pub empty : length bytes ≡ 19 → c.memory ≡ empty_memory

-- the call over what the run of the file leaves
pub record Reports (n : ℕ) (c : Called) (o : Outcome) (replies : List ℕ) : Type 0 where
  pub result : c.result ≡ o.refusal
  -- as many bytes of state as were lent
  pub state : Laid n c.state o.state
  -- the replies written, and every byte past them as it stood
  pub replies_are : c.replies ≡ o.written ++ drop (length o.written) replies
  -- nine bytes: the refusal, the bytes of whole records taken, the bytes of replies written, each count four bytes
  -- little-endian
  pub report : c.report
      ≡ o.refusal
      ∷ o.taken % 256 ∷ o.taken / 256 % 256 ∷ o.taken / 65536 % 256 ∷ o.taken / 16777216 % 256
      ∷ length o.written % 256 ∷ length o.written / 256 % 256 ∷ length o.written / 65536 % 256
      ∷ length o.written / 16777216 % 256
      ∷ []

-- for a state that is taken, a report of 9 bytes and at most 12,288 bytes of input
abbrev pub RunCall : Type 0
RunCall =
    (g : Given) → Chosen g → (c : Card) → c.on ≡ settings_in g → (state input replies report : List ℕ) → Bytes state
    → Bytes input → IsState state → StandsFor state c → length report ≡ 9 → length input ≤ 12288
    → Reports (length state) (run_call g state input replies report) (run_of c input (length replies)) replies

-- byte 0 of the report is the number returned, for every call but one that returns 14
abbrev pub ReportsResult : Type 0
ReportsResult =
    (g : Given) (state input replies report : List ℕ) → length report ≡ 9
    → get_or (run_call g state input replies report).report 0 0 ≡ (run_call g state input replies report).result

-- a call that is not turned away and does not return 0 returns 5 to 8; given again on the state that it left, the bytes
-- after those taken and the room after the
-- replies written, it returns the same number, and takes, writes and changes nothing
abbrev pub StopsAgain : Type 0
StopsAgain =
    (g : Given) → Chosen g → (state input replies report : List ℕ) → Bytes state → Bytes input → IsState state
    → length report ≡ 9 → length input ≤ 12288
    → ((run_call g state input replies report).result ≡ 0 → ⊥)
    → (5 ≤ (run_call g state input replies report).result) × ((run_call g state input replies report).result ≤ 8)
    × (run_call g (run_call g state input replies report).state
    (drop (count_at (run_call g state input replies report).report 1) input)
    (drop (count_at (run_call g state input replies report).report 5) replies)
    report
    ≡ record {
      result = (run_call g state input replies report).result;
      state = (run_call g state input replies report).state;
      replies = drop (count_at (run_call g state input replies report).report 5) replies;
      report = (run_call g state input replies report).result ∷ 0 ∷ 0 ∷ 0 ∷ 0 ∷ 0 ∷ 0 ∷ 0 ∷ 0 ∷ [];
    })
