-- 02, ask 2: "Files within the old limits keep their meaning and their replies." A run under the old limit, 16 bytes to
-- a record, beside today's. Definitions
-- and the statement only: proofs/OldLimits.antt proves it. Assumes nothing.
use Rattle.std.specs.Prelude.{ℕ, ◌+◌, ◌*◌, ◌-◌, ◌/◌, ◌%◌, ◌≤◌, ◌<◌, ◌≡◌, List, [], ◌∷◌, ◌++◌, length, drop}
use Rattle.promises.specs.Subjects.{Called, Card, Outcome, run_under, run_of}
use Rattle.promises.specs.StateBytes.{laid_out, IsState, card_in}
use Rattle.promises.specs.Records.{joined, EachTaken}
use Rattle.promises.specs.RecordFiles.{IsRecord, push, pop, command, status, reset, acknowledge, recall, forget}
use Rattle.promises.specs.RecordFiles.{ended, after}
use Rattle.promises.specs.Given.{Given, Chosen, settings_in, run_call}

-- a number as four bytes, little-endian
abbrev pub le4 : ℕ → List ℕ
le4 n = n % 256 ∷ n / 256 % 256 ∷ n / 65536 % 256 ∷ n / 16777216 % 256 ∷ []

-- the run while a record pushed or popped at most 16 bytes and its length said at most 18
abbrev pub old_run : Card → List ℕ → ℕ → Outcome
old_run s file room = run_under 16 s file room

-- the call over what a run on a state of so many bytes leaves: replies past the written ones stay, each count of the
-- report is four bytes little-endian
abbrev pub ran_of : ℕ → Outcome → List ℕ → Called
ran_of n o replies = record {
  result = o.refusal;
  state = laid_out n o.state;
  replies = o.written ++ drop (length o.written) replies;
  report = o.refusal ∷ (le4 o.taken ++ le4 (length o.written));
}

-- a whole record within the old limits: a push of at most 16 bytes, a pop of at most 16, any other
abbrev pub WithinOld : {r : List ℕ} → IsRecord r → Type 0
WithinOld (push payload a b e) = length payload ≤ 16
WithinOld (pop n a b e) = n ≤ 16
WithinOld (command code e) = Unit
WithinOld (status e) = Unit
WithinOld (reset e) = Unit
WithinOld (acknowledge e) = Unit
WithinOld (recall e) = Unit
WithinOld (forget e) = Unit

-- records that all are
abbrev pub AllOld : List (List ℕ) → Type 0
AllOld [] = Unit
AllOld (r ∷ rs) = ((one : IsRecord r) × WithinOld one) × AllOld rs

-- ---- the statement, of every card, file and room
pub record OldLimits : Type 0 where
  -- the old run is the one of 01: a length over 18 and a pop of more than 16 end it with 7, and nothing is done
  pub old_length : (s : Card) (room a b : ℕ) (rest : List ℕ) → 18 < a + b * 256
      → old_run s (a ∷ b ∷ rest) room ≡ ended 7 s
  pub old_count : (s : Card) (room n : ℕ) (rest : List ℕ) → 16 < n
      → old_run s (3 ∷ 0 ∷ 2 ∷ 0 ∷ n ∷ rest) room ≡ ended 7 s
  -- and it ends so for nothing else: a record within the old limits is taken, or has no room, as today; and so are
  -- records in turn
  pub old_record : (s : Card) (r : List ℕ) (room : ℕ) (one : IsRecord r) → WithinOld one
      → old_run s r room ≡ run_of s r room
  pub old_records : (s : Card) (rs : List (List ℕ)) (room : ℕ) → EachTaken s rs room → AllOld rs
      → old_run s (joined rs) room ≡ run_of s (joined rs) room
  -- a file that did not stop with 7 leaves the same state, replies, counts and refusal
  pub same : (s : Card) (file : List ℕ) (room : ℕ) → ((old_run s file room).refusal ≡ 7 → ⊥)
      → run_of s file room ≡ old_run s file room
  -- up to the record that stopped it every file does, and goes on from there
  pub up_to : (s : Card) (file : List ℕ) (room : ℕ)
      → run_of s file room
      ≡ after (old_run s file room).taken (old_run s file room).written
      (run_of (old_run s file room).state (drop (old_run s file room).taken file)
      (room - length (old_run s file room).written))
  -- and so does the call on lent bytes
  pub call : (g : Given) → Chosen g → (state input replies report : List ℕ) → length report ≡ 9 → IsState state
      → length input ≤ 12288
      → ((old_run (card_in (settings_in g) state) input (length replies)).refusal ≡ 7 → ⊥)
      → run_call g state input replies report
      ≡ ran_of (length state) (old_run (card_in (settings_in g) state) input (length replies)) replies
