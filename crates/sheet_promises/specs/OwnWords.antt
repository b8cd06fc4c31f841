-- 02, ask 11: each word of a closed sheet is one of its own keeps, over any calls made one after another on one slice.
-- Definitions and the statement only: proofs/Calls.antt proves it. Assumes nothing.
use Rattle.std.specs.Prelude.{ℕ, ◌<◌, ◌≡◌, true, false, List, [], ◌∷◌, length}
use Rattle.sheet_promises.specs.Bytes.{Bytes}
use Rattle.sheet_promises.specs.Sheets.{is_sheets, number_in, closed_sheets, is_open}
use Rattle.sheet_promises.specs.Records.{records_of}
use Rattle.sheet_promises.specs.History.{Entry, history_from, keeps, sheets_in}
use Rattle.sheet_promises.specs.SheetsCall.{replies_in}
use Rattle.sheet_promises.specs.Subjects.{SheetsAnswer, sheets_call}

-- what a call is given beside the sheets
pub record Job : Type 0 where
  pub mode : ℕ
  pub rule : ℕ
  pub state : List ℕ
  pub input : List ℕ
  pub replies : List ℕ
  pub report : List ℕ

-- the call on these sheets
abbrev pub answer_to : Job → List ℕ → SheetsAnswer
answer_to j sheets = sheets_call j.mode j.rule j.state sheets j.input j.replies j.report

-- the slice after calls made one after another
abbrev pub sheets_after : List Job → List ℕ → List ℕ
sheets_after [] sheets = sheets
sheets_after (j ∷ js) sheets = sheets_after js (answer_to j sheets).sheets

-- and what happened
abbrev pub history_over : List Job → List ℕ → List Entry → List Entry
history_over [] sheets es = es
history_over (j ∷ js) sheets es =
    history_over js (answer_to j sheets).sheets
    (history_from j.mode j.rule j.state (length j.replies) [] (records_of j.input)
    (records_of (replies_in (answer_to j sheets).replies (answer_to j sheets).report)) es)

-- bytes, and a report that tells what was written
pub record JobLent (j : Job) : Type 0 where
  pub state : Bytes j.state
  pub input : Bytes j.input
  pub report : length j.report ≡ 9

-- every one of them
abbrev pub AllLent : List Job → Type 0
AllLent [] = Unit
AllLent (j ∷ js) = JobLent j × AllLent js

-- what holds of every entry
abbrev pub Every : (Entry → Type 0) → List Entry → Type 0
Every P [] = Unit
Every P (e ∷ es) = P e × Every P es

-- the list is that of the closings, each with its own words, and no word was kept with a half word pending, or in a
-- slot over 3
pub record Owned (sheets : List ℕ) (es : List Entry) : Type 0 where
  pub list_is : closed_sheets sheets ≡ sheets_in es
  pub whole_words : Every (λ e. (slot : ℕ) → keeps slot e ≡ true → (e.pending ≡ false) × (slot < 4)) es

-- from an empty list with no sheet open, whatever the calls return
abbrev pub OwnWords : Type 0
OwnWords =
    (js : List Job) (sheets : List ℕ) → AllLent js → is_sheets sheets ≡ true → number_in sheets ≡ 0 → is_open sheets
    ≡ false
    → Owned (sheets_after js sheets) (history_over js sheets [])
