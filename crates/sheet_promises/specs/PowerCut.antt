-- 02, ask 11: power goes at any byte. Definitions and the statement only: proofs/Calls.antt proves it. Assumes nothing.
use Rattle.std.specs.Prelude.{ℕ, ◌≤◌, ◌≡◌, false, List, [], length, take}
use Rattle.sheet_promises.specs.Bytes.{Bytes}
use Rattle.sheet_promises.specs.Sheets.{number_in, closed_sheets, is_open}
use Rattle.sheet_promises.specs.Records.{records_of}
use Rattle.sheet_promises.specs.History.{history_from, sheets_in}
use Rattle.sheet_promises.specs.SheetsCall.{replies_in}
use Rattle.sheet_promises.specs.Subjects.{SheetsAnswer, sheets_call}

-- every whole record of a file has its reply, and the list holds, in order, exactly the sheets of the closings that
-- were whole and answered 0
pub record Holds (mode rule : ℕ) (state file replies : List ℕ) (a : SheetsAnswer) : Type 0 where
  pub all_answered_lem : length (records_of (replies_in a.replies a.report)) ≡ length (records_of file)
  pub list_is : closed_sheets a.sheets
      ≡ sheets_in (history_from mode rule state (length replies) [] (records_of file)
      (records_of (replies_in a.replies a.report)) [])

-- a file that would have ended with 0, cut after any byte and given with the same slices, on an empty list with no
-- sheet open
abbrev pub PowerCut : Type 0
PowerCut =
    (mode rule : ℕ) (state sheets input replies report : List ℕ) → Bytes state → Bytes input
    → number_in sheets ≡ 0 → is_open sheets ≡ false
    → (sheets_call mode rule state sheets input replies report).result ≡ 0 → (k : ℕ) → k ≤ length input
    → Holds mode rule state (take k input) replies (sheets_call mode rule state sheets (take k input) replies report)
