-- 02, ask 11: the core sees a file as if kinds 256 to 258 were struck out. Definitions and the statement only:
-- proofs/Calls.antt proves it. Assumes nothing.
use Rattle.std.specs.Prelude.{ℕ, ◌≡◌, List}
use Rattle.sheet_promises.specs.Records.{records_of, joined, struck, struck_replies}
use Rattle.sheet_promises.specs.SheetsCall.{replies_in}
use Rattle.sheet_promises.specs.Subjects.{CoreAnswer, core_call, SheetsAnswer, sheets_call}

-- what the core leaves of a file that is struck out, beside what the run with sheets left of the whole
pub record Struck (core : CoreAnswer) (all : SheetsAnswer) : Type 0 where
  pub result_is : core.result ≡ 0
  pub state_is : core.state ≡ all.state
  pub replies_are : replies_in core.replies core.report
      ≡ joined (struck_replies (records_of (replies_in all.replies all.report)))

-- "In a file that ends with 0, the core's own replies and state are those it gives with kinds 256 to 258 struck out"
abbrev pub StruckOut : Type 0
StruckOut =
    (mode rule : ℕ) (state sheets input replies report : List ℕ)
    → (sheets_call mode rule state sheets input replies report).result ≡ 0
    → Struck (core_call mode rule state (joined (struck (records_of input))) replies report)
    (sheets_call mode rule state sheets input replies report)
