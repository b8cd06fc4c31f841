-- The history of a file as the proofs go along it, over cards in the place of bytes, and what they show of it; proofs/Histories.antt carries it to the bytes.
-- Definitions only. Assumes nothing.
use mathlib.Core.Path.{◌≡◌}
use mathlib.Core.List.{List, [], ◌∷◌, ◌++◌}
use Prim.Native.Nat.{ℕ}
use lib.ListN.{length, get_or}
use Rattle.numbers.specs.Little.{le4}
use Rattle.error_memory.specs.Memory.{Card}
use Rattle.record_runs.specs.Run.{Outcome, run_of as coreRun}
use Rattle.sheets.specs.Step.{top_of}
use Rattle.sheet_bytes.specs.Ledger.{lines_of}
use Rattle.sheet_promises.specs.Records.{records_of, joined, struck}
use Rattle.sheet_promises.specs.History.{Entry, sheets_in}

-- the card that the core's run of the records before leaves
abbrev pub card_after : Card → ℕ → List (List ℕ) → Card
card_after c room before = (coreRun c (joined (struck before)) room).state

abbrev pub entry_on : Card → List ℕ → ℕ → Entry
entry_on c bytes refusal = record { bytes = bytes; refusal = refusal; top = le4 (top_of c); pending = c.chip.pending }

abbrev pub card_history : Card → ℕ → List (List ℕ) → List (List ℕ) → List (List ℕ) → List Entry → List Entry
card_history c room before [] qs es = es
card_history c room before (r ∷ rs) [] es = es
card_history c room before (r ∷ rs) (q ∷ qs) es =
    card_history c room (before ++ (r ∷ [])) rs qs (entry_on (card_after c room before) r (get_or q 4 0) ∷ es)

-- every whole record is answered, and the list is that of the closings
pub record AnsweredAndListed (c : Card) (room : ℕ) (file written sheets : List ℕ) : Type 0 where
  pub all_answered_lem : length (records_of written) ≡ length (records_of file)
  pub list_is : lines_of sheets ≡ sheets_in (card_history c room [] (records_of file) (records_of written) [])

-- what the core leaves of a file alone, beside what the run with sheets left of the whole
pub record Struck (core : Outcome) (file written : List ℕ) (card : Card) : Type 0 where
  pub refusal_is : core.refusal ≡ 0
  pub card_is : core.state ≡ card
  pub taken_is : core.taken ≡ length file
  pub written_is : core.written ≡ written
