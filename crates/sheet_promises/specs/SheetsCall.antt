-- 02, ask 11, `sheets_run`: what it returns and what every slice holds after, for every input. Definitions and
-- statements only: proofs/SheetsCall.antt and proofs/Calls.antt prove them. Assumes nothing.
use Rattle.std.specs.Prelude.{ℕ, ◌+◌, ◌*◌, ◌≤◌, ◌<◌, ◌≡◌, true, false, cond, List, ◌∷◌, ◌++◌, eqb, leb, ltb, length, get_or, take, drop}
use Rattle.sheet_promises.specs.Bytes.{Bytes, four_at, four_bytes}
use Rattle.sheet_promises.specs.Sheets.{is_sheets}
use Rattle.sheet_promises.specs.Runs.{is_state, lengthened, Ran, ran}
use Rattle.sheet_promises.specs.Subjects.{SheetsAnswer, sheets_call, SheetsAllows}

-- "Report is 9 bytes: refusal, bytes of whole records taken, bytes of replies written, each count four bytes
-- little-endian"
abbrev pub report_of : ℕ → ℕ → ℕ → List ℕ
report_of refusal taken written = refusal ∷ (four_bytes taken ++ four_bytes written)

-- turned away: nothing but the report is written, both counts 0
abbrev pub away : ℕ → List ℕ → List ℕ → List ℕ → SheetsAnswer
away r state sheets replies =
    record { result = r; state = state; sheets = sheets; replies = replies; report = report_of r 0 0 }

-- a run: its refusal, as many bytes of state as were lent, the sheets, the replies and past them those lent, the report
abbrev pub answer_of : ℕ → Ran → List ℕ → SheetsAnswer
answer_of n o replies = record {
  result = o.refusal;
  state = take n o.state;
  sheets = o.sheets;
  replies = o.written ++ drop (length o.written) replies;
  report = report_of o.refusal o.taken (length o.written);
}

-- the order is 14, 16, 17, 13 for the state, 13 for the sheets, 9; 14 writes nothing
abbrev pub sheets_answer : ℕ → ℕ → List ℕ → List ℕ → List ℕ → List ℕ → List ℕ → SheetsAnswer
sheets_answer mode rule state sheets input replies report =
    cond (eqb (length report) 9)
    (cond (leb mode 1)
    (cond (leb rule 1)
    (cond (is_state state)
    (cond (is_sheets sheets)
    (cond (ltb 12288 (length input)) (away 9 state sheets replies)
    (answer_of (length state) (ran mode rule (lengthened state) sheets input (length replies)) replies))
    (away 13 state sheets replies))
    (away 13 state sheets replies))
    (away 17 state sheets replies))
    (away 16 state sheets replies))
    (record { result = 14; state = state; sheets = sheets; replies = replies; report = report })

-- every call, refused or not
abbrev pub SheetsCall : Type 0
SheetsCall =
    (mode rule : ℕ) (state sheets input replies report : List ℕ) → Bytes state → Bytes input
    → sheets_call mode rule state sheets input replies report ≡ sheets_answer mode rule state sheets input replies report

-- ---- what follows of it, said once more

-- what the contract allows beside an answer is that number and those slices, and nothing else
abbrev pub SheetsAllowed : Type 0
SheetsAllowed =
    (a : SheetsAnswer) (r : ℕ) (state sheets replies report : List ℕ)
    → (SheetsAllows a r state sheets replies report
    → (r ≡ a.result) × (state ≡ a.state) × (sheets ≡ a.sheets) × (replies ≡ a.replies) × (report ≡ a.report))
    × (r ≡ a.result → state ≡ a.state → sheets ≡ a.sheets → replies ≡ a.replies → report ≡ a.report
    → SheetsAllows a r state sheets replies report)

-- demand 1: two answers that the contract allows coincide, the refusal and every byte of state, sheets, replies and
-- report
abbrev pub SheetsDetermined : Type 0
SheetsDetermined =
    (mode rule : ℕ) (state sheets input replies report : List ℕ) (r q : ℕ) (s t a b w v p o : List ℕ)
    → SheetsAllows (sheets_call mode rule state sheets input replies report) r s a w p
    → SheetsAllows (sheets_call mode rule state sheets input replies report) q t b v o
    → (r ≡ q) × (s ≡ t) × (a ≡ b) × (w ≡ v) × (p ≡ o)

-- a call that is turned away, in the order 14, 16, 17, 13, 9, whatever the numbers in its slices
pub record TurnsAway (call : ℕ → ℕ → List ℕ → List ℕ → List ℕ → List ℕ → List ℕ → SheetsAnswer) : Type 0 where
  -- 14 writes nothing, whatever else is wrong
  pub no_report_lem : (mode rule : ℕ) (state sheets input replies report : List ℕ) → (length report ≡ 9 → ⊥)
      → call mode rule state sheets input replies report
      ≡ record { result = 14; state = state; sheets = sheets; replies = replies; report = report }
  pub no_mode : (mode rule : ℕ) (state sheets input replies report : List ℕ) → length report ≡ 9 → 1 < mode
      → call mode rule state sheets input replies report ≡ away 16 state sheets replies
  pub no_rule : (mode rule : ℕ) (state sheets input replies report : List ℕ) → length report ≡ 9 → mode ≤ 1 → 1 < rule
      → call mode rule state sheets input replies report ≡ away 17 state sheets replies
  pub no_state : (mode rule : ℕ) (state sheets input replies report : List ℕ) → length report ≡ 9 → mode ≤ 1 → rule ≤ 1
      → is_state state ≡ false → call mode rule state sheets input replies report ≡ away 13 state sheets replies
  pub no_sheets : (mode rule : ℕ) (state sheets input replies report : List ℕ) → length report ≡ 9 → mode ≤ 1 → rule ≤ 1
      → is_state state ≡ true → is_sheets sheets ≡ false
      → call mode rule state sheets input replies report ≡ away 13 state sheets replies
  pub long_input : (mode rule : ℕ) (state sheets input replies report : List ℕ) → length report ≡ 9 → mode ≤ 1
      → rule ≤ 1
      → is_state state ≡ true → is_sheets sheets ≡ true → 12288 < length input
      → call mode rule state sheets input replies report ≡ away 9 state sheets replies

-- the exported call
abbrev pub SheetsTurnedAway : Type 0
SheetsTurnedAway = TurnsAway sheets_call

-- the number returned is the refusal, byte 0 of the report, for every call but one that returns 14
abbrev pub ReportsResult : Type 0
ReportsResult =
    (mode rule : ℕ) (state sheets input replies report : List ℕ) → length report ≡ 9
    → get_or (sheets_call mode rule state sheets input replies report).report 0 0
    ≡ (sheets_call mode rule state sheets input replies report).result

-- the replies that a report counts
abbrev pub replies_in : List ℕ → List ℕ → List ℕ
replies_in replies report = take (four_at report 5) replies

-- every byte of replies past them stays, and their number
abbrev pub SheetsRepliesStay : Type 0
SheetsRepliesStay =
    (mode rule : ℕ) (state sheets input replies report : List ℕ)
    → (length (sheets_call mode rule state sheets input replies report).replies ≡ length replies)
    × ((i : ℕ) → four_at (sheets_call mode rule state sheets input replies report).report 5 ≤ i
    → get_or (sheets_call mode rule state sheets input replies report).replies i 0 ≡ get_or replies i 0)

-- the slice after a call: good again, no sheet gone from the list or changed, the places past the number as lent
pub record Grown (old new : List ℕ) : Type 0 where
  pub same_length : length new ≡ length old
  pub no_fewer : get_or old 0 0 ≤ get_or new 0 0
  pub good_again : is_sheets new ≡ true
  pub listed_stay : (i : ℕ) → 1 ≤ i → i < 1 + 20 * get_or old 0 0 → get_or new i 0 ≡ get_or old i 0
  pub places_stay : (i : ℕ) → 1 + 20 * get_or new 0 0 ≤ i → i < 1281 → get_or new i 0 ≡ get_or old i 0

-- whatever the call answers
abbrev pub SheetsKept : Type 0
SheetsKept =
    (mode rule : ℕ) (state sheets input replies report : List ℕ) → is_sheets sheets ≡ true
    → Grown sheets (sheets_call mode rule state sheets input replies report).sheets
