-- What the book speaks of: the contracts of `sheets_run`, `sheets_figures` and of the core's own run, and the text of
-- `./sheets`. Nothing else stands in the book but the kit's whole numbers and lists. Definitions only. Assumes nothing.
use Rattle.std.specs.Prelude.{ℕ, List}
use Rattle.state_bytes.specs.Calls.{Called as CoreCalled, call_of as coreCallOf}
use Rattle.sheets.specs.Calls.{Called, Calls, call_of}
use Rattle.sheet_figures.specs.Telling.{FiguresCalled, FiguresCalls, figures_of}
use Rattle.sheet_text.specs.Printout.{printout_under}

-- ---- the core's run: mode, rule, state, input, replies, report

-- the number returned, and what state, replies and report hold after
abbrev pub CoreAnswer : Type 0
CoreAnswer = CoreCalled

-- what the contract says of it
abbrev pub core_call : ℕ → ℕ → List ℕ → List ℕ → List ℕ → List ℕ → CoreAnswer
core_call = coreCallOf

-- ---- `sheets_run`: mode, rule, state, sheets, input, replies, report

-- the number returned, and what state, sheets, replies and report hold after
abbrev pub SheetsAnswer : Type 0
SheetsAnswer = Called

-- what the contract says of it
abbrev pub sheets_call : ℕ → ℕ → List ℕ → List ℕ → List ℕ → List ℕ → List ℕ → SheetsAnswer
sheets_call = call_of

-- what its contract allows beside that answer: a number, and the four slices after
abbrev pub SheetsAllows : SheetsAnswer → ℕ → List ℕ → List ℕ → List ℕ → List ℕ → Type 0
SheetsAllows = Calls

-- ---- `sheets_figures`: sheets, out

-- the number returned, and what `out` holds after
abbrev pub FiguresAnswer : Type 0
FiguresAnswer = FiguresCalled

-- what the contract says of it
abbrev pub figures_call : List ℕ → List ℕ → FiguresAnswer
figures_call = figures_of

-- what its contract allows beside that answer: a number, and `out` after
abbrev pub FiguresAllows : FiguresAnswer → ℕ → List ℕ → Type 0
FiguresAllows = FiguresCalls

-- ---- the text of `./sheets`: mode, rule, input

-- every character that is printed
abbrev pub sheets_text : ℕ → ℕ → List ℕ → List ℕ
sheets_text = printout_under
