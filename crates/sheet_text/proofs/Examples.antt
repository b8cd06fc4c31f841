-- The line of a closed sheet, and a file that opens one, through run, text and figures. Computed from the definitions. Assumes nothing.
use mathlib.Core.Path.{◌≡◌, refl}
use mathlib.Core.List.{[], ◌∷◌, ◌++◌}
use lib.ListN.{replicate}
use Rattle.record_files.specs.Run.{run, run_by}
use Rattle.record_runs.specs.Record.{frame_under}
use Rattle.state_bytes.specs.Bytes.{is_state}
use Rattle.sheet_bytes.specs.Ledger.{is_sheets}
use Rattle.sheet_figures.specs.Figures.{sum88}
use Rattle.sheet_figures.specs.Telling.{figures_of}
use Rattle.sheets.specs.Step.{is_own, sheet_step}
use Rattle.sheets.specs.Calls.{call_of}
use Rattle.listing.specs.Text.{spelled}
use Rattle.listing.specs.Listing.{has_reply, lines_up_to}
use Rattle.sheet_text.specs.Printout.{sheet_text, printout_of}

-- serial 7; 02C90FDA, 01800000, 12345678 and 89ABCDEF, the low byte of each first: `sheet 7 02C90FDA 01800000 12345678 89ABCDEF`
pub sheet_line_lem : sheet_text (7 ∷ 0 ∷ 0 ∷ 0 ∷ 218 ∷ 15 ∷ 201 ∷ 2 ∷ 0 ∷ 0 ∷ 128 ∷ 1 ∷ 120 ∷ 86 ∷ 52 ∷ 18 ∷ 239 ∷ 205 ∷ 171 ∷ 137 ∷ [])
    ≡ 115 ∷ 104 ∷ 101 ∷ 101 ∷ 116 ∷ 32 ∷ 55 ∷ 32 ∷ 48 ∷ 50 ∷ 67 ∷ 57 ∷ 48 ∷ 70 ∷ 68 ∷ 65 ∷ 32 ∷ 48 ∷ 49 ∷ 56 ∷ 48 ∷ 48 ∷ 48 ∷ 48 ∷ 48 ∷ 32 ∷ 49 ∷ 50 ∷ 51 ∷ 52
    ∷ 53 ∷ 54 ∷ 55 ∷ 56 ∷ 32 ∷ 56 ∷ 57 ∷ 65 ∷ 66 ∷ 67 ∷ 68 ∷ 69 ∷ 70 ∷ 10 ∷ []
unfolding spelled
sheet_line_lem = refl

-- a sheet opened for serial 258, 2 and 1 being its low bytes: `1 256 0`, `end 0 8`, `open 258`, and the figures of no sheets
pub open_printed : printout_of (6 ∷ 0 ∷ 0 ∷ 1 ∷ 2 ∷ 1 ∷ 0 ∷ 0 ∷ [])
    ≡ 49 ∷ 32 ∷ 50 ∷ 53 ∷ 54 ∷ 32 ∷ 48 ∷ 10
    ∷ 101 ∷ 110 ∷ 100 ∷ 32 ∷ 48 ∷ 32 ∷ 56 ∷ 10
    ∷ 111 ∷ 112 ∷ 101 ∷ 110 ∷ 32 ∷ 50 ∷ 53 ∷ 56 ∷ 10
    ∷ 108 ∷ 105 ∷ 110 ∷ 101 ∷ 115 ∷ 32 ∷ 48 ∷ 10
    ∷ 115 ∷ 101 ∷ 114 ∷ 105 ∷ 97 ∷ 108 ∷ 115 ∷ 32 ∷ 48 ∷ 10
    ∷ 114 ∷ 101 ∷ 112 ∷ 101 ∷ 97 ∷ 116 ∷ 101 ∷ 100 ∷ 32 ∷ 48 ∷ 10
    ∷ 105 ∷ 109 ∷ 112 ∷ 114 ∷ 111 ∷ 112 ∷ 101 ∷ 114 ∷ 32 ∷ 48 ∷ 10
    ∷ 115 ∷ 117 ∷ 109 ∷ 32 ∷ 43 ∷ (replicate 48 48 ++ (10 ∷ []))
unfolding call_of figures_of sum88 is_state is_sheets run run_by sheet_step is_own frame_under spelled has_reply lines_up_to
open_printed = refl
