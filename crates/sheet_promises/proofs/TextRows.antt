-- Three texts of `./sheets`, computed from its definition. Assumes nothing.
use mathlib.Core.Path.{refl}
use lib.Ieee.{size}
use Rattle.float.specs.Word.{size88, value}
use Rattle.float.specs.Float.{add}
use Rattle.codes.specs.Codes.{decoded}
use Rattle.chip.specs.Status.{status_of}
use Rattle.chip.specs.Commands.{floats}
use Rattle.chip.specs.Step.{push_of, pop_of, read_of, carried, command_under}
use Rattle.record_files.specs.Run.{run, run_by}
use Rattle.record_runs.specs.Record.{frame_under, turn_under}
use Rattle.state_bytes.specs.Bytes.{is_state}
use Rattle.sheet_bytes.specs.Ledger.{is_sheets}
use Rattle.sheet_figures.specs.Figures.{sum88}
use Rattle.sheet_figures.specs.Telling.{figures_of}
use Rattle.sheets.specs.Step.{is_own, sheet_step}
use Rattle.sheets.specs.Calls.{call_of}
use Rattle.listing.specs.Text.{spelled}
use Rattle.listing.specs.Listing.{has_reply, lines_up_to}
use Rattle.sheet_promises.specs.TextRows.{TextRows}

pub text_rows : TextRows
unfolding call_of is_state is_sheets run_by run sheet_step is_own turn_under frame_under push_of
    pop_of read_of command_under carried floats status_of decoded add size figures_of sum88 value size88 spelled has_reply lines_up_to
text_rows = record { two_closed_lem = refl; two_serials = refl; long_input = refl }
