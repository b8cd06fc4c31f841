-- The rows of `sheets_run`, computed from its definition. Assumes nothing.
use mathlib.Core.Path.{refl}
use lib.Ieee.{size}
use Rattle.float.specs.Float.{add, div}
use Rattle.codes.specs.Codes.{decoded}
use Rattle.chip.specs.Status.{status_of}
use Rattle.chip.specs.Commands.{floats}
use Rattle.chip.specs.Step.{push_of, reset_of, read_of, carried, command_under}
use Rattle.record_files.specs.Run.{run, run_by}
use Rattle.record_runs.specs.Record.{frame_under, turn_under}
use Rattle.state_bytes.specs.Bytes.{is_state}
use Rattle.sheet_bytes.specs.Ledger.{is_sheets}
use Rattle.sheets.specs.Step.{is_own, sheet_step}
use Rattle.sheets.specs.Calls.{call_of}
use Rattle.sheet_promises.specs.Rows.{SheetsRows}

pub sheets_rows : SheetsRows
unfolding call_of is_state is_sheets run_by run sheet_step is_own turn_under frame_under push_of reset_of read_of command_under carried floats status_of decoded add div size
sheets_rows = refl
