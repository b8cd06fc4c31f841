-- The rows of the event call hold: each is computed. Assumes nothing.
use mathlib.Core.Path.{refl}
use lib.Ieee.{size}
use Rattle.fixed.specs.Fixed.{add as xadd, sub as xsub, mul as xmul, muu as xmuu, div as xdiv, chs as xchs}
use Rattle.float.specs.Float.{add, sub, mul, div}
use Rattle.float.specs.Convert.{fltd, flts, fix, chsf}
use Rattle.float.specs.Root.{sqrt}
use Rattle.codes.specs.Codes.{decoded}
use Rattle.chip.specs.Status.{status_of}
use Rattle.chip.specs.Commands.{keeps_a, loses_a, changes_a, floats, converts, widens, narrows, roots}
use Rattle.chip.specs.Step.{push_of, pop_of, read_of, reset_of, acknowledge_of, carried, command_under}
use Rattle.state_bytes.specs.Bytes.{is_state}
use Rattle.state_bytes.specs.Calls.{signal_of}
use Rattle.promises.specs.EventRows.{EventRows}

pub event_rows : EventRows
unfolding signal_of is_state push_of pop_of read_of reset_of acknowledge_of carried command_under decoded status_of keeps_a loses_a changes_a floats converts widens narrows
    roots xadd xsub xmul xmuu xdiv xchs add sub mul div fltd flts fix chsf sqrt size
event_rows = refl
