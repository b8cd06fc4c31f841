-- The rows of the nearest rule, and those of the cut beside them, hold: each is computed. Assumes nothing.
use mathlib.Core.Path.{refl}
use lib.Ieee.{size}
use Rattle.float.specs.Float.{add, sub, mul, div}
use Rattle.float.specs.Convert.{fltd, flts, fix}
use Rattle.float.specs.Root.{sqrt}
use Rattle.codes.specs.Codes.{decoded}
use Rattle.chip.specs.Status.{status_of}
use Rattle.chip.specs.Commands.{floats, converts, widens, narrows, roots}
use Rattle.chip.specs.Step.{push_of, carried, command_under}
use Rattle.promises.specs.NearBench.{NearBench}

pub near_bench : NearBench
unfolding push_of command_under carried floats converts widens narrows roots status_of decoded add sub mul div fltd flts fix sqrt size
near_bench = record { nearest_rows = refl; cut_rows = refl }
