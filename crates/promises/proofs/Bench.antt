-- The bench rows hold: each is computed. Assumes nothing.
use mathlib.Core.Path.{refl}
use lib.Ieee.{size}
use Rattle.fixed.specs.Fixed.{add as xadd, sub as xsub, mul as xmul, div as xdiv}
use Rattle.float.specs.Float.{add, sub, mul, div}
use Rattle.float.specs.Convert.{fltd, flts, fix}
use Rattle.codes.specs.Codes.{decoded}
use Rattle.chip.specs.Status.{status_of}
use Rattle.chip.specs.Commands.{keeps_a, loses_a, floats, converts, widens, narrows}
use Rattle.chip.specs.Step.{push_of, carried, command_under}
use Rattle.promises.specs.Bench.{BenchRows}

pub bench_rows : BenchRows
unfolding push_of command_under carried keeps_a loses_a floats converts widens narrows status_of decoded xadd xsub xmul xdiv add sub mul div fltd flts fix size
bench_rows = refl
