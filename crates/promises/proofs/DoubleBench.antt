-- The rows and the calls hold: each is computed. Assumes nothing.
use mathlib.Core.Path.{refl}
use lib.Ieee.{size, of_bits, to_bits}
use Rattle.host_floats.specs.Double.{outward_of, inward_of}
use Rattle.host_floats.specs.Buffers.{words_turn, floats_turn}
use Rattle.promises.specs.DoubleBench.{DoublesBench}

pub doubles_bench : DoublesBench
unfolding outward_of inward_of words_turn floats_turn size of_bits to_bits
doubles_bench = record { outward_rows = refl; cut_rows = refl; nearest_rows = refl; call_rows = refl }
