-- `host_floats::entry::judge` meets its contract: its test is the definition's. Assumes nothing.
use lib.Ieee.{binary64}
use Rattle.host_floats.proofs.Patterns.{no_nan}
use Rattle.host_floats.proofs.entry.judge.Goals as goal

pub float_from_bits-result : goal.float_from_bits-result
float_from_bits-result c = no_nan binary64 _ c.requires.1
