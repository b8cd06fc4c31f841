-- `host_floats::words::entry_at` meets its contract: by the case of the answer, whose float is never a NaN. Assumes nothing.
use mathlib.Core.Path.{sym, ◌∙◌}
use Rattle.host_floats.proofs.DoubleOut.{no_nan_out}
use Rattle.host_floats.proofs.words.entry_at.Goals as goal

pub float_to_bits-result : goal.float_to_bits-result
float_to_bits-result c = no_nan_out _ _ (sym c.word_to_f64.ensures ∙ c.in-Float.is)
