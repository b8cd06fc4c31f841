-- `host_floats::reply_to_word` meets its contract: by the case of the answer, whose float is never a NaN. Assumes nothing.
use mathlib.Core.Path.{sym, ◌∙◌}
use Rattle.host_floats.proofs.Outward.{plain}
use Rattle.host_floats.proofs.reply_to_word.Goals as goal

pub float_to_bits-result : goal.float_to_bits-result
float_to_bits-result c = plain _ _ (sym c.word_to_f32.ensures ∙ c.in-Float.is)
