-- `host_floats::entry::word_at` meets its contract: 846 is 2 below a multiple of 128, less the 80 of a word's place. Assumes nothing.
use Rattle.host_floats.specs.Double.{double_sign}
use Rattle.host_floats.proofs.Places.{packed_at}
use Rattle.host_floats.proofs.entry.word_at.Goals as goal

pub returns : goal.returns
returns c =
    let a = c.args in
    packed_at (double_sign a.bits) a.place _ c.requires.0 c.word_sign.ensures.0
