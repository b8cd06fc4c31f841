-- `bit_serial::floats::fmul` meets its contract: refused, or the steps' product cut at its place. Assumes nothing.
use Rattle.std.proofs.Common.{ap₂}
use lib.Ieee.{unlike}
use Rattle.bit_serial.proofs.Answers.{fmul_rest}
use Rattle.bit_serial.proofs.floats.fmul.Goals as goal

pub returns : goal.returns
returns c =
    fmul_rest _ _ _ _ _ _ _ _ c.in_ok-x.ensures.mantissas (ap₂ unlike c.is_negative.ensures c.is_negative-2.ensures) c.biased_of.ensures.0
    c.biased_of-2.ensures.0 c.multiplied-p.result c.cut_word-r.result c.multiplied-p.ensures c.cut_word-r.ensures
