-- `bit_serial::words::Words::muu` meets its contract: the upper half of what the steps lead to, which has room in both halves. Assumes nothing.
use Rattle.bit_serial.proofs.Answers.{few}
use Rattle.bit_serial.proofs.words.Words.muu.Goals as goal

pub upper_bits-requires : goal.upper_bits-requires
upper_bits-requires c =
    let w = c.args.self.are_words in
    let s = c.in-Some.ensures.small in
    (w.some, w.narrow, few _ _ _ _ c.multiplied-p.result w.some s.0 s.1 c.multiplied-p.ensures)
