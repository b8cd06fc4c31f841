-- `formula::words::hex_word` meets its contract: four pairs of digits. Assumes nothing.
use native.Mathlib.Omega.{arith}
use Rattle.formula.proofs.Digits.{digits_at}
use Rattle.formula.proofs.words.hex_word.Goals as goal

pub pair-requires-3 : goal.pair-requires-3
pair-requires-3 c =
    let s = c.args.s.now in
    (digits_at s 4 c.requires.1 (omega arith), digits_at s 5 c.requires.1 (omega arith))

pub pair-requires-4 : goal.pair-requires-4
pair-requires-4 c =
    let s = c.args.s.now in
    (digits_at s 6 c.requires.1 (omega arith), digits_at s 7 c.requires.1 (omega arith))
