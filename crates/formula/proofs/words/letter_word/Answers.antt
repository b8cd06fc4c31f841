-- `formula::words::letter_word` meets its contract: four bytes from the letter's place on. Assumes nothing.
use mathlib.Core.Path.{◌∙◌}
use Rattle.formula.proofs.Digits.{four_bytes_lem}
use Rattle.formula.proofs.words.letter_word.Goals as goal

pub returns : goal.returns
returns c =
    c.word.ensures ∙ four_bytes_lem c.args.letters.now c.args.k c.requires.0 c.requires.1
