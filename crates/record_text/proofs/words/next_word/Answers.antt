-- `record_text::words::next_word` is where a word begins and ends. Assumes nothing.
use Rattle.record_text.proofs.Parting.{found}
use Rattle.record_text.proofs.words.next_word.Goals as goal

pub returns : goal.returns
returns c = found _ _ _ _ c.run_end-from.ensures c.run_end-to.ensures
