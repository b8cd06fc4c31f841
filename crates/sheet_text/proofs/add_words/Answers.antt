-- `sheet_text::add_words` adds one word after the other. Assumes nothing.
use Rattle.listing.proofs.Adding.{both}
use Rattle.sheet_text.proofs.add_words.Goals as goal

pub returns : goal.returns
returns c =
    both c.add_word-a.ensures (both c.add_word-b.ensures (both c.add_word-c.ensures c.add_word.ensures))
