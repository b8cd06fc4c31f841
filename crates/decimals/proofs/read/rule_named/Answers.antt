-- `decimals::read::rule_named` is its definition, by the word that it was given. Assumes nothing.
use Rattle.listing.specs.Options.{nearest_word}
use Rattle.listing.proofs.Texts.{is_same, is_other}
use Rattle.decimals.proofs.read.rule_named.Goals as goal

pub returns-then-same : goal.returns-then-same
returns-then-same c = rw (is_same _ nearest_word (c.same.ensures.0 c.if-same.true))

pub returns : goal.returns
returns c =
    let word = c.args.word.now in
    rw (is_other word nearest_word _ c.same.ensures.1 c.if-same.false)
