-- `decimals::line::tell` is its definition, by the word of the text. Assumes nothing.
use mathlib.Core.Path.{ap, ◌∙◌}
use Rattle.decimals.specs.Line.{read_line}
use Rattle.decimals.proofs.Lines.{line_is}
use Rattle.decimals.proofs.line.tell.Goals as goal

pub returns-in-Number-clause-out_after : goal.returns-in-Number-clause-out_after
returns-in-Number-clause-out_after c =
    let a = c.args in
    c.add_word_line.ensures.reads ∙ line_is a.rule a.exact a.text.now _ c.in-Number.ensures

pub returns-in-Nothing-clause-out_after : goal.returns-in-Nothing-clause-out_after
returns-in-Nothing-clause-out_after c =
    let a = c.args in
    c.add_read_line.ensures.reads ∙ ap (read_line a.rule a.text.now) c.reading_in-reading.ensures.0
    ∙ line_is a.rule a.exact a.text.now _ c.in-Nothing.ensures
