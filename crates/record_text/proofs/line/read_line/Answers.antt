-- `record_text::line::read_line` goes by the name that the first word is. Assumes nothing.
use mathlib.Core.Path.{◌∙◌}
use Rattle.record_text.proofs.Taking.{no_word, a_word, empty_line, command_line, kind_line_lem}
use Rattle.record_text.proofs.line.read_line.Goals as goal

pub returns-then-from-to : goal.returns-then-from-to
returns-then-from-to c =
    let w = c.next_word-s in
    let a = c.args in
    (empty_line a.rule a.line.now (no_word a.line.now 0 w.result w.ensures c.if-from-to.true), tt)

pub returns-then-place-lt-CODES : goal.returns-then-place-lt-CODES
returns-then-place-lt-CODES c =
    let w = c.next_word-s in
    let a = c.args in
    let r = c.read_named.ensures in
    let first = a_word a.line.now 0 w.result w.ensures c.if-from-to.false in
    let named = c.named-place in
    (r.0 ∙ command_line a.rule a.line.now _ _ named.result first named.ensures.0 c.if-place-lt-CODES.true, r.1)

pub returns : goal.returns
returns c =
    let w = c.next_word-s in
    let a = c.args in
    let r = c.read_kind.ensures in
    let first = a_word a.line.now 0 w.result w.ensures c.if-from-to.false in
    let named = c.named-place in (
      r.0 ∙ kind_line_lem a.rule a.line.now _ _ named.result first named.ensures.0 c.if-place-lt-CODES.false _ _ c.form_of.ensures
          c.number_of.ensures,
      r.1,
    )
