-- `step_text::asked::rule_for` is its definition, by the number of words and the last one. Assumes nothing.
use borrow.Author.Tests.{eq-eqb, ne_eqb}
use Rattle.listing.specs.Options.{nearest_text}
use Rattle.step_text.specs.Asked.{rule_for}
use Rattle.listing.proofs.Texts.{is_same, is_other}
use Rattle.step_text.proofs.asked.rule_for.Goals as goal

pub returns-then-words-eq4 : goal.returns-then-words-eq4
returns-then-words-eq4 c = unfold rule_for in rw (eq-eqb _ _ c.if-words-eq4.true)

pub returns-then-same : goal.returns-then-same
unfolding rule_for
returns-then-same c =
    rw (ne_eqb _ _ c.if-words-eq4.false, eq-eqb _ _ c.if-words-eq5.true, is_same _ nearest_text (c.same.ensures.0 c.if-same.true))

pub returns-else-same : goal.returns-else-same
unfolding rule_for
returns-else-same c =
    rw (
      ne_eqb _ _ c.if-words-eq4.false,
      eq-eqb _ _ c.if-words-eq5.true,
      is_other c.args.option.now nearest_text _
          c.same.ensures.1 c.if-same.false,
    )

pub returns-else-words-eq5 : goal.returns-else-words-eq5
unfolding rule_for
returns-else-words-eq5 c = rw (ne_eqb _ _ c.if-words-eq4.false, ne_eqb _ _ c.if-words-eq5.false)
