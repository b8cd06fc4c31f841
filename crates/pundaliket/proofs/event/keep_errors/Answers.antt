-- `pundaliket::event::keep_errors` meets its contract: what a command that is done leaves, else the memory as it is. Assumes nothing.
use mathlib.Core.Path.{sym, ◌∙◌}
use borrow.Author.Tests.{ne_eqb}
use Rattle.terms.specs.Refusal.{number_of}
use Rattle.pundaliket.proofs.Events.{unchanged_memory}
use Rattle.pundaliket.proofs.event.keep_errors.Goals as goal

pub returns-else-number-eq0 : goal.returns-else-number-eq0
returns-else-number-eq0 c =
    let a = c.args in
    rw (ne_eqb (number_of a.a.refusal) 0 (λ z. c.if-number-eq0.false (c.number.ensures.0 ∙ z))) (sym (unchanged_memory a.state.now c.requires))
