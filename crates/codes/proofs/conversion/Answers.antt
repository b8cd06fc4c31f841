-- `codes::conversion` meets its contract: its test is the bit's. Assumes nothing.
use mathlib.Core.Path.{ap, ◌∙◌}
use borrow.Author.Tests.{eq-eqb, ne_eqb}
use Rattle.terms.specs.declared.Width.{Width}
use Rattle.codes.specs.Command.{Fix, Flt}
use Rattle.codes.specs.Command.{Known}
use Rattle.codes.proofs.Bits.{conversion_is}
use Rattle.codes.proofs.conversion.Goals as goal

pub returns-then-low-eq1 : goal.returns-then-low-eq1
returns-then-low-eq1 c =
    ap (λ (w : Width). Known (Fix w)) c.width_of-width.ensures ∙ rw (← conversion_is c.args.low c.requires, eq-eqb _ _ c.if-low-eq1.true)

pub returns-else-low-eq1 : goal.returns-else-low-eq1
returns-else-low-eq1 c =
    ap (λ (w : Width). Known (Flt w)) c.width_of-width.ensures ∙ rw (← conversion_is c.args.low c.requires, ne_eqb _ _ c.if-low-eq1.false)
