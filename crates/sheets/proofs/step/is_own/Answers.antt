-- `sheets::step::is_own` meets its contract: the kind, then the frame. Assumes nothing.
use mathlib.Core.Path.{sym, ◌∙◌}
use native.Mathlib.Omega.{arith}
use Rattle.sheets.proofs.Lines.{not_own}
use Rattle.sheets.proofs.Turning.{own_frame}
use Rattle.sheets.proofs.step.is_own.Goals as goal

pub returns-then-place : goal.returns-then-place
returns-then-place c = sym (not_own c.args.rest.now (λ o. omega (arith, c.requires.0, o.in_range, o.there)))

pub returns-then-kind-lt-OPEN_KIND : goal.returns-then-kind-lt-OPEN_KIND
returns-then-kind-lt-OPEN_KIND c = sym (not_own c.args.rest.now (λ o. omega (arith, o.least)))

pub returns-then-kind-gt-CLOSE_KIND : goal.returns-then-kind-gt-CLOSE_KIND
returns-then-kind-gt-CLOSE_KIND c = let e = c
    in sym (not_own e.args.rest.now (λ o. omega (arith, o.most)))

pub returns-in-Ok : goal.returns-in-Ok
returns-in-Ok c =
    own_frame c.args.rest.now (omega arith) (omega arith) (sym c.read_frame.ensures ∙ c.in-Ok.is)

pub returns-in-Err : goal.returns-in-Err
returns-in-Err c =
    own_frame c.args.rest.now (omega arith) (omega arith) (sym c.read_frame.ensures ∙ c.in-Err.is)
