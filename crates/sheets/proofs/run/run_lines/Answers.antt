-- `sheets::run::run_lines` meets its contract: after each record the run stands where the definition's does. Assumes nothing.
use mathlib.Core.Path.{refl, sym, subst, ◌∙◌}
use Prim.Native.Nat.{◌<◌}
use Rattle.stack.proofs.TwoWords.{is_stack}
use Rattle.chip.specs.Held.{state_in}
use Rattle.chip.proofs.Ready.{Ready}
use Rattle.record_runs.proofs.Looping.{starts, stops, less, goes_on, ends}
use Rattle.sheets.specs.Step.{Held}
use Rattle.sheets.proofs.Lines.{lawful}
use Rattle.sheets.proofs.Turning.{calm_line}
use Rattle.sheets.proofs.run.run_lines.Goals as goal

pub loop-place-init : goal.loop-place-init
loop-place-init c = let h = c.requires in (h.1, h.0, (_, starts lawful refl c.begin-place.ensures))

pub returns-then-refusal-ne0 : goal.returns-then-refusal-ne0
returns-then-refusal-ne0 c =
    stops lawful c.loop-place.invariant.2.1 c.requires.2 c.loop-place-test.true c.pass_line-t.ensures c.if-refusal-ne0.true _ (λ e. sym e)

pub loop-place-smaller : goal.loop-place-smaller
loop-place-smaller c =
    less lawful c.loop-place.invariant.2.1 c.requires.2 c.loop-place-test.true c.pass_line-t.ensures c.if-refusal-ne0.false

pub loop-place-preserved : goal.loop-place-preserved
loop-place-preserved c =
    let l = c.loop-place in
    let s = l.card.chip.stack in
    let ready : Ready (state_in l.card.chip) = record { stack = is_stack s.top s.rest; ready = l.invariant.1 } in (
      c.pass_line-t.auto.sheets ∙ l.invariant.0,
      subst (λ (h : Held). h.card.chip.status < 128) (sym c.pass_line-t.ensures.state_is) (calm_line _ _ _ ready),
      (_, goes_on lawful l.invariant.2.1 c.requires.2 c.loop-place-test.true c.pass_line-t.ensures c.if-refusal-ne0.false),
    )

pub returns : goal.returns
returns c = ends lawful c.loop-place.invariant.2.1 c.loop-place-test.false refl
