-- `state_bytes::calls::run` meets its contract: 14, turned away at the door, 9, or run. Assumes nothing.
use mathlib.Core.Path.{◌≡◌, sym, ap, ap₂, ◌∙◌}
use Prim.Native.Nat.{ℕ}
use lib.ListN.{length}
use Rattle.terms.specs.declared.Mode.{Mode}
use Rattle.terms.specs.declared.Rule.{Rule}
use Rattle.terms.specs.Refusal.{number_of}
use Rattle.terms.specs.declared.Refusal.TheVariants.{InputTooLong}
use Rattle.chip.specs.Step.{given}
use Rattle.record_runs.specs.Run.{run_of}
use Rattle.state_bytes.specs.Bytes.{card_in, door_of, report_of}
use Rattle.state_bytes.specs.Calls.{ran_of}
use Rattle.state_bytes.proofs.Calling.{admitted, turned_away_lem, bad_report, call_away, too_long_lem, good}
use Rattle.state_bytes.proofs.calls.run.Goals as goal

pub returns-then-report-ne-REPORT_BYTES : goal.returns-then-report-ne-REPORT_BYTES
returns-then-report-ne-REPORT_BYTES c =
    let a = c.args in
    bad_report a.mode a.rule a.state.now a.input.now a.replies.now a.report.now
    c.if-report-ne-REPORT_BYTES.true _ c.number.ensures.0

pub returns-then-refusal-ne0 : goal.returns-then-refusal-ne0
returns-then-refusal-ne0 c =
    let a = c.args in
    let door : c.number-refusal.result ≡ number_of (door_of a.mode a.rule a.state.now) = c.number-refusal.ensures.0 ∙ ap number_of c.admit.ensures in
    let t = c.turn_away.ensures in
    rw (call_away a.mode a.rule a.state.now a.input.now a.replies.now a.report.now c.if-report-ne-REPORT_BYTES.false
    (λ z. c.if-refusal-ne0.true (door ∙ z)))
    (turned_away_lem (door_of a.mode a.rule a.state.now) _ a.state.now a.replies.now _ (t.0 ∙ door)
    (t.1 ∙ ap (λ (n : ℕ). report_of n 0 0)
    door))

pub returns-then-input-gt-MOST_INPUT : goal.returns-then-input-gt-MOST_INPUT
returns-then-input-gt-MOST_INPUT c =
    let a = c.args in
    let door : c.number-refusal.result ≡ number_of (door_of a.mode a.rule a.state.now) = c.number-refusal.ensures.0 ∙ ap number_of c.admit.ensures in
    let g = admitted a.mode a.rule a.state.now (sym door ∙ c.if-refusal-ne0.false) in
    let t = c.turn_away-then-input-gt-MOST_INPUT.ensures in
    let n = c.number-then-input-gt-MOST_INPUT.ensures.0 in
    rw (too_long_lem a.mode a.rule a.state.now a.input.now a.replies.now a.report.now
    c.if-report-ne-REPORT_BYTES.false g.mode_is
    g.rule_is g.state_is c.if-input-gt-MOST_INPUT.true)
    (turned_away_lem InputTooLong _ a.state.now a.replies.now _ (t.0 ∙ n) (t.1 ∙ ap (λ (x : ℕ). report_of x 0 0) n))

pub run_good-requires : goal.run_good-requires
run_good-requires c =
    let a = c.args in
    let door : c.number-refusal.result ≡ number_of (door_of a.mode a.rule a.state.now) = c.number-refusal.ensures.0 ∙ ap number_of c.admit.ensures in
    let g = admitted a.mode a.rule a.state.now (sym door ∙ c.if-refusal-ne0.false) in
    (g.state_is, c.if-report-ne-REPORT_BYTES.false, c.if-input-gt-MOST_INPUT.false)

pub returns-then-state-eq-STATE_BYTES : goal.returns-then-state-eq-STATE_BYTES
returns-then-state-eq-STATE_BYTES c =
    let a = c.args in
    let door : c.number-refusal.result ≡ number_of (door_of a.mode a.rule a.state.now) = c.number-refusal.ensures.0 ∙ ap number_of c.admit.ensures in
    let g = admitted a.mode a.rule a.state.now (sym door ∙ c.if-refusal-ne0.false) in
    let on =
    good a.mode a.rule a.state.now a.input.now a.replies.now a.report.now c.if-report-ne-REPORT_BYTES.false
    g.mode_is g.rule_is g.state_is c.if-input-gt-MOST_INPUT.false
    ∙ ap₂ (λ (x : Mode) (y : Rule). ran_of (length a.state.now) (run_of (card_in (given x y) a.state.now) a.input.now
    (length a.replies.now)) a.replies.now) (sym c.mode_of-part.ensures) (sym c.rule_of-way.ensures) in
    rw on c.run_good.ensures

pub returns : goal.returns
returns c =
    let a = c.args in
    let door : c.number-refusal.result ≡ number_of (door_of a.mode a.rule a.state.now) = c.number-refusal.ensures.0 ∙ ap number_of c.admit.ensures in
    let g = admitted a.mode a.rule a.state.now (sym door ∙ c.if-refusal-ne0.false) in
    let on =
    good a.mode a.rule a.state.now a.input.now a.replies.now a.report.now c.if-report-ne-REPORT_BYTES.false
    g.mode_is g.rule_is g.state_is c.if-input-gt-MOST_INPUT.false
    ∙ ap₂ (λ (x : Mode) (y : Rule). ran_of (length a.state.now) (run_of (card_in (given x y) a.state.now) a.input.now
    (length a.replies.now)) a.replies.now) (sym c.mode_of-part.ensures) (sym c.rule_of-way.ensures) in
    rw on c.run_good-2.ensures
