-- `sheets::sheets_run` meets its contract: 14, turned away at the door, 13 for the sheets, 9, or run. Assumes nothing.
use mathlib.Core.Path.{◌≡◌, sym, ap, ap₂, ◌∙◌}
use mathlib.Core.Bool.{true}
use mathlib.Core.List.{List}
use Prim.Native.Nat.{ℕ, ◌≤◌}
use lib.ListN.{length}
use Rattle.terms.specs.declared.Mode.{Mode}
use Rattle.terms.specs.declared.Rule.{Rule}
use Rattle.terms.specs.declared.Refusal.TheVariants.{BadState, InputTooLong}
use Rattle.terms.specs.Refusal.{number_of}
use Rattle.terms.specs.Limits.{report_bytes, most_input}
use Rattle.terms.specs.Settings.{mode_of, rule_of}
use Rattle.chip.specs.Step.{given}
use Rattle.state_bytes.specs.Bytes.{card_in, door_of, report_of}
use Rattle.state_bytes.proofs.Calling.{Admitted, admitted}
use Rattle.sheet_bytes.specs.Ledger.{is_sheets}
use Rattle.sheet_bytes.proofs.Ledgers.{is_long}
use Rattle.sheets.specs.Step.{holding, run_of}
use Rattle.sheets.specs.Calls.{call_of, ran_of}
use Rattle.sheets.proofs.Calling.{turned_away_lem, bad_report, call_away, bad_sheets, too_long_lem, good}
use Rattle.sheets.proofs.sheets_run.Goals as goal

-- past every test, the call is a run under the mode and the rule that the numbers name
goes_on : (mode rule : ℕ) (state sheets input replies report : List ℕ) {part : Mode} {way : Rule} → Admitted mode rule state → length report ≡ report_bytes
    → is_sheets sheets ≡ true → length input ≤ most_input → part ≡ mode_of mode → way ≡ rule_of rule
    → call_of mode rule state sheets input replies report
    ≡ ran_of (length state) (run_of (holding (card_in (given part way) state) sheets) input (length replies)) replies
goes_on mode rule state sheets input replies report g long are few e f =
    good mode rule state sheets input replies report long g.mode_is g.rule_is g.state_is are few
    ∙ ap₂ (λ (x : Mode) (y : Rule). ran_of (length state) (run_of (holding (card_in (given x y) state) sheets) input (length replies)) replies) (sym e) (sym f)

pub returns-then-report-ne-REPORT_BYTES : goal.returns-then-report-ne-REPORT_BYTES
returns-then-report-ne-REPORT_BYTES c = let a = c.args in bad_report a.mode a.rule a.state.now a.sheets.now
    a.input.now a.replies.now a.report.now c.if-report-ne-REPORT_BYTES.true _ c.number.ensures.0

pub returns-then-refusal-ne0 : goal.returns-then-refusal-ne0
returns-then-refusal-ne0 c =
    let a = c.args in
    let door : c.number-refusal.result ≡ number_of (door_of a.mode a.rule a.state.now) = c.number-refusal.ensures.0 ∙ ap number_of c.admit.ensures in
    let t = c.turn_away.ensures in
    rw (call_away a.mode a.rule a.state.now a.sheets.now a.input.now a.replies.now a.report.now c.if-report-ne-REPORT_BYTES.false
    (λ z. c.if-refusal-ne0.true (door ∙ z)))
    (turned_away_lem (door_of a.mode a.rule a.state.now) _ a.state.now a.sheets.now a.replies.now _ (t.0 ∙ door)
    (t.1 ∙ ap (λ (n : ℕ). report_of n 0 0) door))

pub returns-then-not-is_sheets : goal.returns-then-not-is_sheets
returns-then-not-is_sheets c =
    let a = c.args in
    let door : c.number-refusal.result ≡ number_of (door_of a.mode a.rule a.state.now) = c.number-refusal.ensures.0 ∙ ap number_of c.admit.ensures in
    let g = admitted a.mode a.rule a.state.now (sym door ∙ c.if-refusal-ne0.false) in
    let t = c.turn_away-then-not-is_sheets.ensures in
    let n = c.number-then-not-is_sheets.ensures.0 in
    rw (bad_sheets a.mode a.rule a.state.now a.sheets.now a.input.now a.replies.now a.report.now c.if-report-ne-REPORT_BYTES.false g.mode_is g.rule_is
    g.state_is (sym c.is_sheets.ensures ∙ c.if-not-is_sheets.true))
    (turned_away_lem BadState _ a.state.now a.sheets.now a.replies.now _ (t.0 ∙ n) (t.1 ∙ ap (λ (x : ℕ). report_of x 0 0) n))

pub returns-then-input-gt-MOST_INPUT : goal.returns-then-input-gt-MOST_INPUT
returns-then-input-gt-MOST_INPUT c =
    let a = c.args in
    let door : c.number-refusal.result ≡ number_of (door_of a.mode a.rule a.state.now) = c.number-refusal.ensures.0 ∙ ap number_of c.admit.ensures in
    let g = admitted a.mode a.rule a.state.now (sym door ∙ c.if-refusal-ne0.false) in
    let t = c.turn_away-then-input-gt-MOST_INPUT.ensures in
    let n = c.number-then-input-gt-MOST_INPUT.ensures.0 in
    rw (too_long_lem a.mode a.rule a.state.now a.sheets.now a.input.now a.replies.now a.report.now c.if-report-ne-REPORT_BYTES.false g.mode_is g.rule_is
    g.state_is (sym c.is_sheets.ensures ∙ c.if-not-is_sheets.false) c.if-input-gt-MOST_INPUT.true)
    (turned_away_lem InputTooLong _ a.state.now a.sheets.now a.replies.now _ (t.0 ∙ n) (t.1 ∙ ap (λ (x : ℕ). report_of x 0 0) n))

pub run_good-requires : goal.run_good-requires
run_good-requires c =
    let a = c.args in
    let door : c.number-refusal.result ≡ number_of (door_of a.mode a.rule a.state.now) = c.number-refusal.ensures.0 ∙ ap number_of c.admit.ensures in
    let g = admitted a.mode a.rule a.state.now (sym door ∙ c.if-refusal-ne0.false) in
    let are : is_sheets a.sheets.now ≡ true = sym c.is_sheets.ensures ∙ c.if-not-is_sheets.false in
    (g.state_is, is_long a.sheets.now are, c.if-report-ne-REPORT_BYTES.false, c.if-input-gt-MOST_INPUT.false)

pub returns-then-state-eq-STATE_BYTES : goal.returns-then-state-eq-STATE_BYTES
returns-then-state-eq-STATE_BYTES c =
    let a = c.args in
    let door : c.number-refusal.result ≡ number_of (door_of a.mode a.rule a.state.now) = c.number-refusal.ensures.0 ∙ ap number_of c.admit.ensures in
    let g = admitted a.mode a.rule a.state.now (sym door ∙ c.if-refusal-ne0.false) in
    let are : is_sheets a.sheets.now ≡ true = sym c.is_sheets.ensures ∙ c.if-not-is_sheets.false in
    rw (goes_on a.mode a.rule a.state.now a.sheets.now a.input.now a.replies.now a.report.now g c.if-report-ne-REPORT_BYTES.false are
    c.if-input-gt-MOST_INPUT.false c.mode_of-part.ensures c.rule_of-way.ensures)
    c.run_good.ensures

pub run_good-requires-2 : goal.run_good-requires-2
run_good-requires-2 c =
    let a = c.args in
    let door : c.number-refusal.result ≡ number_of (door_of a.mode a.rule a.state.now) = c.number-refusal.ensures.0 ∙ ap number_of c.admit.ensures in
    let g = admitted a.mode a.rule a.state.now (sym door ∙ c.if-refusal-ne0.false) in
    let are : is_sheets a.sheets.now ≡ true = sym c.is_sheets.ensures ∙ c.if-not-is_sheets.false in
    (g.state_is, is_long a.sheets.now are, c.if-report-ne-REPORT_BYTES.false, c.if-input-gt-MOST_INPUT.false)

pub returns : goal.returns
returns c =
    let a = c.args in
    let door : c.number-refusal.result ≡ number_of (door_of a.mode a.rule a.state.now) = c.number-refusal.ensures.0 ∙ ap number_of c.admit.ensures in
    let g = admitted a.mode a.rule a.state.now (sym door ∙ c.if-refusal-ne0.false) in
    let are : is_sheets a.sheets.now ≡ true = sym c.is_sheets.ensures ∙ c.if-not-is_sheets.false in
    rw (goes_on a.mode a.rule a.state.now a.sheets.now a.input.now a.replies.now a.report.now g c.if-report-ne-REPORT_BYTES.false are
    c.if-input-gt-MOST_INPUT.false c.mode_of-part.ensures c.rule_of-way.ensures)
    c.run_good-2.ensures
