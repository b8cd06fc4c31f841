-- The ways through the exported run: by its tests, which case of the definition holds. Assumes nothing.
use mathlib.Core.Path.{◌≡◌, refl, ap, ◌∙◌}
use mathlib.Core.Bool.{true, false}
use mathlib.Core.List.{List}
use Prim.Native.Nat.{ℕ, ◌≤◌, ◌<◌, zero-le}
use lib.ListN.{length}
use borrow.Author.Tests.{lt-ltb, le-ltb, lt-leb, le-leb, eq-eqb, ne_eqb}
use Rattle.terms.specs.declared.Refusal.{Refusal}
use Rattle.terms.specs.declared.Refusal.TheVariants.{InputTooLong, BadState, BadMode, BadRule}
use Rattle.terms.specs.Refusal.{number_of}
use Rattle.terms.specs.Limits.{report_bytes, most_input}
use Rattle.terms.specs.declared.Settings.{Settings}
use Rattle.terms.specs.Settings.{is_mode, is_rule, mode_of, rule_of}
use Rattle.chip.specs.Step.{given}
use Rattle.error_memory.specs.Held.{card_under}
use Rattle.record_files.specs.Run.{Outcome}
use Rattle.record_files.proofs.Through.{through}
use Rattle.record_runs.specs.Held.{Work, Passed}
use Rattle.record_runs.proofs.Looping.{counts}
use Rattle.sheets.proofs.Lines.{lawful}
use Rattle.state_bytes.specs.Bytes.{is_state, card_in, laid_out, door_of, report_of}
use Rattle.state_bytes.proofs.Calling.{shut}
use Rattle.sheet_bytes.specs.Ledger.{is_sheets}
use Rattle.sheets.specs.Step.{Held, holding, run_of}
use Rattle.sheets.specs.Held.{beside}
use Rattle.sheets.specs.Calls.{Calls, call_of, ran_of, away}

-- a run ends with 0, or with 5 to 8
pub run_small : (h : Held) (l : List ℕ) (room : ℕ) → (run_of h l room).refusal ≤ 8
run_small = through lawful (λ h l room o. o.refusal ≤ 8) (λ h room. zero-le) (λ h l room p z. (lawful.stops h l room z).0.1) (λ h l room p z more. more)

-- a run of the code, with its state and report laid out
pub called : (size : ℕ) {on : Settings} {o : Outcome Held} {w : Work} (sheets : List ℕ) {n : ℕ} {state report : List ℕ} → Passed (beside on sheets) o w
    → w.place.taken ≡ 0 → w.place.written ≡ 0 → n ≡ w.pass.refusal → state ≡ laid_out size (card_under on w.pass.card)
    → report ≡ report_of w.pass.refusal w.pass.place.taken w.pass.place.written
    → Calls (ran_of size o w.room) n state sheets w.left report
called size sheets r t w e a b = let at = counts r t w in record {
  result_is = e ∙ r.refusal_is;
  state_is = a ∙ ap (λ (h : Held). laid_out size h.card) r.state_is;
  sheets_is = ap (λ (h : Held). h.sheets) r.state_is;
  replies_is = r.left_is;
  report_is = b ∙ rw (r.refusal_is, at.0, at.1);
}

-- a call that is turned away
pub turned_away_lem : (r : Refusal) (n : ℕ) (state sheets replies report : List ℕ) → n ≡ number_of r → report ≡ report_of (number_of r) 0 0
    → Calls (away r state sheets replies) n state sheets replies report
turned_away_lem r n state sheets replies report e h = record { result_is = e; state_is = refl; sheets_is = refl; replies_is = refl; report_is = h }

module _ (mode rule : ℕ) (state sheets input replies report : List ℕ) where
  pub bad_report : (length report ≡ report_bytes → ⊥) → (n : ℕ) → n ≡ 14 → Calls (call_of mode rule state sheets input replies report) n state sheets replies
      report
  unfolding call_of
  bad_report a n e = rw (ne_eqb (length report) report_bytes a) record { result_is = e; state_is = refl; sheets_is = refl; replies_is = refl; report_is = refl }

  module _ (a : length report ≡ report_bytes) where
    pub call_away : (number_of (door_of mode rule state) ≡ 0 → ⊥) → call_of mode rule state sheets input replies report ≡ away (door_of mode rule state) state
        sheets replies
    unfolding call_of
    call_away h = rw (eq-eqb (length report) report_bytes a) (shut (λ r. away r state sheets replies) _ (is_mode mode) (is_rule rule) (is_state state) h)

    pub bad_mode : 1 < mode → call_of mode rule state sheets input replies report ≡ away BadMode state sheets replies
    unfolding call_of
    bad_mode k = rw (eq-eqb (length report) report_bytes a, lt-leb mode 1 k)

    pub bad_rule : mode ≤ 1 → 1 < rule → call_of mode rule state sheets input replies report ≡ away BadRule state sheets replies
    unfolding call_of
    bad_rule k q = rw (eq-eqb (length report) report_bytes a, le-leb mode 1 k, lt-leb rule 1 q)

    module _ (k : mode ≤ 1) (q : rule ≤ 1) where
      pub bad_state_lem : is_state state ≡ false → call_of mode rule state sheets input replies report ≡ away BadState state sheets replies
      unfolding call_of
      bad_state_lem b = rw (eq-eqb (length report) report_bytes a, le-leb mode 1 k, le-leb rule 1 q, b)

      pub bad_sheets : is_state state ≡ true → is_sheets sheets ≡ false → call_of mode rule state sheets input replies report ≡ away BadState state sheets replies
      unfolding call_of
      bad_sheets b d = rw (eq-eqb (length report) report_bytes a, le-leb mode 1 k, le-leb rule 1 q, b, d)

      pub too_long_lem : is_state state ≡ true → is_sheets sheets ≡ true → most_input < length input → call_of mode rule state sheets input replies report
          ≡ away InputTooLong state sheets replies
      unfolding call_of
      too_long_lem b d e = rw (eq-eqb (length report) report_bytes a, le-leb mode 1 k, le-leb rule 1 q, b, d, lt-ltb most_input (length input) e)

      pub good : is_state state ≡ true → is_sheets sheets ≡ true → length input ≤ most_input
          → call_of mode rule state sheets input replies report ≡ ran_of (length state) (run_of (holding (card_in (given (mode_of mode) (rule_of rule)) state) sheets)
          input (length replies)) replies
      unfolding call_of
      good b d e = rw (eq-eqb (length report) report_bytes a, le-leb mode 1 k, le-leb rule 1 q, b, d, le-ltb most_input (length input) e)
