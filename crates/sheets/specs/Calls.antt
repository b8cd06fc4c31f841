-- What the exported run returns and leaves in each slice that it was lent. Definitions only. Assumes nothing.
use Rattle.std.specs.Prelude.{ℕ, ◌≡◌, cond, List, ◌++◌, eqb, ltb, length, drop}
use Rattle.terms.specs.declared.Refusal.{Refusal}
use Rattle.terms.specs.declared.Refusal.TheVariants.{InputTooLong, BadState, BadReport, BadMode, BadRule}
use Rattle.terms.specs.Refusal.{number_of}
use Rattle.terms.specs.Limits.{report_bytes, most_input}
use Rattle.terms.specs.declared.Settings.{Settings}
use Rattle.terms.specs.Settings.{is_mode, mode_of, is_rule, rule_of}
use Rattle.chip.specs.Step.{given}
use Rattle.record_files.specs.Run.{Outcome}
use Rattle.state_bytes.specs.Bytes.{is_state, card_in, laid_out, report_of}
use Rattle.sheet_bytes.specs.Ledger.{is_sheets}
use Rattle.sheets.specs.Step.{Held, holding, run_of}

-- what the call returns, and what each slice holds after
pub record Called : Type 0 where
  pub result : ℕ
  pub state : List ℕ
  pub sheets : List ℕ
  pub replies : List ℕ
  pub report : List ℕ

-- after a run on a state of so many bytes: replies past the written ones stay
abbrev pub ran_of : ℕ → Outcome Held → List ℕ → Called
ran_of n o replies = record {
  result = o.refusal;
  state = laid_out n o.state.card;
  sheets = o.state.sheets;
  replies = o.written ++ drop (length o.written) replies;
  report = report_of o.refusal o.taken (length o.written);
}

-- turned away: only the report is written, both counts 0
abbrev pub away : Refusal → List ℕ → List ℕ → List ℕ → Called
away r state sheets replies = record { result = number_of r; state = state; sheets = sheets; replies = replies; report = report_of (number_of r) 0 0 }

-- under settings: 13 for the core's state, 13 for the sheets, 9
abbrev pub call_under : Settings → List ℕ → List ℕ → List ℕ → List ℕ → Called
call_under on state sheets input replies =
    cond (is_state state)
    (cond (is_sheets sheets)
    (cond (ltb most_input (length input)) (away InputTooLong state sheets replies)
    (ran_of (length state) (run_of (holding (card_in on state) sheets) input (length replies)) replies))
    (away BadState state sheets replies))
    (away BadState state sheets replies)

-- the order is 14, 16, 17, 13, 9; 14 writes nothing
unfoldable pub call_of : ℕ → ℕ → List ℕ → List ℕ → List ℕ → List ℕ → List ℕ → Called
call_of mode rule state sheets input replies report =
    cond (eqb (length report) report_bytes)
    (cond (is_mode mode)
    (cond (is_rule rule) (call_under (given (mode_of mode) (rule_of rule)) state sheets input replies) (away BadRule state sheets replies))
    (away BadMode state sheets replies))
    (record { result = number_of BadReport; state = state; sheets = sheets; replies = replies; report = report })

-- what a call did beside the definition's
pub record Calls (c : Called) (result : ℕ) (state sheets replies report : List ℕ) : Type 0 where
  pub result_is : result ≡ c.result
  pub state_is : state ≡ c.state
  pub sheets_is : sheets ≡ c.sheets
  pub replies_is : replies ≡ c.replies
  pub report_is : report ≡ c.report
