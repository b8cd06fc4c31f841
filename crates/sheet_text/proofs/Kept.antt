-- The run that the program makes leaves 1,303 bytes with at most 64 closed sheets. Assumes nothing.
use mathlib.Core.Path.{◌≡◌, refl, sym, subst, ◌∙◌}
use mathlib.Core.Bool.{true}
use mathlib.Core.List.{List}
use Prim.Native.Nat.{ℕ, ◌≤◌}
use lib.Dec.{lit≤}
use lib.ListN.{length, replicate, length-replicate}
use Rattle.terms.specs.Limits.{most_input}
use Rattle.record_files.proofs.Tests.{either_lt}
use Rattle.state_bytes.specs.Bytes.{is_state}
use Rattle.sheet_bytes.specs.Ledger.{sheets_bytes, most_sheets, is_sheets, closed_in}
use Rattle.sheet_bytes.proofs.Ledgers.{is_long}
use Rattle.sheets.specs.Step.{Held, run_of}
use Rattle.sheets.specs.Calls.{Called}
use Rattle.sheets.proofs.Growth.{run_grows}
use Rattle.sheets.proofs.Calling.{bad_mode, bad_rule, too_long_lem, good}
use Rattle.sheet_text.specs.Printout.{call_under}

-- bytes that the lines can be read of
abbrev pub Fair : List ℕ → Type 0
Fair l = (length l ≡ sheets_bytes) × (closed_in l ≤ most_sheets)

run_fair : (h : Held) (l : List ℕ) (room : ℕ) → is_sheets h.sheets ≡ true → Fair (run_of h l room).state.sheets
run_fair h l room e = let g = run_grows h l room e in (g.same_length ∙ is_long h.sheets e, g.no_more)

state_good : is_state (replicate 19 0) ≡ true
unfolding is_state
state_good = refl

none_good : is_sheets (replicate 1303 0) ≡ true
unfolding is_sheets
none_good = refl

pub none_fair : Fair (replicate 1303 0)
none_fair = (length-replicate {A = ℕ} 1303 0, lit≤ tt)

-- under any mode and rule: where the run is turned away the bytes stay as they were
module _ (mode rule : ℕ) (input : List ℕ) where
  abbrev state : List ℕ
  state = replicate 19 0

  abbrev none : List ℕ
  none = replicate 1303 0

  abbrev replies : List ℕ
  replies = replicate 65536 0

  abbrev report : List ℕ
  report = replicate 9 0

  left : (c : Called) → call_under mode rule input ≡ c → Fair c.sheets → Fair (call_under mode rule input).sheets
  left c e f = subst (λ (x : Called). Fair x.sheets) (sym e) f

  taken : mode ≤ 1 → rule ≤ 1 → Fair (call_under mode rule input).sheets
  taken m r =
      either_lt (λ (n : ℕ). Fair (call_under mode rule input).sheets) most_input (length input) 0 0
      (λ g. left _ (too_long_lem mode rule state none input replies report refl m r state_good none_good g) none_fair)
      (λ g. left _ (good mode rule state none input replies report refl m r state_good none_good g) (run_fair _ input _ none_good))

  pub call_fair : Fair (call_under mode rule input).sheets
  call_fair =
      either_lt (λ (n : ℕ). Fair (call_under mode rule input).sheets) 1 mode 0 0
      (λ m. left _ (bad_mode mode rule state none input replies report refl m) none_fair)
      (λ m. either_lt (λ (n : ℕ). Fair (call_under mode rule input).sheets) 1 rule 0 0
      (λ r. left _ (bad_rule mode rule state none input replies report refl m r) none_fair)
      (λ r. taken m r))
