-- `sheets_run` is the book's, for every input: its tests in order, then the run of the file, laid out. Assumes nothing.
use mathlib.Core.Path.{◌≡◌, refl, sym, ap, ◌∙◌}
use mathlib.Core.Bool.{Bool, true, false, cond}
use mathlib.Core.List.{List, ◌++◌}
use Prim.Native.Nat.{ℕ, ◌≤◌}
use lib.Dec.{eqb, leb, ltb}
use lib.ListN.{length, drop}
use borrow.Author.Tests.{leb-true}
use Rattle.stack.specs.Stack.{Bytes as StackBytes}
use Rattle.state_bytes.specs.Bytes.{is_state as storedState, card_in, report_of as storedReport}
use Rattle.state_bytes.proofs.States.{state_sized}
use Rattle.state_bytes.proofs.Cards.{card_ready}
use Rattle.state_bytes.specs.Calls.{settings_of}
use Rattle.sheet_bytes.specs.Ledger as ledger
use Rattle.sheets.specs.Step.{holding, run_of}
use Rattle.sheets.specs.Calls.{call_of, ran_of}
use Rattle.sheet_promises.specs.Runs.{Ran, lengthened, ran}
use Rattle.sheet_promises.specs.SheetsCall.{away, answer_of, SheetsCall}
use Rattle.sheet_promises.proofs.Measures.{bytes_are, state_is, sheets_is}
use Rattle.sheet_promises.proofs.Turns.{seen}
use Rattle.sheet_promises.proofs.Runs.{run_is, lengthened_is, shortened_is, run_card}

-- a call that runs
runs : (mode rule : ℕ) (state sheets input replies : List ℕ) → StackBytes state → StackBytes input → mode ≤ 1 → rule ≤ 1 → storedState state ≡ true
    → ledger.is_sheets sheets ≡ true
    → ran_of (length state) (run_of (holding (card_in (settings_of mode rule) state) sheets) input (length replies)) replies
    ≡ answer_of (length state) (ran mode rule (lengthened state) sheets input (length replies)) replies
runs mode rule state sheets input replies B I m q s g =
    let on = settings_of mode rule in
    let h = holding (card_in on state) sheets in
    let r = card_ready on state B s in
    let o = run_of h input (length replies) in
    let book : ran mode rule (lengthened state) sheets input (length replies) ≡ seen o =
    ap (λ (k : List ℕ). ran mode rule k sheets input (length replies)) (lengthened_is on state s) ∙ run_is mode rule m q h input (length replies) r refl g I in
    ap (λ (k : List ℕ). record {
      result = o.refusal;
      state = k;
      sheets = o.state.sheets;
      replies = o.written
          ++ drop (length o.written) replies;
      report = storedReport o.refusal o.taken (length o.written);
    })
    (sym (shortened_is o.state.card (length state) (run_card h input (length replies) r I).chip.stack.sixteen (state_sized state s)))
    ∙ ap (λ (x : Ran). answer_of (length state) x replies) (sym book)

pub sheets_call_lem : SheetsCall
unfolding call_of
sheets_call_lem mode rule state sheets input replies report B I =
    rw (state_is state, sheets_is sheets)
    (by (eqb (length report) 9) (leb mode 1) (leb rule 1) (storedState state) (ledger.is_sheets sheets) (ltb 12288 (length input)) refl refl refl refl)
  where
    by : (a k q s g n : Bool) → leb mode 1 ≡ k → leb rule 1 ≡ q → storedState state ≡ s → ledger.is_sheets sheets ≡ g
        → cond a (cond k (cond q (cond s (cond g (cond n (away 9 state sheets replies)
        (ran_of (length state) (run_of (holding (card_in (settings_of mode rule) state) sheets) input (length replies)) replies)) (away 13 state sheets replies))
        (away 13 state sheets replies)) (away 17 state sheets replies)) (away 16 state sheets replies))
        (record { result = 14; state = state; sheets = sheets; replies = replies; report = report })
        ≡ cond a (cond k (cond q (cond s (cond g (cond n (away 9 state sheets replies)
        (answer_of (length state) (ran mode rule (lengthened state) sheets input (length replies)) replies)) (away 13 state sheets replies))
        (away 13 state sheets replies)) (away 17 state sheets replies)) (away 16 state sheets replies))
        (record { result = 14; state = state; sheets = sheets; replies = replies; report = report })
    by false k q s g n e f i j = refl
    by true false q s g n e f i j = refl
    by true true false s g n e f i j = refl
    by true true true false g n e f i j = refl
    by true true true true false n e f i j = refl
    by true true true true true true e f i j = refl
    by true true true true true false e f i j = runs mode rule state sheets input replies (bytes_are state B) (bytes_are input I) (leb-true mode 1 e)
        (leb-true rule 1 f) i j
