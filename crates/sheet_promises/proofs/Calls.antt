-- 02, ask 11, through the exported call: the way through its definition, and what a run wrote read back through the report. Assumes nothing.
use mathlib.Core.Path.{◌≡◌, refl, sym, ap, subst, ◌∙◌}
use mathlib.Core.Bool.{Bool, true, false, cond}
use mathlib.Core.List.{List, [], ◌∷◌, ◌++◌}
use Prim.Native.Nat.{ℕ, zero, suc, ◌+◌, ◌-◌, ◌≤◌, ◌<◌, zero-le}
use native.Mathlib.Omega.{arith}
use native.Mathlib.Nat.{le_refl}
use lib.Dec.{leb}
use lib.ListN.{length, get_or, take, drop, length-append, length-drop}
use lib.Seq.{take-append_seam, drop-append_seam, length-take-le, get_or-drop}
use borrow.Author.Tests.{ne_eqb, leb-true}
use Rattle.terms.specs.Settings.{mode_of, rule_of}
use Rattle.chip.specs.Step.{given}
use Rattle.numbers.specs.Little.{word_at}
use Rattle.stack.proofs.Words.{bytes_take}
use Rattle.record_files.proofs.Tests.{either_lt, either_eq}
use Rattle.record_files.proofs.Through.{tally}
use Rattle.error_memory.specs.Memory.{Card}
use Rattle.record_runs.specs.Run.{run_of as coreRun}
use Rattle.record_runs.proofs.Prefix.{lawful as core-lawful}
use Rattle.state_bytes.specs.Bytes.{is_state as storedState, card_in, laid_out, report_of as storedReport}
use Rattle.state_bytes.proofs.Calling.{good as core-good}
use Rattle.sheet_bytes.specs.Ledger as ledger
use Rattle.sheets.specs.Step.{Held, holding, run_of}
use Rattle.sheets.specs.Calls.{Called, call_of, ran_of}
use Rattle.sheets.specs.Growth.{Grown as Grows}
use Rattle.sheets.proofs.Lines.{lawful}
use Rattle.sheets.proofs.Growth.{good as stands, same, run_grows}
use Rattle.sheets.proofs.Calling.{bad_mode, bad_rule, bad_state_lem, bad_sheets, too_long_lem, good}
use Rattle.sheet_bytes.proofs.Ledgers.{good as good-sheets}
use Rattle.sheet_promises.specs.Bytes.{four_at}
use Rattle.sheet_promises.specs.Records.{is_own_kind, split, records_of, joined, struck, struck_replies}
use Rattle.sheet_promises.specs.History.{Entry, history_from, sheets_in}
use Rattle.sheet_promises.specs.SheetsCall.{SheetsAllowed, SheetsDetermined, SheetsTurnedAway, ReportsResult, replies_in, SheetsRepliesStay, Grown}
use Rattle.sheet_promises.specs.SheetsCall.{SheetsKept}
use Rattle.sheet_promises.specs.PowerCut.{PowerCut}
use Rattle.sheet_promises.specs.StruckOut.{StruckOut}
use Rattle.sheet_promises.specs.OwnWords.{Job, answer_to, sheets_after, history_over, JobLent, AllLent, Every, Owned, OwnWords}
use Rattle.sheet_promises.proofs.Measures.{bytes_are, state_is, sheets_is, closed_sheets_lem}
use Rattle.sheet_promises.proofs.Turns.{four_exact}
use Rattle.sheet_promises.proofs.CardHistory.{AnsweredAndListed, Struck}
use Rattle.sheet_promises.proofs.Split.{no_bytes_lem}
use Rattle.sheet_promises.proofs.Standing.{at_start_lem}
use Rattle.sheet_promises.proofs.Agreeing.{Agrees}
use Rattle.sheet_promises.proofs.Telling.{follows}
use Rattle.sheet_promises.proofs.PowerCut.{power_cut as cut-told, empty}
use Rattle.sheet_promises.proofs.StruckOut.{struck_out as struck-told}
use Rattle.sheet_promises.proofs.OwnWords.{Whole, keeping}
use Rattle.sheet_promises.proofs.Histories.{file_history}

pub sheets_allowed : SheetsAllowed
sheets_allowed a r state sheets replies report = (
  λ x. (x.result_is, x.state_is, x.sheets_is, x.replies_is, x.report_is),
  λ e f g h i. record { result_is = e; state_is = f; sheets_is = g; replies_is = h; report_is = i },
)

pub sheets_determined : SheetsDetermined
sheets_determined mode rule state sheets input replies report r q s t a b w v p o x y = (
  x.result_is ∙ sym y.result_is,
  x.state_is ∙ sym y.state_is,
  x.sheets_is ∙ sym y.sheets_is,
  x.replies_is ∙ sym y.replies_is,
  x.report_is
      ∙ sym y.report_is,
)

-- 14: nothing is written
no_report_lem : (mode rule : ℕ) (state sheets input replies report : List ℕ) → (length report ≡ 9 → ⊥)
    → call_of mode rule state sheets input replies report ≡ record { result = 14; state = state; sheets = sheets; replies = replies; report = report }
unfolding call_of
no_report_lem mode rule state sheets input replies report a = rw (ne_eqb (length report) 9 a)

pub sheets_turned_away : SheetsTurnedAway
sheets_turned_away = record {
  no_report_lem = no_report_lem;
  no_mode = λ mode rule state sheets input replies report a k. bad_mode mode rule state sheets input replies report a k;
  no_rule = λ mode rule state sheets input replies report a k q. bad_rule mode rule state sheets input replies report a k q;
  no_state = λ mode rule state sheets input replies report a k q b. bad_state_lem mode rule state sheets input replies report a k q (sym (state_is state) ∙ b);
  no_sheets = λ mode rule state sheets input replies report a k q b d. bad_sheets mode rule state sheets input replies report a k q (sym (state_is state) ∙ b)
      (sym (sheets_is sheets) ∙ d);
  long_input = λ mode rule state sheets input replies report a k q b d e. too_long_lem mode rule state sheets input replies report a k q (sym (state_is state) ∙ b)
      (sym (sheets_is sheets) ∙ d) e;
}

-- ---- every call is turned away or runs

either_bool : {A : Type 0} (P : A → Type 0) (b : Bool) (x y : A) → (b ≡ true → P x) → (b ≡ false → P y) → P (cond b x y)
either_bool P true x y f g = f refl
either_bool P false x y f g = g refl

-- a call that runs got past every test
pub record Passed (mode rule : ℕ) (state sheets input report : List ℕ) : Type 0 where
  pub report_long : length report ≡ 9
  pub mode_good : mode ≤ 1
  pub rule_good : rule ≤ 1
  pub state_good : storedState state ≡ true
  pub sheets_good : ledger.is_sheets sheets ≡ true
  pub input_fits : length input ≤ 12288

-- what holds of a call that is turned away, with 14 whatever its report says, and of one that runs
pub calls : (P : Called → Type 0) (mode rule : ℕ) (state sheets input replies report : List ℕ)
    → ((length report ≡ 9 → ⊥) → P (record { result = 14; state = state; sheets = sheets; replies = replies; report = report }))
    → ((r : ℕ) → (r ≡ 0 → ⊥) → P (record { result = r; state = state; sheets = sheets; replies = replies; report = storedReport r 0 0 }))
    → (Passed mode rule state sheets input report → P (ran_of (length state)
    (run_of (holding (card_in (given (mode_of mode) (rule_of rule)) state) sheets) input (length replies)) replies))
    → P (call_of mode rule state sheets input replies report)
unfolding call_of
calls P mode rule state sheets input replies report unwritten away runs =
    either_eq P (length report) 9 _ _
    (λ a.
    either_bool P (leb mode 1) _ _
    (λ k.
    either_bool P (leb rule 1) _ _
    (λ q.
    either_bool P (storedState state) _ _
    (λ b.
    either_bool P (ledger.is_sheets sheets) _ _
    (λ d.
    either_lt P 12288 (length input) _ _ (λ e. away 9 (λ z. omega arith))
    (λ e. runs (record { report_long = a; mode_good = leb-true mode 1 k; rule_good = leb-true rule 1 q; state_good = b; sheets_good = d; input_fits = e })))
    (λ d. away 13 (λ z. omega arith)))
    (λ b. away 13 (λ z. omega arith)))
    (λ q. away 17 (λ z. omega arith)))
    (λ k. away 16 (λ z. omega arith)))
    unwritten

passed : (mode rule : ℕ) (state sheets input replies report : List ℕ) → (call_of mode rule state sheets input replies report).result ≡ 0
    → Passed mode rule state sheets input report
passed mode rule state sheets input replies report =
    calls (λ c. c.result ≡ 0 → Passed mode rule state sheets input report) mode rule state sheets input replies report
    (λ w z. let y : ⊥ = omega arith in absurd y) (λ r n z. absurd (n z)) (λ p z. p)

pub reports_result : ReportsResult
reports_result mode rule state sheets input replies report n =
    calls (λ c. get_or c.report 0 0 ≡ c.result) mode rule state sheets input replies report (λ w. absurd (w n)) (λ r z. refl) (λ p. refl)

-- ---- the slice

grows : (old new : List ℕ) → length old ≡ 1303 → Grows old new → Grown old new
grows old new long g = record {
  same_length = g.same_length;
  no_fewer = g.no_fewer;
  good_again = sheets_is new ∙ sym (good-sheets new (g.same_length ∙ long) g.no_more g.flag_is g.bits_are);
  listed_stay = g.listed_stay;
  places_stay = g.places_stay;
}

pub sheets_kept : SheetsKept
sheets_kept mode rule state sheets input replies report g =
    let e : ledger.is_sheets sheets ≡ true = sym (sheets_is sheets) ∙ g in
    let s = stands sheets e in
    let stays = grows sheets sheets s.long (same sheets s) in
    calls (λ c. Grown sheets c.sheets) mode rule state sheets input replies report (λ w. stays) (λ r n. stays)
    (λ p. grows sheets _ s.long (run_grows (holding (card_in (given (mode_of mode) (rule_of rule)) state) sheets) input (length replies) e))

-- ---- what a run wrote, read back through the report

pub read_back : (w replies : List ℕ) (r t : ℕ) → length w < 4294967296 → replies_in (w ++ drop (length w) replies) (storedReport r t (length w)) ≡ w
read_back w replies r t h =
    ap (λ (n : ℕ). take n (w ++ drop (length w) replies)) (four_exact (length w) h) ∙ take-append_seam w (drop (length w) replies)

pub few_bytes : (h : Held) (l : List ℕ) (room : ℕ) → length l ≤ 12288 → length (run_of h l room).written < 4294967296
few_bytes h l room n =
    let t = tally lawful h l room in
    let a = t.in_file in
    let b = t.few in
    omega arith

few_core : (c : Card) (l : List ℕ) (room : ℕ) → length l ≤ 12288 → length (coreRun c l room).written < 4294967296
few_core c l room n =
    let t = tally core-lawful c l room in
    let a = t.in_file in
    let b = t.few in
    omega arith

-- bytes written over the front of replies
module _ (w replies : List ℕ) (fits : length w ≤ length replies) where
  all_there : length (w ++ drop (length w) replies) ≡ length replies
  all_there = let a = length-append w (drop (length w) replies) in let b = length-drop (length w) replies in omega arith

  rest_stays : (i : ℕ) → length w ≤ i → get_or (w ++ drop (length w) replies) i 0 ≡ get_or replies i 0
  rest_stays i h =
      let e : length w + (i - length w) ≡ i = omega arith in
      subst (λ (k : ℕ). get_or (w ++ drop (length w) replies) k 0 ≡ get_or replies k 0) e
      (sym (get_or-drop (length w) (w ++ drop (length w) replies) (i - length w) 0)
      ∙ ap (λ (v : List ℕ). get_or v (i - length w) 0) (drop-append_seam w (drop (length w) replies))
      ∙ get_or-drop (length w) replies (i - length w) 0)

pub sheets_replies_stay : SheetsRepliesStay
sheets_replies_stay mode rule state sheets input replies report =
    calls (λ c. (length c.replies ≡ length replies) × ((i : ℕ) → four_at c.report 5 ≤ i → get_or c.replies i 0
    ≡ get_or replies i 0)) mode rule state sheets input replies report
    (λ w. (refl, λ i h. refl)) (λ r n. (refl, λ i h. refl))
    (λ p.
    let h = holding (card_in (given (mode_of mode) (rule_of rule)) state) sheets in
    let o = run_of h input (length replies) in
    let t = tally lawful h input (length replies) in
    let fits = t.in_room in
    let exact = four_exact (length o.written) (few_bytes h input (length replies) p.input_fits) in
    (all_there o.written replies fits, λ i k. rest_stays o.written replies fits i (subst (λ (n : ℕ). n ≤ i) exact k)))

-- ---- 02's two sentences

pub power_cut : PowerCut
power_cut mode rule state sheets input replies report B I n o z k most =
    let p = passed mode rule state sheets input replies report z in
    let c = card_in (given (mode_of mode) (rule_of rule)) state in
    let h = holding c sheets in
    let g = length-take-le k input most in
    let i : length (take k input) ≤ 12288 = let f = p.input_fits in omega arith in
    let whole = good mode rule state sheets input replies report p.report_long p.mode_good p.rule_good p.state_good p.sheets_good
    p.input_fits in
    let part = good mode rule state sheets (take k input) replies report p.report_long p.mode_good p.rule_good p.state_good p.sheets_good i in
    let e : (run_of h input (length replies)).refusal ≡ 0 = rw whole at z in
    let u = run_of h (take k input) (length replies) in
    let back = read_back u.written replies u.refusal u.taken (few_bytes h (take k input) (length replies) i) in
    let t : AnsweredAndListed c (length replies) (take k input) u.written u.state.sheets = cut-told c sheets input (length replies) p.sheets_good
    n o e k most in
    let past = file_history mode rule p.mode_good p.rule_good state (bytes_are state B) p.state_good (length replies) (take k input)
    (records_of u.written) [] (bytes_take k input (bytes_are input I)) i in
    rw part record {
      all_answered_lem = ap (λ (w : List ℕ). length (records_of w)) back ∙ t.all_answered_lem;
      list_is =
          sym (closed_sheets_lem u.state.sheets) ∙ t.list_is ∙ ap sheets_in (sym past)
          ∙ ap (λ (w : List ℕ). sheets_in (history_from mode rule state (length replies) [] (records_of (take k input)) (records_of w) [])) (sym back);
    }

-- ---- the file that is struck out is no longer than the file

struck_shorter : (f : ℕ) (l : List ℕ) → length (joined (struck (split f l))) ≤ length l
unfolding split
struck_shorter zero l = zero-le
struck_shorter (suc f) l =
    either_lt (λ (rs : List (List ℕ)). length (joined (struck rs)) ≤ length l) (length l) 2 _ _ (λ a. zero-le) (λ a.
    either_lt (λ (rs : List (List ℕ)). length (joined (struck rs)) ≤ length l) (length l) (2 + word_at l 0) _ _ (λ b. zero-le) (λ b.
    let n : ℕ = 2 + word_at l 0 in
    let d = length-drop n l in
    let i = struck_shorter f (drop n l) in
    let g = length-append (take n l) (joined (struck (split f (drop n l)))) in
    let k = length-take-le n l b in
    either_bool (λ (rs : List (List ℕ)). length (joined rs) ≤ length l) (is_own_kind (word_at (take n l) 2)) (struck (split f (drop n l)))
    (take n l ∷ struck (split f (drop n l)))
    (λ y. omega arith) (λ y. omega arith)))

shorter : (l : List ℕ) → length (joined (struck (records_of l))) ≤ length l
unfolding records_of
shorter l = struck_shorter (length l) l

pub struck_out : StruckOut
struck_out mode rule state sheets input replies report z =
    let p = passed mode rule state sheets input replies report z in
    let c = card_in (given (mode_of mode) (rule_of rule)) state in
    let h = holding c sheets in
    let file : List ℕ = joined (struck (records_of input)) in
    let i : length file ≤ 12288 = let x = p.input_fits in let y = shorter input in omega arith in
    let whole = good mode rule state sheets input replies report p.report_long p.mode_good p.rule_good p.state_good p.sheets_good
    p.input_fits in
    let alone = core-good mode rule state file replies report p.report_long p.mode_good p.rule_good p.state_good i in
    let e : (run_of h input (length replies)).refusal ≡ 0 = rw whole at z in
    let u = run_of h input (length replies) in
    let v = coreRun c file (length replies) in
    let k : Struck v file (joined (struck_replies (records_of u.written))) u.state.card = struck-told c sheets input (length replies) e (length replies)
    (le_refl (length replies)) in
    record {
      result_is = rw alone k.refusal_is;
      state_is = rw (alone, whole) (ap (laid_out (length state)) k.card_is);
      replies_are =
          rw (alone, whole)
          (read_back v.written replies v.refusal v.taken (few_core c file (length replies) i)
          ∙ k.written_is
          ∙ sym (ap (λ (w : List ℕ). joined (struck_replies (records_of w)))
          (read_back u.written replies u.refusal u.taken (few_bytes h input (length replies) p.input_fits))));
    }

-- ---- calls one after another

-- a call goes on from the history of those before it
module _ (j : Job) (t : JobLent j) (sheets : List ℕ) (es : List Entry) (ag : Agrees es sheets) (q : Every Whole es) where
  abbrev After : Called → Type 0
  After c =
      Agrees (history_from j.mode j.rule j.state (length j.replies) [] (records_of j.input) (records_of (replies_in c.replies c.report)) es)
      c.sheets
      × Every Whole (history_from j.mode j.rule j.state (length j.replies) [] (records_of j.input)
      (records_of (replies_in c.replies c.report)) es)

  -- no replies, no history
  none : (rs : List (List ℕ)) → history_from j.mode j.rule j.state (length j.replies) [] rs (records_of []) es ≡ es
  none rs = ap (λ (qs : List (List ℕ)). history_from j.mode j.rule j.state (length j.replies) [] rs qs es) no_bytes_lem ∙ by rs
    where
      by : (rs : List (List ℕ)) → history_from j.mode j.rule j.state (length j.replies) [] rs [] es ≡ es
      by [] = refl
      by (r ∷ rs) = refl

  goes_on : After (call_of j.mode j.rule j.state sheets j.input j.replies j.report)
  goes_on =
      calls After j.mode j.rule j.state sheets j.input j.replies j.report
      (λ w. absurd (w t.report))
      (λ r n. rw (none (records_of j.input)) (ag, q))
      (λ p.
      let c = card_in (given (mode_of j.mode) (rule_of j.rule)) j.state in
      let h = holding c sheets in
      let room = length j.replies in
      let u = run_of h j.input room in
      let I = bytes_are j.input t.input in
      let s = at_start_lem c room in
      let back = read_back u.written j.replies u.refusal u.taken (few_bytes h j.input room p.input_fits) in
      let past = file_history j.mode j.rule p.mode_good p.rule_good j.state (bytes_are j.state t.state) p.state_good room j.input
      (records_of u.written) es I p.input_fits in
      rw (back, past) (follows h j.input room c room [] es s ag, keeping h j.input room c room [] es s q))

over : (js : List Job) (sheets : List ℕ) (es : List Entry) → AllLent js → Agrees es sheets → Every Whole es
    → Owned (sheets_after js sheets) (history_over js sheets es)
over [] sheets es t ag q = record { list_is = sym (closed_sheets_lem sheets) ∙ ag.list_is; whole_words = q }
over (j ∷ js) sheets es t ag q =
    let g = goes_on j t.0 sheets es ag q in
    over js (answer_to j sheets).sheets
    (history_from j.mode j.rule j.state (length j.replies) [] (records_of j.input)
    (records_of (replies_in (answer_to j sheets).replies (answer_to j sheets).report)) es)
    t.1 g.0 g.1

pub own_words : OwnWords
own_words js sheets t g n o = over js sheets [] t (empty sheets (sym (sheets_is sheets) ∙ g) n o) tt
