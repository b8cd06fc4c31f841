-- No wrong library meets the promises: its contract gives what it does with one input, and that is not what its class does. Assumes nothing.
use mathlib.Core.Path.{◌≡◌, refl, sym, ap, ap₂, ◌∙◌}
use mathlib.Core.Bool.{Bool, true, ◌&&◌}
use mathlib.Core.List.{List, [], ◌∷◌, ◌++◌}
use Prim.Native.Nat.{ℕ}
use native.Mathlib.Omega.{arith}
use borrow.Author.Tests.{ltb-true}
use lib.Dec.{ltb}
use lib.ListN.{get_or}
use Rattle.chip.specs.Step.{push_of}
use Rattle.chip.proofs.Rows.{both_of_lem}
use Rattle.record_files.specs.Run.{run, run_by}
use Rattle.record_runs.specs.Record.{frame_under, turn_under}
use Rattle.state_bytes.specs.Bytes.{is_state}
use Rattle.sheet_bytes.specs.Ledger.{is_sheets}
use Rattle.sheet_figures.specs.Figures.{sum88}
use Rattle.sheet_figures.specs.Telling.{figures_of}
use Rattle.sheets.specs.Step.{is_own, sheet_step}
use Rattle.sheets.specs.Calls.{call_of}
use Rattle.sheet_promises.specs.Bytes.{Bytes, zeros, four_at}
use Rattle.sheet_promises.specs.Subjects.{SheetsAnswer, FiguresAnswer}
use Rattle.sheet_promises.specs.WrongLibraries.{Library, AllBytes, Meets, No, RefusesEverything, never_run, never_figures, SingleReply, same_run}
use Rattle.sheet_promises.specs.WrongLibraries.{same_figures}
use Rattle.sheet_promises.specs.WrongLibraries.{same_out, IsRecord, SameReplies, DoesNothing, back_state, back_sheets, back_replies, back_report}
use Rattle.sheet_promises.specs.WrongLibraries.{back_out}
use Rattle.sheet_promises.specs.WrongLibraries.{FirstRecordOnly, first_state_lem, first_sheets, first_replies, InventedCounts, wrong_taken, wrong_written}
use Rattle.sheet_promises.specs.WrongLibraries.{first}
use Rattle.sheet_promises.specs.WrongLibraries.{rest, close, LibraryAnswers, WrongLibraries}
use Rattle.sheet_promises.proofs.SheetsCall.{sheets_call_lem}

-- ---- the inputs are bytes
unfoldable is_bytes : List ℕ → Bool
is_bytes [] = true
is_bytes (b ∷ l) = ltb b 256 && is_bytes l

bytes_in_lem : (l : List ℕ) → is_bytes l ≡ true → Bytes l
unfolding is_bytes
bytes_in_lem [] h = tt
bytes_in_lem (b ∷ l) h = let p = both_of_lem (ltb b 256) (is_bytes l) h in (ltb-true b 256 p.0, bytes_in_lem l p.1)

lent_in : (input report : List ℕ) → is_bytes input ≡ true → is_bytes report ≡ true → AllBytes (zeros 19) (zeros 1303) input (zeros 15) report
unfolding is_bytes
lent_in input report i p = record {
  state_bytes_lem = bytes_in_lem (zeros 19) refl;
  sheets_bytes_lem = bytes_in_lem (zeros 1303) refl;
  input_bytes = bytes_in_lem input i;
  replies_bytes = bytes_in_lem (zeros 15) refl;
  report_bytes_lem = bytes_in_lem report p;
}

lent : (input : List ℕ) → is_bytes input ≡ true → AllBytes (zeros 19) (zeros 1303) input (zeros 15) (zeros 9)
unfolding is_bytes
lent input i = lent_in input (zeros 9) i refl

none : AllBytes (zeros 19) (zeros 1303) [] (zeros 15) (zeros 9)
unfolding is_bytes
none = lent [] refl

bare : AllBytes (zeros 19) (zeros 1303) [] (zeros 15) []
unfolding is_bytes
bare = lent_in [] [] refl refl

one : AllBytes (zeros 19) (zeros 1303) first (zeros 15) (zeros 9)
unfolding is_bytes
one = lent first refl

shut : AllBytes (zeros 19) (zeros 1303) close (zeros 15) (zeros 9)
unfolding is_bytes
shut = lent close refl

all : AllBytes (zeros 19) (zeros 1303) (first ++ rest) (zeros 15) (zeros 9)
unfolding is_bytes
all = lent (first ++ rest) refl

behind : Bytes rest
unfolding is_bytes
behind = bytes_in_lem rest refl

many : Bytes (zeros 1303)
unfolding is_bytes
many = bytes_in_lem (zeros 1303) refl

room : Bytes (zeros 53)
unfolding is_bytes
room = bytes_in_lem (zeros 53) refl

-- ---- what the definitions give
told : (c : Library) → Meets c → LibraryAnswers c
unfolding call_of is_state is_sheets run_by run sheet_step is_own turn_under frame_under push_of figures_of sum88
told c M =
    let m = M.run 0 0 (zeros 19) (zeros 1303) in
    record {
      run_0 = (m [] (zeros 15) (zeros 9) none).result_is;
      run_14 = (m [] (zeros 15) [] bare).result_is;
      figures_0 = let f = M.figures (zeros 1303) (zeros 53) many room in ap₂ (λ (n : ℕ) (o : List ℕ). record { result = n; out = o }) f.result_is
          f.out_is;
      figures_8 = let f = M.figures (zeros 1303) [] many tt in ap₂ (λ (n : ℕ) (o : List ℕ). record { result = n; out = o }) f.result_is f.out_is;
      one_state = (m first (zeros 15) (zeros 9) one).state_is;
      one_sheets = (m first (zeros 15) (zeros 9) one).sheets_is;
      one_replies = (m first (zeros 15) (zeros 9) one).replies_is;
      close_replies = (m close (zeros 15) (zeros 9) shut).replies_is;
      all_state = (m (first ++ rest) (zeros 15) (zeros 9) all).state_is;
      all_sheets = (m (first ++ rest) (zeros 15) (zeros 9) all).sheets_is;
      all_replies = (m (first ++ rest) (zeros 15) (zeros 9) all).replies_is;
      all_report = (m (first ++ rest) (zeros 15) (zeros 9) all).report_is;
    }

-- ---- two bytes that are not the same are no one byte
apart : (x y i : ℕ) {l m : List ℕ} → l ≡ m → get_or l i 0 ≡ x → get_or m i 0 ≡ y → (x ≡ y → ⊥) → ⊥
apart x y i e a b n = n (sym a ∙ ap (λ (k : List ℕ). get_or k i 0) e ∙ b)

-- two numbers that are both n are the same
alike : (n x y : ℕ) {a b : ℕ} → a ≡ n → b ≡ n → a ≡ x → b ≡ y → x ≡ y
alike n x y p q r s = sym r ∙ p ∙ sym q ∙ s

figures_result : (c : Library) → Meets c → ((c.figures (zeros 1303) (zeros 53)).result ≡ 0) × ((c.figures (zeros 1303) []).result ≡ 8)
figures_result c M = (ap (λ (a : FiguresAnswer). a.result) (told c M).figures_0, ap (λ (a : FiguresAnswer). a.result) (told c M).figures_8)

refuses_everything : No RefusesEverything
refuses_everything c M (never_run f) = f 0 0 (zeros 19) (zeros 1303) [] (zeros 15) (zeros 9) none (told c M).run_0
refuses_everything c M (never_figures f) = f (zeros 1303) (zeros 53) many room (figures_result c M).0

single_reply : No SingleReply
single_reply c M (same_run n f) =
    let e = alike n 0 14 (f 0 0 (zeros 19) (zeros 1303) [] (zeros 15) (zeros 9) none) (f 0 0 (zeros 19) (zeros 1303) [] (zeros 15) [] bare) (told c M).run_0
    (told c M).run_14 in
    omega arith
single_reply c M (same_figures n f) =
    let e = alike n 0 8 (f (zeros 1303) (zeros 53) many room) (f (zeros 1303) [] many tt) (figures_result c M).0 (figures_result c M).1 in
    omega arith
single_reply c M (same_out o f) =
    apart 43 0 4 (sym (ap (λ (a : FiguresAnswer). a.out) (told c M).figures_0) ∙ f (zeros 1303) (zeros 53) many room ∙ sym (f (zeros 1303) [] many tt)
    ∙ ap (λ (a : FiguresAnswer). a.out) (told c M).figures_8)
    refl refl (λ e. omega (arith, e))

one_record : IsRecord first
one_record = record { whole = refl; size = refl }

same_replies : No SameReplies
same_replies c M f =
    apart 129 2 2 (sym (told c M).one_replies ∙ f 0 0 (zeros 19) (zeros 1303) first close (zeros 15) (zeros 9) one_record
    (record { whole = refl; size = refl }) one shut ∙ (told c M).close_replies)
    refl refl (λ e. omega (arith, e))

does_nothing : No DoesNothing
does_nothing c M (back_state f) = apart 0x55 0 0 (sym (told c M).one_state ∙ f 0 0 (zeros 19) (zeros 1303) first (zeros 15) (zeros 9) one) refl refl
    (λ e. omega (arith, e))
does_nothing c M (back_sheets f) = apart 1 0 1281 (sym (told c M).all_sheets
    ∙ f 0 0 (zeros 19) (zeros 1303) (first ++ rest) (zeros 15) (zeros 9) all) refl refl (λ e. omega (arith, e))
does_nothing c M (back_replies f) = apart 3 0 0 (sym (told c M).one_replies ∙ f 0 0 (zeros 19) (zeros 1303) first (zeros 15) (zeros 9) one) refl refl
    (λ e. omega (arith, e))
does_nothing c M (back_report f) = apart 18 0 1 (sym (told c M).all_report ∙ f 0 0 (zeros 19) (zeros 1303) (first ++ rest) (zeros 15) (zeros 9) all) refl refl
    (λ e. omega (arith, e))
does_nothing c M (back_out f) =
    apart 43 0 4 (sym (ap (λ (a : FiguresAnswer). a.out) (told c M).figures_0) ∙ f (zeros 1303) (zeros 53) many room) refl refl (λ e. omega (arith, e))

first_record_only : No FirstRecordOnly
first_record_only c M (first_state_lem f) =
    apart 0xaa 0x55 0 (sym (told c M).all_state ∙ f 0 0 (zeros 19) (zeros 1303) first rest (zeros 15) (zeros 9) one_record one behind
    ∙ (told c M).one_state) refl refl (λ e. omega (arith, e))
first_record_only c M (first_sheets f) =
    apart 1 0 1281 (sym (told c M).all_sheets ∙ f 0 0 (zeros 19) (zeros 1303) first rest (zeros 15) (zeros 9) one_record one behind
    ∙ (told c M).one_sheets) refl refl (λ e. omega (arith, e))
first_record_only c M (first_replies f) =
    apart 3 0 5 (sym (told c M).all_replies ∙ f 0 0 (zeros 19) (zeros 1303) first rest (zeros 15) (zeros 9) one_record one behind
    ∙ (told c M).one_replies) refl refl (λ e. omega (arith, e))

invented_counts : No InventedCounts
invented_counts c M (wrong_taken mode rule state sheets input replies report l n differs) =
    differs (ap (λ (x : List ℕ). four_at x 1) ((M.run mode rule state sheets input replies report l).report_is
    ∙ ap (λ (a : SheetsAnswer). a.report) (sheets_call_lem mode rule state sheets input replies report l.state_bytes_lem l.input_bytes)))
invented_counts c M (wrong_written mode rule state sheets input replies report l n differs) =
    differs (ap (λ (x : List ℕ). four_at x 5) ((M.run mode rule state sheets input replies report l).report_is
    ∙ ap (λ (a : SheetsAnswer). a.report) (sheets_call_lem mode rule state sheets input replies report l.state_bytes_lem l.input_bytes)))

-- ---- the statement
pub wrong_libraries : WrongLibraries
wrong_libraries = record {
  met = record {
    run = λ mode rule state sheets input replies report l. record { result_is = refl; state_is = refl; sheets_is = refl; replies_is = refl; report_is = refl };
    figures = λ sheets out s o. record { result_is = refl; out_is = refl };
  };
  tells = told;
  refuses_everything = refuses_everything;
  single_reply = single_reply;
  same_replies = same_replies;
  does_nothing = does_nothing;
  first_record_only = first_record_only;
  invented_counts = invented_counts;
}
