-- Formulas over the crate's own trees: what the translator judges is what the grammar and the tree say, and the file's run is plain evaluation laid out.
-- Assumes nothing.
use mathlib.Core.Path.{◌≡◌, refl, sym, ap, ◌∙◌, subst}
use mathlib.Core.Logic.{◌⊎◌, inl, inr, ⊎_elim}
use mathlib.Core.Bool.{Bool, true, false, cond}
use mathlib.Core.List.{List, [], ◌++◌}
use Prim.Native.Nat.{ℕ, ◌+◌, ◌*◌, ◌≤◌, ◌<◌}
use native.Mathlib.Omega.{arith}
use native.Mathlib.Nat.{pos_of_ne-zero}
use borrow.Author.Tests.{eqb-true, eqb-false, ltb-true, ltb-false, eq-eqb, lt-ltb, le-ltb, lt-leb}
use lib.Dec.{eqb, ltb}
use lib.ListN.{length, take, drop, get_or}
use lib.Seq.{take_at, take-append-le, get_or_at, length-take-le}
use Rattle.terms.specs.declared.Settings.{Settings}
use Rattle.terms.specs.declared.Rule.{Rule}
use Rattle.terms.specs.declared.Mode.TheVariants.{Am9511A}
use Rattle.stack.specs.Stack.{Bytes, number_from}
use Rattle.stack.proofs.Words.{number_bytes}
use Rattle.chip.specs.State.{State}
use Rattle.chip.specs.State.{reset_state}
use Rattle.promises.specs.BusEvents.{AtRest}
use Rattle.error_memory.specs.declared.Memory.{Memory}
use Rattle.error_memory.specs.Memory.{empty_memory, Card}
use Rattle.record_runs.specs.Run.{Outcome}
use Rattle.state_bytes.specs.Bytes.{is_state, state_of, memory_in, card_in, laid_out}
use Rattle.state_bytes.proofs.Cards.{laid_is, card_returns}
use Rattle.state_bytes.proofs.States.{state_ready}
use Rattle.formula.specs.Formula.{Formula, need_of}
use Rattle.formula.specs.Grammar.{IsText}
use Rattle.formula.specs.Reader.{Read, Found, Outside, formula_of}
use Rattle.formula.specs.File.{proper_in, file_of}
use Rattle.formula.specs.Translation.{Translated, turned_away as refusing, judged, translation_of}
use Rattle.formula.specs.declared.Refusal.TheVariants.{Done, NoFormula, Improper, NeedsMore, NoRoom}
use Rattle.formula.proofs.Texts.{read_is, is_read}
use Rattle.formula.proofs.Translating.{letters_wrong, text_empty, text_long, text_fits}
use Rattle.formula.proofs.Sizes.{file_most, file_bytes}
use Rattle.promises.specs.FormulaText as book
use Rattle.promises.specs.FormulaText.{replies_to, evaluated}
use Rattle.promises.proofs.FormulaText.{tree}
use Rattle.promises.proofs.FormulaLeaves.{leaves}
use Rattle.promises.proofs.FormulaRuns.{AfterFile, evaluates}
use Rattle.pundaliket.specs.FormulaCall.{wrote_by, formula_call}
use Rattle.promises.proofs.Measures.{ours_word, ours_state, theirs_state}
use Rattle.promises.specs.Given.{Given, Chosen, settings_in, run_call}
use Rattle.promises.specs.RunCall.{Laid, StandsFor, Reports}
use Rattle.promises.proofs.Records.{counts_exact}
use Rattle.promises.specs.StateBytes.{IsState}
use Rattle.promises.proofs.Kept.{state_stays}
use Rattle.promises.proofs.RunCall.{run_call_lem}
use Rattle.promises.specs.FloatWords.{FloatWord}
use Rattle.promises.specs.Formulas.{file_in, Evaluates, EvaluatesCall}

-- ---- a text that is stated or taken, as the statement has it, over the crate's trees
pub record Stated (text letters : List ℕ) (f : Formula) : Type 0 where
  pub eight_words : length letters ≡ 32
  pub is_text : IsText text f

pub record Takes (text letters : List ℕ) (room : ℕ) (f : Formula) : Type 0 where
  pub stated : Stated text letters f
  pub proper : proper_in letters f ≡ true
  pub need : need_of f ≤ 4
  pub fits : length (file_of letters f) ≤ room

-- ---- the refusals
-- a text that is stated is judged as its formula
module _ (text letters : List ℕ) (room : ℕ) (f : Formula) (S : Stated text letters f) where
  judged_so : translation_of letters text room ≡ judged letters room (Found f [])
  judged_so =
      let T = S.is_text in
      text_fits letters text room S.eight_words (λ e. omega (arith, T.some)) T.short ∙ ap (judged letters room) (is_read T.inside T.shallow)

  pub says_31 : proper_in letters f ≡ false → translation_of letters text room ≡ refusing Improper
  says_31 p = judged_so ∙ rw p

  pub says_32 : proper_in letters f ≡ true → 4 < need_of f → translation_of letters text room ≡ refusing NeedsMore
  says_32 p n = judged_so ∙ rw (p, lt-ltb 4 (need_of f) n)

  pub says_33 : proper_in letters f ≡ true → need_of f ≤ 4 → room < length (file_of letters f) → translation_of letters text room ≡ refusing NoRoom
  says_33 p n r = judged_so ∙ rw (p, le-ltb 4 (need_of f) n, lt-ltb room (length (file_of letters f)) r)

  says_0 : proper_in letters f ≡ true → need_of f ≤ 4 → length (file_of letters f) ≤ room → translation_of letters text
      room ≡ record { refusal = Done; file = file_of letters f }
  says_0 p n r = judged_so ∙ rw (p, le-ltb 4 (need_of f) n, le-ltb room (length (file_of letters f)) r)

-- a text that is none is 30
pub record None (text letters : List ℕ) : Type 0 where
  pub says_30 : (room : ℕ) → translation_of letters text room ≡ refusing NoFormula
  pub not_stated : (f : Formula) → Stated text letters f → ⊥

-- a formula, or none
pub looked : (text letters : List ℕ) → ((f : Formula) × Stated text letters f) ⊎ None text letters
looked text letters = go (eqb (length letters) 32) refl (eqb (length text) 0) refl (ltb 256 (length text)) refl (formula_of text) refl
  where
    go : (p : Bool) → eqb (length letters) 32 ≡ p → (q : Bool) → eqb (length text) 0 ≡ q → (r : Bool) → ltb 256 (length text) ≡ r → (x : Read)
        → formula_of text ≡ x
        → ((f : Formula) × Stated text letters f) ⊎ None text letters
    go false a q b r c x e = let n = eqb-false (length letters) 32 a in inr (record {
      says_30 = λ room. letters_wrong letters text room n;
      not_stated = λ f S. n
          S.eight_words;
    })
    go true a true b r c x e =
        let z = eqb-true (length text) 0 b in
        inr (record {
          says_30 = λ room. text_empty letters text room (eqb-true (length letters) 32 a) z;
          not_stated = λ f S. omega (arith, z, S.is_text.some);
        })
    go true a false b true c x e =
        let l = ltb-true 256 (length text) c in
        inr (record {
          says_30 = λ room. text_long letters text room (eqb-true (length letters) 32 a) (eqb-false (length text) 0 b) l;
          not_stated = λ f S. omega
              (arith, l, S.is_text.short);
        })
    go true a false b false c Outside e = inr (record {
      says_30 = λ room. text_fits letters text room (eqb-true (length letters) 32 a) (eqb-false (length text) 0 b) (ltb-false 256 (length text) c)
          ∙ ap (judged letters room) e;
      not_stated = λ f S. clash (sym e ∙ is_read S.is_text.inside S.is_text.shallow);
    })
      where
        clash : {f : Formula} → Outside ≡ Found f [] → ⊥
        clash h = let z : ◌≡◌ {A = ℕ} 0 1 = cc in omega arith
    go true a false b false c (Found f rest) e =
        let T = read_is text f rest e in
        inl (
          f,
          record {
            eight_words = eqb-true (length letters) 32 a;
            is_text = record { some = pos_of_ne-zero (eqb-false (length text) 0 b); short = ltb-false 256 (length text) c; inside = T.0; shallow = T.1 };
          },
        )

-- ---- the calls
-- by what the translator says
pub written_so : (text letters file : List ℕ) {t : Translated} → translation_of letters text (length file) ≡ t → formula_call text letters file ≡ wrote_by t file
written_so text letters file e = ap (λ (t : Translated). wrote_by t file) e

pub is_translated : (text letters file : List ℕ) (f : Formula) → Takes text letters (length file) f
    → formula_call text letters file ≡ record { result = length (file_of letters f); file = file_of letters f ++ drop (length (file_of letters f)) file }
is_translated text letters file f T =
    let F = file_of letters f in
    let z : 65536 * 0 + length F ≡ length F = omega arith in
    written_so text letters file (says_0 text letters (length file) f T.stated T.proper T.need T.fits)
    ∙ ap (λ (n : ℕ). record { result = n; file = F ++ drop (length F) file }) z

-- a file has less than 65,536 bytes
pub file_short : (text letters : List ℕ) (room : ℕ) (f : Formula) → Takes text letters room f → length (file_of letters f) ≤ 1664
file_short text letters room f T = file_most letters T.stated.is_text.inside T.stated.is_text.short

-- ---- the run
pub file_is : (text letters file : List ℕ) (f : Formula) → Takes text letters (length file) f → file_in (formula_call text letters file) ≡ file_of letters f
file_is text letters file f T = ap file_in (is_translated text letters file f T) ∙ take_at (file_of letters f) (drop (length (file_of letters f)) file)
    (length (file_of letters f)) refl

record_run : (on : Settings) (s : State) (m : Memory) (text letters file : List ℕ) (f : book.Formula) → Takes text letters (length file) (tree f)
    → Bytes letters → length s.stack ≡ 16 → AtRest s
    → AfterFile on s m (file_of letters (tree f)) (replies_to f) (evaluated on.rule letters f)
record_run on s m text letters file f T B six R = evaluates on letters f s m (leaves letters T.stated.eight_words B T.stated.is_text.inside
    T.proper) T.need six R

-- the card that good bytes stand for
stands_for : (on : Settings) (state : List ℕ) → is_state state ≡ true → StandsFor state (card_in on state)
stands_for on state h =
    let c = card_in on state in
    record {
      laid = record {
        sixteen = length-take-le 16 state (⊎_elim (λ a. omega arith) (λ b. omega arith) (ours_state h).size);
        short = λ a. sym (card_returns on state h) ∙ ap (λ (n : ℕ). laid_out n c) a ∙ laid_is 19 c;
        long = λ b. sym (card_returns on state h) ∙ ap (λ (n : ℕ). laid_out n c) b ∙ laid_is 21 c;
      };
      empty = λ a. rw (eq-eqb (length state) 19 a);
    }

-- what the bytes of a card that is at rest begin with, and its pending byte
bytes_begin : (n : ℕ) (bytes : List ℕ) (c : Card) → (n ≡ 19) ⊎ (n ≡ 21) → Laid n bytes c → take 4 bytes ≡ take 4 c.chip.stack
bytes_begin n bytes c size L = ⊎_elim
    (λ a. ap (take 4) (L.short a) ∙ take-append-le 4 c.chip.stack _ (omega (arith, L.sixteen)))
    (λ b. ap (take 4) (L.long b) ∙ take-append-le 4 c.chip.stack _ (omega (arith, L.sixteen)))
    size

byte_16 : (n : ℕ) (bytes : List ℕ) (c : Card) → (n ≡ 19) ⊎ (n ≡ 21) → Laid n bytes c → c.chip.pending ≡ false → get_or bytes 16 0 ≡ 0
byte_16 n bytes c size L p = ⊎_elim
    (λ a. ap (λ (l : List ℕ). get_or l 16 0) (L.short a) ∙ get_or_at c.chip.stack (cond c.chip.pending 1 0) _ 0 16 L.sixteen
    ∙ ap (λ (t : Bool). cond t 1 0) p)
    (λ b. ap (λ (l : List ℕ). get_or l 16 0) (L.long b) ∙ get_or_at c.chip.stack (cond c.chip.pending 1 0) _ 0 16 L.sixteen
    ∙ ap (λ (t : Bool). cond t 1 0) p)
    size

call_run : (g : Given) → Chosen g → (state replies report text letters file : List ℕ) (f : book.Formula)
    → Takes text letters (length file) (tree f) → Bytes letters → Bytes state → IsState state
    → get_or state 16 0 ≡ 0 → length report ≡ 9 → length (replies_to f) ≤ length replies
    → EvaluatesCall (run_call g state (file_of letters (tree f)) replies report) (file_of letters (tree f)) (replies_to f) replies
    (evaluated (settings_in g).rule letters f)
call_run g C state replies report text letters file f T B S H w n r =
    let h = theirs_state H in
    let on = settings_in g in
    let F = file_of letters (tree f) in
    let c = card_in on state in
    let A = stands_for on state h in
    let size = (ours_state h).size in
    let short = file_short text letters (length file) (tree f) T in
    let L = record_run on (state_of state) (memory_in state) text letters file f T B A.laid.sixteen
    (record { taken = lt-leb 128 (get_or state 17 0) (state_ready state h); whole = ap (λ (k : ℕ). eqb k 1) w }) in
    let ran = L.ran.ran (length replies) r in
    let R = subst (λ (o : Outcome). Reports (length state) (run_call g state F replies report) o replies) ran (run_call_lem g C c refl state F replies report S
    (file_bytes letters (tree f)) H A n (omega arith)) in
    let counts = counts_exact g C state F replies report n H (omega arith) in
    record {
      result = R.result;
      replies_are = R.replies_are;
      all_taken = counts.0 ∙ ap (λ (o : Outcome). o.taken) ran;
      all_written = counts.1 ∙ ap (λ (o : Outcome). length o.written) ran;
      on_top = bytes_begin (length state) _ _ size R.state ∙ L.on_top;
      again = (state_stays g state F replies report S (file_bytes letters (tree f)) H).0;
      whole = byte_16 (length state) _ _ size R.state L.at_rest.whole;
    }

-- a file that is run as records
pub as_records : (on : Settings) (s : State) (m : Memory) (text letters file : List ℕ) (f : book.Formula) (room : ℕ) → Takes text letters (length file) (tree f)
    → Bytes letters
    → length s.stack ≡ 16 → AtRest s → length (replies_to f) ≤ room → Evaluates on s m (file_in (formula_call text letters file)) (replies_to f) room
    (evaluated on.rule letters f)
as_records on s m text letters file f room T B six R h =
    let L = record_run on s m text letters file f T B six R in
    let w = evaluated on.rule letters f in
    subst (λ (l : List ℕ). Evaluates on s m l (replies_to f) room w) (sym (file_is text letters file (tree f) T)) (record {
      end = L.end;
      memory = L.memory;
      ran = L.ran.ran room h;
      on_top = ap (number_from 0) L.on_top ∙ number_bytes 4 w L.proper.fits;
      sixteen = L.sixteen;
      at_rest = L.at_rest;
    })

-- and through the call
pub as_call : (g : Given) → Chosen g → (state replies report text letters file : List ℕ) (f : book.Formula)
    → Takes text letters (length file) (tree f) → Bytes letters → Bytes state
    → IsState state → get_or state 16 0 ≡ 0 → length report ≡ 9 → length (replies_to f) ≤ length replies
    → EvaluatesCall (run_call g state (file_in (formula_call text letters file)) replies report) (file_in (formula_call text letters file)) (replies_to f) replies
    (evaluated (settings_in g).rule letters f)
as_call g C state replies report text letters file f T B S h w n r =
    subst (λ (l : List ℕ). EvaluatesCall (run_call g state l replies report) l (replies_to f) replies (evaluated (settings_in g).rule letters f))
    (sym (file_is text letters file (tree f) T))
    (call_run g C state replies report text letters file f T B S h w n r)

pub word_proper : (rule : Rule) (text letters file : List ℕ) (f : book.Formula) → Takes text letters (length file) (tree f) → Bytes letters
    → FloatWord (evaluated rule letters f)
word_proper rule text letters file f T B =
    ours_word (record_run (record { mode = Am9511A; rule = rule }) reset_state empty_memory text letters file f T B refl (record { taken = refl; whole = refl })
    ).proper
