-- Formulas: what the book says of its own trees is what the translator does with the crate's; the examples are computed. Assumes nothing.
use mathlib.Core.Path.{◌≡◌, refl, sym, ap, ◌∙◌, subst}
use mathlib.Core.Logic.{◌⊎◌, inl, inr, ⊎_elim}
use mathlib.Core.Bool.{Bool, true, false}
use mathlib.Core.List.{List, [], ◌∷◌, ◌++◌}
use Prim.Native.Nat.{ℕ, ◌*◌, ◌≤◌, ◌<◌}
use native.Mathlib.Omega.{arith}
use borrow.Author.Tests.{ltb-true, ltb-false}
use lib.Dec.{ltb, lit≤}
use lib.Ieee.{size}
use lib.ListN.{length, drop, get_or, replicate}
use Rattle.float.specs.Word.{value}
use Rattle.float.specs.Float.{sub, mul, div}
use Rattle.float.specs.Convert.{chsf}
use Rattle.formula.specs.Formula as trees
use Rattle.formula.specs.Formula.{need_of as their-need}
use Rattle.formula.specs.Reader.{Found, formula_of, factor_of, more, leaf_of}
use Rattle.formula.specs.File.{letter_word, proper_in, file_of}
use Rattle.formula.specs.Translation.{translation_of}
use Rattle.formula.proofs.Texts.{read_is, one_tree}
use Rattle.promises.specs.Subjects.{Wrote, formula_call}
use Rattle.promises.specs.FormulaText as book
use Rattle.promises.specs.FormulaText.{Formula, IsText, need_of}
use Rattle.promises.specs.Formulas.{FormulaDetermined, OneTree, Stated, Refuses, no_formula, improper, needs_more, no_room_lem, Takes, FormulaRefusals}
use Rattle.promises.specs.Formulas.{FormulaRuns}
use Rattle.promises.specs.Formulas.{WrongTranslators, FormulaExamples}
use Rattle.promises.proofs.FormulaText.{tree, leaf, leaf_back, need_is, proper_is, file_is, theirs_sum, theirs_text}
use Rattle.promises.proofs.FormulaText.{ours_text}
use Rattle.promises.proofs.FormulaRuns.{replies_few}
use Rattle.promises.proofs.Translations as crate

pub formula_determined : FormulaDetermined
formula_determined text letters file r q s t A B = (A.result_is ∙ sym B.result_is, A.file_is ∙ sym B.file_is)

pub one_tree_each : OneTree
one_tree_each text f g p q = sym (leaf_back f) ∙ ap leaf (one_tree (theirs_sum p) (theirs_sum q)) ∙ leaf_back g

-- ---- a text that is stated, taken or refused
module _ {text letters : List ℕ} where
  theirs_stated : {f : Formula} → Stated text letters f → crate.Stated text letters (tree f)
  theirs_stated S = record { eight_words = S.eight_words; is_text = theirs_text S.is_text }

  ours_stated : {t : trees.Formula} → crate.Stated text letters t → Stated text letters (leaf t)
  ours_stated S = record { eight_words = S.eight_words; is_text = ours_text S.is_text }

theirs_takes : {text letters : List ℕ} {room : ℕ} {f : Formula} → Takes text letters room f → crate.Takes text letters room (tree f)
theirs_takes {text} {letters} {room} {f} T = record {
  stated = theirs_stated T.stated;
  proper = proper_is letters f ∙ T.proper;
  need = subst (λ (n : ℕ). n ≤ 4) (sym (need_is f)) T.need;
  fits = subst (λ (l : List ℕ). length l ≤ room) (sym (file_is letters f)) T.fits;
}

-- ---- the refusals
is_refused : (text letters file : List ℕ) (n : ℕ) → Refuses text letters (length file) n
    → formula_call text letters file ≡ record { result = 65536 * n; file = file }
is_refused text letters file n (no_formula h) =
    ⊎_elim (λ x. absurd (h (leaf x.0) (ours_stated x.1))) (λ z. crate.written_so text letters file (z.says_30 (length file))) (crate.looked text letters)
is_refused text letters file n (improper f S p) =
    crate.written_so text letters file (crate.says_31 text letters (length file) (tree f) (theirs_stated S) (proper_is letters f ∙ p))
is_refused text letters file n (needs_more f S p m) =
    crate.written_so text letters file (crate.says_32 text letters (length file) (tree f) (theirs_stated S) (proper_is letters f ∙ p)
    (subst (λ (n : ℕ). 4 < n) (sym (need_is f)) m))
is_refused text letters file n (no_room_lem f S p m r) =
    crate.written_so text letters file (crate.says_33 text letters (length file) (tree f) (theirs_stated S) (proper_is letters f ∙ p)
    (subst (λ (n : ℕ). n ≤ 4) (sym (need_is f)) m) (subst (λ (l : List ℕ). length file < length l) (sym (file_is letters f)) r))

is_translated : (text letters file : List ℕ) (f : Formula) → Takes text letters (length file) f
    → formula_call text letters file ≡ record {
      result = length (book.file_of letters f);
      file = book.file_of letters f ++ drop (length (book.file_of letters f))
          file;
    }
is_translated text letters file f T =
    subst (λ (l : List ℕ). formula_call text letters file ≡ record { result = length l; file = l ++ drop (length l) file }) (file_is letters f)
    (crate.is_translated text letters file (tree f) (theirs_takes T))

either_way : (text letters file : List ℕ) → ((n : ℕ) × Refuses text letters (length file) n) ⊎ ((f : Formula) × Takes text letters (length file) f)
either_way text letters file =
    ⊎_elim (λ x. by (leaf x.0) (ours_stated x.1)) (λ z. inl (30, no_formula (λ f S. z.not_stated (tree f) (theirs_stated S))))
    (crate.looked text letters)
  where
    by : (f : Formula) → Stated text letters f → ((n : ℕ) × Refuses text letters (length file) n) ⊎ ((f : Formula) × Takes text letters (length file) f)
    by f S = go (book.proper_in letters f) refl (ltb 4 (need_of f)) refl (ltb (length file) (length (book.file_of letters f))) refl
      where
        go : (p : Bool) → book.proper_in letters f ≡ p → (q : Bool) → ltb 4 (need_of f) ≡ q → (r : Bool) → ltb (length file) (length (book.file_of letters f)) ≡ r
            → ((n : ℕ) × Refuses text letters (length file) n) ⊎ ((f : Formula) × Takes text letters (length file) f)
        go false a q b r c = inl (31, improper f S a)
        go true a true b r c = inl (32, needs_more f S a (ltb-true 4 (need_of f) b))
        go true a false b true c = inl (33, no_room_lem f S a (ltb-false 4 (need_of f) b) (ltb-true (length file) (length (book.file_of letters f)) c))
        go true a false b false c = inr (
          f,
          record {
            stated = S;
            proper = a;
            need = ltb-false 4 (need_of f) b;
            fits = ltb-false (length file)
                (length (book.file_of letters f)) c;
          },
        )

-- a file has less than 65,536 bytes, and a refusal is of at least 30
short_file : {text letters : List ℕ} {room : ℕ} {f : Formula} → Takes text letters room f → length (book.file_of letters f) ≤ 1664
short_file {text} {letters} {room} {f} T =
    subst (λ (l : List ℕ). length l ≤ 1664) (file_is letters f) (crate.file_short text letters room (tree f) (theirs_takes T))

least : {text letters : List ℕ} {room n : ℕ} → Refuses text letters room n → 30 ≤ n
least (no_formula h) = omega arith
least (improper f S p) = omega arith
least (needs_more f S p m) = omega arith
least (no_room_lem f S p m r) = omega arith

given_there : (text letters file : List ℕ) (n : ℕ) → 1 ≤ n → (formula_call text letters file).result ≡ 65536 * n → Refuses text letters (length file) n
given_there text letters file n h e = ⊎_elim
    (λ x.
    let z = ap (λ (w : Wrote). w.result) (is_refused text letters file x.0 x.1) in
    let same : x.0 ≡ n = omega (arith, e) in
    subst (λ (k : ℕ). Refuses text letters (length file) k) same x.1)
    (λ x. let z = ap (λ (w : Wrote). w.result) (is_translated text letters file x.0 x.1)
    in absurd (omega (arith, e, short_file x.1)))
    (either_way text letters file)

given_then : (text letters file : List ℕ) → (formula_call text letters file).result < 65536 → (f : Formula) × Takes text letters (length file) f
given_then text letters file h = ⊎_elim
    (λ x. let z = ap (λ (w : Wrote). w.result) (is_refused text letters file x.0 x.1) in absurd (omega (arith, least x.1)))
    (λ x. x)
    (either_way text letters file)

pub formula_refusals : FormulaRefusals
formula_refusals = record {
  refused = is_refused;
  translated = is_translated;
  either = either_way;
  only_there = given_there;
  only_then = given_then;
}

-- ---- the run
pub formula_runs : FormulaRuns
formula_runs = record {
  records = λ on s m text letters file f room T B six R h. crate.as_records on s m text letters file f room (theirs_takes T) B six R h;
  calls = λ g C state replies report text letters file f T B. crate.as_call g C state replies report text letters file f (theirs_takes T) B;
  proper = λ rule text letters file f T B. crate.word_proper rule text letters file f (theirs_takes T) B;
  short = λ text letters file f T.
      let t = theirs_takes T in
      let n = crate.file_short text letters (length file) (tree f) t in (
        rw (crate.file_is text letters file (tree f) t) n,
        omega (arith, replies_few letters f),
      );
}

-- ---- wrong translators: a text of one letter, whose word is zero, with room for its file
abbrev zero_words : List ℕ
zero_words = replicate 32 0

one_letter : formula_call (0x61 ∷ []) zero_words (replicate 8 0) ≡ record { result = 8; file = 6 ∷ 0 ∷ 1 ∷ 0 ∷ 0 ∷ 0 ∷ 0 ∷ 0 ∷ [] }
unfolding translation_of formula_of factor_of more leaf_of letter_word proper_in their-need file_of
one_letter = refl

no_text : formula_call [] zero_words (replicate 8 0) ≡ record { result = 1966080; file = replicate 8 0 }
unfolding translation_of formula_of factor_of more leaf_of letter_word proper_in their-need file_of
no_text = refl

pub wrong_translators : WrongTranslators
wrong_translators = record {
  refuses_everything = λ t h K.
      let k = (K.kept (0x61 ∷ []) zero_words (replicate 8 0) (omega arith) (omega arith) (omega arith)).result_is in
      let e = ap (λ (w : Wrote). w.result) one_letter in
      omega (arith, h (0x61 ∷ []) zero_words (replicate 8 0));
  single_reply = λ t n h K.
      let k = (K.kept (0x61 ∷ []) zero_words (replicate 8 0) (omega arith) (omega arith) (omega arith)).result_is in
      let l = (K.kept [] zero_words (replicate 8 0) tt (omega arith) (omega arith)).result_is in
      let e = ap (λ (w : Wrote). w.result) one_letter in
      let z = ap (λ (w : Wrote). w.result) no_text in
      omega (arith, h (0x61 ∷ []) zero_words (replicate 8 0), h [] zero_words (replicate 8 0));
  does_nothing = λ t h K.
      let k = (K.kept (0x61 ∷ []) zero_words (replicate 8 0) (omega arith) (omega arith) (omega arith)).file_is in
      let e : ◌≡◌ {A = ℕ} 0 6 = ap (λ (l : List ℕ). get_or l 0 0) (sym (h (0x61 ∷ []) zero_words (replicate 8 0)) ∙ k ∙ ap (λ (w : Wrote). w.file) one_letter) in
      omega arith;
}

-- ---- the examples
read_so : (text : List ℕ) (t : trees.Formula) → formula_of text ≡ Found t [] → 1 ≤ length text → length text ≤ 256 → IsText text (leaf t)
read_so text t e h l = let T = read_is text t [] e in ours_text (record { some = h; short = l; inside = T.0; shallow = T.1 })

pub formula_examples : FormulaExamples
unfolding translation_of formula_of factor_of more leaf_of letter_word proper_in their-need file_of sub div mul chsf size value
formula_examples = record {
  own_tree = read_so _ _ refl (lit≤ tt) (lit≤ tt);
  own_file = refl;
  own_word = refl;
  own_room = (refl, refl);
  minus_first = read_so _ _ refl (lit≤ tt) (lit≤ tt);
  minus_second = read_so _ _ refl (lit≤ tt) (lit≤ tt);
  left_to_right = read_so _ _ refl (lit≤ tt) (lit≤ tt);
  stronger = read_so _ _ refl (lit≤ tt) (lit≤ tt);
  five = refl;
  two = (refl, refl);
  sixteen = (refl, refl, refl);
  seventeen = (refl, refl, refl);
  outside = (refl, refl, refl, refl, refl, refl, refl, refl, refl, refl);
  letters = (refl, refl, refl);
  order = (refl, refl, refl, refl);
}
