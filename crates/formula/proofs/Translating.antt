-- The translator, case by case: each refusal in its order, and the file. Assumes nothing.
use mathlib.Core.Path.{◌≡◌, refl, sym, ◌∙◌, ap, subst}
use mathlib.Core.Bool.{Bool, true, false}
use mathlib.Core.List.{List, [], ◌∷◌, ◌++◌}
use Prim.Native.Nat.{ℕ, ◌+◌, ◌*◌, ◌≤◌, ◌<◌}
use native.Mathlib.Omega.{arith}
use borrow.Author.Tests.{eq-eqb, ne_eqb, lt-ltb, le-ltb}
use lib.ListN.{length, take, drop, length-append, length-drop}
use lib.Seq.{sets, length-sets}
use Rattle.formula.specs.Formula.{Formula, need_of}
use Rattle.formula.specs.Reader.{Read, Found, Outside, then, most_nested, sum_of, whole, formula_of}
use Rattle.formula.specs.File.{proper_in}
use Rattle.formula.specs.Told.{most_text, at_of, end_of, nowhere, Asks, Reads, ReadsBy}
use Rattle.formula.specs.Postfix.{Token, LetterAt, Digits, Gives, postfix_of, tokens_of, spelling, Spells, stepped, walked, unwritten, records_of}
use Rattle.formula.specs.Translation.{letter_bytes, most_need, Translated, turned_away, judged, judged_by, translation_of, Translates}
use Rattle.formula.specs.declared.postfix.Written.{Written}
use Rattle.formula.specs.declared.Refusal.{Refusal}
use Rattle.formula.specs.declared.Refusal.TheVariants.{Done, NoFormula, Improper, NeedsMore, NoRoom}
use Rattle.formula.proofs.Stores.{sets_front}
use Rattle.formula.proofs.Places.{first_at, first_end}
use Rattle.formula.proofs.Reading.{somewhere}
use Rattle.formula.proofs.Texts.{read_is}
use Rattle.formula.proofs.Tokens.{spells_postfix, records_file, walked_formula, sum_good}

-- a call that is turned away
pub away : {t : Translated} {n refusal : Refusal} {size : ℕ} {before : List ℕ} → t ≡ turned_away n → refusal ≡ n → size ≡ 0 → Translates t refusal size before
    before
away {t} {n} {refusal} {size} {before} e r s =
    subst (λ (t : Translated). Translates t refusal size before before) (sym e) (record { refusal_is = r; size_is = s; after_is = refl; small = omega arith })

module _ (letters text : List ℕ) (room : ℕ) where
  pub letters_wrong : (length letters ≡ letter_bytes → ⊥) → translation_of letters text room ≡ turned_away NoFormula
  unfolding translation_of
  letters_wrong h = rw (ne_eqb (length letters) letter_bytes h)

  pub text_empty : length letters ≡ letter_bytes → length text ≡ 0 → translation_of letters text room ≡ turned_away NoFormula
  unfolding translation_of
  text_empty h e = rw (eq-eqb (length letters) letter_bytes h, eq-eqb (length text) 0 e)

  pub text_long : length letters ≡ letter_bytes → (length text ≡ 0 → ⊥) → most_text < length text → translation_of letters text room ≡ turned_away NoFormula
  unfolding translation_of
  text_long h e l = rw (eq-eqb (length letters) letter_bytes h, ne_eqb (length text) 0 e, lt-ltb most_text (length text) l)

  pub text_fits : length letters ≡ letter_bytes → (length text ≡ 0 → ⊥) → length text ≤ most_text → translation_of letters text room ≡ judged letters room
      (formula_of text)
  unfolding translation_of
  text_fits h e l = rw (eq-eqb (length letters) letter_bytes h, ne_eqb (length text) 0 e, le-ltb most_text (length text) l)

-- ---- the file of tokens
-- as many bytes were written as the records have
walked_end : (letters : List ℕ) (w : Written) (ts : List Token) → (walked letters w ts).end ≡ w.end + length (records_of letters ts)
unfolding walked records_of
walked_end letters w [] = omega arith
walked_end letters w (LetterAt k ∷ ts) = walked_end letters (stepped letters w (LetterAt k)) ts ∙ omega arith
walked_end letters w (Digits s ∷ ts) = walked_end letters (stepped letters w (Digits s)) ts ∙ omega arith
walked_end letters w (Gives c ∷ ts) = walked_end letters (stepped letters w (Gives c)) ts ∙ omega arith

-- at most eight for each byte of postfix
records_few : (letters : List ℕ) (ts : List Token) → length (records_of letters ts) ≤ 8 * length (spelling ts)
unfolding spelling records_of
records_few letters [] = omega arith
records_few letters (LetterAt k ∷ ts) = omega (arith, records_few letters ts)
records_few letters (Digits s ∷ ts) = omega (arith, records_few letters ts, length-append s (spelling ts))
records_few letters (Gives c ∷ ts) = omega (arith, records_few letters ts)

module _ (letters : List ℕ) (room : ℕ) (ts : List Token) (w : Written) (is : w ≡ walked letters unwritten ts) where
  end_is : w.end ≡ length (records_of letters ts)
  end_is = omega (arith, ap (λ (x : Written). x.end) is, walked_end letters unwritten ts)

  proper_is : {b : Bool} → w.proper ≡ b → (walked letters unwritten ts).proper ≡ b
  proper_is e = ap (λ (x : Written). x.proper) (sym is) ∙ e

  need_is : w.need ≡ (walked letters unwritten ts).need
  need_is = ap (λ (x : Written). x.need) is

  pub improper : w.proper ≡ false → judged_by letters room ts ≡ turned_away Improper
  improper e = rw (proper_is e)

  pub too_much : w.proper ≡ true → most_need < w.need → judged_by letters room ts ≡ turned_away NeedsMore
  too_much e n = rw (proper_is e, lt-ltb most_need (walked letters unwritten ts).need (omega (arith, need_is)))

  pub no_room_lem : w.proper ≡ true → w.need ≤ most_need → room < w.end → judged_by letters room ts ≡ turned_away NoRoom
  no_room_lem e n r = rw (
    proper_is e,
    le-ltb most_need (walked letters unwritten ts).need (omega (arith, need_is)),
    lt-ltb room (length (records_of letters ts))
        (omega (arith, end_is)),
  )

  done : w.proper ≡ true → w.need ≤ most_need → w.end ≤ room → judged_by letters room ts ≡ record { refusal = Done; file = records_of letters ts }
  done e n r = rw (
    proper_is e,
    le-ltb most_need (walked letters unwritten ts).need (omega (arith, need_is)),
    le-ltb room (length (records_of letters ts))
        (omega (arith, end_is)),
  )

  -- the file stands at the front of what was lent
  pub written : {bytes before after : List ℕ} → Spells bytes ts → length bytes ≤ most_text → room ≡ length before → w.proper ≡ true → w.need ≤ most_need
      → w.end ≤ room
      → after ≡ sets before 0 (records_of letters ts) → Translates (judged_by letters room ts) Done w.end before after
  written {bytes} {before} {after} S short h e n r f =
      let few = records_few letters ts in
      let l = ap length S.spelling_is in
      subst (λ (t : Translated). Translates t Done w.end before after) (sym (done e n r)) (record {
        refusal_is = refl;
        size_is = end_is;
        after_is = f ∙ sets_front (records_of letters ts) before (omega (arith, end_is));
        small = omega (arith, end_is);
      })

-- ---- a text that was read
pub first_asks : (text : List ℕ) → length text ≤ most_text → Asks text 0
first_asks text h = let a = first_at in let e = first_end in record { short = h; inside = omega arith; few = omega arith }

module _ (text before after : List ℕ) (p : ℕ) (short : length text ≤ most_text)
    (R : ReadsBy (sum_of most_nested) text (record { place = 0; next = p; before = before; after = after })) where
  from_first : Reads text (record { place = 0; next = p; before = before; after = after }) (sum_of most_nested text)
  from_first = subst (λ (i : ℕ). Reads text (record { place = 0; next = p; before = before; after = after }) (sum_of most_nested (drop i text))) first_at R

  -- the whole text is no formula where none is found, or not at its end
  pub no_part : p ≡ nowhere → formula_of text ≡ Outside
  unfolding formula_of
  no_part h = go (sum_of most_nested text) from_first
    where
      go : (x : Read) → Reads text (record { place = 0; next = p; before = before; after = after }) x → then x whole ≡ Outside
      go (Found f rest) R = absurd (somewhere text p short R.told.inside h)
      go Outside R = refl

  pub not_all : (at_of p ≡ length text → ⊥) → formula_of text ≡ Outside
  unfolding formula_of
  not_all h = go (sum_of most_nested text) from_first
    where
      some : (f : Formula) (l : List ℕ) → l ≡ drop (at_of p) text → at_of p ≤ length text → whole f l ≡ Outside
      some f [] e i = let n = ap length e ∙ length-drop (at_of p) text in absurd (h (omega arith))
      some f (b ∷ l) e i = refl

      go : (x : Read) → Reads text (record { place = 0; next = p; before = before; after = after }) x → then x whole ≡ Outside
      go (Found f rest) R = some f rest R.told.rest_is R.told.inside
      go Outside R = refl

-- a formula that takes up the whole text, and its postfix
pub record All (text after : List ℕ) (p : ℕ) : Type 0 where
  pub tree : Formula
  pub read : formula_of text ≡ Found tree []
  pub spells : Spells (take (end_of p) after) (tokens_of tree)
  pub few : end_of p ≤ most_text
  pub room : length after ≡ most_text

take_front : (a l : List ℕ) → take (length a) (a ++ l) ≡ a
take_front [] l = refl
take_front (x ∷ a) l = ap (λ (m : List ℕ). x ∷ m) (take_front a l)

pub all : (text before after : List ℕ) (p : ℕ) → length text ≤ most_text
    → ReadsBy (sum_of most_nested) text (record { place = 0; next = p; before = before; after = after })
    → length before ≡ most_text
    → (p ≡ nowhere → ⊥) → at_of p ≡ length text → All text after p
unfolding formula_of
all text before after p short R room n e = go (sum_of most_nested text) refl (from_first text before after p short R)
  where
    none_left : (l : List ℕ) → l ≡ drop (at_of p) text → l ≡ []
    none_left [] i = refl
    none_left (b ∷ l) i = let m = ap length i ∙ length-drop (at_of p) text in absurd (omega arith)

    go : (x : Read) → sum_of most_nested text ≡ x → Reads text (record { place = 0; next = p; before = before; after = after }) x → All text after p
    go (Found f rest) i R =
        let T = R.told in
        let z = first_end in
        let y = first_at in
        let r : formula_of text ≡ Found f [] = ap (λ (x : Read). then x whole) (i ∙ ap (Found f) (none_left rest T.rest_is)) in
        let q = postfix_of f in
        let m : end_of p ≡ length q = omega (arith, T.end_is) in
        record {
          tree = f;
          read = r;
          spells = record {
            spelling_is = ap (λ (k : ℕ). take k after) m
                ∙ ap (take (length q)) (T.stored_is ∙ ap (λ (k : ℕ). sets before k q) z ∙ sets_front q before (omega (arith, T.few, T.inside)))
                ∙ take_front q (drop (length q) before) ∙ spells_postfix f;
            good = sum_good (read_is text f [] r).0;
          };
          few = omega (arith, T.few, T.inside);
          room = ap length T.stored_is ∙ length-sets before (end_of 0) q ∙ room;
        }
    go Outside i R = absurd (n R.told)

-- its tokens are judged as it is
pub judged_by_lem : (letters : List ℕ) (room : ℕ) (f : Formula) → judged_by letters room (tokens_of f) ≡ judged letters room (Found f [])
judged_by_lem letters room f =
    let e = walked_formula letters unwritten f in
    let n : (walked letters unwritten (tokens_of f)).need ≡ need_of f = ap (λ (x : Written). x.need) e ∙ omega arith in
    let p : (walked letters unwritten (tokens_of f)).proper ≡ proper_in letters f = ap (λ (x : Written). x.proper) e in
    rw (n, p, records_file letters f)
