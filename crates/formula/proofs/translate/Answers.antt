-- `formula::translate` meets its contract: five ways to be turned away, and a formula that is judged by its tokens. Assumes nothing.
use mathlib.Core.Path.{◌≡◌, refl, sym, ◌∙◌, ap, subst}
use Prim.Native.Nat.{ℕ, ◌≤◌}
use native.Mathlib.Omega.{arith}
use lib.ListN.{length, take}
use lib.Seq.{length-take-le}
use Rattle.formula.specs.Reader.{formula_of}
use Rattle.formula.specs.Told.{most_text}
use Rattle.formula.specs.Postfix.{tokens_of, Spells}
use Rattle.formula.specs.Translation.{Translated, judged, translation_of, Translates}
use Rattle.formula.proofs.Translating.{away, letters_wrong, text_empty, text_long, text_fits, first_asks, no_part, not_all, All, all, judged_by_lem}
use Rattle.formula.proofs.translate.Goals as goal

pub returns-then-letters-ne-LETTER_BYTES : goal.returns-then-letters-ne-LETTER_BYTES
returns-then-letters-ne-LETTER_BYTES c = away (letters_wrong _ _ _ c.if-letters-ne-LETTER_BYTES.true) c.turn_away.ensures.0 c.turn_away.ensures.1

pub returns-then-n-eq0 : goal.returns-then-n-eq0
returns-then-n-eq0 c = away (text_empty _ _ _ c.if-letters-ne-LETTER_BYTES.false c.if-n-eq0.true) c.turn_away-then-n-eq0.ensures.0 c.turn_away-then-n-eq0.ensures.1

pub returns-then-n-gt-MOST_TEXT : goal.returns-then-n-gt-MOST_TEXT
returns-then-n-gt-MOST_TEXT c = away (text_long _ _ _ c.if-letters-ne-LETTER_BYTES.false c.if-n-eq0.false c.if-n-gt-MOST_TEXT.true) c.turn_away-then-n-gt-MOST_TEXT.ensures.0
    c.turn_away-then-n-gt-MOST_TEXT.ensures.1

pub sum-p-requires : goal.sum-p-requires
sum-p-requires c = first_asks c.args.text.now c.if-n-gt-MOST_TEXT.false

pub returns-then-p-eq-NOWHERE : goal.returns-then-p-eq-NOWHERE
returns-then-p-eq-NOWHERE c =
    let fits : (let a = c.args in translation_of a.letters.now a.text.now
    (length a.file.now) ≡ judged a.letters.now (length a.file.now) (formula_of a.text.now)) = let a = c.args in text_fits a.letters.now a.text.now (length a.file.now)
    c.if-letters-ne-LETTER_BYTES.false c.if-n-eq0.false c.if-n-gt-MOST_TEXT.false in
    away (fits
    ∙ ap (judged _ _) (no_part c.args.text.now _ _
    c.sum-p.result c.if-n-gt-MOST_TEXT.false c.sum-p.ensures c.if-p-eq-NOWHERE.true))
    c.turn_away-then-p-eq-NOWHERE.ensures.0 c.turn_away-then-p-eq-NOWHERE.ensures.1

pub returns-then-at_of-n : goal.returns-then-at_of-n
returns-then-at_of-n c =
    let fits : (let a = c.args in translation_of a.letters.now a.text.now
    (length a.file.now) ≡ judged a.letters.now (length a.file.now) (formula_of a.text.now)) = let a = c.args in text_fits a.letters.now a.text.now (length a.file.now)
    c.if-letters-ne-LETTER_BYTES.false c.if-n-eq0.false c.if-n-gt-MOST_TEXT.false in
    away (fits
    ∙ ap (judged _ _) (not_all c.args.text.now _ _
    c.sum-p.result c.if-n-gt-MOST_TEXT.false c.sum-p.ensures (λ e. c.if-at_of-n.true (c.at_of.ensures ∙ e)))) c.turn_away-then-at_of-n.ensures.0 c.turn_away-then-at_of-n.ensures.1

pub slice_bounds-postfix-end : goal.slice_bounds-postfix-end
slice_bounds-postfix-end c =
    let all-of-it : (All c.args.text.now
    c.sum-p.new.out c.sum-p.result) = all c.args.text.now _
    c.sum-p.new.out c.sum-p.result c.if-n-gt-MOST_TEXT.false c.sum-p.ensures refl c.if-p-eq-NOWHERE.false (sym c.at_of.ensures
    ∙ c.if-at_of-n.false) in
    let lent : ((c.end_of.result ≤ most_text) × (length (take c.end_of.result c.sum-p.new.out)
    ≡ c.end_of.result)) = let A = all-of-it in
    let e = c.end_of.ensures in
    (omega (arith, A.few), length-take-le c.end_of.result c.sum-p.new.out (omega (arith, A.few, A.room))) in
    let A = all-of-it in omega (arith, lent.0, A.room)

pub slice_bounds-written-end : goal.slice_bounds-written-end
slice_bounds-written-end c =
    let all-of-it : (All c.args.text.now
    c.sum-p.new.out c.sum-p.result) = all c.args.text.now _
    c.sum-p.new.out c.sum-p.result c.if-n-gt-MOST_TEXT.false c.sum-p.ensures refl c.if-p-eq-NOWHERE.false (sym c.at_of.ensures
    ∙ c.if-at_of-n.false) in
    let lent : ((c.end_of.result ≤ most_text) × (length (take c.end_of.result c.sum-p.new.out)
    ≡ c.end_of.result)) = let A = all-of-it in
    let e = c.end_of.ensures in
    (omega (arith, A.few), length-take-le c.end_of.result c.sum-p.new.out (omega (arith, A.few, A.room))) in
    sym lent.1

pub written-requires : goal.written-requires
written-requires c =
    let all-of-it : (All c.args.text.now
    c.sum-p.new.out c.sum-p.result) = all c.args.text.now _
    c.sum-p.new.out c.sum-p.result c.if-n-gt-MOST_TEXT.false c.sum-p.ensures refl c.if-p-eq-NOWHERE.false (sym c.at_of.ensures
    ∙ c.if-at_of-n.false) in
    let lent : ((c.end_of.result ≤ most_text) × (length (take c.end_of.result c.sum-p.new.out)
    ≡ c.end_of.result)) = let A = all-of-it in
    let e = c.end_of.ensures in
    (omega (arith, A.few), length-take-le c.end_of.result c.sum-p.new.out (omega (arith, A.few, A.room))) in
    let spells : (Spells (take c.end_of.result c.sum-p.new.out) (tokens_of all-of-it.tree)) = let A = all-of-it in subst (λ (n : ℕ). Spells (take n c.sum-p.new.out) (tokens_of A.tree))
    (sym c.end_of.ensures) A.spells in
    let L = lent in ((tokens_of all-of-it.tree, spells), omega (arith, L.0, L.1), c.if-letters-ne-LETTER_BYTES.false)

pub returns : goal.returns
returns c =
    let fits : (let a = c.args in translation_of a.letters.now a.text.now
    (length a.file.now) ≡ judged a.letters.now (length a.file.now) (formula_of a.text.now)) = let a = c.args in text_fits a.letters.now a.text.now (length a.file.now)
    c.if-letters-ne-LETTER_BYTES.false c.if-n-eq0.false c.if-n-gt-MOST_TEXT.false in
    let all-of-it : (All c.args.text.now
    c.sum-p.new.out c.sum-p.result) = all c.args.text.now _
    c.sum-p.new.out c.sum-p.result c.if-n-gt-MOST_TEXT.false c.sum-p.ensures refl c.if-p-eq-NOWHERE.false (sym c.at_of.ensures
    ∙ c.if-at_of-n.false) in
    let spells : (Spells (take c.end_of.result c.sum-p.new.out) (tokens_of all-of-it.tree)) = let A = all-of-it in subst (λ (n : ℕ). Spells (take n c.sum-p.new.out) (tokens_of A.tree))
    (sym c.end_of.ensures) A.spells in
    let a = c.args in
    let A = all-of-it in
    let e = fits ∙ ap (judged _ _) A.read
    ∙ sym (judged_by_lem a.letters.now (length a.file.now) A.tree) in
    subst (λ (t : Translated). Translates t c.written.result.refusal c.written.result.size a.file.now
    c.written.new.file) (sym e) (c.written.ensures (tokens_of A.tree)
    spells)
