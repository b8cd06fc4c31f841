-- `listing::options::asked_of` is its definition, by the number of words and the words. Assumes nothing.
use mathlib.Core.Path.{◌≡◌}
use mathlib.Core.Bool.{Bool, true, not, ◌&&◌, ◌||◌, cond}
use mathlib.Core.List.{List}
use Prim.Native.Nat.{ℕ}
use borrow.Author.Tests.{eq-eqb, ne_eqb}
use lib.Dec.{eqb}
use mir.Val.{bool_byte}
use Rattle.listing.specs.declared.options.Asked.TheVariants.{Under, Nothing}
use Rattle.listing.specs.Options.{am9511_text, nearest_text, asked_of}
use Rattle.listing.proofs.Texts.{tells, asked_by}
use Rattle.listing.proofs.options.asked_of.Goals as goal

-- what the code compares where there is more than one word
by_tests : (words : ℕ) (first second : List ℕ) {older alone last : Bool} → (words ≡ 1 → ⊥)
    → (older ≡ true → first ≡ am9511_text) × (first ≡ am9511_text → older ≡ true)
    → (alone ≡ true → first ≡ nearest_text) × (first ≡ nearest_text → alone ≡ true)
    → (last ≡ true → second ≡ nearest_text) × (second ≡ nearest_text → last ≡ true)
    → cond (eqb words 2 && (older || alone)) (Under (bool_byte older) (bool_byte (not older)))
    (cond ((eqb words 3 && older) && last) (Under 1 1) Nothing)
    ≡ asked_of words first second
by_tests words first second n a b c =
    asked_by words first second (ne_eqb _ 1 n) (tells first am9511_text _ a.0 a.1) (tells first nearest_text _ b.0 b.1)
    (tells second nearest_text _ c.0 c.1)

pub returns-then-words-eq1 : goal.returns-then-words-eq1
unfolding asked_of
returns-then-words-eq1 c = rw (eq-eqb _ _ c.if-words-eq1.true)

pub returns-then-words-older : goal.returns-then-words-older
returns-then-words-older c =
    let a = c.args in
    rw c.if-words-older.true at (by_tests a.words a.first.now a.second.now c.if-words-eq1.false c.same-older.ensures c.same-alone.ensures
    c.same-last.ensures)

pub returns-then-words-older-2 : goal.returns-then-words-older-2
returns-then-words-older-2 c =
    let a = c.args in
    rw (c.if-words-older.false, c.if-words-older-2.true) at (by_tests a.words a.first.now a.second.now c.if-words-eq1.false
    c.same-older.ensures c.same-alone.ensures c.same-last.ensures)

pub returns : goal.returns
returns c =
    let a = c.args in
    rw (c.if-words-older.false, c.if-words-older-2.false) at (by_tests a.words a.first.now a.second.now c.if-words-eq1.false
    c.same-older.ensures c.same-alone.ensures c.same-last.ensures)
