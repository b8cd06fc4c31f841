-- A line is parted into words character by character: blanks are passed over, and a word grows until a blank, a hash or the end. Assumes nothing.
use mathlib.Core.Path.{◌≡◌, refl, sym, ap, ◌∙◌}
use mathlib.Core.Bool.{Bool, true, false, cond, not}
use mathlib.Core.List.{List, [], ◌∷◌, ◌++◌}
use Prim.Native.Nat.{ℕ, zero, suc, ◌+◌, ◌-◌, ◌≤◌, ◌<◌}
use mathlib.Core.Logic.{⊎_elim}
use native.Mathlib.Nat.{add-zero, eq-or-lt_of_le}
use native.Mathlib.Numerals.{add-one}
use native.Mathlib.Omega.{arith}
use borrow.Author.Tests.{eqb-true, eqb-false, ltb-true, ltb-false}
use lib.Dec.{eqb, ltb}
use lib.ListN.{length, take, drop, get_or, drop_of_length-le, length-drop}
use lib.Seq.{drop-cons, take-suc, get_or-drop, length-take-le}
use Rattle.record_text.specs.Words.{Word, word, is_blank, is_hash, ended, words_from, words_at, between}
use Rattle.record_text.specs.Held.{passes, RunTo, NextWord}
use Rattle.record_text.proofs.Tests.{clash}

-- ---- the characters: what is passed over is no hash, and is a blank or none
passed_hash : (blanks : Bool) (c : ℕ) → passes blanks c ≡ true → is_hash c ≡ false
passed_hash blanks c e = go (is_hash c) e
  where
    go : (t : Bool) → cond t false (cond (is_blank c) blanks (not blanks)) ≡ true → t ≡ false
    go true f = clash f
    go false f = refl

passed_blank : (c : ℕ) (blanks : Bool) → passes blanks c ≡ true → is_blank c ≡ blanks
passed_blank c blanks e = go (is_hash c) (is_blank c) blanks e
  where
    go : (t b p : Bool) → cond t false (cond b p (not p)) ≡ true → b ≡ p
    go true b p f = clash f
    go false true true f = refl
    go false true false f = clash f
    go false false true f = clash f
    go false false false f = refl

-- one character more
pub further : (blanks : Bool) (line : List ℕ) (at i : ℕ) → ((j : ℕ) → at ≤ j → j < i → passes blanks (get_or line j 0) ≡ true)
    → passes blanks (get_or line i 0) ≡ true → (j : ℕ) → at ≤ j → j < i + 1 → passes blanks (get_or line j 0) ≡ true
further blanks line at i p e j l k =
    let m : j ≤ i = omega arith in
    ⊎_elim (λ (z : j ≡ i). ap (λ (n : ℕ). passes blanks (get_or line n 0)) z ∙ e) (λ (h : j < i). p j l h) (eq-or-lt_of_le m)

-- what ends blanks and a word at once is a hash
hash_only : (c : ℕ) → passes true c ≡ false → passes false c ≡ false → is_hash c ≡ true
hash_only c e f = go (is_hash c) (is_blank c) e f
  where
    go : (t b : Bool) → cond t false (cond b true false) ≡ false → cond t false (cond b false true) ≡ false → t ≡ true
    go true b e f = refl
    go false true e f = sym e
    go false false e f = sym f

differ : {a b : ℕ} → (a ≡ b → ⊥) → a ≤ b → a < b
differ n o = omega arith

-- ---- where the front of a line is looked at
here : (at : ℕ) (w line : List ℕ) → at < length line
    → words_from at w (drop at line) ≡ words_from at w (get_or line at 0 ∷ drop (at + 1) line)
here at w line l = ap (words_from at w) (drop-cons line at 0 l ∙ ap (λ (n : ℕ). get_or line at 0 ∷ drop n line) (sym (add-one at)))

-- no word begins at a hash, or at the end
hash_none : (at c : ℕ) (l : List ℕ) → is_hash c ≡ true → words_from at [] (c ∷ l) ≡ []
unfolding words_from
hash_none at c l e = rw e

end_none : (at : ℕ) → words_from at [] [] ≡ []
unfolding words_from
end_none at = refl

-- a blank is passed over, and a word grows by a character of it
passed_over : (at c : ℕ) (l : List ℕ) → passes true c ≡ true → words_from at [] (c ∷ l) ≡ words_from (at + 1) [] l
unfolding words_from
passed_over at c l e = rw (passed_hash true c e, passed_blank c true e)

pub taken_in : (at : ℕ) (w : List ℕ) (c : ℕ) (l : List ℕ) → passes false c ≡ true → words_from at w (c ∷ l) ≡ words_from (at + 1) (w ++ (c ∷ [])) l
unfolding words_from
taken_in at w c l e = rw (passed_hash false c e, passed_blank c false e)

-- ---- blanks are passed over
module _ (line : List ℕ) where
  skips : (i : ℕ) → i < length line → passes true (get_or line i 0) ≡ true → words_at i line ≡ words_at (i + 1) line
  skips i l e = here i [] line l ∙ passed_over i (get_or line i 0) (drop (i + 1) line) e

  skipped : (n at : ℕ) → at + n ≤ length line → ((i : ℕ) → at ≤ i → i < at + n → passes true (get_or line i 0) ≡ true)
      → words_at at line ≡ words_at (at + n) line
  skipped zero at h p = ap (λ (i : ℕ). words_at i line) (sym (add-zero at))
  skipped (suc n) at h p =
      let z : at + 1 + n ≡ at + suc n = omega arith in
      skips at (omega arith) (p at (omega arith) (omega arith))
      ∙ skipped n (at + 1) (omega arith) (λ i l k. p i (omega arith) (omega arith)) ∙ ap (λ (i : ℕ). words_at i line) z

  -- ---- a word grows
  module _ (from : ℕ) where
    longer : (i : ℕ) → from ≤ i → i < length line → between from (i + 1) line ≡ between from i line ++ (get_or line i 0 ∷ [])
    longer i o l =
        let n : i + 1 - from ≡ suc (i - from) = omega arith in
        let k : i - from < length (drop from line) = omega (arith, length-drop from line) in
        let m : from + (i - from) ≡ i = omega arith in
        ap (λ (n : ℕ). take n (drop from line)) n ∙ take-suc (drop from line) (i - from) 0 k
        ∙ ap (λ (c : ℕ). between from i line ++ (c ∷ [])) (get_or-drop from line (i - from) 0 ∙ ap (λ (j : ℕ). get_or line j 0) m)

    abbrev grown : ℕ → List Word
    grown i = words_from i (between from i line) (drop i line)

    grows : (i : ℕ) → from ≤ i → i < length line → passes false (get_or line i 0) ≡ true → grown i ≡ grown (i + 1)
    grows i o l e =
        here i (between from i line) line l ∙ taken_in i (between from i line) (get_or line i 0) (drop (i + 1) line) e
        ∙ ap (λ (w : List ℕ). words_from (i + 1) w (drop (i + 1) line)) (sym (longer i o l))

    grew : (n i : ℕ) → from ≤ i → i + n ≤ length line → ((j : ℕ) → i ≤ j → j < i + n → passes false (get_or line j 0) ≡ true) → grown i ≡ grown (i + n)
    grew zero i o h p = ap grown (sym (add-zero i))
    grew (suc n) i o h p =
        let z : i + 1 + n ≡ i + suc n = omega arith in
        grows i o (omega arith) (p i (omega arith) (omega arith))
        ∙ grew n (i + 1) (omega arith) (omega arith) (λ j l k. p j (omega arith) (omega arith)) ∙ ap grown z

    starts : words_at from line ≡ grown from
    starts =
        let z : from - from ≡ 0 = omega arith in
        ap (λ (n : ℕ). words_from from (take n (drop from line)) (drop from line)) (sym z)

-- a word ends at a blank, at a hash and at the end of the line
module _ (line : List ℕ) (i : ℕ) (w : List ℕ) where
  stop : (c : ℕ) (l : List ℕ) → passes false c ≡ false → words_from i w (c ∷ l) ≡ ended i w (words_from i [] (c ∷ l))
  stop c l e =
      unfold words_from in go (is_hash c) (is_blank c) (words_from (i + 1) [] l) (words_from (i + 1) (w ++ (c ∷ [])) l) (words_from (i + 1) (c ∷ []) l) e
    where
      go : (h b : Bool) (ws vs us : List Word) → cond h false (cond b false true) ≡ false
          → cond h (ended i w []) (cond b (ended i w ws) vs) ≡ ended i w (cond h (ended i [] []) (cond b (ended i [] ws) us))
      go true b ws vs us f = refl
      go false true ws vs us f = refl
      go false false ws vs us f = clash (sym f)

  ends : (i < length line → passes false (get_or line i 0) ≡ false) → words_from i w (drop i line) ≡ ended i w (words_at i line)
  ends s = go (ltb i (length line)) refl
    where
      last : words_from i w [] ≡ ended i w (words_from i [] [])
      last = unfold words_from in refl

      go : (t : Bool) → ltb i (length line) ≡ t → words_from i w (drop i line) ≡ ended i w (words_at i line)
      go true e =
          let l = ltb-true i (length line) e in
          here i w line l ∙ stop (get_or line i 0) (drop (i + 1) line) (s l) ∙ ap (ended i w) (sym (here i [] line l))
      go false e =
          let none = drop_of_length-le line (ltb-false i (length line) e) in
          ap (words_from i w) none ∙ last ∙ ap (λ (l : List ℕ). ended i w (words_from i [] l)) (sym none)

-- ---- the next word
module _ (line : List ℕ) (at from to : ℕ) (f : RunTo true line at from) (t : RunTo false line from to) where
  some : (w : List ℕ) (ws : List Word) → length w ≡ to - from → from < to → ended to w ws ≡ word from w ∷ ws
  some [] ws e l = absurd (omega arith)
  some (c ∷ w) ws e l = let z : to - length (c ∷ w) ≡ from = omega arith in ap (λ (n : ℕ). word n (c ∷ w) ∷ ws) z

  none_at : from ≡ to → words_at from line ≡ []
  none_at e = go (ltb from (length line)) refl
    where
      go : (s : Bool) → ltb from (length line) ≡ s → words_at from line ≡ []
      go true h =
          let l = ltb-true from (length line) h in
          let u = rw (sym e) at (t.stops (let z = t.onward in omega arith)) in
          here from [] line l ∙ hash_none from (get_or line from 0) (drop (from + 1) line) (hash_only (get_or line from 0) (f.stops l) u)
      go false h = ap (words_from from []) (drop_of_length-le line (ltb-false from (length line) h)) ∙ end_none from

  blanks_passed : words_at at line ≡ words_at from line
  blanks_passed =
      let o = f.onward in
      let z : at + (from - at) ≡ from = omega arith in
      let h = f.within in
      skipped line (from - at) at (omega arith) (λ i l k. f.passed i l (omega arith)) ∙ ap (λ (i : ℕ). words_at i line) z

  word_read : words_at from line ≡ ended to (between from to line) (words_at to line)
  word_read =
      let o = t.onward in
      let z : from + (to - from) ≡ to = omega arith in
      let h = t.within in
      starts line from ∙ grew line from (to - from) from (omega arith) (omega arith) (λ i l k. t.passed i l (omega arith)) ∙ ap (grown line from) z
      ∙ ends line to (between from to line) t.stops

  pub found : NextWord line at (record { from = from; to = to })
  found = record { is = blanks_passed ∙ go (eqb from to) refl; onward = f.onward; ordered = t.onward; within = t.within }
    where
      go : (s : Bool) → eqb from to ≡ s → words_at from line ≡ cond s [] (word from (between from to line) ∷ words_at to line)
      go true e = none_at (eqb-true from to e)
      go false e =
          let n = eqb-false from to e in
          let o = t.onward in
          word_read ∙ some (between from to line) (words_at to line)
          (length-take-le (to - from) (drop from line) (let v = t.within in omega (arith, length-drop from line))) (differ n o)
