-- Readings: what a leaf, a minus and brackets make of a place, and where a factor begins. Assumes nothing.
use mathlib.Core.Path.{◌≡◌, refl, sym, ◌∙◌, ap, subst}
use mathlib.Core.Bool.{Bool, true, false}
use mathlib.Core.Logic.{⊎_elim}
use mathlib.Core.List.{List, [], ◌∷◌}
use Prim.Native.Nat.{ℕ, suc, ◌+◌, ◌-◌, ◌≤◌, ◌<◌}
use native.Mathlib.Omega.{arith}
use native.Mathlib.Nat.{add-zero, pos_of_ne-zero}
use native.Mathlib.Numerals.{add-one}
use borrow.Author.Tests.{eq-eqb, ne_eqb, le-leb, lt-leb, eqb-true, eqb-false}
use lib.Dec.{eqb}
use lib.ListN.{length, take, drop, get_or, set, length-append, length-drop, drop_of_length-le, get_or-eq_default}
use lib.Seq.{sets, drop-cons, drop-drop, get_or-drop, length-take-le}
use Rattle.numbers.proofs.Differences.{either}
use Rattle.formula.specs.Formula.{Formula, Letter, Constant, Minus, Brackets}
use Rattle.formula.specs.Grammar.{are_digits}
use Rattle.formula.specs.Reader.{Read, Found, Outside, then, is_letter, constant_of, leaf_of, closed, factor_of, sum_of}
use Rattle.formula.specs.File.{minus_code}
use Rattle.formula.specs.Postfix.{postfix_of}
use Rattle.formula.specs.Told.{most_text, at_of, end_of, nowhere, closed_at, longer_of, Asks, Move, FoundTo, Reads, ReadsBy}
use Rattle.formula.proofs.Cases.{factor_minus, factor_bracket, factor_leaf}
use Rattle.formula.proofs.Digits.{letter_range}
use Rattle.formula.proofs.Stores.{sets_append}
use Rattle.formula.proofs.Places.{place_is, nowhere_at, longer_none, longer_is, closed_is, closed_none, next_at, next_end, longer_at, longer_end}
use Rattle.formula.proofs.Measure.{left_over, later_place}
use Rattle.formula.proofs.Places.{both}

-- ---- places of a text
-- from a place on: the byte there, then the rest
pub from : (text : List ℕ) (at : ℕ) → at < length text → drop at text ≡ get_or text at 0 ∷ drop (at + 1) text
from text at h = drop-cons text at 0 h ∙ ap (λ (n : ℕ). get_or text at 0 ∷ drop n text) (sym (add-one at))

-- a byte that is not 0 stands in the text
pub stands : (text : List ℕ) (at : ℕ) → (get_or text at 0 ≡ 0 → ⊥) → at < length text
stands text at n = ⊎_elim (λ l. l) (λ l. absurd (n (get_or-eq_default text 0 l))) (either at (length text))

-- a letter stands in the text
pub letter_stands : (text : List ℕ) (at b : ℕ) → b ≡ get_or text at 0 → is_letter b ≡ true → at < length text
letter_stands text at b e i = stands text at (λ z. let l = letter_range b i in omega arith)

-- eight bytes behind a hash, as a slice has them
pub eight : (text : List ℕ) (at : ℕ) → take (at + 9 - (at + 1)) (drop (at + 1) text) ≡ take 8 (drop (at + 1) text)
eight text at = let e : at + 9 - (at + 1) ≡ 8 = omega arith in ap (λ (n : ℕ). take n (drop (at + 1) text)) e

-- a place in a text is somewhere
pub somewhere : (text : List ℕ) (p : ℕ) → length text ≤ most_text → at_of p ≤ length text → p ≡ nowhere → ⊥
somewhere text p s i e = let z = ap at_of e ∙ nowhere_at in omega arith

-- ---- readings
-- a place in a text, with no more postfix than text before it, is a small number
pub asks_small : {text : List ℕ} {place : ℕ} → Asks text place → place < 200000
asks_small {text} {place} A = let z = place_is place in omega (arith, A.few, A.inside, A.short)

-- the place after a reading that began with room for one more byte of postfix has it too
pub reads_small : {text : List ℕ} {m : Move} (x : Read) → length text ≤ most_text → end_of m.place < at_of m.place → Reads text m x → m.next < 131072
reads_small Outside short h R = omega (arith, R.told)
reads_small {text} {m} (Found f rest) short h R =
    let T = R.told in
    let z = place_is m.next in
    omega (arith, T.few, T.inside)

module _ {text : List ℕ} {m : Move} where
  -- another reader that finds the same
  pub reads_as : {x y : Read} → y ≡ x → Reads text m x → Reads text m y
  reads_as e R = subst (Reads text m) (sym e) R

  -- nothing is found
  pub none_reads : {x : Read} → m.next ≡ nowhere → x ≡ Outside → Reads text m x
  none_reads is n = reads_as n (record { told = is })

  pub constant_reads : length text ≤ most_text → get_or text (at_of m.place) 0 ≡ 0x23 → at_of m.place + 9 ≤ length text
      → are_digits (take 8 (drop (at_of m.place + 1) text)) ≡ true
      → m.next ≡ m.place + 4617 → m.after ≡ sets m.before (end_of m.place) (take 9 (drop (at_of m.place) text))
      → Reads text m (constant_of (drop (at_of m.place + 1) text))
  unfolding postfix_of
  constant_reads short hash h d is e =
      let s = drop (at_of m.place + 1) text in
      let l = length-drop (at_of m.place + 1) text in
      let n : 8 ≤ length s = omega arith in
      let k = length-take-le 8 s n in
      let a = both m.place 9 (omega arith) in
      let c = ap at_of is in
      let f = ap end_of is in
      let z : at_of m.place + 1 + 8 ≡ at_of m.next = omega arith in
      let R : Reads text m (Found (Constant (take 8 s)) (drop 8 s)) = record {
        told = record {
          rest_is = drop-drop 8 (at_of m.place + 1) text ∙ ap (λ (i : ℕ). drop i text) z;
          end_is = omega arith;
          stored_is = e ∙ ap (λ (l : List ℕ). sets m.before (end_of m.place) (take 9 l)) (from text (at_of m.place) (omega arith))
              ∙ ap (λ (x : ℕ). sets m.before (end_of m.place) (x ∷ take 8 s)) hash;
          later = omega arith;
          inside = omega arith;
          few = omega arith;
        };
      } in
      reads_as (rw (le-leb 8 (length s) n, d)) R

  pub letter_reads : (b : ℕ) → length text ≤ most_text → at_of m.place < length text → b ≡ get_or text (at_of m.place) 0 → is_letter b ≡ true
      → m.next ≡ m.place + 513 → m.after ≡ set m.before (end_of m.place) b → ReadsBy leaf_of text m
  unfolding leaf_of postfix_of
  letter_reads b short h g i is e =
      let a = both m.place 1 (omega arith) in
      let c = ap at_of is in
      let d = ap end_of is in
      let z : at_of m.place + 1 ≡ at_of m.next = omega arith in
      let y : b ≡ 0x61 + (b - 0x61) = (let l = letter_range b i in omega arith) in
      let R : Reads text m (Found (Letter (b - 0x61)) (drop (at_of m.place + 1) text)) = record {
        told = record {
          rest_is = ap (λ (k : ℕ). drop k text) z;
          end_is = omega arith;
          stored_is = e ∙ ap (set m.before (end_of m.place)) y;
          later = omega arith;
          inside = omega arith;
          few = omega arith;
        };
      } in
      reads_as (rw (from text (at_of m.place) h, ← g, i)) R

-- the digits behind a hash, as a call tells of them
pub digits_told : (text : List ℕ) (x y : ℕ) {b : Bool} → b ≡ are_digits (take (x + 9 - (x + 1)) (drop (x + 1) text))
    → x ≡ y → are_digits (take 8 (drop (y + 1) text)) ≡ b
digits_told text x y e h = ap (λ (k : ℕ). are_digits (take 8 (drop (k + 1) text))) (sym h) ∙ ap are_digits (sym (eight text x)) ∙ sym e

-- what a leaf is not
pub too_few : (text : List ℕ) (at : ℕ) → length text - at < 9 → constant_of (drop (at + 1) text) ≡ Outside
too_few text at h = let n : length (drop (at + 1) text) < 8 = simp length-drop (omega arith) in rw (lt-leb 8 (length (drop (at + 1) text)) n)

pub no_digits : (text : List ℕ) (at : ℕ) → at + 9 ≤ length text → are_digits (take 8 (drop (at + 1) text)) ≡ false → constant_of (drop (at + 1) text) ≡ Outside
no_digits text at h d = let n : 8 ≤ length (drop (at + 1) text) = simp length-drop (omega arith) in rw (le-leb 8 (length (drop (at + 1) text)) n, d)

pub hash_leaf : (text : List ℕ) (at b : ℕ) → b ≡ get_or text at 0 → is_letter b ≡ false → b ≡ 0x23 → leaf_of (drop at text) ≡ constant_of (drop (at + 1) text)
unfolding leaf_of
hash_leaf text at b g i e = rw (from text at (stands text at (λ z. omega arith)), ← g, i, eq-eqb b 0x23 e)

pub no_leaf : (text : List ℕ) (at b : ℕ) → b ≡ get_or text at 0 → is_letter b ≡ false → (b ≡ 0x23 → ⊥) → leaf_of (drop at text) ≡ Outside
unfolding leaf_of
no_leaf text at b g i e = ⊎_elim (λ h. rw (from text at h, ← g, i, ne_eqb b 0x23 e)) (λ h. rw (drop_of_length-le text h)) (either at (length text))

-- ---- a minus
-- what stands behind the byte that m begins with
abbrev pub inner_of : Move → ℕ → List ℕ → Move
inner_of m p left = record { place = m.place + 1; next = p; before = m.before; after = left }

-- a command stored behind the operand of i, where there is one, ends m
abbrev pub JoinedBehind : Move → Move → ℕ → Type 0
JoinedBehind i m code = (m.next ≡ longer_of i.next) × ((i.next ≡ nowhere → ⊥) → m.after ≡ set i.after (end_of i.next) code)

module _ (text : List ℕ) (m : Move) (short : length text ≤ most_text) (inside : at_of m.place < length text) where
  minus_reads : (x : Read) {p : ℕ} {left : List ℕ} → Reads text (inner_of m p left) x → JoinedBehind (inner_of m p left) m minus_code
      → Reads text m (then x (λ f rest. Found (Minus f) rest))
  unfolding postfix_of
  minus_reads (Found f rest) {p} {left} R (e, w) =
      let T = R.told in
      let n = somewhere text p short T.inside in
      let is = e ∙ longer_is p n in
      let a = next_at m.place (omega arith) in
      let b = next_end m.place (omega arith) in
      let c = ap at_of is ∙ longer_at p in
      let d = ap end_of is ∙ longer_end p in
      record {
        told = record {
          rest_is = T.rest_is ∙ ap (λ (i : ℕ). drop i text) (sym c);
          end_is = omega (arith, T.end_is, length-append (postfix_of f) (minus_code ∷ []));
          stored_is = w n ∙ ap (λ (l : List ℕ). set l (end_of p) minus_code) (T.stored_is ∙ ap (λ (i : ℕ). sets m.before i (postfix_of f)) b)
              ∙ sets_append (postfix_of f) (minus_code ∷ []) m.before (end_of m.place) (end_of p) (omega (arith, T.end_is));
          later = omega (arith, T.later);
          inside = omega (arith, T.inside);
          few = omega (arith, T.few);
        };
      }
  minus_reads Outside {p} R (e, w) = record { told = e ∙ longer_none p R.told }

-- ---- brackets
pub not_closed : (text : List ℕ) (k : ℕ) (f : Formula) (s : List ℕ) → s ≡ drop k text → (get_or text k 0 ≡ 0x29 → ⊥) → closed f s ≡ Outside
not_closed text k f [] e h = refl
not_closed text k f (b ∷ s) e h =
    let z : b ≡ get_or text k 0 = ap (λ (l : List ℕ). get_or l 0 0) e ∙ get_or-drop k text 0 0 ∙ ap (λ (n : ℕ). get_or text n 0) (add-zero k) in
    rw (ne_eqb b 0x29 (λ y. h (sym z ∙ y)))

module _ (text : List ℕ) (m : Move) (short : length text ≤ most_text) (inside : at_of m.place < length text) where
  brackets_read : (x : Read) {p : ℕ} → Reads text (inner_of m p m.after) x → m.next ≡ closed_at text p → Reads text m (then x closed)
  unfolding postfix_of
  brackets_read (Found f rest) {p} R e = go (eqb (get_or text (at_of p) 0) 0x29) refl
    where
      T : FoundTo text (inner_of m p m.after) f rest
      T = R.told

      go : (t : Bool) → eqb (get_or text (at_of p) 0) 0x29 ≡ t → Reads text m (closed f rest)
      go true h =
          let b = eqb-true (get_or text (at_of p) 0) 0x29 h in
          let i = stands text (at_of p) (λ z. omega arith) in
          let is = e ∙ closed_is text p (get_or text (at_of p) 0) refl b in
          let a = next_at m.place (omega arith) in
          let d = next_end m.place (omega arith) in
          let k = ap at_of is ∙ next_at p (omega arith) in
          let q = ap end_of is ∙ next_end p (omega arith) in
          let S : Reads text m (Found (Brackets f) (drop (at_of p + 1) text)) = record {
            told = record {
              rest_is = ap (λ (n : ℕ). drop n text) (sym k);
              end_is = omega (arith, T.end_is);
              stored_is = T.stored_is ∙ ap (λ (n : ℕ). sets m.before n (postfix_of f)) d;
              later = omega (arith, T.later);
              inside = omega arith;
              few = omega (arith, T.few);
            };
          } in
          reads_as (ap (closed f) (T.rest_is ∙ from text (at_of p) i) ∙ rw h) S
      go false h =
          let b = eqb-false (get_or text (at_of p) 0) 0x29 h in
          none_reads (e ∙ closed_none text p (get_or text (at_of p) 0) refl b) (not_closed text (at_of p) f rest T.rest_is b)
  brackets_read Outside {p} R e =
      let k : length text ≤ at_of p = (let y = ap at_of R.told ∙ nowhere_at in omega arith) in
      let z : get_or text (at_of p) 0 ≡ 0 = get_or-eq_default text 0 k in
      record { told = e ∙ closed_none text p 0 (sym z) (λ y. omega arith) }

-- ---- factors
pub no_level : (text : List ℕ) (at d : ℕ) → d ≡ 0 → factor_of d (drop at text) ≡ leaf_of (drop at text)
unfolding factor_of
no_level text at d e = rw e

-- a factor that begins with a minus, a bracket or neither
module _ (text : List ℕ) (at d b : ℕ) (some : d ≡ 0 → ⊥) (is : b ≡ get_or text at 0) where
  -- a level is taken
  level : suc (d - 1) ≡ d
  level = let z = pos_of_ne-zero some in omega arith

  here : at < length text → factor_of d (drop at text) ≡ factor_of (suc (d - 1)) (b ∷ drop (at + 1) text)
  here inside = ap (λ (n : ℕ). factor_of n (drop at text)) (sym level) ∙ ap (factor_of (suc (d - 1))) (from text at inside
      ∙ ap (λ (x : ℕ). x ∷ drop (at + 1) text) (sym is))

  at_minus : b ≡ 0x2D → factor_of d (drop at text) ≡ then (factor_of (d - 1) (drop (at + 1) text)) (λ f rest. Found (Minus f) rest)
  at_minus e = here (stands text at (λ z. omega arith)) ∙ factor_minus (d - 1) b (drop (at + 1) text) (rw (eq-eqb b 0x2D e))

  at_bracket : (b ≡ 0x2D → ⊥) → b ≡ 0x28 → factor_of d (drop at text) ≡ then (sum_of (d - 1) (drop (at + 1) text)) closed
  at_bracket n e = here (stands text at (λ z. omega arith)) ∙ factor_bracket (d - 1) b (drop (at + 1) text) (rw (ne_eqb b 0x2D n, eq-eqb b 0x28 e))

  past : length text ≤ at → factor_of d (drop at text) ≡ leaf_of (drop at text)
  unfolding factor_of leaf_of
  past h = ap (λ (n : ℕ). factor_of n (drop at text)) (sym level) ∙ rw (drop_of_length-le text h)

  pub at_leaf : (b ≡ 0x2D → ⊥) → (b ≡ 0x28 → ⊥) → factor_of d (drop at text) ≡ leaf_of (drop at text)
  at_leaf n m =
      ⊎_elim
      (λ inside. here inside ∙ factor_leaf (d - 1) b (drop (at + 1) text) (rw (ne_eqb b 0x2D n, ne_eqb b 0x28 m))
      ∙ ap leaf_of (sym (from text at inside ∙ ap (λ (x : ℕ). x ∷ drop (at + 1) text) (sym is))))
      past (either at (length text))

-- a byte that a factor can begin with stands in the text, and what follows it is read from the next place: there is room for one more byte of postfix
pub record Begins (text : List ℕ) (place b : ℕ) : Type 0 where
  pub byte_is : b ≡ get_or text (at_of place) 0
  pub inside : at_of place < length text
  pub next : at_of (place + 1) ≡ at_of place + 1
  pub asks : Asks text (place + 1)
  pub room : end_of (place + 1) < at_of (place + 1)

pub begins : {text : List ℕ} {place at b sign : ℕ} → Asks text place → b ≡ get_or text at 0 → at ≡ at_of place → b ≡ sign → 0 < sign → Begins text place b
begins {text} {place} {at} {b} {sign} A e h is some =
    let g : b ≡ get_or text (at_of place) 0 = e ∙ ap (λ (k : ℕ). get_or text k 0) h in
    let i = stands text (at_of place) (λ z. omega arith) in
    let n = next_at place (omega (arith, A.short)) in
    let m = next_end place (omega (arith, A.short)) in
    record {
      byte_is = g;
      inside = i;
      next = n;
      asks = record { short = A.short; inside = omega arith; few = omega (arith, A.few) };
      room = omega (arith, A.few);
    }

module _ {text : List ℕ} {place b : ℕ} (B : Begins text place b) where
  -- what follows is read with a level less
  pub inner_asks : (rank depth t : ℕ) → left_over 0 text (at_of place) depth ≡ t → rank ≤ 2
      → (left_over rank text (at_of (place + 1)) (depth - 1) < t) × Asks text (place + 1)
  inner_asks rank depth t e h =
      (later_place rank text (at_of place) (at_of (place + 1)) depth (depth - 1) t e h B.inside (omega (arith, B.next)) (omega arith), B.asks)

  pub inner_small : {i : Move} {x : Read} → i.place ≡ place + 1 → Reads text i x → i.next < 131072
  inner_small {i} {x} e R = reads_small x B.asks.short (subst (λ (k : ℕ). end_of k < at_of k) (sym e) B.room) R

module _ (text : List ℕ) (m : Move) (b d : ℕ) (B : Begins text m.place b) (some : d ≡ 0 → ⊥) {p : ℕ} where
  pub minus_read : {left : List ℕ} → b ≡ 0x2D → ReadsBy (factor_of (d - 1)) text (inner_of m p left) → JoinedBehind (inner_of m p left) m minus_code
      → ReadsBy (factor_of d) text m
  minus_read e R E =
      reads_as (at_minus text (at_of m.place) d b some B.byte_is e
      ∙ ap (λ (k : ℕ). then (factor_of (d - 1) (drop k text)) (λ f rest. Found (Minus f) rest)) (sym B.next))
      (minus_reads text m B.asks.short B.inside _ R E)

  pub bracket_read : (b ≡ 0x2D → ⊥) → b ≡ 0x28 → ReadsBy (sum_of (d - 1)) text (inner_of m p m.after) → m.next ≡ closed_at text p
      → ReadsBy (factor_of d) text m
  bracket_read n e R E =
      reads_as (at_bracket text (at_of m.place) d b some B.byte_is n e ∙ ap (λ (k : ℕ). then (sum_of (d - 1) (drop k text)) closed) (sym B.next))
      (brackets_read text m B.asks.short B.inside _ R E)
