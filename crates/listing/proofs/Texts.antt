-- A comparison of two texts that tells whether they are equal is `same_text`, and the text for what is asked. Assumes nothing.
use mathlib.Core.Path.{◌≡◌, refl, sym, ap, ap₂, ◌∙◌, subst}
use mathlib.Core.Bool.{Bool, true, false, not, ◌&&◌, ◌||◌, cond}
use mathlib.Core.List.{List, [], ◌∷◌}
use Prim.Native.Nat.{ℕ}
use native.Mathlib.Omega.{arith}
use borrow.Author.Tests.{eq-eqb, eqb-true}
use lib.Dec.{eqb}
use lib.ListN.{take}
use Rattle.io.specs.Counts.{IsPrefixLen}
use Rattle.listing.specs.declared.options.Asked.{Asked}
use mir.Val.{bool_byte}
use Rattle.listing.specs.declared.options.Asked.TheVariants.{Under, Nothing}
use Rattle.listing.specs.Options.{same_text, am9511_text, nearest_text, asked_of, text_for}
use Rattle.listing.specs.Text.{Adds}
use Rattle.listing.proofs.Adding.{at_front}

and_both : (s t : Bool) → (s && t) ≡ true → (s ≡ true) × (t ≡ true)
and_both true t e = (refl, e)
and_both false true e = (e, refl)
and_both false false e = (e, e)

itself : (l : List ℕ) → same_text l l ≡ true
unfolding same_text
itself [] = refl
itself (x ∷ l) = rw (eq-eqb x x refl, itself l)

pub is_same : (l m : List ℕ) → l ≡ m → same_text l m ≡ true
is_same l m e = subst (λ (k : List ℕ). same_text l k ≡ true) e (itself l)

pub same_is : (l m : List ℕ) → same_text l m ≡ true → l ≡ m
unfolding same_text
same_is [] [] e = refl
same_is [] (y ∷ m) e = let z : ◌≡◌ {A = ℕ} 0 1 = (cc) in absurd (omega arith)
same_is (x ∷ l) [] e = let z : ◌≡◌ {A = ℕ} 0 1 = (cc) in absurd (omega arith)
same_is (x ∷ l) (y ∷ m) e = let w = and_both (eqb x y) (same_text l m) e in ap₂ (λ (a : ℕ) (s : List ℕ). a ∷ s) (eqb-true x y w.0) (same_is l m w.1)

-- where a comparison that answers true for one text answers false
pub is_other : (l m : List ℕ) (r : Bool) → (l ≡ m → r ≡ true) → r ≡ false → same_text l m ≡ false
is_other l m r f e = go (same_text l m) (same_is l m)
  where
    go : (t : Bool) → (t ≡ true → l ≡ m) → t ≡ false
    go true g = sym (f (g refl)) ∙ e
    go false g = refl

-- a comparison that tells whether two texts are equal is the definition's
pub tells : (l m : List ℕ) (r : Bool) → (r ≡ true → l ≡ m) → (l ≡ m → r ≡ true) → same_text l m ≡ r
tells l m true f g = is_same l m (f refl)
tells l m false f g = is_other l m false g refl

-- a call of more than one word, by what it was compared with
pub asked_by : (words : ℕ) (first second : List ℕ) {older alone last : Bool} → eqb words 1 ≡ false
    → same_text first am9511_text ≡ older → same_text first nearest_text ≡ alone → same_text second nearest_text ≡ last
    → cond (eqb words 2 && (older || alone)) (Under (bool_byte older) (bool_byte (not older)))
    (cond ((eqb words 3 && older) && last) (Under 1 1) Nothing)
    ≡ asked_of words first second
unfolding asked_of
asked_by words first second {older} {alone} {last} n e f g = rw (n, e, f, g) (go (eqb words 2) (eqb words 3) older alone last)
  where
    go : (p q t u v : Bool)
        → cond (p && (t || u)) (Under (bool_byte t) (bool_byte (not t))) (cond ((q && t) && v) (Under 1 1) Nothing)
        ≡ cond p (cond t (Under 1 0) (cond u (Under 0 1) Nothing)) (cond q (cond t (cond v (Under 1 1) Nothing) Nothing) Nothing)
    go true q true u v = refl
    go true q false true v = refl
    go true true false false v = refl
    go true false false false v = refl
    go false true true u true = refl
    go false true true u false = refl
    go false true false u v = refl
    go false false t u v = refl

-- the text for what is asked, where that is known
pub asked_as : (under : ℕ → ℕ → List ℕ → List ℕ) (input : List ℕ) {asked known : Asked} → asked ≡ known
    → text_for under known input ≡ text_for under asked input
asked_as under input e = ap (λ (a : Asked). text_for under a input) (sym e)

-- what is added at the front for what a call asks for, told by its words
pub for_call : (under : ℕ → ℕ → List ℕ → List ℕ) (input : List ℕ) {by-words asked known : Asked} {text before after : List ℕ} {new : ℕ}
    → asked ≡ by-words → asked ≡ known → text ≡ text_for under known input → Adds text before after 0 new
    → IsPrefixLen new after × (take new after ≡ text_for under by-words input)
for_call under input e f g a = at_front (g ∙ asked_as under input (sym e ∙ f)) a
