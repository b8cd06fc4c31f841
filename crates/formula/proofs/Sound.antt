-- What the reader finds stands at the front of the text, inside the grammar and within the levels: by the reader's own recursion. Assumes nothing.
use mathlib.Core.Path.{◌≡◌, refl, sym, ◌∙◌, ap, subst}
use mathlib.Core.Bool.{Bool, true, false, cond, ◌&&◌}
use mathlib.Core.List.{List, [], ◌∷◌, ◌++◌, append_assoc}
use Prim.Native.Nat.{ℕ, zero, suc, ◌+◌, ◌-◌, ◌≤◌}
use native.Mathlib.Omega.{arith}
use borrow.Author.Tests.{leb-true, eqb-true}
use lib.Dec.{eqb, leb}
use lib.ListN.{length, take, drop, take-append-drop}
use lib.Seq.{length-take-le}
use Rattle.formula.specs.Formula.{Operator, Plus, Less, Times, Over, Formula, Letter, Constant, Minus, Brackets, Joined, nested}
use Rattle.formula.specs.Grammar.{are_digits, IsSum, product, plus, less, IsProduct, factor, times, over, IsFactor, letter, constant, minus, brackets}
use Rattle.formula.specs.Reader.{Found, Outside, Reader, is_letter, leaf_of, Sign, Joins, Ends, sum_sign, product_sign, more}
use Rattle.formula.specs.Reader.{joined_by, closed, Start, AMinus, ABracket, ALeaf, start_at, factor_of, product_of, sum_of}
use Rattle.formula.proofs.Cases.{never, ends_never, then_found, more_ends, more_joins, start_minus, start_bracket, factor_minus, factor_bracket}
use Rattle.formula.proofs.Cases.{factor_leaf}
use Rattle.formula.proofs.Digits.{both, letter_range}

abbrev Grammar : Type 1
Grammar = List ℕ → Formula → Type 0

-- a formula of a part of the grammar, and what is left, make up the text
pub record Finds (P : Grammar) (d : ℕ) (s : List ℕ) (f : Formula) (rest : List ℕ) : Type 0 where
  pub taken : List ℕ
  pub text : s ≡ taken ++ rest
  pub is : P taken f
  pub levels : nested f ≤ d

abbrev pub Sound : Grammar → ℕ → Reader → Type 0
Sound P d reader = (s : List ℕ) (f : Formula) (rest : List ℕ) → reader s ≡ Found f rest → Finds P d s f rest

-- what is found at once
found : {P : Grammar} {d : ℕ} {l : Formula} {s t : List ℕ} {f : Formula} {rest : List ℕ} → Finds P d t l s → Found l s ≡ Found f rest → Finds P d t f rest
found {P} {d} {l} {s} {t} {f} {rest} F e =
    let p : l ≡ f = cc in
    let q : s ≡ rest = cc in
    subst (λ (x : Formula). Finds P d t x rest) p (subst (λ (x : List ℕ). Finds P d t l x) q F)

-- ---- operands of one part of the grammar joined to one of another
module _ (P Q : Grammar) (d : ℕ) (sign : ℕ → Sign) (operand : Reader) (alone : (s : List ℕ) (f : Formula) → P s f → Q s f)
    (joins : (b : ℕ) (o : Operator) → sign b ≡ Joins o → (s t : List ℕ) (f g : Formula) → Q s f → P t g → Q (s ++ (b ∷ t)) (Joined o f g))
    (sound : Sound P d operand) where
  -- one more operand
  joined : {t s u : List ℕ} {l g : Formula} (b : ℕ) (o : Operator) → sign b ≡ Joins o → Finds Q d t l (b ∷ s) → Finds P d s g u → Finds Q d t (Joined o l g) u
  unfolding nested
  joined {t} {s} {u} {l} {g} b o e L G = record {
    taken = L.taken ++ (b ∷ G.taken);
    text = L.text ∙ ap (λ (x : List ℕ). L.taken ++ (b ∷ x)) G.text ∙ sym (append_assoc L.taken (b ∷ G.taken) u);
    is = joins b o e L.taken G.taken l g L.is G.is;
    levels = omega (arith, L.levels, G.levels);
  }

  abbrev MoreSound : ℕ → Type 0
  MoreSound n = (t : List ℕ) (l : Formula) (s : List ℕ) (f : Formula) (rest : List ℕ) → Finds Q d t l s → more sign operand n l s ≡ Found f rest
      → Finds Q d t f rest

  more_on : (n : ℕ) → MoreSound n → (t : List ℕ) (l : Formula) (b : ℕ) (s : List ℕ) (f : Formula) (rest : List ℕ) → Finds Q d t l (b ∷ s) → more sign operand
      (suc n) l (b ∷ s) ≡ Found f rest
      → (x : Sign) → sign b ≡ x → Finds Q d t f rest
  more_on n ih t l b s f rest L e Ends h = found L (sym (more_ends sign operand n l b s h) ∙ e)
  more_on n ih t l b s f rest L e (Joins o) h =
      let x = then_found (operand s) (λ g u. more sign operand n (Joined o l g) u) (sym (more_joins sign operand n l b s o h) ∙ e) in
      ih t (Joined o l x.tree) x.left f rest (joined b o h L (sound s x.tree x.left x.first)) x.last

  more_sound : (n : ℕ) → MoreSound n
  unfolding more
  more_sound zero t l s f rest L e = found L e
  more_sound (suc n) t l [] f rest L e = found L e
  more_sound (suc n) t l (b ∷ s) f rest L e = more_on n (more_sound n) t l b s f rest L e (sign b) refl

  joined_sound : Sound Q d (joined_by sign operand)
  joined_sound s f rest e =
      let x = then_found (operand s) (λ l u. more sign operand (length u) l u) e in
      let y = sound s x.tree x.left x.first in
      more_sound (length x.left) s x.tree x.left f rest (record {
        taken = y.taken;
        text = y.text;
        is = alone y.taken x.tree y.is;
        levels = y.levels;
      }) x.last

-- ---- the signs
-- a byte that joins by one of two signs: what holds of either sign's operator, where the byte is that sign, holds of the operator
joins_by : (b x y : ℕ) (p q : Operator) (P : Operator → Type 0) → (b ≡ x → P p) → (b ≡ y → P q) → (o : Operator)
    → cond (eqb b x) (Joins p) (cond (eqb b y) (Joins q) Ends) ≡ Joins o → P o
joins_by b x y p q P first second o e = go (eqb b x) refl (eqb b y) refl e
  where
    go : (u : Bool) → eqb b x ≡ u → (v : Bool) → eqb b y ≡ v → cond u (Joins p) (cond v (Joins q) Ends) ≡ Joins o → P o
    go true h v k j = let z : p ≡ o = cc in subst P z (first (eqb-true b x h))
    go false h true k j = let z : q ≡ o = cc in subst P z (second (eqb-true b y k))
    go false h false k j = ends_never j

sum_joins : (b : ℕ) (o : Operator) → sum_sign b ≡ Joins o → (s t : List ℕ) (f g : Formula) → IsSum s f → IsProduct t g → IsSum (s ++ (b ∷ t)) (Joined o f g)
sum_joins b o e s t f g F G =
    joins_by b 0x2B 0x2D Plus Less (λ o. IsSum (s ++ (b ∷ t)) (Joined o f g)) (λ h. plus F G (ap (λ (x : ℕ). s ++ (x ∷ t)) h))
    (λ h. less F G (ap (λ (x : ℕ). s ++ (x ∷ t)) h)) o e

product_joins : (b : ℕ) (o : Operator) → product_sign b ≡ Joins o → (s t : List ℕ) (f g : Formula) → IsProduct s f → IsFactor t g
    → IsProduct (s ++ (b ∷ t)) (Joined o f g)
product_joins b o e s t f g F G =
    joins_by b 0x2A 0x2F Times Over (λ o. IsProduct (s ++ (b ∷ t)) (Joined o f g)) (λ h. times F G (ap (λ (x : ℕ). s ++ (x ∷ t)) h))
    (λ h. over F G (ap (λ (x : ℕ). s ++ (x ∷ t)) h)) o e

-- ---- leaves
leaf_sound : (d : ℕ) → Sound IsFactor d leaf_of
unfolding leaf_of nested
leaf_sound d [] f rest e = never e
leaf_sound d (b ∷ s) f rest e = go (is_letter b) refl (eqb b 0x23) refl (leb 8 (length s) && are_digits (take 8 s)) refl e
  where
    go : (x : Bool) → is_letter b ≡ x → (y : Bool) → eqb b 0x23 ≡ y → (z : Bool) → (leb 8 (length s) && are_digits (take 8 s)) ≡ z
        → cond x (Found (Letter (b - 0x61)) s) (cond y (cond z (Found (Constant (take 8 s)) (drop 8 s)) Outside) Outside) ≡ Found f rest
        → Finds IsFactor d (b ∷ s) f rest
    go true p y q z r h =
        let i = letter_range b p in
        let k : b ≡ 0x61 + (b - 0x61) = omega arith in
        found (record { taken = b ∷ []; text = refl; is = letter (omega arith) (ap (λ (x : ℕ). x ∷ []) k); levels = omega arith }) h
    go false p true q true r h =
        let t = both (leb 8 (length s)) (are_digits (take 8 s)) r in
        found (record {
          taken = b ∷ take 8 s;
          text = ap (λ (x : List ℕ). b ∷ x) (sym (take-append-drop 8 s));
          is = constant (length-take-le 8 s (leb-true 8 (length s) t.0)) t.1 (ap (λ (x : ℕ). x ∷ take 8 s) (eqb-true b 0x23 q));
          levels = omega arith;
        }) h
    go false p true q false r h = never h
    go false p false q z r h = never h

-- ---- factors, products, sums
product_of_lem : (d : ℕ) → Sound IsFactor d (factor_of d) → Sound IsProduct d (product_of d)
product_of_lem d sound = joined_sound IsFactor IsProduct d product_sign (factor_of d) (λ s f p. factor p) product_joins sound

sum_of_lem : (d : ℕ) → Sound IsFactor d (factor_of d) → Sound IsSum d (sum_of d)
sum_of_lem d sound = joined_sound IsProduct IsSum d sum_sign (product_of d) (λ s f p. product p) sum_joins (product_of_lem d sound)

closed_sound : {d : ℕ} {s : List ℕ} {g : Formula} (u : List ℕ) (f : Formula) (rest : List ℕ) → Finds IsSum d s g u → closed g u ≡ Found f rest
    → Finds IsFactor (suc d) (0x28 ∷ s) f rest
unfolding nested
closed_sound [] f rest G e = never e
closed_sound {d} {s} {g} (b ∷ u) f rest G e = go (eqb b 0x29) refl e
  where
    go : (x : Bool) → eqb b 0x29 ≡ x → cond x (Found (Brackets g) u) Outside ≡ Found f rest → Finds IsFactor (suc d) (0x28 ∷ s) f rest
    go true h k =
        found (record {
          taken = 0x28 ∷ (G.taken ++ (0x29 ∷ []));
          text = ap (λ (x : List ℕ). 0x28 ∷ x) (G.text ∙ ap (λ (x : ℕ). G.taken ++ (x ∷ u)) (eqb-true b 0x29 h)
              ∙ sym (append_assoc G.taken (0x29 ∷ []) u));
          is = brackets G.is refl;
          levels = omega (arith, G.levels);
        }) k
    go false h k = never k

factor_on : (d : ℕ) → Sound IsFactor d (factor_of d) → (b : ℕ) (s : List ℕ) (f : Formula) (rest : List ℕ) → factor_of (suc d) (b ∷ s) ≡ Found f rest → (x : Start)
    → start_at b ≡ x
    → Finds IsFactor (suc d) (b ∷ s) f rest
unfolding nested
factor_on d sound b s f rest e AMinus h =
    let x = then_found (factor_of d s) (λ g u. Found (Minus g) u) (sym (factor_minus d b s h) ∙ e) in
    let y = sound s x.tree x.left x.first in
    found (record {
      taken = b ∷ y.taken;
      text = ap (λ (l : List ℕ). b ∷ l) y.text;
      is = minus y.is (ap (λ (n : ℕ). n ∷ y.taken) (start_minus b h));
      levels = omega (arith, y.levels);
    }) x.last
factor_on d sound b s f rest e ABracket h =
    let x = then_found (sum_of d s) closed (sym (factor_bracket d b s h) ∙ e) in
    subst (λ (n : ℕ). Finds IsFactor (suc d) (n ∷ s) f rest) (sym (start_bracket b h)) (closed_sound x.left f rest (sum_of_lem d sound s x.tree x.left
    x.first) x.last)
factor_on d sound b s f rest e ALeaf h = leaf_sound (suc d) (b ∷ s) f rest (sym (factor_leaf d b s h) ∙ e)

factor_sound : (d : ℕ) → Sound IsFactor d (factor_of d)
unfolding factor_of
factor_sound zero s f rest e = leaf_sound 0 s f rest e
factor_sound (suc d) [] f rest e = never e
factor_sound (suc d) (b ∷ s) f rest e = factor_on d (factor_sound d) b s f rest e (start_at b) refl

pub sum_sound : (d : ℕ) → Sound IsSum d (sum_of d)
sum_sound d = sum_of_lem d (factor_sound d)
