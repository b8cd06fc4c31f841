-- The reader and the grammar: a text is read as a formula exactly if it is that formula's, and it is that of no other. Assumes nothing.
use mathlib.Core.Path.{◌≡◌, sym, ◌∙◌, ap, subst}
use mathlib.Core.List.{List, [], ◌∷◌, append-nil}
use Prim.Native.Nat.{ℕ, ◌+◌, ◌≤◌}
use native.Mathlib.Omega.{arith}
use Rattle.formula.specs.Formula.{Formula, nested}
use Rattle.formula.specs.Grammar.{IsSum}
use Rattle.formula.specs.Reader.{Read, Found, then, sum_of, whole, most_nested, formula_of}
use Rattle.formula.proofs.Cases.{never, then_found}
use Rattle.formula.proofs.Sound.{Finds, sum_sound}
use Rattle.formula.proofs.Complete.{sum_read}

-- what is read is the formula of the whole text
pub read_is : (text : List ℕ) (f : Formula) (rest : List ℕ) → formula_of text ≡ Found f rest → IsSum text f × (nested f ≤ most_nested)
unfolding formula_of
read_is text f rest e = let x = then_found (sum_of most_nested text) whole e in go x.left (sum_sound most_nested text x.tree x.left x.first) x.last
  where
    go : {g : Formula} (left : List ℕ) → Finds IsSum most_nested text g left → whole g left ≡ Found f rest → IsSum text f × (nested f ≤ most_nested)
    go {g} [] F h =
        let p : g ≡ f = cc in
        subst (λ (k : Formula). IsSum text k × (nested k ≤ most_nested)) p (
          subst (λ (l : List ℕ). IsSum l g) (sym (F.text ∙ append-nil F.taken)) F.is,
          F.levels,
        )
    go (b ∷ left) F h = never h

-- the text of every formula within the levels is read as it
pub is_read : {text : List ℕ} {f : Formula} → IsSum text f → nested f ≤ most_nested → formula_of text ≡ Found f []
unfolding formula_of
is_read p n = ap (λ (x : Read). then x whole) (sum_read p most_nested n)

-- no text is that of two formulas, however deep
pub one_tree : {text : List ℕ} {f g : Formula} → IsSum text f → IsSum text g → f ≡ g
one_tree {text} {f} {g} p q =
    let d = nested f + nested g in
    same (sym (sum_read p d (omega arith)) ∙ sum_read q d (omega arith))
  where
    same : {f g : Formula} {s t : List ℕ} → Found f s ≡ Found g t → f ≡ g
    same e = cc
