-- The book's trees are the crate's, one for one: the same text, need, nesting, words, and file. Assumes nothing.
use mathlib.Core.Path.{◌≡◌, refl, sym, ap, ap₂, ◌∙◌, subst}
use mathlib.Core.Bool.{◌&&◌}
use mathlib.Core.List.{List, ◌++◌}
use Prim.Native.Nat.{ℕ, suc, max, ◌≤◌}
use Rattle.formula.specs.Formula as theirs
use Rattle.formula.specs.Formula.{nested as their-nested, need_of as their-need}
use Rattle.formula.specs.Grammar as grammar
use Rattle.formula.specs.File.{letter_word as their-letter, proper_in as their-proper, file_of as their-file}
use Rattle.promises.specs.FormulaText.{Operator, Plus, Less, Times, Over, Formula, Letter, Constant, Minus, Brackets, Joined, nested, need_of}
use Rattle.promises.specs.FormulaText.{IsSum, product, plus, less, IsProduct, factor, times, over, IsFactor, letter, constant, minus, brackets, IsText}
use Rattle.promises.specs.FormulaText.{letter_word, proper_in, command_record, code_of, file_of}

-- ---- trees
abbrev pub sign : Operator → theirs.Operator
sign Plus = theirs.Plus
sign Less = theirs.Less
sign Times = theirs.Times
sign Over = theirs.Over

-- the crate's tree of a formula
abbrev pub tree : Formula → theirs.Formula
tree (Letter k) = theirs.Letter k
tree (Constant s) = theirs.Constant s
tree (Minus f) = theirs.Minus (tree f)
tree (Brackets f) = theirs.Brackets (tree f)
tree (Joined o l r) = theirs.Joined (sign o) (tree l) (tree r)

abbrev unsign : theirs.Operator → Operator
unsign theirs.Plus = Plus
unsign theirs.Less = Less
unsign theirs.Times = Times
unsign theirs.Over = Over

-- and the formula of a tree of the crate's
abbrev pub leaf : theirs.Formula → Formula
leaf (theirs.Letter k) = Letter k
leaf (theirs.Constant s) = Constant s
leaf (theirs.Minus f) = Minus (leaf f)
leaf (theirs.Brackets f) = Brackets (leaf f)
leaf (theirs.Joined o l r) = Joined (unsign o) (leaf l) (leaf r)

sign_back : (o : theirs.Operator) → sign (unsign o) ≡ o
sign_back theirs.Plus = refl
sign_back theirs.Less = refl
sign_back theirs.Times = refl
sign_back theirs.Over = refl

unsign_back : (o : Operator) → unsign (sign o) ≡ o
unsign_back Plus = refl
unsign_back Less = refl
unsign_back Times = refl
unsign_back Over = refl

pub tree_back : (t : theirs.Formula) → tree (leaf t) ≡ t
tree_back (theirs.Letter k) = refl
tree_back (theirs.Constant s) = refl
tree_back (theirs.Minus f) = ap theirs.Minus (tree_back f)
tree_back (theirs.Brackets f) = ap theirs.Brackets (tree_back f)
tree_back (theirs.Joined o l r) =
    ap (λ (x : theirs.Operator). theirs.Joined x (tree (leaf l)) (tree (leaf r))) (sign_back o) ∙ ap₂ (λ (x y : theirs.Formula). theirs.Joined o x y)
    (tree_back l) (tree_back r)

pub leaf_back : (f : Formula) → leaf (tree f) ≡ f
leaf_back (Letter k) = refl
leaf_back (Constant s) = refl
leaf_back (Minus f) = ap Minus (leaf_back f)
leaf_back (Brackets f) = ap Brackets (leaf_back f)
leaf_back (Joined o l r) =
    ap (λ (x : Operator). Joined x (leaf (tree l)) (leaf (tree r))) (unsign_back o) ∙ ap₂ (λ (x y : Formula). Joined o x y) (leaf_back l) (leaf_back r)

-- ---- measures of a tree
pub nested_is : (f : Formula) → their-nested (tree f) ≡ nested f
unfolding their-nested
nested_is (Letter k) = refl
nested_is (Constant s) = refl
nested_is (Minus f) = ap suc (nested_is f)
nested_is (Brackets f) = ap suc (nested_is f)
nested_is (Joined o l r) = ap₂ max (nested_is l) (nested_is r)

pub need_is : (f : Formula) → their-need (tree f) ≡ need_of f
unfolding their-need
need_is (Letter k) = refl
need_is (Constant s) = refl
need_is (Minus f) = need_is f
need_is (Brackets f) = need_is f
need_is (Joined o l r) = ap₂ (λ (x y : ℕ). max x (suc y)) (need_is l) (need_is r)

module _ (letters : List ℕ) where
  letter_is : (k : ℕ) → their-letter letters k ≡ letter_word letters k
  unfolding their-letter
  letter_is k = refl

  pub proper_is : (f : Formula) → their-proper letters (tree f) ≡ proper_in letters f
  unfolding their-proper their-letter
  proper_is (Letter k) = refl
  proper_is (Constant s) = refl
  proper_is (Minus f) = proper_is f
  proper_is (Brackets f) = proper_is f
  proper_is (Joined o l r) = ap₂ ◌&&◌ (proper_is l) (proper_is r)

  code_is : (o : Operator) (x y : List ℕ) → x ≡ y → x ++ command_record (code_of o) ≡ y ++ command_record (code_of o)
  code_is o x y e = ap (λ (l : List ℕ). l ++ command_record (code_of o)) e

  pub file_is : (f : Formula) → their-file letters (tree f) ≡ file_of letters f
  unfolding their-file their-letter
  file_is (Letter k) = refl
  file_is (Constant s) = refl
  file_is (Minus f) = ap (λ (l : List ℕ). l ++ command_record 0x15) (file_is f)
  file_is (Brackets f) = file_is f
  file_is (Joined Plus l r) = ap₂ (λ (x y : List ℕ). x ++ (y ++ command_record 0x10)) (file_is l) (file_is r)
  file_is (Joined Less l r) = ap₂ (λ (x y : List ℕ). x ++ (y ++ command_record 0x11)) (file_is l) (file_is r)
  file_is (Joined Times l r) = ap₂ (λ (x y : List ℕ). x ++ (y ++ command_record 0x12)) (file_is l) (file_is r)
  file_is (Joined Over l r) = ap₂ (λ (x y : List ℕ). x ++ (y ++ command_record 0x13)) (file_is l) (file_is r)

-- ---- the grammar
mutual
  pub theirs_sum : {text : List ℕ} {f : Formula} → IsSum text f → grammar.IsSum text (tree f)
  theirs_sum (product p) = grammar.product (theirs_product p)
  theirs_sum (plus p q e) = grammar.plus (theirs_sum p) (theirs_product q) e
  theirs_sum (less p q e) = grammar.less (theirs_sum p) (theirs_product q) e

  theirs_product : {text : List ℕ} {f : Formula} → IsProduct text f → grammar.IsProduct text (tree f)
  theirs_product (factor p) = grammar.factor (theirs_factor p)
  theirs_product (times p q e) = grammar.times (theirs_product p) (theirs_factor q) e
  theirs_product (over p q e) = grammar.over (theirs_product p) (theirs_factor q) e

  theirs_factor : {text : List ℕ} {f : Formula} → IsFactor text f → grammar.IsFactor text (tree f)
  theirs_factor (letter h e) = grammar.letter h e
  theirs_factor (constant n d e) = grammar.constant n d e
  theirs_factor (minus p e) = grammar.minus (theirs_factor p) e
  theirs_factor (brackets p e) = grammar.brackets (theirs_sum p) e

mutual
  pub ours_sum : {text : List ℕ} {t : theirs.Formula} → grammar.IsSum text t → IsSum text (leaf t)
  ours_sum (grammar.product p) = product (ours_product p)
  ours_sum (grammar.plus p q e) = plus (ours_sum p) (ours_product q) e
  ours_sum (grammar.less p q e) = less (ours_sum p) (ours_product q) e

  ours_product : {text : List ℕ} {t : theirs.Formula} → grammar.IsProduct text t → IsProduct text (leaf t)
  ours_product (grammar.factor p) = factor (ours_factor p)
  ours_product (grammar.times p q e) = times (ours_product p) (ours_factor q) e
  ours_product (grammar.over p q e) = over (ours_product p) (ours_factor q) e

  ours_factor : {text : List ℕ} {t : theirs.Formula} → grammar.IsFactor text t → IsFactor text (leaf t)
  ours_factor (grammar.letter h e) = letter h e
  ours_factor (grammar.constant n d e) = constant n d e
  ours_factor (grammar.minus p e) = minus (ours_factor p) e
  ours_factor (grammar.brackets p e) = brackets (ours_sum p) e

pub theirs_text : {text : List ℕ} {f : Formula} → IsText text f → grammar.IsText text (tree f)
theirs_text {text} {f} T = record {
  some = T.some;
  short = T.short;
  inside = theirs_sum T.inside;
  shallow = subst (λ (n : ℕ). n ≤ 16) (sym (nested_is f)) T.shallow;
}

pub ours_text : {text : List ℕ} {t : theirs.Formula} → grammar.IsText text t → IsText text (leaf t)
ours_text {text} {t} T = record {
  some = T.some;
  short = T.short;
  inside = ours_sum T.inside;
  shallow = subst (λ (n : ℕ). n ≤ 16) (sym (ap their-nested (tree_back t)) ∙ nested_is (leaf t)) T.shallow;
}
