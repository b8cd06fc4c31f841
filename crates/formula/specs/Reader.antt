-- The formula that a text reads as, from left to right, with so many levels of brackets and minus signs left. Definitions only. Assumes nothing.
use Rattle.std.specs.Prelude.{ℕ, zero, suc, ◌-◌, Bool, ◌&&◌, cond, List, [], ◌∷◌, leb, eqb, length, take, drop}
use Prim.Native.Char.{code}
use Rattle.formula.specs.Formula.{Operator, Plus, Less, Times, Over, Formula, Letter, Constant, Minus, Brackets, Joined}
use Rattle.formula.specs.Grammar.{are_digits}

-- a formula at the front of a text and what is left of the text, or none
pub data Read : Type 0 where
  Found : Formula → List ℕ → Read
  Outside : Read

abbrev pub Reader : Type 0
Reader = List ℕ → Read

-- read on after a formula
abbrev pub then : Read → (Formula → Reader) → Read
then (Found f s) next = next f s
then Outside next = Outside

-- ---- leaves
abbrev pub is_letter : ℕ → Bool
is_letter b = leb (code "a") b && leb b (code "h")

-- eight digits
abbrev pub constant_of : Reader
constant_of s = cond (leb 8 (length s) && are_digits (take 8 s)) (Found (Constant (take 8 s)) (drop 8 s)) Outside

-- a letter, or a hash with eight digits
unfoldable pub leaf_of : Reader
leaf_of [] = Outside
leaf_of (b ∷ s) = cond (is_letter b) (Found (Letter (b - code "a")) s) (cond (eqb b (code "#")) (constant_of s) Outside)

-- ---- operands joined by signs of one rank
pub data Sign : Type 0 where
  Joins : Operator → Sign
  Ends : Sign

-- plus and minus join products
abbrev pub sum_sign : ℕ → Sign
sum_sign b = cond (eqb b (code "+")) (Joins Plus) (cond (eqb b (code "-")) (Joins Less) Ends)

-- times and divide join factors
abbrev pub product_sign : ℕ → Sign
product_sign b = cond (eqb b (code "*")) (Joins Times) (cond (eqb b (code "/")) (Joins Over) Ends)

-- what follows the left operand l, at most n signs of it: a sign wants an operand on its right, and the two are the next left operand
unfoldable pub more : (ℕ → Sign) → Reader → ℕ → Formula → Reader
more sign operand zero l s = Found l s
more sign operand (suc n) l [] = Found l []
more sign operand (suc n) l (b ∷ s) =
    elim (sign b) [ Ends ↦ Found l (b ∷ s) | Joins o ↦ then (operand s) (λ r rest. more sign operand n (Joined o l r) rest) ]

-- an operand, and all that is joined to it, left to right
abbrev pub joined_by : (ℕ → Sign) → Reader → Reader
joined_by sign operand s = then (operand s) (λ l rest. more sign operand (length rest) l rest)

-- ---- factors, products, sums
-- a formula in brackets, once the bracket after it is read
abbrev pub closed : Formula → Reader
closed f [] = Outside
closed f (b ∷ s) = cond (eqb b (code ")")) (Found (Brackets f) s) Outside

-- how a factor begins
pub data Start : Type 0 where
  AMinus ABracket ALeaf : Start

abbrev pub start_at : ℕ → Start
start_at b = cond (eqb b (code "-")) AMinus (cond (eqb b (code "(")) ABracket ALeaf)

-- a minus and a bracket take a level; with none left a factor is a leaf
unfoldable pub factor_of : ℕ → Reader
factor_of zero s = leaf_of s
factor_of (suc d) [] = Outside
factor_of (suc d) (b ∷ s) =
    elim (start_at b) [
      | AMinus ↦ then (factor_of d s) (λ f rest. Found (Minus f) rest)
      | ABracket ↦ then (joined_by sum_sign (joined_by product_sign (factor_of d)) s) closed
      | ALeaf ↦ leaf_of (b ∷ s)
    ]

abbrev pub product_of : ℕ → Reader
product_of d = joined_by product_sign (factor_of d)

abbrev pub sum_of : ℕ → Reader
sum_of d = joined_by sum_sign (product_of d)

-- ---- the whole text
abbrev pub whole : Formula → Reader
whole f [] = Found f []
whole f (b ∷ s) = Outside

-- brackets and minus signs nest at most so deep
abbrev pub most_nested : ℕ
most_nested = 16

unfoldable pub formula_of : Reader
formula_of s = then (sum_of most_nested s) whole
