-- 02, ask 7: which text, a list of bytes, is that of which formula, sentence by sentence; "no blanks". Definitions only. Assumes nothing.
use Rattle.std.specs.Prelude.{ℕ, ◌+◌, ◌≤◌, ◌<◌, ◌≡◌, Bool, true, ◌&&◌, ◌||◌, List, [], ◌∷◌, ◌++◌, leb, length}
use Prim.Native.Char.{code}
use Rattle.formula.specs.Formula.{Plus, Less, Times, Over, Formula, Letter, Constant, Minus, Brackets, Joined, nested}

-- a digit 0 to 9 or A to F
abbrev pub is_digit : ℕ → Bool
is_digit b = (leb (code "0") b && leb b (code "9")) || (leb (code "A") b && leb b (code "F"))

abbrev pub are_digits : List ℕ → Bool
are_digits [] = true
are_digits (b ∷ s) = is_digit b && are_digits s

mutual
  -- "a sum of products joined by plus or minus", left to right: the left of a sign is a sum, its right one product
  pub data IsSum : List ℕ → Formula → Type 0 where
    product : {text : List ℕ} {f : Formula} → IsProduct text f → IsSum text f
    plus : {text s t : List ℕ} {f g : Formula} → IsSum s f → IsProduct t g → text ≡ s ++ (code "+" ∷ t) → IsSum text (Joined Plus f g)
    less : {text s t : List ℕ} {f g : Formula} → IsSum s f → IsProduct t g → text ≡ s ++ (code "-" ∷ t) → IsSum text (Joined Less f g)

  -- "a product is made of factors joined by `*` or `/`", left to right
  pub data IsProduct : List ℕ → Formula → Type 0 where
    factor : {text : List ℕ} {f : Formula} → IsFactor text f → IsProduct text f
    times : {text s t : List ℕ} {f g : Formula} → IsProduct s f → IsFactor t g → text ≡ s ++ (code "*" ∷ t) → IsProduct text (Joined Times f g)
    over : {text s t : List ℕ} {f g : Formula} → IsProduct s f → IsFactor t g → text ≡ s ++ (code "/" ∷ t) → IsProduct text (Joined Over f g)

  -- "Factors: letters a to h, a hash with eight upper-case hex digits, a minus before a factor, brackets" round a whole formula
  pub data IsFactor : List ℕ → Formula → Type 0 where
    letter : {text : List ℕ} {k : ℕ} → k < 8 → text ≡ (code "a" + k) ∷ [] → IsFactor text (Letter k)
    constant : {text s : List ℕ} → length s ≡ 8 → are_digits s ≡ true → text ≡ code "#" ∷ s → IsFactor text (Constant s)
    minus : {text s : List ℕ} {f : Formula} → IsFactor s f → text ≡ code "-" ∷ s → IsFactor text (Minus f)
    brackets : {text s : List ℕ} {f : Formula} → IsSum s f → text ≡ code "(" ∷ (s ++ (code ")" ∷ [])) → IsFactor text (Brackets f)

-- a text that is taken as this formula: of 1 to 256 bytes, inside the grammar, brackets and minus signs nested at most 16 deep
pub record IsText (text : List ℕ) (f : Formula) : Type 0 where
  pub some : 1 ≤ length text
  pub short : length text ≤ 256
  pub inside : IsSum text f
  pub shallow : nested f ≤ 16
