-- The exact text of a sum as the figures of sheets give it: a sign and 48 hex digits of its magnitude times 2 ^ 88. Definitions only. Assumes nothing.
use Rattle.std.specs.Prelude.{ℕ, ◌≡◌, Bool, true, false, cond, List, [], ◌∷◌, ◌++◌, eqb, length, drop, get_or}
use Rattle.listing.specs.Listing.{newline}
use Rattle.listing.specs.declared.hex.Hex.{Hex}
use Rattle.listing.specs.declared.hex.Hex.TheVariants.{Number, Nothing}
use Rattle.decimals.specs.declared.sum.Sum.{Sum}
use Rattle.decimals.specs.declared.sum.Sum.TheVariants.{Signed, Nothing as NoSum}
use Rattle.decimals.specs.Magnitude.{size_in, Fits, bytes_at}
use Rattle.decimals.specs.Exact.{minus, exact_text}
use Rattle.listing.specs.Hex.{hex_of}
use Rattle.decimals.specs.Line.{wrong_text}

-- the characters of a sum: a sign and its digits
abbrev pub sum_text : ℕ
sum_text = 49

abbrev pub plus : ℕ
plus = 43

-- the line of what is no sum: `wrong`
abbrev pub no_sum : List ℕ
no_sum = wrong_text ++ (newline ∷ [])

-- the line of a magnitude times 2 ^ 88 with its sign
abbrev pub size_line : Bool → Hex → List ℕ
size_line neg (Number n) = exact_text neg n ++ (newline ∷ [])
size_line neg Nothing = no_sum

-- the line of a sum, which begins with + or -
abbrev pub is_sign : ℕ → Bool
is_sign c = cond (eqb c plus) true (eqb c minus)

unfoldable pub sum_line : List ℕ → List ℕ
sum_line text = cond (eqb (length text) sum_text) (cond (is_sign (get_or text 0 0)) (size_line (eqb (get_or text 0 0) minus) (hex_of (drop 1 text))) no_sum) no_sum

-- ---- as the program finds it
-- what was read of hex digits: their number in bytes, the lowest first, or that they are none
abbrev pub Bytes·Of : List ℕ → Bool → List ℕ → Type 0
Bytes·Of digits true bytes = hex_of digits ≡ Number (bytes_at bytes)
Bytes·Of digits false bytes = hex_of digits ≡ Nothing

-- a sum with its line, or none
abbrev pub SumOf : List ℕ → Sum → Type 0
SumOf text (Signed neg size) = (exact_text neg (size_in size) ++ (newline ∷ []) ≡ sum_line text) × Fits size
SumOf text NoSum = no_sum ≡ sum_line text
