-- The exact text of a magnitude n / 2 ^ 88 with its sign. Definitions only. Assumes nothing.
use Rattle.std.specs.Prelude.{ℕ, zero, suc, ◌*◌, ◌/◌, ◌%◌, ◌^◌, Bool, cond, List, [], ◌∷◌, ◌++◌, eqb}
use Rattle.listing.specs.Text.{digit, spelled}

-- the characters
abbrev pub point : ℕ
point = 46

abbrev pub minus : ℕ
minus = 45

-- the most digits before the point and behind it: 2 ^ 104 has 32, and 2 ^ 88 goes into 10 ^ 88
abbrev pub whole_digits : ℕ
whole_digits = 32

abbrev pub most_places : ℕ
most_places = 88

-- the places of r / 2 ^ 88, at most so many: they end where nothing is left, and there is at least one
unfoldable pub places_text : ℕ → ℕ → List ℕ
places_text zero r = []
places_text (suc most) r = digit (r * 10 / 2 ^ 88) ∷ cond (eqb (r * 10 % 2 ^ 88) 0) [] (places_text most (r * 10 % 2 ^ 88))

-- a minus sign before what is below zero
abbrev pub sign_text : Bool → ℕ → List ℕ
sign_text neg n = cond neg (cond (eqb n 0) [] (minus ∷ [])) []

-- the whole text
abbrev pub exact_text : Bool → ℕ → List ℕ
exact_text neg n = sign_text neg n ++ (spelled whole_digits (n / 2 ^ 88) ++ (point ∷ places_text most_places (n % 2 ^ 88)))
