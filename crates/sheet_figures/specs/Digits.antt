-- The sum as text: a sign, then 48 upper-case hex digits of its magnitude. Definitions only. Assumes nothing.
use Rattle.std.specs.Prelude.{ℕ, zero, suc, ◌+◌, ◌/◌, ◌%◌, cond, List, [], ◌∷◌, ◌++◌, ltb, ℤ, pos, negsuc, nat_abs}

-- the characters: 0 to 9, A to F
abbrev pub hex_digit : ℕ → ℕ
hex_digit d = cond (ltb d 10) (48 + d) (55 + d)

-- the last k hex digits of a number, the highest first
abbrev pub hex_digits : ℕ → ℕ → List ℕ
hex_digits zero n = []
hex_digits (suc k) n = hex_digits k (n / 16) ++ (hex_digit (n % 16) ∷ [])

-- the digits of a sum
abbrev pub sum_digits : ℕ
sum_digits = 48

-- `+`, or `-` below zero
abbrev pub sign_of : ℤ → ℕ
sign_of (pos n) = 43
sign_of (negsuc n) = 45

abbrev pub sum_text : ℤ → List ℕ
sum_text z = sign_of z ∷ hex_digits sum_digits (nat_abs z)
