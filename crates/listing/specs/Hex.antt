-- Hex digits of either case as a number, and the last digits of a number to a base. Definitions only. Assumes nothing.
use Rattle.std.specs.Prelude.{ℕ, zero, suc, ◌+◌, ◌-◌, ◌*◌, ◌/◌, ◌%◌, ◌<◌, cond, List, [], ◌∷◌, ◌++◌, ltb}
use Rattle.listing.specs.declared.hex.Hex.{Hex}
use Rattle.listing.specs.declared.hex.Hex.TheVariants.{Number, Nothing}
use Rattle.listing.specs.Text.{digit}

-- the value of a hex digit, 0 to 9, A to F or a to f, and 16 for a character that is none
unfoldable pub digit_value : ℕ → ℕ
digit_value c =
    cond (ltb c 48) 16
    (cond (ltb c 58) (c - 48)
    (cond (ltb c 65) 16
    (cond (ltb c 71) (c - 55)
    (cond (ltb c 97) 16
    (cond (ltb c 103) (c - 87) 16)))))

-- a number read on, digit by digit, from what the digits before stand for
unfoldable pub hex_from : ℕ → List ℕ → Hex
unfolding digit_value
hex_from value [] = Number value
hex_from value (c ∷ cs) = cond (ltb (digit_value c) 16) (hex_from (value * 16 + digit_value c) cs) Nothing

abbrev pub hex_of : List ℕ → Hex
hex_of text = hex_from 0 text

-- what was read is below a bound
abbrev pub Below : ℕ → Hex → Type 0
Below bound (Number value) = value < bound
Below bound Nothing = Unit

-- the last digits of a number to a base, so many of them
unfoldable pub digits_to : ℕ → ℕ → ℕ → List ℕ
digits_to base zero n = []
digits_to base (suc count) n = digits_to base count (n / base) ++ (digit (n % base) ∷ [])
