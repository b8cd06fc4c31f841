-- 01, 'The listing program', and request 10: numbers as text, in decimal and in upper-case hex digits. Definitions
-- only. Assumes nothing.
use Rattle.std.specs.Prelude.{ℕ, zero, suc, ◌+◌, ◌*◌, ◌-◌, ◌/◌, ◌%◌, cond, List, [], ◌∷◌, ◌++◌, leb, ltb, eqb}
use Prim.Native.Char.{code}
use Prim.Native.String.{String, [] as no_text, ◌∷◌ as ◌before◌}

-- the bytes of a text
abbrev pub written : String → List ℕ
written no_text = []
written (◌before◌ c s) = code c ∷ written s

-- the character of a digit: 0 to 9, then A to F
abbrev pub digit : ℕ → ℕ
digit d = cond (ltb d 10) (48 + d) (55 + d)

-- the value of one, by its character
abbrev pub nibble : ℕ → ℕ
nibble c = cond (leb c 57) (c - 48) (c - 55)

-- the digits of a number to base ten, the most significant first, and at most so many
unfoldable pub spelled : ℕ → ℕ → List ℕ
spelled zero n = []
spelled (suc most) n = cond (ltb n 10) (digit n ∷ []) (spelled most (n / 10) ++ (digit (n % 10) ∷ []))

-- a number in decimal; 20 digits hold every number of 64 bits
abbrev pub decimal : ℕ → List ℕ
decimal n = spelled 20 n

-- the last hex digits of a number, so many of them
unfoldable pub hex_of : ℕ → ℕ → List ℕ
hex_of zero n = []
hex_of (suc count) n = hex_of count (n / 16) ++ (digit (n % 16) ∷ [])

-- bytes as they stand in a table: two hex digits each, parted by blanks (32)
abbrev pub bytes : String → List ℕ
bytes no_text = []
bytes (◌before◌ a no_text) = []
bytes (◌before◌ a (◌before◌ b s)) =
    cond (eqb (code a) 32) (bytes (◌before◌ b s)) ((nibble (code a) * 16 + nibble (code b)) ∷ bytes s)
