-- Numbers as bytes, the low one first, and the other way round. Definitions only. Assumes nothing.
use Rattle.std.specs.Prelude.{ℕ, ◌+◌, ◌*◌, ◌/◌, ◌%◌, ◌^◌, List, [], ◌∷◌, ◌++◌, reverse, get_or}

-- the two-byte number at a place
abbrev pub word_at : List ℕ → ℕ → ℕ
word_at l i = get_or l i 0 + get_or l (i + 1) 0 * 256

-- a number as two bytes
abbrev pub le2 : ℕ → List ℕ
le2 n = n % 256 ∷ n / 256 ∷ []

-- the bytes of a slice that takes a word or an f32
abbrev pub word_bytes : ℕ
word_bytes = 4

-- a number as four bytes
abbrev pub le4 : ℕ → List ℕ
le4 n = n % 256 ∷ n / 256 % 256 ∷ n / 65536 % 256 ∷ n / 16777216 % 256 ∷ []

-- the four-byte number at a place
abbrev pub four_at : List ℕ → ℕ → ℕ
four_at l i = get_or l i 0 + get_or l (i + 1) 0 * 2 ^ 8 + get_or l (i + 2) 0 * 2 ^ 16 + get_or l (i + 3) 0 * 2 ^ 24

-- the eight-byte number at a place
abbrev pub eight_at : List ℕ → ℕ → ℕ
eight_at l i = four_at l i + four_at l (i + 4) * 2 ^ 32

-- a number as eight bytes
abbrev pub le8 : ℕ → List ℕ
le8 n = le4 n ++ le4 (n / 2 ^ 32)

-- two, four and eight bytes with the high one first
abbrev pub high2 : ℕ → List ℕ
high2 n = n / 256 % 256 ∷ n % 256 ∷ []

abbrev pub high4 : ℕ → List ℕ
high4 n = reverse (le4 n)

abbrev pub high8 : ℕ → List ℕ
high8 n = reverse (le8 n)
