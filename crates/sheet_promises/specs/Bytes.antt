-- Bytes, the numbers that they stand for, and how tables write them. Definitions only. Assumes nothing.
use Rattle.std.specs.Prelude.{ℕ, ◌+◌, ◌*◌, ◌-◌, ◌/◌, ◌%◌, ◌<◌, cond, List, [], ◌∷◌, ◌++◌, map, leb, eqb, get_or, take, drop, replicate}
use Prim.Native.Char.{code}
use Prim.Native.String.{String, [] as no_text, ◌∷◌ as ◌before◌}

-- every number of a list is a byte
abbrev pub Bytes : List ℕ → Type 0
Bytes [] = Unit
Bytes (b ∷ l) = (b < 256) × Bytes l

-- so many bytes of zero
abbrev pub zeros : ℕ → List ℕ
zeros n = replicate n 0

-- n bytes from a place
abbrev pub part : List ℕ → ℕ → ℕ → List ℕ
part l at n = take n (drop at l)

-- the number in two bytes from a place, little-endian
abbrev pub two_at : List ℕ → ℕ → ℕ
two_at l i = get_or l i 0 + get_or l (i + 1) 0 * 256

-- the number in four bytes from a place, little-endian
abbrev pub four_at : List ℕ → ℕ → ℕ
four_at l i = get_or l i 0 + get_or l (i + 1) 0 * 256 + get_or l (i + 2) 0 * 65536 + get_or l (i + 3) 0 * 16777216

-- a number as four bytes, little-endian
abbrev pub four_bytes : ℕ → List ℕ
four_bytes n = n % 256 ∷ n / 256 % 256 ∷ n / 65536 % 256 ∷ n / 16777216 % 256 ∷ []

-- ---- how tables write them

-- the bytes of a text
abbrev pub written : String → List ℕ
written no_text = []
written (◌before◌ c s) = code c ∷ written s

-- of lines, parted by strokes (47), each with a newline (10) at its end
abbrev pub text_lines : String → List ℕ
text_lines text = map (λ (c : ℕ). cond (eqb c 47) 10 c) (written text) ++ (10 ∷ [])

-- the value of a hex digit 0 to 9 or A to F
abbrev pub nibble : ℕ → ℕ
nibble c = cond (leb c 57) (c - 48) (c - 55)

-- bytes, two hex digits each, parted by blanks (32)
abbrev pub bytes : String → List ℕ
bytes no_text = []
bytes (◌before◌ a no_text) = []
bytes (◌before◌ a (◌before◌ b s)) =
    cond (eqb (code a) 32) (bytes (◌before◌ b s)) ((nibble (code a) * 16 + nibble (code b)) ∷ bytes s)
