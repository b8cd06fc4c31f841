-- How long a line's parts are, and the text of data, which goes on byte by byte. Assumes nothing.
use mathlib.Core.Path.{◌≡◌, refl, ap}
use mathlib.Core.List.{List, [], ◌∷◌, ◌++◌}
use Prim.Native.Nat.{ℕ, ◌+◌, ◌*◌, ◌≤◌, ◌<◌}
use native.Mathlib.Omega.{arith}
use native.Mathlib.Numerals.{add-one}
use lib.ListN.{length, take, get_or, length-append}
use lib.Seq.{take-suc, length-take-le}
use Rattle.listing.specs.Text.{Adds, decimal, hex}
use Rattle.listing.specs.Listing.{newline, field, data_text, line_of, end_of}

data_append : (x y : List ℕ) → data_text (x ++ y) ≡ data_text x ++ data_text y
data_append [] y = refl
data_append (b ∷ x) y = ap (λ (l : List ℕ). 32 ∷ (hex b ++ l)) (data_append x y)

pub data_length : (x : List ℕ) → length (data_text x) ≡ 3 * length x
data_length [] = refl
data_length (b ∷ x) = let e = data_length x in omega arith

-- the text of one byte more
pub data_next : (x : List ℕ) (i : ℕ) → i < length x → data_text (take (i + 1) x) ≡ data_text (take i x) ++ (32 ∷ hex (get_or x i 0))
data_next x i h = rw (add-one i, take-suc x i 0 h) (data_append (take i x) (get_or x i 0 ∷ []))

-- room for the data is room for the text of the next byte
pub data_room : (x : List ℕ) (i place next : ℕ) {a b : List ℕ} → i < length x → Adds (data_text (take i x)) a b place next
    → length b ≡ length a → place + length (data_text x) ≤ length a → next + 3 ≤ length b
data_room x i place next h k e w = omega (arith, k.moved, data_length (take i x), data_length x, length-take-le i x (omega arith))

-- the three numbers, the blanks between them, the data and the newline
pub line_length : (number kind refusal : ℕ) (bytes : List ℕ)
    → length (line_of number kind refusal bytes) ≡ length (decimal number) + length (decimal kind) + length (decimal refusal) + length (data_text bytes) + 3
line_length number kind refusal bytes =
    let tail = data_text bytes ++ (newline ∷ []) in
    omega (
      arith,
      length-append (decimal number) (field kind ++ (field refusal ++ tail)),
      length-append (decimal kind) (field refusal ++ tail),
      length-append (decimal refusal) tail,
      length-append (data_text bytes) (newline ∷ []),
    )

-- the word, the two numbers with their blanks, and the newline
pub end_length : (refusal taken : ℕ) → length (end_of refusal taken) ≡ length (decimal refusal) + length (decimal taken) + 6
end_length refusal taken =
    omega (
      arith,
      length-append (decimal refusal) (field taken ++ (newline ∷ [])),
      length-append (decimal taken) (newline ∷ []),
    )
