-- 01, 'The stack': 16 bytes, top first, and the words that they are read as. Definitions only. Assumes nothing.
use Rattle.std.specs.Prelude.{ℕ, zero, suc, ◌+◌, ◌*◌, ◌/◌, ◌%◌, ◌<◌, ◌≡◌, List, [], ◌∷◌, ◌++◌, length, get_or, take, drop, replicate}
use Rattle.terms.specs.declared.Width.{Width}
use Rattle.terms.specs.declared.Width.TheVariants.{Single, Double}

-- the bytes of a word of 16 or 32 bits
abbrev pub size_of : Width → ℕ
size_of Single = 2
size_of Double = 4

-- its bits
abbrev pub bits_of : Width → ℕ
bits_of Single = 16
bits_of Double = 32

-- every number of a list is a byte
abbrev pub Bytes : List ℕ → Type 0
Bytes [] = Unit
Bytes (b ∷ l) = (b < 256) × Bytes l

-- a stack: 16 bytes
pub record IsStack (s : List ℕ) : Type 0 where
  pub sixteen : length s ≡ 16
  pub bytes : Bytes s

-- n zero bytes
abbrev pub zeros : ℕ → List ℕ
zeros n = replicate n 0

-- the n bytes of a number: "A word's most significant byte is nearest the top"
abbrev pub bytes_of : ℕ → ℕ → List ℕ
bytes_of zero r = []
bytes_of (suc n) r = bytes_of n (r / 256) ++ (r % 256 ∷ [])

-- the same as they are pushed: "Low byte of a word first"
abbrev pub low_first : ℕ → ℕ → List ℕ
low_first zero r = []
low_first (suc n) r = r % 256 ∷ low_first n (r / 256)

-- the number that bytes stand for, most significant first; a is the number of the bytes before them
abbrev pub number_from : ℕ → List ℕ → ℕ
number_from a [] = a
number_from a (b ∷ l) = number_from (a * 256 + b) l

-- A, the word of n bytes on top
abbrev pub tos : ℕ → List ℕ → ℕ
tos n s = number_from 0 (take n s)

-- B, the next
abbrev pub nos : ℕ → List ℕ → ℕ
nos n s = number_from 0 (take n (drop n s))

-- "Push byte: it becomes the top, the bottom byte is lost."
abbrev pub pushed : List ℕ → ℕ → List ℕ
pushed s b = b ∷ take 15 s

-- "Pop byte: the top byte is handed out and goes to the bottom"
abbrev pub top_byte : List ℕ → ℕ
top_byte s = get_or s 0 0

abbrev pub popped : List ℕ → List ℕ
popped s = drop 1 s ++ take 1 s
