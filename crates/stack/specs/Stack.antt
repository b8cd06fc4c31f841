-- The stack of document 01 as a list of 16 bytes, top first, over the number n of a word's bytes. Definitions only. Assumes nothing.
use Rattle.std.specs.Prelude.{ℕ, zero, suc, ◌+◌, ◌-◌, ◌*◌, ◌/◌, ◌%◌, ◌<◌, ◌≡◌, List, [], ◌∷◌, ◌++◌, length, get_or, take, drop, replicate}

-- the number that bytes stand for, most significant first; a is the number of the bytes before them
abbrev pub number_from : ℕ → List ℕ → ℕ
number_from a [] = a
number_from a (b ∷ l) = number_from (a * 256 + b) l

-- the n bytes of a number, most significant first
abbrev pub bytes_of : ℕ → ℕ → List ℕ
bytes_of zero r = []
bytes_of (suc n) r = bytes_of n (r / 256) ++ (r % 256 ∷ [])

-- n zero bytes
abbrev pub zeros : ℕ → List ℕ
zeros n = replicate n 0

-- every number of a list is a byte
abbrev pub Bytes : List ℕ → Type 0
Bytes [] = Unit
Bytes (b ∷ l) = (b < 256) × Bytes l

-- a stack: 16 bytes
pub record IsStack (s : List ℕ) : Type 0 where
  pub sixteen : length s ≡ 16
  pub bytes : Bytes s

-- ---- words
-- A, the word on top
abbrev pub tos : ℕ → List ℕ → ℕ
tos n s = number_from 0 (take n s)

-- B, the next
abbrev pub nos : ℕ → List ℕ → ℕ
nos n s = number_from 0 (take n (drop n s))

-- ---- a byte pushed or popped
-- the byte on top, which a pop hands out
abbrev pub top_byte : List ℕ → ℕ
top_byte s = get_or s 0 0

-- push: the byte becomes the top, the bottom byte is lost
abbrev pub pushed : List ℕ → ℕ → List ℕ
pushed s b = b ∷ take 15 s

-- the top n bytes go to the bottom
abbrev pub rotated : ℕ → List ℕ → List ℕ
rotated n s = drop n s ++ take n s

-- pop: the top byte goes to the bottom
abbrev pub popped : List ℕ → List ℕ
popped s = rotated 1 s

-- ---- several bytes, one after the other
-- the bytes of a list pushed in turn
abbrev pub pushed_all : List ℕ → List ℕ → List ℕ
pushed_all s [] = s
pushed_all s (b ∷ l) = pushed_all (pushed s b) l

-- the n bytes of a number, low byte first, as they are pushed
abbrev pub low_first : ℕ → ℕ → List ℕ
low_first zero r = []
low_first (suc n) r = r % 256 ∷ low_first n (r / 256)

-- the stack after k pops, and the bytes that they hand out
abbrev pub popped_all : ℕ → List ℕ → List ℕ
popped_all zero s = s
popped_all (suc k) s = popped_all k (popped s)

abbrev pub handed_out : ℕ → List ℕ → List ℕ
handed_out zero s = []
handed_out (suc k) s = top_byte s ∷ handed_out k (popped s)

-- ---- the column 'stack after'
-- R, C.., bottom holds A
abbrev pub over_a : ℕ → List ℕ → ℕ → List ℕ
over_a n s r = bytes_of n r ++ (drop (n + n) s ++ take n s)

-- R, C.., bottom 0
abbrev pub over_zero : ℕ → List ℕ → ℕ → List ℕ
over_zero n s r = bytes_of n r ++ (drop (n + n) s ++ zeros n)

-- only A replaced
abbrev pub replaced : ℕ → List ℕ → ℕ → List ℕ
replaced n s r = bytes_of n r ++ drop n s

-- A copied on top, bottom word lost
abbrev pub copied : ℕ → List ℕ → List ℕ
copied n s = take n s ++ take (16 - n) s

-- A and B change places
abbrev pub exchanged : ℕ → List ℕ → List ℕ
exchanged n s = take n (drop n s) ++ (take n s ++ drop (n + n) s)

-- a 32-bit word pushed, bottom 32-bit word lost
abbrev pub pushed_word : List ℕ → ℕ → List ℕ
pushed_word s r = bytes_of 4 r ++ take 12 s

-- R, B, C, 0, all of 32 bits
abbrev pub converted : List ℕ → ℕ → List ℕ
converted s r = bytes_of 4 r ++ (take 8 (drop 4 s) ++ zeros 4)

-- R (two cells), 16-bit B, C, D, E, 0, 0
abbrev pub widened : List ℕ → ℕ → List ℕ
widened s r = bytes_of 4 r ++ (take 8 (drop 2 s) ++ zeros 4)

-- R (one cell), 32-bit B, C, then three zero cells
abbrev pub narrowed : List ℕ → ℕ → List ℕ
narrowed s r = bytes_of 2 r ++ (take 8 (drop 4 s) ++ zeros 6)
