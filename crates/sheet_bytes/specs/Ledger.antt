-- The `sheets` slice: 1,303 bytes, how they are read and how they are written. Definitions only. Assumes nothing.
use Rattle.std.specs.Prelude.{ℕ, zero, suc, ◌+◌, ◌*◌, ◌/◌, ◌%◌, ◌^◌, Bool, true, false, cond, List, [], ◌∷◌, ◌++◌, eqb, ltb, length, get_or, set, take, drop, replicate}
use Rattle.std.proofs.Math.Seq.{paste}

-- ---- the layout

-- the number of closed sheets, then 64 places of 20 bytes: the serial, then the words of slots 0 to 3, each four bytes little-endian
abbrev pub most_sheets : ℕ
most_sheets = 64

abbrev pub place_bytes : ℕ
place_bytes = 20

abbrev pub place_at : ℕ → ℕ
place_at i = 1 + place_bytes * i

-- the open sheet: whether there is one, its serial, which slots were kept (bit k for slot k), their words
abbrev pub open_at : ℕ
open_at = 1281

abbrev pub serial_at : ℕ
serial_at = 1282

abbrev pub kept_at : ℕ
kept_at = 1286

abbrev pub words_at : ℕ
words_at = 1287

abbrev pub open_bytes : ℕ
open_bytes = 22

abbrev pub sheets_bytes : ℕ
sheets_bytes = 1303

-- which bytes stand for sheets: 1,303 of them, a number up to 64, open 0 or 1, no slot but 0 to 3 kept
unfoldable pub is_sheets : List ℕ → Bool
is_sheets l =
    cond (eqb (length l) sheets_bytes)
    (cond (ltb most_sheets (get_or l 0 0)) false (cond (ltb 1 (get_or l open_at 0)) false (cond (ltb 15 (get_or l kept_at 0)) false true)))
    false

-- ---- reading it

-- n bytes from a place
abbrev pub bytes_at : List ℕ → ℕ → ℕ → List ℕ
bytes_at l at n = take n (drop at l)

-- the number of closed sheets
abbrev pub closed_in : List ℕ → ℕ
closed_in l = get_or l 0 0

-- so many places of 20 bytes, in order
abbrev pub lines : ℕ → List ℕ → List (List ℕ)
lines zero l = []
lines (suc n) l = take place_bytes l ∷ lines n (drop place_bytes l)

-- the closed sheets, in order, 20 bytes each
abbrev pub lines_of : List ℕ → List (List ℕ)
lines_of l = lines (closed_in l) (drop 1 l)

-- whether a sheet is open
abbrev pub is_open : List ℕ → Bool
is_open l = eqb (get_or l open_at 0) 1

-- the serial of the open sheet, and the words of its four slots
abbrev pub open_serial : List ℕ → List ℕ
open_serial l = bytes_at l serial_at 4

abbrev pub open_words : List ℕ → List ℕ
open_words l = bytes_at l words_at 16

-- which slots of the open sheet were kept
abbrev pub kept_bits : List ℕ → ℕ
kept_bits l = get_or l kept_at 0

-- ---- writing it

-- bytes laid over a list from a place on
abbrev pub laid_at : List ℕ → ℕ → List ℕ → List ℕ
laid_at l at vs = paste l at vs (length vs)

-- bit k of a number set
abbrev pub with_bit : ℕ → ℕ → ℕ
with_bit k n = cond (eqb (n / 2 ^ k % 2) 0) (n + 2 ^ k) n

-- no sheet open: its 22 bytes zero
abbrev pub dropped : List ℕ → List ℕ
dropped l = laid_at l open_at (replicate open_bytes 0)

-- a sheet opened for a serial: nothing kept, its words zero
abbrev pub opened : List ℕ → List ℕ → List ℕ
opened l serial = laid_at l open_at (1 ∷ (serial ++ replicate 17 0))

-- a word kept in a slot
abbrev pub kept_in : List ℕ → ℕ → List ℕ → List ℕ
kept_in l slot word = set (laid_at l (words_at + 4 * slot) word) kept_at (with_bit slot (kept_bits l))

-- the open sheet as the next line of the list, and none open
abbrev pub closed : List ℕ → List ℕ
closed l = dropped (set (laid_at l (place_at (closed_in l)) (open_serial l ++ open_words l)) 0 (closed_in l + 1))
