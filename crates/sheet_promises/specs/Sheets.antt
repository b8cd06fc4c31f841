-- 02, ask 11, the `sheets` slice: the closed sheets, the open one, and what becomes of them. Definitions only. Assumes
-- nothing.
use Rattle.std.specs.Prelude.{ℕ, zero, suc, ◌+◌, ◌*◌, ◌-◌, ◌/◌, ◌%◌, ◌^◌, Bool, true, false, cond, List, [], ◌∷◌, ◌++◌, eqb, ltb, length, get_or, take, drop}
use Rattle.sheet_promises.specs.Bytes.{zeros, part}

-- ---- reading it

-- which bytes are a list of sheets: 1,303 of them, a number up to 64, open 0 or 1, kept up to 15
abbrev pub is_sheets : List ℕ → Bool
is_sheets l =
    cond (eqb (length l) 1303)
    (cond (ltb 64 (get_or l 0 0)) false (cond (ltb 1 (get_or l 1281 0)) false (cond (ltb 15 (get_or l 1286 0)) false true)))
    false

-- the number of closed sheets
abbrev pub number_in : List ℕ → ℕ
number_in l = get_or l 0 0

-- so many places of 20 bytes, in order
abbrev pub places : ℕ → List ℕ → List (List ℕ)
places zero l = []
places (suc n) l = take 20 l ∷ places n (drop 20 l)

-- the closed sheets, in order: 20 bytes each, the serial and the words of slots 0 to 3
abbrev pub closed_sheets : List ℕ → List (List ℕ)
closed_sheets l = places (number_in l) (drop 1 l)

-- whether a sheet is open
abbrev pub is_open : List ℕ → Bool
is_open l = eqb (get_or l 1281 0) 1

-- the four bytes of its serial
abbrev pub open_serial : List ℕ → List ℕ
open_serial l = part l 1282 4

-- which of its slots were kept: bit k for slot k
abbrev pub kept_bits : List ℕ → ℕ
kept_bits l = get_or l 1286 0

-- the sixteen bytes of its words, slot 0 first
abbrev pub open_words : List ℕ → List ℕ
open_words l = part l 1287 16

-- ---- what becomes of it

-- none open: 22 bytes of zero behind the list
abbrev pub dropped : List ℕ → List ℕ
dropped l = take 1281 l ++ zeros 22

-- one opened for a serial: nothing kept, its words zero
abbrev pub opened : List ℕ → List ℕ → List ℕ
opened l serial = take 1281 l ++ (1 ∷ (serial ++ zeros 17))

-- bit k of a number set
abbrev pub with_bit : ℕ → ℕ → ℕ
with_bit k n = cond (eqb (n / 2 ^ k % 2) 0) (n + 2 ^ k) n

-- a word kept in a slot: its bit set, its four bytes in their place
abbrev pub kept : List ℕ → ℕ → List ℕ → List ℕ
kept l slot word =
    take 1286 l ++ (with_bit slot (kept_bits l) ∷ (part l 1287 (4 * slot) ++ (word ++ drop (1291 + 4 * slot) l)))

-- the open sheet closed: one more, its serial and words in the next place, none open
abbrev pub closed : List ℕ → List ℕ
closed l =
    (number_in l + 1)
    ∷ (part l 1 (20 * number_in l)
    ++ (open_serial l
    ++ (open_words l ++ (part l (21 + 20 * number_in l) (1260 - 20 * number_in l) ++ zeros 22))))
