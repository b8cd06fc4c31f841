-- 02, ask 14, `sheets_figures` by literal bytes: the rows were worked out with exact fractions beside the library.
-- Definitions and the statement only: proofs/FigureRows.antt computes it. Assumes nothing.
use Rattle.std.specs.Prelude.{ℕ, ◌≡◌, List, [], ◌∷◌, ◌++◌, map, replicate}
use Prim.Native.String.{String}
use Rattle.sheet_promises.specs.Bytes.{zeros, written, bytes}
use Rattle.sheet_promises.specs.Records.{joined}
use Rattle.sheet_promises.specs.Subjects.{FiguresAnswer, figures_call}

-- what a call is given, and what it returns and leaves in `out`
pub record Row : Type 0 where
  pub sheets : List ℕ
  pub out : List ℕ
  pub after : FiguresAnswer

-- so many bytes, as they are lent for `out`
abbrev pub lent : ℕ → List ℕ
lent n = replicate n 0xaa

-- the counts (lines, serials, repeated, improper) and the sum of some sheets
abbrev pub told : List ℕ → String → String → Row
told sheets counts sum =
    record { sheets = sheets; out = lent 53; after = record { result = 0; out = bytes counts ++ written sum } }

-- refused, with so many bytes lent: nothing is written
abbrev pub refused : ℕ → List ℕ → ℕ → Row
refused refusal sheets size =
    record { sheets = sheets; out = lent size; after = record { result = refusal; out = lent size } }

-- ---- closed sheets of four serials, by their first word; the other three words are the serial's

abbrev pub one : String → List ℕ
one word = bytes "01 02 03 04" ++ (bytes word ++ bytes "57 5A 5D 60 63 66 69 6C 6F 72 75 78")

abbrev pub two : String → List ℕ
two word = bytes "CC DD EE FF" ++ (bytes word ++ bytes "62 65 68 6B 6E 71 74 77 7A 7D 80 83")

abbrev pub three : String → List ℕ
three word = bytes "00 01 00 00" ++ (bytes word ++ bytes "24 27 2A 2D 30 33 36 39 3C 3F 42 45")

abbrev pub four : String → List ℕ
four word = bytes "00 00 00 80" ++ (bytes word ++ bytes "37 3A 3D 40 43 46 49 4C 4F 52 55 58")

-- a list of so many, and the bytes behind it
abbrev pub listed : ℕ → List (List ℕ) → ℕ → List ℕ
listed number lines rest = number ∷ (joined lines ++ zeros rest)

-- ---- the statement

-- the table
abbrev pub rows : List Row
rows =
    -- 7 lines, 4 serials, 2 of them repeated, 1 word not proper; a sum of many bits
    told (listed 7 (one "E9 C3 A7 05" ∷ two "BA DC FE 3E" ∷ one "17 8F B3 42" ∷ two "D2 E1 F0 01" ∷ three "FF FF 7F 01"
    ∷ four "97 A3 C5 83" ∷ two "45 23 91 7F" ∷ []) 1162)
    "07 04 02 01" "+00000000003FB72E8000000010F5B5AE8000000002CE3C5C"
    -- 6 lines, 3 serials, 2 repeated, 4 words not proper; a sum below zero
    ∷ told (listed 6 (two "C3 D5 E4 92" ∷ three "01 00 00 01" ∷ two "00 00 00 80" ∷ three "00 00 40 00"
    ∷ four "4F 6D 8B 0F" ∷ three "FF FF 7F FF" ∷ []) 1182)
    "06 03 02 04" "-00000000000000000000034DA06480000000000000000000"
    -- 5 lines, 3 serials, 2 repeated, none improper: the values cancel, and plus stands for zero
    ∷ told (listed 5 (three "A9 B5 D6 2B" ∷ four "A9 B5 D6 AB" ∷ three "01 00 C0 C0" ∷ one "00 00 00 00"
    ∷ four "01 00 C0 40" ∷ []) 1202)
    "05 03 02 00" "+000000000000000000000000000000000000000000000000"
    -- 3 lines, 2 serials, 1 repeated, none improper: the smallest word below zero and one that cuts the sum to one unit
    ∷ told (listed 3 (one "00 00 80 C0" ∷ two "01 00 80 40" ∷ one "00 00 80 C1" ∷ []) 1242)
    "03 02 01 00" "-000000000000000000000000000000000000000000FFFFFF"
    -- 64 times the greatest word: 64 lines, 1 serial, repeated, none improper
    ∷ told (listed 64
    (replicate 64 (bytes "09 00 00 00 FF FF FF 3F 40 43 46 49 4C 4F 52 55 58 5B 5E 61")) 22)
    "40 01 01 00" "+000000001FFFFFE000000000000000000000000000000000"
    -- a sheet that is open only does not count
    ∷ told (zeros 1281 ++ bytes "01 05 06 07 08 0F E9 C3 A7 05 FF FF 7F 01 FF FF 7F 01 FF FF 7F 01")
    "00 00 00 00" "+000000000000000000000000000000000000000000000000"
    -- 8 for 52 bytes of `out`, before 13, and for 54
    ∷ refused 8 (65 ∷ zeros 1302) 52 ∷ refused 8 (zeros 1303) 54
    -- 13 for a number over 64, for 1,302 bytes of sheets, for open over 1, for kept over 15
    ∷ refused 13 (65 ∷ zeros 1302) 53 ∷ refused 13 (zeros 1302) 53 ∷ refused 13 (zeros 1281 ++ (2 ∷ zeros 21)) 53
    ∷ refused 13 (zeros 1286 ++ (16 ∷ zeros 16)) 53
    ∷ []

-- every call gives what its row says
abbrev pub FigureRows : Type 0
FigureRows = map (λ (r : Row). figures_call r.sheets r.out) rows ≡ map (λ (r : Row). r.after) rows
