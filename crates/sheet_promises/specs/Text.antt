-- 02, asks 11 and 14, the text of `./sheets`: the listing of the replies, `end`, the closed sheets, the open one, the
-- figures. Definitions and the statement only: proofs/Text.antt proves it. Assumes nothing.
use Rattle.std.specs.Prelude.{ℕ, zero, suc, ◌+◌, ◌-◌, ◌/◌, ◌%◌, ◌≡◌, cond, List, [], ◌∷◌, ◌++◌, map, ltb, get_or, drop}
use Rattle.sheet_promises.specs.Bytes.{zeros, four_at}
use Rattle.sheet_promises.specs.Sheets.{closed_sheets, is_open}
use Rattle.sheet_promises.specs.Records.{kind_of, records_of, joined}
use Rattle.sheet_promises.specs.SheetsCall.{replies_in}
use Rattle.sheet_promises.specs.Figures.{hex_digit}
use Rattle.sheet_promises.specs.Subjects.{SheetsAnswer, sheets_call, figures_call, sheets_text}

-- ---- numbers

-- at most so many decimal digits of a number, the most significant first
abbrev pub digits_of : ℕ → ℕ → List ℕ
digits_of zero n = []
digits_of (suc most) n = cond (ltb n 10) (hex_digit n ∷ []) (digits_of most (n / 10) ++ (hex_digit (n % 10) ∷ []))

-- a number in decimal, parted by a blank (32) from what stands before
abbrev pub field : ℕ → List ℕ
field n = 32 ∷ digits_of 20 n

-- a byte as two upper-case hex digits
abbrev pub hex_of : ℕ → List ℕ
hex_of b = hex_digit (b / 16) ∷ hex_digit (b % 16) ∷ []

-- bytes as two hex digits each, parted by single blanks
abbrev pub data_text : List ℕ → List ℕ
data_text [] = []
data_text (b ∷ bs) = 32 ∷ (hex_of b ++ data_text bs)

-- ---- the listing of the replies

-- the record's own kind, by that of its reply: bit 15 taken away, else 128
abbrev pub own_kind : ℕ → ℕ
own_kind kind = cond (ltb kind 32768) (kind - 128) (kind - 32768)

-- a reply's line: record number, the record's own kind, refusal, data; a newline (10) ends it
abbrev pub reply_line : ℕ → List ℕ → List ℕ
reply_line number q =
    digits_of 20 number ++ (field (own_kind (kind_of q)) ++ (field (get_or q 4 0) ++ (data_text (drop 5 q) ++ (10 ∷ []))))

-- a line for each reply, numbered from the first
abbrev pub reply_lines : ℕ → List (List ℕ) → List ℕ
reply_lines number [] = []
reply_lines number (q ∷ qs) = reply_line number q ++ reply_lines (number + 1) qs

-- `end`, the run's refusal, bytes of whole records taken
abbrev pub end_line : ℕ → ℕ → List ℕ
end_line refusal taken = 101 ∷ 110 ∷ 100 ∷ (field refusal ++ (field taken ++ (10 ∷ [])))

-- ---- the sheets

-- four bytes from a place, the lowest first, as eight upper-case hex digits
abbrev pub word_text : List ℕ → ℕ → List ℕ
word_text l at =
    32 ∷ (hex_of (get_or l (at + 3) 0) ++ (hex_of (get_or l (at + 2) 0)
    ++ (hex_of (get_or l (at + 1) 0) ++ hex_of (get_or l at 0))))

-- `sheet`, its serial in decimal, its four words
abbrev pub sheet_line : List ℕ → List ℕ
sheet_line l =
    115 ∷ 104 ∷ 101 ∷ 101 ∷ 116
    ∷ (field (four_at l 0) ++ ((word_text l 4 ++ (word_text l 8 ++ (word_text l 12 ++ word_text l 16))) ++ (10 ∷ [])))

-- `open` and its serial, if one is open
abbrev pub open_line : List ℕ → List ℕ
open_line sheets = cond (is_open sheets) (111 ∷ 112 ∷ 101 ∷ 110 ∷ (field (four_at sheets 1282) ++ (10 ∷ []))) []

-- ---- the figures

-- a name and a count in decimal
abbrev pub figure_line : List ℕ → ℕ → List ℕ
figure_line name n = name ++ (field n ++ (10 ∷ []))

-- of the 53 bytes: `lines`, `serials`, `repeated`, `improper`, then `sum` with its sign and digits
abbrev pub figure_lines : List ℕ → List ℕ
figure_lines f =
    figure_line (108 ∷ 105 ∷ 110 ∷ 101 ∷ 115 ∷ []) (get_or f 0 0)
    ++ (figure_line (115 ∷ 101 ∷ 114 ∷ 105 ∷ 97 ∷ 108 ∷ 115 ∷ []) (get_or f 1 0)
    ++ (figure_line (114 ∷ 101 ∷ 112 ∷ 101 ∷ 97 ∷ 116 ∷ 101 ∷ 100 ∷ []) (get_or f 2 0)
    ++ (figure_line (105 ∷ 109 ∷ 112 ∷ 114 ∷ 111 ∷ 112 ∷ 101 ∷ 114 ∷ []) (get_or f 3 0)
    ++ (115 ∷ 117 ∷ 109 ∷ 32 ∷ (drop 4 f ++ (10 ∷ []))))))

-- ---- the text

-- of what a run left: the listing, `end`, the closed sheets in order, the open one, the figures
abbrev pub text_of : SheetsAnswer → List ℕ
text_of a =
    reply_lines 1 (records_of (replies_in a.replies a.report))
    ++ (end_line (get_or a.report 0 0) (four_at a.report 1)
    ++ (joined (map sheet_line (closed_sheets a.sheets))
    ++ (open_line a.sheets ++ figure_lines (figures_call a.sheets (zeros 53)).out)))

-- for every mode, rule and input: the run from reset on an empty list, 65,536 reply bytes
abbrev pub SheetsText : Type 0
SheetsText =
    (mode rule : ℕ) (input : List ℕ)
    → sheets_text mode rule input
    ≡ text_of (sheets_call mode rule (zeros 19) (zeros 1303) input (zeros 65536) (zeros 9))
