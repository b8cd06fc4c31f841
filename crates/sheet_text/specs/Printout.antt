-- Document 02, asks 11 and 14, the program `./sheets`: what is printed for an input, part by part. Definitions only. Assumes nothing.
use Rattle.std.specs.Prelude.{ℕ, ◌+◌, cond, List, [], ◌∷◌, ◌++◌, get_or, take, drop, replicate}
use Rattle.terms.specs.Limits.{state_bytes, report_bytes}
use Rattle.numbers.specs.Little.{four_at}
use Rattle.sheet_bytes.specs.Ledger.{sheets_bytes, serial_at, lines_of, is_open}
use Rattle.sheet_figures.specs.Telling.{figures_bytes, figures_of}
use Rattle.sheets.specs.Calls.{Called, call_of}
use Rattle.listing.specs.Text.{hex}
use Rattle.listing.specs.Listing.{blank, newline, field, reply_room, listing_of}
use Rattle.listing.specs.Options.{asked_of, text_for}

-- ---- how much room the parts have behind the listing

-- a line of a sheet, the line of the open one, and the figures
abbrev pub line_room : ℕ
line_room = 64

abbrev pub open_room : ℕ
open_room = 32

abbrev pub figures_room : ℕ
figures_room = 192

-- together, for 64 sheets
abbrev pub rest_room : ℕ
rest_room = 4320

-- ---- the lines

-- the words that begin them, `sheet` and `open`
abbrev pub sheet_word : List ℕ
sheet_word = 115 ∷ 104 ∷ 101 ∷ 101 ∷ 116 ∷ []

abbrev pub open_word : List ℕ
open_word = 111 ∷ 112 ∷ 101 ∷ 110 ∷ []

-- a word of four bytes, the low one first, as eight upper-case hex digits, the most significant first, parted by a blank from what stands before
abbrev pub word_text : ℕ → ℕ → ℕ → ℕ → List ℕ
word_text a b c d = blank ∷ (hex d ++ (hex c ++ (hex b ++ hex a)))

-- the word at a place
abbrev pub word_from : List ℕ → ℕ → List ℕ
word_from l i = word_text (get_or l i 0) (get_or l (i + 1) 0) (get_or l (i + 2) 0) (get_or l (i + 3) 0)

-- the four words of a closed sheet, slot 0 first
abbrev pub words_text : List ℕ → List ℕ
words_text l = word_from l 4 ++ (word_from l 8 ++ (word_from l 12 ++ word_from l 16))

-- the line of a closed sheet, which has 20 bytes: the serial in decimal, then its words
abbrev pub sheet_text : List ℕ → List ℕ
sheet_text l = sheet_word ++ (field (four_at l 0) ++ (words_text l ++ (newline ∷ [])))

-- a line for each, in order
abbrev pub sheets_text : List (List ℕ) → List ℕ
sheets_text [] = []
sheets_text (l ∷ ls) = sheet_text l ++ sheets_text ls

-- the serial of the open sheet, if one is
abbrev pub open_text : List ℕ → List ℕ
open_text sheets = cond (is_open sheets) (open_word ++ (field (four_at sheets serial_at) ++ (newline ∷ []))) []

-- ---- the figures

-- their names: `lines`, `serials`, `repeated`, `improper`, and `sum` with the blank behind it
abbrev pub lines_word : List ℕ
lines_word = 108 ∷ 105 ∷ 110 ∷ 101 ∷ 115 ∷ []

abbrev pub serials_word : List ℕ
serials_word = 115 ∷ 101 ∷ 114 ∷ 105 ∷ 97 ∷ 108 ∷ 115 ∷ []

abbrev pub repeated_word : List ℕ
repeated_word = 114 ∷ 101 ∷ 112 ∷ 101 ∷ 97 ∷ 116 ∷ 101 ∷ 100 ∷ []

abbrev pub improper_word : List ℕ
improper_word = 105 ∷ 109 ∷ 112 ∷ 114 ∷ 111 ∷ 112 ∷ 101 ∷ 114 ∷ []

abbrev pub sum_word : List ℕ
sum_word = 115 ∷ 117 ∷ 109 ∷ blank ∷ []

-- a name and a count in decimal
abbrev pub figure_text : List ℕ → ℕ → List ℕ
figure_text name n = name ++ (field n ++ (newline ∷ []))

-- of the 53 bytes that tell them: four counts
abbrev pub counts_text : List ℕ → List ℕ
counts_text l =
    figure_text lines_word (get_or l 0 0)
    ++ (figure_text serials_word (get_or l 1 0) ++ (figure_text repeated_word (get_or l 2 0) ++ figure_text improper_word (get_or l 3 0)))

-- then the sign and the digits of the sum
abbrev pub figures_text : List ℕ → List ℕ
figures_text l = counts_text l ++ (sum_word ++ (drop 4 l ++ (newline ∷ [])))

-- those of a slice
abbrev pub figures_for : List ℕ → List ℕ
figures_for sheets = (figures_of sheets (replicate figures_bytes 0)).out

-- ---- what is printed

-- the run that the program makes: the input on the state of a reset and on no sheets, under a mode and a rule
abbrev pub call_under : ℕ → ℕ → List ℕ → Called
call_under mode rule input =
    call_of mode rule (replicate state_bytes 0) (replicate sheets_bytes 0) input (replicate reply_room 0) (replicate report_bytes 0)

-- the listing of the replies and the report that a run leaves: refusal, bytes taken, bytes of replies written
abbrev pub printed_of : List ℕ → List ℕ → List ℕ
printed_of replies report = listing_of (take (four_at report 5) replies) (get_or report 0 0) (four_at report 1)

-- the closed sheets of a slice, then the open one, then the figures
abbrev pub rest_text : List ℕ → List ℕ
rest_text sheets = sheets_text (lines_of sheets) ++ (open_text sheets ++ figures_text (figures_for sheets))

-- the listing, then what is printed of the sheets
abbrev pub printed_for : Called → List ℕ
printed_for c = printed_of c.replies c.report ++ rest_text c.sheets

abbrev pub printout_under : ℕ → ℕ → List ℕ → List ℕ
printout_under mode rule input = printed_for (call_under mode rule input)

-- for mode and rule 0
abbrev pub printout_of : List ℕ → List ℕ
printout_of = printout_under 0 0

-- what the program prints for a call of so many words, its own name among them
abbrev pub told_of : ℕ → List ℕ → List ℕ → List ℕ → List ℕ
told_of words first second input = text_for printout_under (asked_of words first second) input
