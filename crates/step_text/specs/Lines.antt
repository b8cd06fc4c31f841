-- The lines that trainees see, as request 10 gives them: `N LEFT PARTIAL` for a step, `word W error E status S` or `refused R` at the end.
-- Definitions only. Assumes nothing.
use Rattle.std.specs.Prelude.{ℕ, ◌+◌, ◌*◌, cond, List, [], ◌∷◌, ◌++◌, leb, eqb, Ok, Err}
use Rattle.terms.specs.declared.Refusal.{Refusal}
use Rattle.terms.specs.Refusal.{number_of}
use Rattle.terms.specs.declared.Width.{Width}
use Rattle.terms.specs.Width.{size_of, bits_of}
use Rattle.fixed.specs.Fixed.{half}
use Rattle.listing.specs.Text.{decimal}
use Rattle.listing.specs.Hex.{digits_to}
use Rattle.listing.specs.Listing.{blank, newline, field}
use Rattle.bit_serial.specs.Answer.{Answer}

-- no line has more characters than this
abbrev pub line_room : ℕ
line_room = 64

-- a step: its number, the bits or digits left, in decimal; the partial result in 16 hex digits
abbrev pub step_line : ℕ → ℕ → ℕ → List ℕ
step_line number left partial = decimal number ++ (field left ++ (blank ∷ (digits_to 16 16 partial ++ (newline ∷ []))))

-- the chip's status for a word and its error: bit 6 sign, bit 5 zero, bits 4 to 1 the error; the carry is 0
abbrev pub status_for : Width → ℕ → ℕ → ℕ
status_for w word error = 2 * error + cond (leb (half (bits_of w)) word) 64 0 + cond (eqb word 0) 32 0

-- `word `, ` error`, ` status `, `refused`
abbrev pub word_text : List ℕ
word_text = 119 ∷ 111 ∷ 114 ∷ 100 ∷ blank ∷ []

abbrev pub error_text : List ℕ
error_text = blank ∷ 101 ∷ 114 ∷ 114 ∷ 111 ∷ 114 ∷ []

abbrev pub status_text : List ℕ
status_text = blank ∷ 115 ∷ 116 ∷ 97 ∷ 116 ∷ 117 ∷ 115 ∷ blank ∷ []

abbrev pub refused_text : List ℕ
refused_text = 114 ∷ 101 ∷ 102 ∷ 117 ∷ 115 ∷ 101 ∷ 100 ∷ []

-- a word in the digits of its width, its error in decimal, its status in two hex digits
abbrev pub status_end : Width → ℕ → ℕ → List ℕ
status_end w word error = status_text ++ (digits_to 16 2 (status_for w word error) ++ (newline ∷ []))

abbrev pub word_line : Width → ℕ → ℕ → List ℕ
word_line w word error = word_text ++ (digits_to 16 (2 * size_of w) word ++ (error_text ++ (field error ++ status_end w word error)))

-- a refusal by its number
abbrev pub refusal_line : Refusal → List ℕ
refusal_line refusal = refused_text ++ (field (number_of refusal) ++ (newline ∷ []))

-- an answer
abbrev pub answer_line : Width → Answer → List ℕ
answer_line w (Ok r) = word_line w r.word r.error
answer_line w (Err refusal) = refusal_line refusal
