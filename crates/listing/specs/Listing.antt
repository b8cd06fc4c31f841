-- Document 01, 'The listing program': the text printed for the replies of a run. Definitions only. Assumes nothing.
use Rattle.std.specs.Prelude.{ℕ, zero, suc, ◌+◌, ◌-◌, ◌≤◌, ◌≡◌, Bool, false, cond, List, [], ◌∷◌, ◌++◌, leb, ltb, length, take, drop, get_or}
use Rattle.numbers.specs.Little.{word_at, le2}
use Rattle.listing.specs.Text.{decimal, hex}

-- the bytes of replies that the program lends
abbrev pub reply_room : ℕ
reply_room = 65536

-- room for the text of any such replies: four characters for each byte of them, and the last line
abbrev pub text_room : ℕ
text_room = 262190

-- the characters that part and end what is printed, and the word of the last line
abbrev pub blank : ℕ
blank = 32

abbrev pub newline : ℕ
newline = 10

abbrev pub end_word : List ℕ
end_word = 101 ∷ 110 ∷ 100 ∷ []

-- a number, parted by a blank from what stands before it
abbrev pub field : ℕ → List ℕ
field n = blank ∷ decimal n

-- data as two upper-case hex digits each, parted by single blanks
abbrev pub data_text : List ℕ → List ℕ
data_text [] = []
data_text (b ∷ bs) = blank ∷ (hex b ++ data_text bs)

-- a line: record number, the record's own kind, refusal, data
abbrev pub line_of : ℕ → ℕ → ℕ → List ℕ → List ℕ
line_of number kind refusal bytes = decimal number ++ (field kind ++ (field refusal ++ (data_text bytes ++ (newline ∷ []))))

-- the last line: `end`, the run's refusal, bytes of whole records taken
abbrev pub end_of : ℕ → ℕ → List ℕ
end_of refusal taken = end_word ++ (field refusal ++ (field taken ++ (newline ∷ [])))

-- a reply: two bytes of length, which counts what follows, two of kind + 128, the refusal, the data
abbrev pub reply_bytes : ℕ → ℕ → List ℕ → List ℕ
reply_bytes kind refusal bytes = le2 (3 + length bytes) ++ (le2 (kind + 128) ++ (refusal ∷ bytes))

-- and what is read of one at the front: the kinds of module sheets carry bit 15 in place of the 128
abbrev pub kind_from : ℕ → ℕ
kind_from word = cond (ltb word 32768) (word - 128) (word - 32768)

abbrev pub reply_kind : List ℕ → ℕ
reply_kind l = kind_from (word_at l 2)

abbrev pub reply_refusal : List ℕ → ℕ
reply_refusal l = get_or l 4 0

abbrev pub reply_size : List ℕ → ℕ
reply_size l = 2 + word_at l 0

abbrev pub reply_data : List ℕ → List ℕ
reply_data l = take (reply_size l - 5) (drop 5 l)

-- a whole reply stands at the front; what is none ends the lines
unfoldable pub has_reply : List ℕ → Bool
has_reply l =
    cond (leb 5 (length l))
    (cond (leb 5 (reply_size l)) (cond (leb (reply_size l) (length l)) (leb 128 (word_at l 2)) false) false)
    false

-- the bytes of the whole reply at the front, 0 where there is none
abbrev pub whole_size : List ℕ → ℕ
whole_size l = cond (has_reply l) (reply_size l) 0

-- what a caller knows of a whole reply of this size at the front
pub record Front (l : List ℕ) (size : ℕ) : Type 0 where
  pub is_size : size ≡ reply_size l
  pub at_least : 5 ≤ size
  pub within : size ≤ length l
  pub kind : 128 ≤ word_at l 2

-- the line of the reply at the front
abbrev pub reply_line : ℕ → List ℕ → List ℕ
reply_line number l = line_of number (reply_kind l) (reply_refusal l) (reply_data l)

-- a line for each whole reply in turn, the first of this number, at most so many
unfoldable pub lines_up_to : ℕ → ℕ → List ℕ → List ℕ
lines_up_to zero number l = []
lines_up_to (suc most) number l =
    cond (has_reply l)
    (reply_line number l ++ lines_up_to most (number + 1) (drop (reply_size l) l))
    []

-- the lines of all replies: there are no more of them than bytes
abbrev pub lines_of : ℕ → List ℕ → List ℕ
lines_of number l = lines_up_to (length l) number l

-- what is printed: a line for each reply, record numbers from 1, and the last line
abbrev pub listing_of : List ℕ → ℕ → ℕ → List ℕ
listing_of replies refusal taken = lines_of 1 replies ++ end_of refusal taken
