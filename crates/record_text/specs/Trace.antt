-- The trace of a run: after each record the bytes of the state that the run up to its end leaves. Definitions only. Assumes nothing.
use Rattle.std.specs.Prelude.{ℕ, zero, suc, ◌+◌, cond, List, [], ◌∷◌, ◌++◌, eqb, leb, ltb, length, take, drop, replicate}
use Rattle.numbers.specs.Little.{word_at}
use Rattle.terms.specs.Limits.{long_state_bytes, report_bytes, most_input}
use Rattle.state_bytes.specs.Calls.{Called, call_of}
use Rattle.listing.specs.Text.{decimal}
use Rattle.listing.specs.Listing.{newline, end_word, data_text, reply_room}
use Rattle.listing.specs.Options.{asked_of, text_for}

-- the run of a file on the state of a reset, with its error memory, in the room that the listing program lends
abbrev pub call_from : ℕ → ℕ → List ℕ → Called
call_from mode rule file = call_of mode rule (replicate long_state_bytes 0) file (replicate reply_room 0) (replicate report_bytes 0)

-- a line: a record's number, and the bytes of a state; no line has more characters than this
abbrev pub state_text : ℕ → List ℕ → List ℕ
state_text number state = decimal number ++ (data_text state ++ (newline ∷ []))

abbrev pub line_room : ℕ
line_room = 84

-- the line of the record that a file ends with: the state that the file's run leaves, or nothing where that is stopped
abbrev pub after_text : ℕ → ℕ → ℕ → List ℕ → List ℕ
after_text mode rule number file = cond (eqb (call_from mode rule file).result 0) (state_text number (call_from mode rule file).state) []

-- where the record ends that begins at a place: its length counts what follows its first two bytes
abbrev pub end_at : List ℕ → ℕ → ℕ
end_at input at = at + 2 + word_at (drop at input) 0

-- the lines of the records from a place on, the first of this number, at most so many
unfoldable pub lines_from : ℕ → ℕ → ℕ → List ℕ → ℕ → ℕ → List ℕ
lines_from zero mode rule input number at = []
lines_from (suc most) mode rule input number at =
    cond (leb (at + 2) (length input))
    (cond (leb (end_at input at) (length input))
    (after_text mode rule number (take (end_at input at) input) ++ lines_from most mode rule input (number + 1) (end_at input at))
    [])
    []

-- those of all records: there are no more of them than bytes
abbrev pub lines_of : ℕ → ℕ → List ℕ → List ℕ
lines_of mode rule input = lines_from (length input) mode rule input 1 0

-- the line `end`
abbrev pub last_line : List ℕ
last_line = end_word ++ (newline ∷ [])

-- the trace: no record is done of an input that is too long
abbrev pub trace_of : ℕ → ℕ → List ℕ → List ℕ
trace_of mode rule input = cond (ltb most_input (length input)) last_line (lines_of mode rule input ++ last_line)

-- what is written for a call of so many words, the program's own name among them, by the listing's options
abbrev pub traced_of : ℕ → List ℕ → List ℕ → List ℕ → List ℕ
traced_of words first second input = text_for trace_of (asked_of words first second) input
