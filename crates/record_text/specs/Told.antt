-- The text of a record: its words, parted by single blanks. Definitions only. Assumes nothing.
use Rattle.std.specs.Prelude.{ℕ, ◌*◌, ◌%◌, cond, List, [], ◌∷◌, ◌++◌, eqb, leb, length, get_or}
use Rattle.numbers.specs.Little.{four_at}
use Rattle.listing.specs.Text.{decimal, hex}
use Rattle.listing.specs.Listing.{blank}
use Rattle.listing.specs.Hex.{digits_to}
use Rattle.record_text.specs.Letters.{written}
use Rattle.record_text.specs.Names.{name_of}
use Rattle.record_text.specs.Kinds.{Kind, Command, kind_name, form_of}
use Rattle.record_text.specs.declared.kinds.Form.{Form}
use Rattle.record_text.specs.declared.kinds.Form.TheVariants.{Bytes, Number, Code, Alone, Unknown}

-- words, each behind a blank
abbrev pub spaced : List (List ℕ) → List ℕ
spaced [] = []
spaced (w ∷ ws) = blank ∷ (w ++ spaced ws)

-- words, parted by single blanks
abbrev pub joined : List (List ℕ) → List ℕ
joined [] = []
joined (w ∷ ws) = w ++ spaced ws

-- bytes that were pushed in order as one word, whose low byte was the first: two hex digits for each
abbrev pub group_text : List ℕ → List ℕ
group_text bytes = digits_to 16 (2 * length bytes) (four_at bytes 0)

-- how many of so many bytes are told as one word
abbrev pub group_size : ℕ → ℕ
group_size count = cond (leb 4 count) 4 (cond (leb 2 count) 2 1)

-- the bytes of a push as words of four, then one of two, then one
unfoldable pub groups : List ℕ → List (List ℕ)
groups [] = []
groups (a ∷ []) = group_text (a ∷ []) ∷ []
groups (a ∷ b ∷ []) = group_text (a ∷ b ∷ []) ∷ []
groups (a ∷ b ∷ c ∷ []) = group_text (a ∷ b ∷ []) ∷ group_text (c ∷ []) ∷ []
groups (a ∷ b ∷ c ∷ d ∷ l) = group_text (a ∷ b ∷ c ∷ d ∷ []) ∷ groups l

-- `sr`
abbrev pub sr_word : List ℕ
sr_word = written "sr"

-- the word behind a name whose code has bit 7 set
abbrev pub sr_words : ℕ → List (List ℕ)
sr_words code = cond (leb 128 code) (sr_word ∷ []) []

-- a command by its name, `sr` behind it where bit 7 is set; by `command` and its code where it has none
unfoldable pub command_words : ℕ → List (List ℕ)
command_words code =
    cond (eqb (length (name_of (code % 128))) 0) (kind_name Command ∷ hex code ∷ [])
    (name_of (code % 128) ∷ sr_words code)

-- the words of a record by the form of its kind
abbrev pub words_by : Form → Kind → List ℕ → List (List ℕ)
words_by Bytes kind payload = kind_name kind ∷ groups payload
words_by Number kind payload = kind_name kind ∷ decimal (four_at payload 0) ∷ []
words_by Code kind payload = command_words (get_or payload 0 0)
words_by Alone kind payload = kind_name kind ∷ []
words_by Unknown kind payload = []

abbrev pub record_words : Kind → List ℕ → List (List ℕ)
record_words kind payload = words_by (form_of kind) kind payload

-- the line of a record, without its end
abbrev pub record_text : Kind → List ℕ → List ℕ
record_text kind payload = joined (record_words kind payload)
