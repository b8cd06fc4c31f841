-- 02, ask 13: "buffers of chip words turned to f64 and back, little-endian, four and eight bytes each". Definitions only. Assumes nothing.
use Rattle.std.specs.Prelude.{ℕ, zero, suc, ◌+◌, ◌*◌, ◌/◌, ◌%◌, ◌≡◌, cond, List, [], ◌∷◌, ◌++◌, eqb, ltb, length, drop}
use Rattle.std.specs.Float.{binary64}
use Rattle.std.specs.Float.Ieee.{to_bits}
use Rattle.numbers.specs.Little.{le4, le8, four_at, eight_at}
use Rattle.terms.specs.declared.Refusal.{Refusal}
use Rattle.terms.specs.declared.Refusal.TheVariants.{NoRoom, BadRule, PartEntry}
use Rattle.terms.specs.declared.Rule.{Rule}
use Rattle.terms.specs.Refusal.{number_of}
use Rattle.terms.specs.Settings.{is_rule, rule_of}
use Rattle.host_floats.specs.declared.entry.Outward.{Outward}
use Rattle.host_floats.specs.declared.entry.Outward.TheVariants.{Float, Refused}
use Rattle.host_floats.specs.declared.entry.Inward.{Inward}
use Rattle.host_floats.specs.declared.entry.Inward.TheVariants.{Exact, Rounded, Refused as Turned}
use Rattle.host_floats.specs.Double.{outward_of, inward_of}
use Rattle.host_floats.specs.declared.buffer.Entry.{Entry}
use Rattle.host_floats.specs.declared.buffer.BufferReply.{BufferReply}

-- ---- one entry

-- what each case of an answer says: the number of its refusal; the word or the bits of the f64 that is written for it, 0 where there is none; and 1 where it
-- was brought to 24 bits
abbrev pub outward_entry : Outward → Entry
outward_entry (Float x) = record { refusal = 0; bits = to_bits binary64 x; rounded = 0 }
outward_entry (Refused r) = record { refusal = number_of r; bits = 0; rounded = 0 }

abbrev pub inward_entry : Inward → Entry
inward_entry (Exact w) = record { refusal = 0; bits = w; rounded = 0 }
inward_entry (Rounded w x) = record { refusal = 0; bits = w; rounded = 1 }
inward_entry (Turned r) = record { refusal = number_of r; bits = 0; rounded = 0 }

-- the bytes of a word, and of an f64
abbrev pub word_size : ℕ
word_size = 4

abbrev pub float_size : ℕ
float_size = 8

-- the i-th entry of a buffer of words, and of a buffer of f64s under a rule; i is from 0
abbrev pub word_entry : List ℕ → ℕ → Entry
word_entry words i = outward_entry (outward_of (four_at words (i * word_size)))

abbrev pub float_entry : Rule → List ℕ → ℕ → Entry
float_entry rule floats i = inward_entry (inward_of rule (eight_at floats (i * float_size)))

-- ---- a buffer: its entries in turn

-- n entries from the i-th on
unfoldable pub entries_from : (ℕ → Entry) → ℕ → ℕ → List Entry
entries_from f i zero = []
entries_from f i (suc n) = f i ∷ entries_from f (i + 1) n

abbrev pub word_entries : List ℕ → List Entry
word_entries words = entries_from (word_entry words) 0 (length words / word_size)

abbrev pub float_entries : Rule → List ℕ → List Entry
float_entries rule floats = entries_from (float_entry rule floats) 0 (length floats / float_size)

-- the first entry that is refused, and its refusal, where the first of all is counted as i; 0 and 0 where none is
unfoldable pub first_bad : ℕ → List Entry → BufferReply
first_bad i [] = record { refusal = 0; number = 0 }
first_bad i (e ∷ es) = cond (eqb e.refusal 0) (first_bad (i + 1) es) (record { refusal = e.refusal; number = i })

-- how many entries were brought to 24 bits
unfoldable pub rounded_in : List Entry → ℕ
rounded_in [] = 0
rounded_in (e ∷ es) = e.rounded + rounded_in es

-- the bytes that are written for the entries, each by le
unfoldable pub bytes_of : (ℕ → List ℕ) → List Entry → List ℕ
bytes_of le [] = []
bytes_of le (e ∷ es) = le e.bits ++ bytes_of le es

-- what is replied to a buffer: the first entry that is refused, counted from 1, with its refusal; else 0 and how many entries were brought to 24 bits
abbrev pub reply_to : List Entry → BufferReply
reply_to es = cond (eqb (first_bad 1 es).refusal 0) (record { refusal = 0; number = rounded_in es }) (first_bad 1 es)

-- ---- a call

-- the refusal, the number beside it, and what `out` holds after
pub record Turn : Type 0 where
  pub result : ℕ
  pub number : ℕ
  pub out : List ℕ

-- refused before an entry is looked at: the number is 0, and nothing is written
abbrev pub away : Refusal → List ℕ → Turn
away r out = record { result = number_of r; number = 0; out = out }

-- the entries of a buffer for which there is room: on 0 all bytes are written, and what lies past them stays; else nothing is
abbrev pub filled_by : BufferReply → List ℕ → List ℕ → Turn
filled_by r bytes out = record { result = r.refusal; number = r.number; out = cond (eqb r.refusal 0) (bytes ++ drop (length bytes) out) out }

-- words to f64s: 18 for a length that is no whole number of entries, 8 for too little room, then 4 by entry
unfoldable pub words_turn : List ℕ → List ℕ → Turn
unfolding entries_from first_bad rounded_in bytes_of outward_of
words_turn words out =
    cond (eqb (length words % word_size) 0)
    (cond (ltb (length out) (length words / word_size * float_size)) (away NoRoom out)
    (filled_by (reply_to (word_entries words)) (bytes_of le8 (word_entries words)) out))
    (away PartEntry out)

-- f64s to words: 17 for a rule that is neither 0 nor 1, 18, 8, then 10, 15, 12, 11 by entry
unfoldable pub floats_turn : ℕ → List ℕ → List ℕ → Turn
unfolding entries_from first_bad rounded_in bytes_of inward_of
floats_turn rule floats out =
    cond (is_rule rule)
    (cond (eqb (length floats % float_size) 0)
    (cond (ltb (length out) (length floats / float_size * word_size)) (away NoRoom out)
    (filled_by (reply_to (float_entries (rule_of rule) floats)) (bytes_of le4 (float_entries (rule_of rule) floats)) out))
    (away PartEntry out))
    (away BadRule out)

-- what a call did beside the definition's
pub record Turns (t : Turn) (result number : ℕ) (out : List ℕ) : Type 0 where
  pub result_is : result ≡ t.result
  pub number_is : number ≡ t.number
  pub out_is : out ≡ t.out
