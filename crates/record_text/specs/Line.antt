-- What a line says: a record, nothing, or what is wrong at which place. Definitions only. Assumes nothing.
use Rattle.std.specs.Prelude.{ℕ, ◌+◌, Bool, true, false, cond, List, [], ◌∷◌, ◌++◌, ltb, length, take}
use Rattle.terms.specs.declared.Rule.{Rule}
use Rattle.terms.specs.Limits.{most_payload}
use Rattle.numbers.specs.Little.{le2, le4}
use Rattle.record_text.specs.Letters.{same}
use Rattle.record_text.specs.Told.{sr_word}
use Rattle.record_text.specs.Kinds.{Command, kind_number, form_of, number_at, kind_at}
use Rattle.record_text.specs.declared.kinds.Form.{Form}
use Rattle.record_text.specs.declared.kinds.Form.TheVariants.{Bytes, Number as Numbered, Code, Alone, Unknown}
use Rattle.record_text.specs.Words.{Word, words_of}
use Rattle.record_text.specs.Named.{place_named}
use Rattle.record_text.specs.Values.{value_of}
use Rattle.record_text.specs.declared.values.Fault.{Fault}
use Rattle.record_text.specs.declared.values.Fault.TheVariants.{NoName, Missing, ManyBytes, Behind}
use Rattle.record_text.specs.declared.values.Value.{Value}
use Rattle.record_text.specs.declared.values.Value.TheVariants.{Number, Wrong as NoValue}

-- the bytes of a record: its length, which counts what follows, the number of its kind, its payload
abbrev pub record_bytes : ℕ → List ℕ → List ℕ
record_bytes kind payload = le2 (2 + length payload) ++ (le2 kind ++ payload)

-- room for every record, and for its text
abbrev pub record_room : ℕ
record_room = 244

abbrev pub text_room : ℕ
text_room = 768

-- what a line says; a place is counted from 0
pub data Said : Type 0 where
  Record : List ℕ → Said
  Empty : Said
  Wrong : Fault → ℕ → Said

-- ---- the payload by the words behind a name

-- bytes with one value more: its low byte first, and no more than 240 of them
pub data Put : Type 0 where
  Added : List ℕ → Put
  Unfit : Fault → ℕ → Put

abbrev pub put : List ℕ → ℕ → Value → Put
put done at (Number value size) = cond (ltb most_payload (length done + size)) (Unfit ManyBytes at) (Added (done ++ take size (le4 value)))
put done at (NoValue fault place) = Unfit fault (at + place)

-- a payload, and the words that are left; or what is wrong
pub data Taken : Type 0 where
  Payload : List ℕ → List Word → Taken
  Amiss : Fault → ℕ → Taken

-- of many words all are taken, else one
abbrev pub on_put : Bool → List Word → (List ℕ → Taken) → Put → Taken
on_put many ws next (Added bytes) = cond many (next bytes) (Payload bytes ws)
on_put many ws next (Unfit fault place) = Amiss fault place

unfoldable pub take_words : Bool → Rule → Form → ℕ → List Word → List ℕ → Taken
take_words many rule form kind [] done = Payload done []
take_words many rule form kind (w ∷ ws) done =
    on_put many ws (λ (bytes : List ℕ). take_words many rule form kind ws bytes) (put done w.at (value_of rule form kind w.text))

-- a payload of no byte is wanted, where the name ends
abbrev pub needed : ℕ → Taken → Taken
needed place (Payload [] ws) = Amiss Missing place
needed place (Payload (b ∷ bytes) ws) = Payload (b ∷ bytes) ws
needed place (Amiss fault at) = Amiss fault at

-- the record, where no word is left
abbrev pub closed : ℕ → Taken → Said
closed kind (Payload bytes []) = Record (record_bytes kind bytes)
closed kind (Payload bytes (w ∷ ws)) = Wrong Behind w.at
closed kind (Amiss fault place) = Wrong fault place

-- ---- a command by its name: `sr` sets bit 7
abbrev pub with_sr : ℕ → List Word → Taken
with_sr code [] = Payload (code ∷ []) []
with_sr code (w ∷ ws) = cond (same sr_word w.text) (Payload ((code + 128) ∷ []) ws) (Payload (code ∷ []) (w ∷ ws))

-- ---- a line by the form of what stands behind the name of a kind of this number, of which all words are taken or one
abbrev pub values_in : Rule → Form → ℕ → Bool → ℕ → List Word → Said
values_in rule form kind many at ws = closed kind (needed at (take_words many rule form kind ws []))

abbrev pub line_by : Rule → Form → ℕ → Word → List Word → Said
line_by rule Bytes kind w ws = values_in rule Bytes kind true (w.at + length w.text) ws
line_by rule Numbered kind w ws = values_in rule Numbered kind false (w.at + length w.text) ws
line_by rule Code kind w ws = values_in rule Code kind false (w.at + length w.text) ws
line_by rule Alone kind w ws = closed kind (Payload [] ws)
line_by rule Unknown kind w ws = Wrong NoName w.at

-- ---- a line by the name that its first word is: of a command, of a kind, or none
abbrev pub line_at : Rule → ℕ → Word → List Word → Said
line_at rule place w ws =
    cond (ltb place 128) (closed (kind_number Command) (with_sr place ws)) (line_by rule (form_of (kind_at place)) (number_at place) w ws)

abbrev pub line_in : Rule → List Word → Said
line_in rule [] = Empty
line_in rule (w ∷ ws) = line_at rule (place_named w.text) w ws

unfoldable pub said_of : Rule → List ℕ → Said
said_of rule line = line_in rule (words_of line)
