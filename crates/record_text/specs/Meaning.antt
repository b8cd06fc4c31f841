-- What records in words promise: the text of every record that the libraries take reads back as that record. Statements. Assumes nothing.
use Rattle.std.specs.Prelude.{ℕ, ◌≤◌, ◌<◌, ◌≡◌, List, [], length, get_or}
use Rattle.terms.specs.declared.Rule.{Rule}
use Rattle.terms.specs.declared.Rule.TheVariants.{Cut}
use Rattle.terms.specs.Limits.{most_payload}
use Rattle.numbers.specs.Little.{four_at}
use Rattle.record_text.specs.Kinds.{form_of, number_at, kind_at, no_place}
use Rattle.record_text.specs.Told.{record_text}
use Rattle.record_text.specs.Values.{range_of}
use Rattle.record_text.specs.Line.{record_bytes, Record, said_of}
use Rattle.record_text.specs.declared.kinds.Form.{Form}
use Rattle.record_text.specs.declared.kinds.Form.TheVariants.{Bytes, Number, Code, Alone, Unknown}

-- a line says the record of these bytes
abbrev pub Says : List ℕ → List ℕ → Type 0
Says line bytes = said_of Cut line ≡ Record bytes

-- the payload that a record must have for a library to take it, by the form of what stands behind the name of its kind
abbrev pub Takes : Form → ℕ → List ℕ → Type 0
Takes Bytes kind payload = (1 ≤ length payload) × (length payload ≤ most_payload)
Takes Number kind payload = (length payload ≡ (range_of kind).size) × ((range_of kind).least ≤ four_at payload 0) × (four_at payload 0 ≤ (range_of kind).most)
Takes Code kind payload = length payload ≡ 1
Takes Alone kind payload = payload ≡ []
Takes Unknown kind payload = ⊥

-- bytes are below 256
abbrev pub AllBytes : List ℕ → Type 0
AllBytes l = (i : ℕ) → get_or l i 0 < 256

-- ---- a record's text, read by either rule, is the record
abbrev pub RecordReadsBack : Type 0
RecordReadsBack =
    (rule : Rule) (place : ℕ) (payload : List ℕ) → 128 ≤ place → place < no_place
    → Takes (form_of (kind_at place)) (number_at place) payload → AllBytes payload
    → said_of rule (record_text (kind_at place) payload) ≡ Record (record_bytes (number_at place) payload)
