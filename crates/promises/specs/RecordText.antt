-- Records in words: the text of every record that a library takes reads back as the bytes of that record; lines by the
-- letter. Assumes nothing.
use Rattle.std.specs.Prelude.{ℕ, ◌+◌, ◌/◌, ◌%◌, ◌≤◌, ◌<◌, ◌≡◌, List, [], ◌∷◌, map, length, get_or}
use Prim.Native.String.{String}
use Rattle.terms.specs.declared.Rule.{Rule}
use Rattle.terms.specs.declared.Rule.TheVariants.{Cut, Nearest}
use Rattle.record_text.specs.Kinds.{Kind, Push, Pop, Command, Status, Reset, Acknowledge, Recall, Forget}
use Rattle.record_text.specs.Kinds.{Open, Keep, Close, Unknown}
use Rattle.record_text.specs.Told.{record_text}
use Rattle.record_text.specs.Line.{Said, Record, Empty, said_of}
use Rattle.promises.specs.PrintedText.{written, bytes}

-- the number of a kind: 01's, 02's of the error memory and of module sheets; the payload that a library takes with it
pub record KindRow : Type 1 where
  pub number : ℕ
  pub payload : List ℕ → Type 0

abbrev row : ℕ → (List ℕ → Type 0) → KindRow
row n p = record { number = n; payload = p }

abbrev none : List ℕ → Type 0
none l = l ≡ []

abbrev sized : ℕ → List ℕ → Type 0
sized n l = length l ≡ n

abbrev pub kind_row : Kind → KindRow
kind_row Push = row 1 (λ (l : List ℕ). (1 ≤ length l) × (length l ≤ 240))
kind_row Pop = row 2 (λ (l : List ℕ). (length l ≡ 1) × (1 ≤ get_or l 0 0) × (get_or l 0 0 ≤ 240))
kind_row Command = row 3 (sized 1)
kind_row Status = row 4 none
kind_row Reset = row 5 none
kind_row Acknowledge = row 6 none
kind_row Recall = row 7 none
kind_row Forget = row 8 none
kind_row Open = row 256 (sized 4)
kind_row Keep = row 257 (sized 1)
kind_row Close = row 258 none
kind_row Unknown = row 0 (λ (l : List ℕ). ⊥)

-- the bytes of a record: its length, which counts what follows, its kind, its payload; low bytes first
abbrev pub bytes_of_record : Kind → List ℕ → List ℕ
bytes_of_record kind payload =
    (2 + length payload) % 256 ∷ (2 + length payload) / 256 ∷ (kind_row kind).number % 256 ∷ (kind_row kind).number / 256 ∷ payload

-- a record's text, read by either rule, is the record
abbrev pub RecordTextReadsBack : Type 0
RecordTextReadsBack =
    (rule : Rule) (kind : Kind) (payload : List ℕ) → (kind_row kind).payload payload → ((i : ℕ) → get_or payload i 0 < 256)
    → said_of rule (record_text kind payload) ≡ Record (bytes_of_record kind payload)

-- ---- lines by the letter: a rule, the text, and what it is read as
abbrev pub LineRow : Type 0
LineRow = Rule × String × Said

-- words low byte first, a number with a point as a float word
abbrev pub push_lines : List LineRow
push_lines =
    (Cut, "push 7.5 2.5", Record (bytes "0A 00 01 00 00 00 F0 03 00 00 A0 02"))
    ∷ (Cut, "push 0.1", Record (bytes "06 00 01 00 CC CC CC 7D"))
    ∷ (Nearest, "push 0.1", Record (bytes "06 00 01 00 CD CC CC 7D"))
    ∷ (Cut, "push 02A00000", Record (bytes "06 00 01 00 00 00 A0 02"))
    ∷ (Cut, "push 0003 0105", Record (bytes "06 00 01 00 03 00 05 01"))
    ∷ (Cut, "push 03 00", Record (bytes "04 00 01 00 03 00")) ∷ []

-- commands, sr as bit 7, other kinds, a comment
abbrev pub other_lines : List LineRow
other_lines =
    (Cut, "FMUL", Record (bytes "03 00 03 00 12")) ∷ (Cut, "FMUL sr", Record (bytes "03 00 03 00 92"))
    ∷ (Cut, "command 7F", Record (bytes "03 00 03 00 7F")) ∷ (Cut, "pop 4", Record (bytes "03 00 02 00 04"))
    ∷ (Cut, "open 258", Record (bytes "06 00 00 01 02 01 00 00")) ∷ (Cut, " status # all", Record (bytes "02 00 04 00"))
    ∷ (Cut, "# only a comment", Empty) ∷ []

abbrev pub LinesRead : List LineRow → Type 0
LinesRead table =
    map (λ (r : LineRow). said_of r.0 (written r.1)) table ≡ map (λ (r : LineRow). r.2) table

pub record RecordTextRows : Type 0 where
  pub pushes : LinesRead push_lines
  pub others : LinesRead other_lines
