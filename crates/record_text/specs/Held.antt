-- What the code holds, and what its answers stand for. Definitions only. Assumes nothing.
use Rattle.std.specs.Prelude.{ℕ, ◌+◌, ◌*◌, ◌-◌, ◌/◌, ◌%◌, ◌^◌, ◌≤◌, ◌<◌, ◌≡◌, Bool, true, false, cond, not, List, [], ◌∷◌, eqb, length, take, drop, get_or}
use Rattle.terms.specs.declared.Rule.{Rule}
use Rattle.terms.specs.Limits.{most_payload}
use Rattle.record_text.specs.Letters.{written}
use Rattle.record_text.specs.Kinds.{Kind, Command, kind_number, kind_name, numbered_kind, kind_at, no_place}
use Rattle.record_text.specs.Names.{name_of}
use Rattle.record_text.specs.Words.{is_hash, is_blank, word, words_at, between}
use Rattle.record_text.specs.Line.{record_room, Said, Record, Empty, Wrong, Put, Added, Unfit, Taken, Payload, Amiss}
use Rattle.record_text.specs.Line.{take_words, closed, with_sr, values_in, line_by}
use Rattle.record_text.specs.declared.kinds.Form.{Form}
use Rattle.record_text.specs.declared.kinds.Span.{Span}
use Rattle.record_text.specs.declared.names.Name.{Name}
use Rattle.record_text.specs.declared.values.Value.{Value}
use Rattle.record_text.specs.declared.values.Value.TheVariants.{Number, Wrong as NoValue}
use Rattle.record_text.specs.declared.line.Put.{Put as Putting}
use Rattle.record_text.specs.declared.line.Put.TheVariants.{Added as AddedTo, Wrong as Unput}
use Rattle.record_text.specs.declared.line.Taken.{Taken as Taking}
use Rattle.record_text.specs.declared.line.Taken.TheVariants.{Payload as Taken-as-Payload, Wrong as Untaken}
use Rattle.record_text.specs.declared.line.Line.{Line}
use Rattle.record_text.specs.declared.line.Line.TheVariants.{Record as Recorded, Empty as Blank, Wrong as Mistaken}

-- ---- the names of kinds: in one text, each at its place

abbrev pub kind_names : List ℕ
kind_names = written "pushpopcommandstatusresetacknowledgerecallforgetopenkeepclose"

pub record NamePlace (kind : Kind) (at : Span) : Type 0 where
  pub reads : take (at.to - at.from) (drop at.from kind_names) ≡ kind_name kind
  pub ordered : at.from ≤ at.to
  pub within : at.to ≤ 61
  pub short : at.to - at.from ≤ 11

-- a kind is known by a place of its name, or by one where no kind has a name
pub record PlaceOf (number place : ℕ) : Type 0 where
  pub names : kind_at place ≡ numbered_kind number
  pub behind : 127 ≤ place
  pub within : place ≤ no_place

-- ---- the name of a command: four letters as a number, the first one lowest, dots behind the name

abbrev pub key_of : List ℕ → ℕ
key_of name = get_or name 0 46 + get_or name 1 46 * 2 ^ 8 + get_or name 2 46 * 2 ^ 16 + get_or name 3 46 * 2 ^ 24

-- how many letters such a number has before its dots
abbrev pub letters_in : ℕ → ℕ
letters_in key = cond (eqb (key / 16777216) 46) (cond (eqb (key / 65536 % 256) 46) (cond (eqb (key % 256) 46) 0 2) 3) 4

-- a name in an array of four
pub record HeldName (code : ℕ) (name : Name) : Type 0 where
  pub reads : take name.size name.text ≡ name_of code
  pub room : length name.text ≡ 4
  pub few : name.size ≤ 4

-- ---- the words of a line

-- whether a character is passed over on the way to the end of blanks, or of a word; a hash ends both
abbrev pub passes : Bool → ℕ → Bool
passes blanks c = cond (is_hash c) false (cond (is_blank c) blanks (not blanks))

-- where the blanks from a place on end, or the word
pub record RunTo (blanks : Bool) (line : List ℕ) (at to : ℕ) : Type 0 where
  pub passed : (i : ℕ) → at ≤ i → i < to → passes blanks (get_or line i 0) ≡ true
  pub onward : at ≤ to
  pub within : to ≤ length line
  pub stops : to < length line → passes blanks (get_or line to 0) ≡ false

-- where the next word begins and ends, at one place where there is none
pub record NextWord (line : List ℕ) (at : ℕ) (s : Span) : Type 0 where
  pub is : words_at at line ≡ cond (eqb s.from s.to) [] (word s.from (between s.from s.to line) ∷ words_at s.to line)
  pub onward : at ≤ s.from
  pub ordered : s.from ≤ s.to
  pub within : s.to ≤ length line

-- ---- a value: what a caller knows of it, one to four bytes, and a place that is below 2^63
abbrev pub Sized : Value → Type 0
Sized (Number value size) = (1 ≤ size) × (size ≤ 4)
Sized (NoValue fault place) = place < 2 ^ 63

-- ---- the answers, with what the code left in the slices that it was lent

abbrev pub put_as : List ℕ → Putting → Put
put_as payload (AddedTo count) = Added (take count payload)
put_as payload (Unput fault place) = Unfit fault place

abbrev pub PutFits : Putting → Type 0
PutFits (AddedTo count) = count ≤ most_payload
PutFits (Unput fault place) = Unit

abbrev pub taken_as : List ℕ → List ℕ → Taking → Taken
taken_as line payload (Taken-as-Payload count at) = Payload (take count payload) (words_at at line)
taken_as line payload (Untaken fault place) = Amiss fault place

abbrev pub TakenFits : List ℕ → Taking → Type 0
TakenFits line (Taken-as-Payload count at) = (count ≤ most_payload) × (at ≤ length line)
TakenFits line (Untaken fault place) = Unit

abbrev pub line_as : List ℕ → Line → Said
line_as out (Recorded count) = Record (take count out)
line_as out Blank = Empty
line_as out (Mistaken fault place) = Wrong fault place

abbrev pub LineFits : Line → Type 0
LineFits (Recorded count) = count ≤ record_room
LineFits Blank = Unit
LineFits (Mistaken fault place) = Unit

-- a payload with one value more, a payload by words, a line: what each says, and that it fits
abbrev pub PutsAs : Put → List ℕ → Putting → Type 0
PutsAs p payload r = (put_as payload r ≡ p) × PutFits r

abbrev pub TakesAs : Taken → List ℕ → List ℕ → Taking → Type 0
TakesAs t line payload r = (taken_as line payload r ≡ t) × TakenFits line r

abbrev pub SaysAs : Said → List ℕ → Line → Type 0
SaysAs said out r = (line_as out r ≡ said) × LineFits r

-- the payload by the words of a line from a place on
abbrev pub words_taken : Bool → Rule → Form → ℕ → List ℕ → ℕ → Taken
words_taken many rule form kind line at = take_words many rule form kind (words_at at line) []

-- what a line says from a place on: with a payload, by `sr` or none, by words behind a name, by a kind's name
abbrev pub closed_line : ℕ → List ℕ → List ℕ → ℕ → Said
closed_line kind payload line at = closed kind (Payload payload (words_at at line))

abbrev pub sr_line : ℕ → List ℕ → ℕ → Said
sr_line code line at = closed (kind_number Command) (with_sr code (words_at at line))

abbrev pub values_line : Rule → Form → ℕ → Bool → List ℕ → ℕ → Said
values_line rule form kind many line at = values_in rule form kind many at (words_at at line)

abbrev pub kind_line : Rule → Form → ℕ → List ℕ → ℕ → ℕ → Said
kind_line rule form kind line from to = line_by rule form kind (word from (between from to line)) (words_at to line)
