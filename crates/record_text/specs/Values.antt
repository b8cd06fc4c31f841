-- The value of a word behind a name: two hex digits are a byte, four a word of 16 bits, eight one of 32, a number with a point a float word; a number; a code.
-- Definitions only. Assumes nothing.
use Rattle.std.specs.Prelude.{ℕ, cond, List, eqb, ltb, length}
use Rattle.terms.specs.declared.Rule.{Rule}
use Rattle.terms.specs.declared.Refusal.{Refusal}
use Rattle.terms.specs.Refusal.{number_of}
use Rattle.decimals.specs.declared.read.Fault.{Fault as Undecimal}
use Rattle.decimals.specs.declared.read.Fault.TheVariants.{NoDigit as Digit, NoPoint as Point, ManyDigits as Digits, ManyPlaces as Places, NoEnd as End}
use Rattle.decimals.specs.declared.read.Reading.{Reading}
use Rattle.decimals.specs.declared.read.Reading.TheVariants.{Exact, Rounded, Refused, Wrong as Unread}
use Rattle.decimals.specs.declared.read.Scanned.{Scanned}
use Rattle.decimals.specs.declared.read.Scanned.TheVariants.{Digits as Run, TooMany}
use Rattle.listing.specs.declared.hex.Hex.{Hex}
use Rattle.listing.specs.declared.hex.Hex.TheVariants.{Number as Hexed, Nothing}
use Rattle.decimals.specs.Read.{scan_of, read_of}
use Rattle.listing.specs.Hex.{hex_of}
use Rattle.record_text.specs.declared.kinds.Form.{Form}
use Rattle.record_text.specs.declared.kinds.Form.TheVariants.{Bytes, Number as Numbered, Code, Alone, Unknown as Formless}
use Rattle.record_text.specs.declared.values.Fault.{Fault}
use Rattle.record_text.specs.declared.values.Fault.TheVariants.{NoName, NoDigit, NoPoint, ManyDigits, ManyPlaces, NoEnd}
use Rattle.record_text.specs.declared.values.Fault.TheVariants.{TooLarge, TooSmall, NoNumber, OutOfRange, NoCode, Behind}
use Rattle.record_text.specs.declared.values.Value.{Value}
use Rattle.record_text.specs.declared.values.Value.TheVariants.{Number, Wrong}
use Rattle.record_text.specs.declared.values.Range.{Range}

-- ---- a decimal as a float word

abbrev pub decimal_fault : Undecimal → Fault
decimal_fault Digit = NoDigit
decimal_fault Point = NoPoint
decimal_fault Digits = ManyDigits
decimal_fault Places = ManyPlaces
decimal_fault End = NoEnd

-- 12 is under 2^-65, 11 is 2^63 or more
abbrev pub refused_fault : Refusal → Fault
refused_fault r = cond (eqb (number_of r) 12) TooSmall TooLarge

abbrev pub decimal_value : Reading → Value
decimal_value (Exact w) = Number w 4
decimal_value (Rounded w) = Number w 4
decimal_value (Refused r) = Wrong (refused_fault r) 0
decimal_value (Unread fault place) = Wrong (decimal_fault fault) place

abbrev pub decimal_of : Rule → List ℕ → Value
decimal_of rule text = decimal_value (read_of rule text)

-- ---- bytes of a push

-- the bytes of a word of so many hex digits, 0 where no word has so many
abbrev pub size_for : ℕ → ℕ
size_for digits = cond (eqb digits 2) 1 (cond (eqb digits 4) 2 (cond (eqb digits 8) 4 0))

abbrev pub hex_value : Rule → List ℕ → ℕ → Hex → Value
hex_value rule text size (Hexed value) = Number value size
hex_value rule text size Nothing = decimal_of rule text

unfoldable pub bytes_of : Rule → List ℕ → Value
bytes_of rule text = cond (eqb (size_for (length text)) 0) (decimal_of rule text) (hex_value rule text (size_for (length text)) (hex_of text))

-- ---- a number: of kind 2 a count of 1 to 240 bytes, of kind 256 a serial of 32 bits, else a slot, which is a byte

abbrev pub range : ℕ → ℕ → ℕ → Range
range least most size = record { least = least; most = most; size = size }

abbrev pub range_of : ℕ → Range
range_of number = cond (eqb number 2) (range 1 240 1) (cond (eqb number 256) (range 0 4294967295 4) (range 0 255 1))

abbrev pub ranged : Range → ℕ → Value
ranged r number = cond (ltb number r.least) (Wrong OutOfRange 0) (cond (ltb r.most number) (Wrong OutOfRange 0) (Number number r.size))

-- digits alone
abbrev pub scanned_for : ℕ → ℕ → Scanned → Value
scanned_for kind n (Run value count) = cond (eqb count n) (ranged (range_of kind) value) (Wrong NoNumber count)
scanned_for kind n (TooMany place) = Wrong OutOfRange place

unfoldable pub number_for : ℕ → List ℕ → Value
number_for kind text = scanned_for kind (length text) (scan_of text)

-- ---- a code of two hex digits

abbrev pub code_hex : Hex → Value
code_hex (Hexed value) = Number value 1
code_hex Nothing = Wrong NoCode 0

unfoldable pub code_of : List ℕ → Value
code_of text = cond (eqb (length text) 2) (code_hex (hex_of text)) (Wrong NoCode 0)

-- ---- by the form of what stands behind the name of a kind of this number
abbrev pub value_of : Rule → Form → ℕ → List ℕ → Value
value_of rule Bytes kind text = bytes_of rule text
value_of rule Numbered kind text = number_for kind text
value_of rule Code kind text = code_of text
value_of rule Alone kind text = Wrong Behind 0
value_of rule Formless kind text = Wrong NoName 0
