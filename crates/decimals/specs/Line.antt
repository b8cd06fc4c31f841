-- What is told of one text: a word of eight hex digits, or a decimal, as a line `WORD DECIMAL`, with a mark where the decimal is not the word's value.
-- Definitions only. Assumes nothing.
use Rattle.std.specs.Prelude.{ℕ, ◌+◌, ◌-◌, ◌*◌, ◌^◌, ◌≤◌, ◌<◌, ◌≡◌, Bool, cond, List, [], ◌∷◌, ◌++◌, eqb, leb, length, take, drop}
use Rattle.terms.specs.declared.Rule.{Rule}
use Rattle.terms.specs.declared.Rule.TheVariants.{Cut, Nearest}
use Rattle.terms.specs.Refusal.{number_of}
use Rattle.listing.specs.Text.{decimal}
use Rattle.listing.specs.Listing.{blank, newline, field}
use Rattle.float.specs.Word.{negative, proper, size88}
use Rattle.decimals.specs.declared.bring.Brought.{Brought}
use Rattle.decimals.specs.declared.bring.Brought.TheVariants.{Exact as Is, Rounded as Near, Refused as Turned}
use Rattle.decimals.specs.declared.read.Fault.{Fault}
use Rattle.decimals.specs.declared.read.Fault.TheVariants.{NoDigit, NoPoint, ManyDigits, ManyPlaces, NoEnd}
use Rattle.decimals.specs.declared.read.Reading.{Reading}
use Rattle.decimals.specs.declared.read.Reading.TheVariants.{Exact, Rounded, Refused, Wrong}
use Rattle.decimals.specs.declared.line.End.{End}
use Rattle.decimals.specs.declared.short.Short.{Short}
use Rattle.decimals.specs.declared.short.Short.TheVariants.{Decimal, Nothing}
use Rattle.listing.specs.declared.hex.Hex.{Hex}
use Rattle.listing.specs.declared.hex.Hex.TheVariants.{Number, Nothing as Unread}
use Rattle.decimals.specs.Exact.{point, minus, exact_text}
use Rattle.decimals.specs.Bring.{bring_of}
use Rattle.decimals.specs.Read.{read_of}
use Rattle.decimals.specs.Short.{short_of}
use Rattle.listing.specs.Hex.{hex_of, digits_to}

-- a word in eight hex digits
abbrev pub word_text : ℕ → List ℕ
word_text w = digits_to 16 8 w

-- a decimal of so many places
abbrev pub decimal_text : Bool → ℕ → ℕ → ℕ → List ℕ
decimal_text neg whole fraction places = cond neg (minus ∷ []) [] ++ (decimal whole ++ (point ∷ digits_to 10 places fraction))

-- ` cut`, ` rounded`, ` improper`
abbrev pub rule_mark : Rule → List ℕ
rule_mark Cut = blank ∷ 99 ∷ 117 ∷ 116 ∷ []
rule_mark Nearest = blank ∷ 114 ∷ 111 ∷ 117 ∷ 110 ∷ 100 ∷ 101 ∷ 100 ∷ []

abbrev pub improper_mark : List ℕ
improper_mark = blank ∷ 105 ∷ 109 ∷ 112 ∷ 114 ∷ 111 ∷ 112 ∷ 101 ∷ 114 ∷ []

-- the mark of a decimal that was brought to a word
abbrev pub mark_of : Rule → Brought → List ℕ
mark_of rule (Is w) = []
mark_of rule (Near w) = rule_mark rule
mark_of rule (Turned r) = []

-- a mark, or nothing, at the end of a line; a word at its head
abbrev pub ended : List ℕ → List ℕ
ended mark = mark ++ (newline ∷ [])

abbrev pub head_text : ℕ → List ℕ
head_text w = word_text w ++ (blank ∷ [])

-- the decimal of the fewest places that gives a word back; none where the exact value is asked, and of a word that is not proper
abbrev pub brief_of : Rule → Bool → ℕ → Short
brief_of rule exact w = cond exact Nothing (cond (proper w) (short_of rule w) Nothing)

-- the value of a word as it is told: that decimal; where there is none, the exact one
abbrev pub value_text : ℕ → Short → List ℕ
value_text w (Decimal whole fraction places) = decimal_text (negative w) whole fraction places
value_text w Nothing = exact_text (negative w) (size88 w)

-- the mark behind it: that of what the decimal is brought to, or that the word is not proper
abbrev pub value_mark : Rule → ℕ → Short → List ℕ
value_mark rule w (Decimal whole fraction places) = mark_of rule (bring_of rule (negative w) (whole * 10 ^ places + fraction) places)
value_mark rule w Nothing = cond (proper w) [] improper_mark

abbrev pub word_line_by : Rule → ℕ → Short → List ℕ
word_line_by rule w short = head_text w ++ (value_text w short ++ ended (value_mark rule w short))

abbrev pub word_line : Rule → Bool → ℕ → List ℕ
word_line rule exact w = word_line_by rule w (brief_of rule exact w)

-- `refused N`, `wrong PLACE WHAT`: the place counted from 1, and what is wanted there or too much
abbrev pub refused_text : List ℕ
refused_text = 114 ∷ 101 ∷ 102 ∷ 117 ∷ 115 ∷ 101 ∷ 100 ∷ []

abbrev pub wrong_text : List ℕ
wrong_text = 119 ∷ 114 ∷ 111 ∷ 110 ∷ 103 ∷ []

-- ` digit`, ` point`, ` digits`, ` places`, ` end`
abbrev pub fault_text : Fault → List ℕ
fault_text NoDigit = blank ∷ 100 ∷ 105 ∷ 103 ∷ 105 ∷ 116 ∷ []
fault_text NoPoint = blank ∷ 112 ∷ 111 ∷ 105 ∷ 110 ∷ 116 ∷ []
fault_text ManyDigits = blank ∷ 100 ∷ 105 ∷ 103 ∷ 105 ∷ 116 ∷ 115 ∷ []
fault_text ManyPlaces = blank ∷ 112 ∷ 108 ∷ 97 ∷ 99 ∷ 101 ∷ 115 ∷ []
fault_text NoEnd = blank ∷ 101 ∷ 110 ∷ 100 ∷ []

-- the line of a reading of a text: the word, the text as it was given and the mark; a refusal's number; what is wrong and where
abbrev pub read_line : Rule → List ℕ → Reading → List ℕ
read_line rule text (Exact w) = head_text w ++ (text ++ ended [])
read_line rule text (Rounded w) = head_text w ++ (text ++ ended (rule_mark rule))
read_line rule text (Refused r) = refused_text ++ (field (number_of r) ++ ended [])
read_line rule text (Wrong fault place) = wrong_text ++ (field (place + 1) ++ ended (fault_text fault))

-- the word of a text of eight hex digits
abbrev pub word_in : List ℕ → Hex
word_in text = cond (eqb (length text) 8) (hex_of text) Unread

-- the longest text that is looked at, and what is told of a longer one: `wrong 65 digits`
abbrev pub most_text : ℕ
most_text = 64

abbrev pub reading_in : Rule → List ℕ → Reading
reading_in rule text = cond (leb (length text) most_text) (read_of rule text) (Wrong ManyDigits most_text)

-- the line of any text: of a word, or of a decimal
abbrev pub line_by : Rule → Bool → List ℕ → Hex → List ℕ
line_by rule exact text (Number w) = word_line rule exact w
line_by rule exact text Unread = read_line rule text (reading_in rule text)

unfoldable pub answer_line : Rule → Bool → List ℕ → List ℕ
unfolding digits_to
answer_line rule exact text = line_by rule exact text (word_in text)

-- ---- as the program holds them: the ends of lines in one table, and one of them as a part of it
abbrev pub ends : List ℕ
ends =
    ended [] ++ ended (rule_mark Cut) ++ ended (rule_mark Nearest) ++ ended improper_mark ++ ended (fault_text NoDigit) ++ ended (fault_text NoPoint)
    ++ ended (fault_text ManyDigits) ++ ended (fault_text ManyPlaces) ++ ended (fault_text NoEnd)

abbrev pub end_in : End → List ℕ
end_in at = take (at.to - at.from) (drop at.from ends)

pub record EndFits (at : End) : Type 0 where
  pub ordered : at.from ≤ at.to
  pub within : at.to ≤ 60
  pub short : at.to ≤ at.from + 10

-- the end with a mark
pub record EndOf (mark : List ℕ) (at : End) : Type 0 where
  pub reads : end_in at ≡ ended mark
  pub fits : EndFits at

-- a reading of a text of so many characters that its line has room for
abbrev pub Tellable : ℕ → Reading → Type 0
Tellable n (Exact w) = n ≤ 64
Tellable n (Rounded w) = n ≤ 64
Tellable n (Refused r) = Unit
Tellable n (Wrong fault place) = place < 2 ^ 63
