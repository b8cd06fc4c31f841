-- What decimals promise: a text's digits as a fraction, the exact text, reading, and the short decimal. Statements. Assumes nothing.
use Rattle.std.specs.Prelude.{ℕ, ◌+◌, ◌-◌, ◌*◌, ◌^◌, ◌≤◌, ◌<◌, ◌≡◌, ◌⊎◌, Bool, true, false, cond, List, [], ◌∷◌, ◌++◌, length}
use Rattle.numbers.specs.Signed.{with_sign}
use Rattle.terms.specs.declared.Rule.{Rule}
use Rattle.float.specs.Word.{negative, size88}
use Rattle.decimals.specs.declared.bring.Brought.TheVariants.{Exact as Is}
use Rattle.decimals.specs.declared.read.Reading.TheVariants.{Exact, Rounded}
use Rattle.decimals.specs.declared.short.Short.TheVariants.{Decimal}
use Rattle.decimals.specs.Exact.{point, minus, exact_text}
use Rattle.decimals.specs.Bring.{bring_of}
use Rattle.decimals.specs.Read.{is_digit, run_limit, most_places, answered, read_of}
use Rattle.decimals.specs.Short.{short_of}
use Rattle.listing.specs.declared.hex.Hex.TheVariants.{Number}
use Rattle.listing.specs.Hex.{hex_of}
use Rattle.decimals.specs.Line.{word_text, decimal_text}

-- all characters are digits
abbrev pub all_digits : List ℕ → Bool
all_digits [] = true
all_digits (c ∷ l) = cond (is_digit c) (all_digits l) false

-- the number that digits stand for, read on from one
abbrev pub number_from : ℕ → List ℕ → ℕ
number_from n [] = n
number_from n (c ∷ l) = number_from (n * 10 + (c - 48)) l

abbrev pub number_in : List ℕ → ℕ
number_in l = number_from 0 l

-- a sign, digits, a point, digits
abbrev pub text_of : Bool → List ℕ → List ℕ → List ℕ
text_of neg whole places = cond neg (minus ∷ []) [] ++ (whole ++ (point ∷ places))

-- ---- the exact text, read as a fraction, is the value: its digits over so many places are n / 2 ^ 88, for every n of 24 bytes
pub record IsExact (neg : Bool) (n : ℕ) (text : List ℕ) : Type 0 where
  pub sign : Bool
  pub whole : List ℕ
  pub places : List ℕ
  pub is : text ≡ text_of sign whole places
  pub digits : (all_digits whole ≡ true) × (all_digits places ≡ true)
  pub some : (0 < length whole) × (0 < length places)
  pub value : number_in (whole ++ places) * 2 ^ 88 ≡ n * 10 ^ length places
  pub signed : with_sign sign n ≡ with_sign neg n

abbrev pub ExactTextIsTheValue : Type 0
ExactTextIsTheValue = (neg : Bool) (n : ℕ) → n < 2 ^ 192 → IsExact neg n (exact_text neg n)

-- ---- reading is the cut, or the nearest, of the text's exact value: digits over 10 to the places
abbrev pub ReadingIsOfTheValue : Type 0
ReadingIsOfTheValue =
    (rule : Rule) (neg : Bool) (whole places : List ℕ) → all_digits whole ≡ true → all_digits places ≡ true → 0 < length whole → 0 < length places
    → length places ≤ most_places
    → number_in whole < run_limit → number_in places < run_limit
    → read_of rule (text_of neg whole places) ≡ answered (bring_of rule neg (number_in (whole ++ places)) (length places))

-- a decimal that is told to be exact is the word's value
abbrev pub ExactIsExact : Type 0
ExactIsExact = (rule : Rule) (neg : Bool) (k p w : ℕ) → bring_of rule neg k p ≡ Is w → size88 w * 10 ^ p ≡ k * 2 ^ 88

-- ---- the short decimal reads back to the word
abbrev pub ShortReadsBack : Type 0
ShortReadsBack =
    (rule : Rule) (w whole fraction places : ℕ) → w < 2 ^ 32 → short_of rule w ≡ Decimal whole fraction places
    → (read_of rule (decimal_text (negative w) whole fraction places) ≡ Exact w) ⊎ (read_of rule (decimal_text (negative w) whole fraction places) ≡ Rounded w)

-- ---- a word in eight hex digits reads back as the word
abbrev pub WordTextReadsBack : Type 0
WordTextReadsBack = (w : ℕ) → w < 2 ^ 32 → hex_of (word_text w) ≡ Number w
