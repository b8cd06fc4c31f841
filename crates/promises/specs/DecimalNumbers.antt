-- Decimal numbers as people write them: the fraction that a text stands for, against the exact text of a value, a text read
-- as a word by a rule, and the short text of a word.
-- Assumes nothing.
use Rattle.std.specs.Prelude.{ℕ, ◌+◌, ◌-◌, ◌*◌, ◌^◌, ◌≤◌, ◌<◌, ◌≡◌, ◌⊎◌, Bool, true, false, cond, List, [], ◌∷◌, ◌++◌, ltb, ℤ, pos, ◌-ℤ◌, length}
use Rattle.std.specs.Float.Ieee.{up, down}
use Rattle.terms.specs.declared.Rule.{Rule}
use Rattle.terms.specs.declared.Refusal.{Refusal}
use Rattle.terms.specs.declared.Refusal.TheVariants.{TooLarge, TooSmall}
use Rattle.decimals.specs.declared.read.Reading.{Reading}
use Rattle.decimals.specs.declared.read.Reading.TheVariants.{Exact, Rounded, Refused, Wrong}
use Rattle.decimals.specs.declared.short.Short.TheVariants.{Decimal}
use Rattle.decimals.specs.Exact.{exact_text}
use Rattle.decimals.specs.Read.{read_of}
use Rattle.decimals.specs.Short.{short_of}
use Rattle.decimals.specs.Line.{decimal_text}
use Rattle.promises.specs.FloatWords.{with_sign, negative, mantissa, exponent, size88, FloatWord}
use Rattle.promises.specs.FloatResults.{PairBy}

-- ---- the fraction that a text stands for: a sign or none, digits, a point, digits
abbrev pub is_digit : ℕ → Bool
is_digit c = cond (ltb c 48) false (ltb c 58)

abbrev pub all_digits : List ℕ → Bool
all_digits [] = true
all_digits (c ∷ l) = cond (is_digit c) (all_digits l) false

-- the number that digits stand for, read on from one
abbrev pub number_from : ℕ → List ℕ → ℕ
number_from n [] = n
number_from n (c ∷ l) = number_from (n * 10 + (c - 48)) l

abbrev pub number_in : List ℕ → ℕ
number_in l = number_from 0 l

-- the characters: 45 is the minus sign, 46 the point
abbrev pub text_of : Bool → List ℕ → List ℕ → List ℕ
text_of neg whole places = cond neg (45 ∷ []) [] ++ (whole ++ (46 ∷ places))

-- a text that is read: digits on both sides of the point, a number below 10 ^ 19 each, at most 27 behind it
pub record IsDecimal (whole places : List ℕ) : Type 0 where
  pub digits : (all_digits whole ≡ true) × (all_digits places ≡ true)
  pub some : (0 < length whole) × (0 < length places)
  pub few : length places ≤ 27
  pub small : (number_in whole < 10 ^ 19) × (number_in places < 10 ^ 19)

-- its magnitude is its digits over 10 to its places
abbrev pub digits_in : List ℕ → List ℕ → ℕ
digits_in whole places = number_in (whole ++ places)

-- ---- the exact text of n / 2 ^ 88 with a sign, read as a fraction, is that value; minus zero has no sign
pub record IsExact (neg : Bool) (n : ℕ) (text : List ℕ) : Type 0 where
  pub sign : Bool
  pub whole : List ℕ
  pub places : List ℕ
  pub is : text ≡ text_of sign whole places
  pub digits : (all_digits whole ≡ true) × (all_digits places ≡ true)
  pub some : (0 < length whole) × (0 < length places)
  pub value : digits_in whole places * 2 ^ 88 ≡ n * 10 ^ length places
  pub signed : with_sign sign n ≡ with_sign neg n

abbrev pub ExactTextIsTheValue : Type 0
ExactTextIsTheValue = (neg : Bool) (n : ℕ) → n < 2 ^ 192 → IsExact neg n (exact_text neg n)

-- ---- a text read: k / 10 ^ p with a sign, as a word by a rule
-- 12, under 2 ^ -65 and not zero; 11, 2 ^ 63 or more once it is brought to 24 bits
pub record LargeNumber (rule : Rule) (k p : ℕ) : Type 0 where
  pub m : ℕ
  pub e : ℤ
  pub pair : PairBy rule k (10 ^ p) m e
  pub reaches : 2 ^ 63 * down (e -ℤ pos 24) ≤ m * up (e -ℤ pos 24)

abbrev pub RefusedRightly : Rule → ℕ → ℕ → Refusal → Type 0
RefusedRightly rule k p r = ((r ≡ TooSmall) × (0 < k) × (k * 2 ^ 65 < 10 ^ p)) ⊎ ((r ≡ TooLarge) × LargeNumber rule k p)

-- told to be exact: the proper word's value is k / 10 ^ p; else the word has the sign and the rule's pair, and another value
pub record ReadExactly (neg : Bool) (k p w : ℕ) : Type 0 where
  pub word : FloatWord w
  pub same : with_sign (negative w) (size88 w * 10 ^ p) ≡ with_sign neg (k * 2 ^ 88)

pub record ReadNearly (rule : Rule) (neg : Bool) (k p w : ℕ) : Type 0 where
  pub word : FloatWord w
  pub sign : negative w ≡ neg
  pub pair : PairBy rule k (10 ^ p) (mantissa w) (exponent w)
  pub other : size88 w * 10 ^ p ≡ k * 2 ^ 88 → ⊥

abbrev pub ReadRightly : Rule → Bool → ℕ → ℕ → Reading → Type 0
ReadRightly rule neg k p (Exact w) = ReadExactly neg k p w
ReadRightly rule neg k p (Rounded w) = ReadNearly rule neg k p w
ReadRightly rule neg k p (Refused r) = RefusedRightly rule k p r
ReadRightly rule neg k p (Wrong fault place) = ⊥

abbrev pub ReadingIsOfTheValue : Type 0
ReadingIsOfTheValue =
    (rule : Rule) (neg : Bool) (whole places : List ℕ) → IsDecimal whole places
    → ReadRightly rule neg (digits_in whole places) (length places) (read_of rule (text_of neg whole places))

-- ---- the short text of a word is read back as the word
abbrev pub ReadsTo : ℕ → Reading → Type 0
ReadsTo w (Exact v) = v ≡ w
ReadsTo w (Rounded v) = v ≡ w
ReadsTo w (Refused r) = ⊥
ReadsTo w (Wrong fault place) = ⊥

abbrev pub ShortTextReadsBack : Type 0
ShortTextReadsBack =
    (rule : Rule) (w whole fraction places : ℕ) → w < 2 ^ 32 → short_of rule w ≡ Decimal whole fraction places
    → ReadsTo w (read_of rule (decimal_text (negative w) whole fraction places))
