-- A decimal text as a word: an optional minus sign, digits, a point, digits. Definitions only. Assumes nothing.
use Rattle.std.specs.Prelude.{ℕ, ◌+◌, ◌-◌, ◌*◌, ◌^◌, ◌≤◌, ◌<◌, Bool, true, false, cond, List, [], ◌∷◌, ltb, eqb, length, drop, get_or}
use Rattle.terms.specs.declared.Rule.{Rule}
use Rattle.terms.specs.declared.Rule.TheVariants.{Cut, Nearest}
use Rattle.listing.specs.Options.{same_text, nearest_word}
use Rattle.decimals.specs.declared.bring.Brought.{Brought}
use Rattle.decimals.specs.declared.bring.Brought.TheVariants.{Exact as Is, Rounded as Near, Refused as Turned}
use Rattle.decimals.specs.declared.read.Fault.TheVariants.{NoDigit, NoPoint, ManyDigits, ManyPlaces, NoEnd}
use Rattle.decimals.specs.declared.read.Scanned.{Scanned}
use Rattle.decimals.specs.declared.read.Scanned.TheVariants.{Digits, TooMany}
use Rattle.decimals.specs.declared.read.Parsed.{Parsed}
use Rattle.decimals.specs.declared.read.Parsed.TheVariants.{Decimal, Wrong as Unparsed}
use Rattle.decimals.specs.declared.read.Reading.{Reading}
use Rattle.decimals.specs.declared.read.Reading.TheVariants.{Exact, Rounded, Refused, Wrong}
use Rattle.decimals.specs.Exact.{point, minus}
use Rattle.decimals.specs.Bring.{bring_of}

-- 0 to 9
abbrev pub is_digit : ℕ → Bool
is_digit c = cond (ltb c 48) false (ltb c 58)

-- the digits of a run stay below this, zeros before them not counted
abbrev pub run_limit : ℕ
run_limit = 10 ^ 19

-- the most places behind the point
abbrev pub most_places : ℕ
most_places = 27

-- the digits at the front, read on from a number and a count of those before; one digit more goes to a number below a tenth of the limit
unfoldable pub scan_from : ℕ → ℕ → List ℕ → Scanned
scan_from value count [] = Digits value count
scan_from value count (c ∷ l) =
    cond (is_digit c) (cond (ltb value (10 ^ 18)) (scan_from (value * 10 + (c - 48)) (count + 1) l) (TooMany count)) (Digits value count)

abbrev pub scan_of : List ℕ → Scanned
scan_of l = scan_from 0 0 l

-- what a caller knows of it, of a text of n characters
abbrev pub Scans : ℕ → Scanned → Type 0
Scans n (Digits value count) = (value < 10 ^ count) × (value < run_limit) × (count ≤ n)
Scans n (TooMany place) = place ≤ n

-- the places behind a point at i, of a text of n characters: digits to the end
abbrev pub places_from : ℕ → Bool → ℕ → ℕ → Scanned → Parsed
places_from n neg whole i (Digits value count) =
    cond (eqb count 0) (Unparsed NoDigit i)
    (cond (ltb most_places count) (Unparsed ManyPlaces (i + most_places))
    (cond (ltb (i + count) n) (Unparsed NoEnd (i + count))
    (Decimal neg whole value count)))
places_from n neg whole i (TooMany place) = Unparsed ManyDigits (i + place)

-- the point at i, and what stands behind it
abbrev pub point_from : Bool → ℕ → ℕ → List ℕ → Parsed
point_from neg whole i text =
    cond (ltb i (length text)) (cond (eqb (get_or text i 0) point) (places_from (length text) neg whole (i + 1) (scan_of (drop (i + 1) text)))
    (Unparsed NoPoint i)) (Unparsed NoPoint i)

-- the digits before the point, from i on
abbrev pub whole_from : Bool → ℕ → List ℕ → Scanned → Parsed
whole_from neg i text (Digits value count) = cond (eqb count 0) (Unparsed NoDigit i) (point_from neg value (i + count) text)
whole_from neg i text (TooMany place) = Unparsed ManyDigits (i + place)

-- a minus sign, or none, before them
abbrev pub has_minus : List ℕ → Bool
has_minus [] = false
has_minus (c ∷ l) = eqb c minus

unfoldable pub parse_of : List ℕ → Parsed
unfolding scan_from
parse_of text = cond (has_minus text) (whole_from true 1 text (scan_of (drop 1 text))) (whole_from false 0 text (scan_of text))

-- the word
abbrev pub answered : Brought → Reading
answered (Is w) = Exact w
answered (Near w) = Rounded w
answered (Turned r) = Refused r

abbrev pub read_parsed : Rule → Parsed → Reading
read_parsed rule (Decimal neg whole fraction places) = answered (bring_of rule neg (whole * 10 ^ places + fraction) places)
read_parsed rule (Unparsed fault place) = Wrong fault place

abbrev pub read_of : Rule → List ℕ → Reading
read_of rule text = read_parsed rule (parse_of text)

-- a decimal as the word is found from it; a place is that of a character of a slice, or the one behind it
abbrev pub Sound : Parsed → Type 0
Sound (Decimal neg whole fraction places) = (places ≤ most_places) × (fraction < 10 ^ places) × (fraction < run_limit)
Sound (Unparsed fault place) = place < 2 ^ 63

abbrev pub Placed : Reading → Type 0
Placed (Exact w) = Unit
Placed (Rounded w) = Unit
Placed (Refused r) = Unit
Placed (Wrong fault place) = place < 2 ^ 63

-- the rule that a word names: `nearest`, else the cut
abbrev pub rule_named : List ℕ → Rule
rule_named word = cond (same_text word nearest_word) Nearest Cut
