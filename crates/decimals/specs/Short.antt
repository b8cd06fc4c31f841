-- The decimal of the fewest places that gives a word back by a rule. Definitions only. Assumes nothing.
use Rattle.std.specs.Prelude.{ℕ, zero, suc, ◌+◌, ◌*◌, ◌/◌, ◌%◌, ◌^◌, ◌≤◌, ◌<◌, ◌≡◌, Bool, false, cond, eqb, ltb, leb}
use Rattle.terms.specs.declared.Rule.{Rule}
use Rattle.float.specs.Word.{negative, size88}
use Rattle.decimals.specs.declared.bring.Brought.{Brought}
use Rattle.decimals.specs.declared.bring.Brought.TheVariants.{Exact, Rounded, Refused}
use Rattle.decimals.specs.declared.short.Short.{Short}
use Rattle.decimals.specs.declared.short.Short.TheVariants.{Decimal, Nothing}
use Rattle.decimals.specs.Bring.{bring_of}
use Rattle.decimals.specs.Read.{run_limit, most_places}

-- whether what was brought is the word
abbrev pub gives_word : ℕ → Brought → Bool
gives_word w (Exact v) = eqb v w
gives_word w (Rounded v) = eqb v w
gives_word w (Refused r) = false

-- whether k / 10 ^ p, with the word's sign, gives the word back
abbrev pub gives_of : Rule → ℕ → ℕ → ℕ → Bool
gives_of rule w k p = gives_word w (bring_of rule (negative w) k p)

-- k / 10 ^ p as digits before the point and behind it
abbrev pub decimal_of : ℕ → ℕ → Short
decimal_of k p = Decimal (k / 10 ^ p) (k % 10 ^ p) p

abbrev pub try_of : Rule → ℕ → ℕ → ℕ → Short
try_of rule w k p = cond (gives_of rule w k p) (decimal_of k p) Nothing

abbrev pub or_else : Short → Short → Short
or_else (Decimal whole fraction places) b = Decimal whole fraction places
or_else Nothing b = b

-- k / 10 ^ p and the next decimal of p places above it, that one first or last
abbrev pub around_of : Rule → ℕ → ℕ → ℕ → Bool → Short
around_of rule w k p up = cond up (or_else (try_of rule w (k + 1) p) (try_of rule w k p)) (or_else (try_of rule w k p) (try_of rule w (k + 1) p))

-- the decimals of p places round whole + rest / 2 ^ 88, the nearer one first
abbrev pub tried_at : Rule → ℕ → ℕ → ℕ → ℕ → Short
tried_at rule w whole rest p = around_of rule w (whole * 10 ^ p + rest * 10 ^ p / 2 ^ 88) p (leb (2 ^ 87) (rest * 10 ^ p % 2 ^ 88))

-- at p + 1 places, and on, at most so often; it goes on as long as the digits behind the point are a number below 10 ^ 17
unfoldable pub short_from : ℕ → Rule → ℕ → ℕ → ℕ → ℕ → Short
unfolding bring_of
short_from zero rule w whole rest p = Nothing
short_from (suc more) rule w whole rest p =
    cond (ltb (rest * 10 ^ p / 2 ^ 88) (10 ^ 17)) (or_else (tried_at rule w whole rest (p + 1)) (short_from more rule w whole rest (p + 1))) Nothing

-- the short decimal of a word
abbrev pub short_of : Rule → ℕ → Short
short_of rule w = short_from most_places rule w (size88 w / 2 ^ 88) (size88 w % 2 ^ 88) 0

-- a decimal that the reader takes
abbrev pub Brief : Short → Type 0
Brief (Decimal whole fraction places) = (places ≤ most_places) × (fraction < 10 ^ places) × (fraction < run_limit)
Brief Nothing = Unit

-- digits that may be tried with the decimal above them: nines says whether the places are all nines
abbrev pub Triable : ℕ → ℕ → ℕ → Bool → Type 0
Triable whole fraction places nines =
    (places ≤ most_places) × (fraction < 10 ^ places) × (fraction < 10 ^ 18) × (whole < 2 ^ 63) × (nines ≡ eqb (fraction + 1) (10 ^ places))
