-- A magnitude n / 2 ^ 88 as the program holds it: the whole part and what is left below one, each in two numbers. Definitions only. Assumes nothing.
use Rattle.std.specs.Prelude.{◌≡◌, ℕ, ◌+◌, ◌*◌, ◌/◌, ◌%◌, ◌^◌, ◌<◌, List, [], ◌∷◌}
use Rattle.decimals.specs.declared.magnitude.Whole.{Whole}
use Rattle.decimals.specs.declared.magnitude.Rest.{Rest}
use Rattle.decimals.specs.declared.magnitude.Magnitude.{Magnitude}
use Rattle.decimals.specs.declared.magnitude.Tenth.{Tenth}
use Rattle.decimals.specs.declared.magnitude.Tenfold.{Tenfold}

-- the whole part
abbrev pub whole_of : Whole → ℕ
whole_of w = w.high * 2 ^ 48 + w.low

pub record WholeFits (w : Whole) : Type 0 where
  pub high : w.high < 2 ^ 56
  pub low : w.low < 2 ^ 48

-- what is left below one, times 2 ^ 88
abbrev pub rest_of : Rest → ℕ
rest_of r = r.high * 2 ^ 40 + r.low

pub record RestFits (r : Rest) : Type 0 where
  pub high : r.high < 2 ^ 48
  pub low : r.low < 2 ^ 40

-- the magnitude times 2 ^ 88
abbrev pub size_in : Magnitude → ℕ
size_in m = whole_of m.whole * 2 ^ 88 + rest_of m.rest

pub record Fits (m : Magnitude) : Type 0 where
  pub whole : WholeFits m.whole
  pub rest : RestFits m.rest

-- the number that bytes stand for, the lowest first
abbrev pub bytes_at : List ℕ → ℕ
bytes_at [] = 0
bytes_at (b ∷ l) = b + 256 * bytes_at l

-- a whole number without its last digit, and that digit
abbrev pub LastDigit : Whole → Tenth → Type 0
LastDigit w r = (whole_of r.whole ≡ whole_of w / 10) × (r.digit ≡ whole_of w % 10) × WholeFits r.whole

-- the next digit behind the point, and what is left below it
abbrev pub NextDigit : Rest → Tenfold → Type 0
NextDigit r t = (t.digit ≡ rest_of r * 10 / 2 ^ 88) × (rest_of t.rest ≡ rest_of r * 10 % 2 ^ 88) × RestFits t.rest
