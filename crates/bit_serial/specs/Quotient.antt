-- A quotient a bit at a time, as trainees work it by hand: for each digit, the highest one first, the divisor is shifted to its place, and taken
-- from what is left of the dividend where it goes. Definitions only. Assumes nothing.
use Rattle.std.specs.Prelude.{ℕ, ◌+◌, ◌-◌, ◌*◌, ◌^◌, ◌≤◌, ◌<◌, cond, leb}
use Rattle.bit_serial.specs.declared.divide.Division.{Division}
use Rattle.bit_serial.specs.UpTo.{up_to}

-- before the first step: no digit is found, all of the dividend is left, and n digits are to be found
abbrev pub begun : ℕ → ℕ → Division
begun v n = record { quotient = 0; rest = v; left = n }

-- the divisor at the place of the next digit
abbrev pub shifted : ℕ → Division → ℕ
shifted d s = d * 2 ^ (s.left - 1)

-- the next digit: 1 where the shifted divisor goes into what is left, else 0
abbrev pub digit : ℕ → Division → ℕ
digit d s = cond (leb (shifted d s) s.rest) 1 0

-- one step: the digit is put at its place, and so often the shifted divisor is taken away
abbrev pub subtracted : ℕ → Division → Division
subtracted d s = record { quotient = s.quotient + digit d s * 2 ^ (s.left - 1); rest = s.rest - digit d s * shifted d s; left = s.left - 1 }

-- at most n steps more, fewer where no bits remain
abbrev pub subtracted_up_to : ℕ → ℕ → Division → Division
subtracted_up_to n d = up_to (λ (s : Division). s.rest) (subtracted d) n

-- v over d, to n digits
abbrev pub division : ℕ → ℕ → ℕ → Division
division n v d = subtracted_up_to n d (begun v n)

-- what keeps a step within 64 bits: a divisor of 32 bits, 1 to 32 digits left, and a quotient that has room for them
pub record Places (d : ℕ) (s : Division) : Type 0 where
  pub narrow : d < 2 ^ 32
  pub some : 0 < s.left
  pub few : s.left ≤ 32
  pub room : s.quotient + 2 ^ s.left ≤ 2 ^ 32
