-- Round to odd: a quotient and a remainder in one number, as the program keeps them and 01 does not. Definitions only. Assumes nothing.
use Rattle.std.specs.Prelude.{◌≡◌, ◌⊎◌, ℕ, ◌+◌, ◌%◌, ◌≤◌, ◌<◌}

-- a quotient q and a remainder v in one number t: q where nothing remains, else q made odd. 12 and no remainder stay 12, 12 and 1 become 13, 13 and 1 stay 13
abbrev pub Jammed : ℕ → ℕ → ℕ → Type 0
Jammed q v t = ((v ≡ 0) × (t ≡ q)) ⊎ ((0 < v) × (t % 2 ≡ 1) × (q ≤ t) × (t ≤ q + 1))
