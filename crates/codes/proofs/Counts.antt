-- Of the 128 codes without bit 7, 33 are carried, 10 derived and 85 unknown, by one count; and bit 7 changes none. Assumes nothing.
use mathlib.Core.Path.{◌≡◌, refl, ap}
use mathlib.Core.Bool.{cond}
use Prim.Native.Nat.{ℕ, zero, suc, ◌+◌, ◌%◌}
use native.Mathlib.Omega.{arith}
use lib.Dec.{eqb}
use Rattle.terms.specs.Refusal.{number_of}
use Rattle.codes.specs.Codes.{decoded, refusal_of}

-- how many of the codes below n are answered with a refusal's number
abbrev pub how_many : ℕ → ℕ → ℕ
how_many number zero = 0
how_many number (suc n) = cond (eqb (number_of (refusal_of (decoded n))) number) 1 0 + how_many number n

-- known (0), derived (2), unknown (1): 33, 10 and 85
pub counted : (how_many 0 128 ≡ 33) × (how_many 2 128 ≡ 10) × (how_many 1 128 ≡ 85)
unfolding decoded
counted = (refl, refl, refl)

-- a code with bit 7 and without is of one kind
pub either_way : (code : ℕ) → decoded ((code + 128) % 128) ≡ decoded (code % 128)
either_way code = ap decoded (omega arith)
