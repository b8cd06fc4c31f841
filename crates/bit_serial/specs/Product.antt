-- A product a bit at a time, as trainees work it by hand: for each bit of the multiplier, the last one first, the multiplicand is shifted one
-- place more, and added where the bit is set. Definitions only. Assumes nothing.
use Rattle.std.specs.Prelude.{ℕ, ◌+◌, ◌*◌, ◌/◌, ◌%◌, ◌^◌, ◌≤◌, ◌<◌}
use Rattle.bit_serial.specs.declared.multiply.Product.{Product}
use Rattle.bit_serial.specs.UpTo.{up_to}

-- before the first step: nothing is added up, and all bits of the multiplier are left
abbrev pub begun : ℕ → Product
begun y = record { partial = 0; left = y; steps = 0 }

-- the multiplicand x, as many places up as steps were made
abbrev pub shifted : ℕ → Product → ℕ
shifted x p = x * 2 ^ p.steps

-- one step: the last bit that is left, 0 or 1, says how often that is added, and is then done with
abbrev pub added : ℕ → Product → Product
added x p = record { partial = p.partial + p.left % 2 * shifted x p; left = p.left / 2; steps = p.steps + 1 }

-- at most n steps more, fewer where no bits remain
abbrev pub added_up_to : ℕ → ℕ → Product → Product
added_up_to n x = up_to (λ (p : Product). p.left) (added x) n

-- x times y
abbrev pub product : ℕ → ℕ → ℕ → Product
product n x y = added_up_to n x (begun y)

-- what keeps a step within 64 bits: a multiplicand of 32 bits, fewer than 32 steps made, and no more added up than those steps can add
pub record AddsUp (x : ℕ) (p : Product) : Type 0 where
  pub narrow : x < 2 ^ 32
  pub few : p.steps < 32
  pub within : p.partial ≤ shifted x p
