-- One addend of a sum, as the program holds it and not as 01 does: one number, the exponent plus 64 above the 24 bits of the mantissa. Definitions only.
-- Assumes nothing.
use Rattle.std.specs.Prelude.{◌≡◌, ◌⊎◌, ℕ, ◌*◌, ◌/◌, ◌%◌, ◌^◌, ◌≤◌, ◌<◌}
use Rattle.float.specs.Word.{size88}

-- the addend's magnitude, times 2 ^ 88
abbrev pub addend_size : ℕ → ℕ
addend_size k = k % 2 ^ 24 * 2 ^ (k / 2 ^ 24)

-- the number is 0, or its mantissa has 24 digits
pub record Addend (k : ℕ) : Type 0 where
  pub narrow : k < 2 ^ 31
  pub normal : (k ≡ 0) ⊎ (2 ^ 23 ≤ k % 2 ^ 24)

-- the number is the addend of a word w
pub record AddendOf (w k : ℕ) : Type 0 where
  pub size : addend_size k ≡ size88 w
  pub addend : Addend k
