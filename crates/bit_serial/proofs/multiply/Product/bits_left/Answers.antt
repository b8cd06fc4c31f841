-- `bit_serial::multiply::Product::bits_left` meets its contract: the leading zeros and the bits of a number make 64. Assumes nothing.
use Rattle.std.proofs.Common.{rules}
use mathlib.Core.Path.{◌≡◌, ◌∙◌}
use mathlib.Core.Logic.{⊎_elim}
use Prim.Native.Nat.{ℕ, ◌+◌, ◌-◌, ◌*◌, ◌^◌, ◌≤◌, ◌<◌}
use native.Mathlib.Nat.{lt_of_lt_of_le}
use native.Mathlib.Omega.{arith}
use lib.Count.{count_leading_zeros, leading_length}
use lib.Ieee.{size}
use lib.Ieee.Digits.{size-lt, size-le}
use lib.Pow.{pow_mono}
use Rattle.numbers.proofs.Differences.{either}
use Rattle.bit_serial.proofs.Subtracting.{halves}
use Rattle.bit_serial.proofs.multiply.Product.bits_left.Goals as goal

-- m bits hold a, and no fewer do
fewest : (a m : ℕ) → a < 2 ^ m → 2 ^ m ≤ 2 * a + 1 → m ≡ size a
fewest a m h l = ⊎_elim (λ (s : size a < m). absurd (less s)) (λ (s : m ≤ size a). let t = size-le a m h in omega arith) (either (size a) m)
  where
    less : size a < m → ⊥
    less s =
        let u : a < 2 ^ (m - 1) = lt_of_lt_of_le (size-lt a) (pow_mono {i = size a} {j = m - 1} (omega arith)) in
        let e = halves m (omega arith) in
        omega arith

pub returns : goal.returns
returns c =
    let a = c.args.self.left in
    let w = leading_length 64 a (search rules) in
    let m : 64 - count_leading_zeros 64 a ≡ w.0 = omega (arith, w.1) in
    (m ∙ fewest a w.0 w.2 w.3, omega arith)
