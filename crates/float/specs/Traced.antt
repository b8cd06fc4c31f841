-- The root as the program finds it, and not as 01 says it: means that fall, and a root in one number. Definitions only. Assumes nothing.
use Rattle.std.specs.Prelude.{◌≡◌, ◌⊎◌, ℕ, ◌+◌, ◌-◌, ◌*◌, ◌%◌, ◌≤◌, ◌<◌}

-- r, found from s, is not below the root of v; where it is not below s either, s is not above that root
pub record Beyond (v s r : ℕ) : Type 0 where
  pub above : v < (r + 1) * (r + 1)
  pub last : s ≤ r → s * s ≤ v

-- the root of v, rounded to odd, is t: t where it is whole, else an odd t, and the root lies strictly between t - 1 and t + 1
abbrev pub Traced : ℕ → ℕ → Type 0
Traced v t = (t * t ≡ v) ⊎ ((t % 2 ≡ 1) × ((t - 1) * (t - 1) < v) × (v < (t + 1) * (t + 1)))
