-- What the functions below the arithmetic speak of, and 01 does not: two words, a word's sign and its magnitude. Definitions only. Assumes nothing.
use Rattle.std.specs.Prelude.{◌≡◌, ℕ, ◌-◌, ◌*◌, ◌%◌, ◌^◌, ◌<◌, ◌≤◌, Bool, cond, nat_le}

-- the words of 32 bits are a whole number of times those of this width: what wraps at 32 bits wraps here too
abbrev pub Wraps : ℕ → Type 0
Wraps h = 2 ^ 32 % (2 * h) ≡ 0

-- b and a are words, of at most 32 bits
pub record Words (h b a : ℕ) : Type 0 where
  pub some : 0 < h
  pub narrow : h ≤ 2147483648
  pub left : b < 2 * h
  pub right : a < 2 * h

abbrev pub negative_at : ℕ → ℕ → Bool
negative_at h w = nat_le h w

abbrev pub magnitude_at : ℕ → ℕ → ℕ
magnitude_at h w = cond (negative_at h w) (2 * h - w) w
