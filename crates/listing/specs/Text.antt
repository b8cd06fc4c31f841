-- Numbers as text, and, as the program has it and 01 has not, what it means to add text at a place. Definitions only. Assumes nothing.
use Rattle.std.specs.Prelude.{ℕ, zero, suc, ◌+◌, ◌/◌, ◌%◌, ◌≡◌, cond, List, [], ◌∷◌, ◌++◌, ltb, length, take}

-- the character of a digit: 0 to 9, then A to F
abbrev pub digit : ℕ → ℕ
digit d = cond (ltb d 10) (48 + d) (55 + d)

-- the digits of a number to base ten, the most significant first, and at most so many
unfoldable pub spelled : ℕ → ℕ → List ℕ
spelled zero n = []
spelled (suc most) n = cond (ltb n 10) (digit n ∷ []) (spelled most (n / 10) ++ (digit (n % 10) ∷ []))

-- a number in decimal; 20 digits hold every number of 64 bits
abbrev pub decimal : ℕ → List ℕ
decimal n = spelled 20 n

-- a byte as two upper-case hex digits
abbrev pub hex : ℕ → List ℕ
hex b = digit (b / 16) ∷ digit (b % 16) ∷ []

-- the text is added at a place: what stood before the place stays, and the text ends at the new one
pub record Adds (text before after : List ℕ) (place new : ℕ) : Type 0 where
  pub moved : new ≡ place + length text
  pub reads : take new after ≡ take place before ++ text
