-- A number as 24 bytes, the lowest first. Definitions only. Assumes nothing.
use Rattle.std.specs.Prelude.{ℕ, ◌+◌, ◌*◌, ◌^◌, cond, List, [], ◌∷◌}
use Rattle.float.specs.Word.{negative, proper, size88}

-- the number that bytes stand for, the lowest first
abbrev pub le : List ℕ → ℕ
le [] = 0
le (b ∷ l) = b + 256 * le l

-- what 24 bytes do not hold
unfoldable pub sum_limit : ℕ
sum_limit = 256 ^ 24

-- what a word adds to the sum of those above zero, and to that of those below
abbrev pub up : ℕ → ℕ
up w = cond (proper w) (cond (negative w) 0 (size88 w)) 0

abbrev pub down : ℕ → ℕ
down w = cond (proper w) (cond (negative w) (size88 w) 0) 0

abbrev pub ups : List ℕ → ℕ
ups [] = 0
ups (w ∷ l) = up w + ups l

abbrev pub downs : List ℕ → ℕ
downs [] = 0
downs (w ∷ l) = down w + downs l
