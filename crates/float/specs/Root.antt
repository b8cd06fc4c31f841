-- SQRT on words: the root is found exactly, then cut once. Definitions only. Assumes nothing.
use Rattle.std.specs.Prelude.{ℕ, zero, suc, ◌+◌, ◌-◌, ◌*◌, ◌/◌, ◌^◌, false, cond, leb, eqb}
use Rattle.std.specs.Float.Ieee.{size}
use Rattle.terms.specs.declared.Rule.{Rule}
use Rattle.terms.specs.Errors.{negative_root}
use Rattle.float.specs.declared.Flagged.{Flagged}
use Rattle.float.specs.Word.{negative, size88}
use Rattle.float.specs.Cut.{fine, cut_size}

-- the whole part of the root of an n below 4 ^ k, digit by digit: that of n / 4, doubled, and one more where the square of that is at most n.
-- The root of 10 is 3: that of 10 / 4 = 2 is 1, doubled 2, and 3 * 3 is at most 10
unfoldable pub root_below : ℕ → ℕ → ℕ
root_below zero n = 0
root_below (suc k) n = let s = 2 * root_below k (n / 4) in cond (leb ((s + 1) * (s + 1)) n) (s + 1) s

-- the whole part of the root of n, which is below 4 ^ k where k is the number of its binary digits
unfoldable pub whole_root : ℕ → ℕ
unfolding root_below
whole_root n = root_below (size n) n

-- round to odd: a root counted in halves, 2 * s where it is the whole number s, 2 * s + 1 where it lies between s and s + 1. The root of 9 is 6
-- halves, that of 10 is 7. No word and no middle of two words lies between s and s + 1, so all that lies there is cut, and rounded, as the half is
unfoldable pub root_halves : ℕ → ℕ
unfolding whole_root
root_halves n = 2 * whole_root n + cond (eqb (whole_root n * whole_root n) n) 0 1

-- what the root is taken of: A's magnitude, size88 a / 2 ^ 88, counted in squares of the fine unit, 2 ^ -400, so that its root counts fine units
abbrev pub radicand : ℕ → ℕ
radicand a = size88 a * 2 ^ (2 * fine - 88)

-- SQRT: the root of A, so many halves of a fine unit, cut once; where A is negative, R = A and the error is that of a negative root
unfoldable pub sqrt : Rule → ℕ → Flagged
unfolding cut_size root_halves size88
sqrt r a = cond (negative a) (record { word = a; error = negative_root }) (cut_size r false (root_halves (radicand a)) 2)
