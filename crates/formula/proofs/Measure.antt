-- What is left to read: text and levels, which fall together in brackets and behind a minus, the text alone behind a sign. Assumes nothing.
use mathlib.Core.Path.{◌≡◌}
use mathlib.Core.List.{List}
use Prim.Native.Nat.{ℕ, ◌+◌, ◌*◌, ◌-◌, ◌≤◌, ◌<◌}
use native.Mathlib.Omega.{arith}
use lib.ListN.{length}

-- a factor has rank 0, a product 1, a sum 2
abbrev pub left_over : ℕ → List ℕ → ℕ → ℕ → ℕ
left_over rank text at depth = 3 * (length text - at + depth) + rank

-- a sum begins with a product, a product with a factor, at the same place
pub same_place : (rank : ℕ) (text : List ℕ) (at depth t : ℕ) → left_over (rank + 1) text at depth ≡ t → left_over rank text at depth < t
same_place rank text at depth t e = omega arith

-- all other calls read on from a later place: those of the right operands, and a factor's
pub right_place : (rank : ℕ) (text : List ℕ) (at at' depth t : ℕ) → left_over (rank + 1) text at depth ≡ t → at < at' → left_over rank text at' depth < t
right_place rank text at at' depth t e h = omega arith

pub later_place : (rank : ℕ) (text : List ℕ) (at at' depth depth' t : ℕ) → left_over 0 text at depth ≡ t → rank ≤ 2 → at < length text
    → at < at' → depth' ≤ depth → left_over rank text at' depth' < t
later_place rank text at at' depth depth' t e r h i d = omega arith
