-- 02, ask 7: a formula as a tree, how deep its brackets and minus signs nest, and how many stack words it needs. Definitions only. Assumes nothing.
use Rattle.std.specs.Prelude.{ℕ, suc, max, List}

-- `+`, `-`, `*`, `/`
pub data Operator : Type 0 where
  Plus Less Times Over : Operator

-- letters a to h are 0 to 7; a constant has its digits as they are written; an operation has its left and its right
pub data Formula : Type 0 where
  Letter : ℕ → Formula
  Constant : List ℕ → Formula
  Minus : Formula → Formula
  Brackets : Formula → Formula
  Joined : Operator → Formula → Formula → Formula

-- the most brackets and minus signs that a place stands inside
unfoldable pub nested : Formula → ℕ
nested (Letter k) = 0
nested (Constant s) = 0
nested (Minus f) = suc (nested f)
nested (Brackets f) = suc (nested f)
nested (Joined o l r) = max (nested l) (nested r)

-- "A leaf needs one stack word, a minus what its factor needs, an operation the greater of what its left needs and one more than its right needs."
unfoldable pub need_of : Formula → ℕ
need_of (Letter k) = 1
need_of (Constant s) = 1
need_of (Minus f) = need_of f
need_of (Brackets f) = need_of f
need_of (Joined o l r) = max (need_of l) (suc (need_of r))
