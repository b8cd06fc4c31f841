-- Document 01's errors as numbers, bits 4 to 1 of the status. Definitions only. Assumes nothing.
use Rattle.std.specs.Prelude.{ℕ}

-- 0001
abbrev pub overflow : ℕ
overflow = 1

-- 0010
abbrev pub underflow : ℕ
underflow = 2

-- 0100: the root of a negative word
abbrev pub negative_root : ℕ
negative_root = 4

-- 1000
abbrev pub divide_by_zero : ℕ
divide_by_zero = 8
