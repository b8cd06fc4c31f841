-- The stack by value as two words of eight bytes, the most significant byte nearest the top. Definitions only. Assumes nothing.
use Rattle.std.specs.Prelude.{ℕ, ◌-◌, List, ◌++◌, take, drop}
use Rattle.stack.specs.Stack.{bytes_of, zeros}
use Rattle.stack.specs.declared.Stack.{Stack}

-- the eight bytes of a word
unfoldable pub eight : ℕ → List ℕ
eight w = bytes_of 8 w

-- of two words side by side, the eight bytes from place k on, and of three the 16
abbrev pub window : ℕ → ℕ → ℕ → List ℕ
window k high low = drop k (eight high) ++ take k (eight low)

abbrev pub slid : ℕ → ℕ → ℕ → ℕ → List ℕ
slid k a b c = drop k (eight a) ++ (eight b ++ take k (eight c))

-- the 16 bytes of a stack, top first
abbrev pub bytes_in : Stack → List ℕ
bytes_in s = eight s.top ++ eight s.rest

-- R of n bytes over eight bytes of a stack from place k on, zeros below them: the layouts of a conversion
abbrev pub over_eight : ℕ → ℕ → List ℕ → ℕ → List ℕ
over_eight k n s r = bytes_of n r ++ (take 8 (drop k s) ++ zeros (8 - n))
