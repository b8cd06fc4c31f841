-- 02, ask 7: the words of a formula's leaves, and its record file. Definitions only. Assumes nothing.
use Rattle.std.specs.Prelude.{ℕ, ◌+◌, ◌*◌, ◌-◌, Bool, ◌&&◌, cond, List, [], ◌∷◌, ◌++◌, leb, take, drop}
use Prim.Native.Char.{code}
use Rattle.numbers.specs.Little.{le4}
use Rattle.float.specs.Word.{proper}
use Rattle.stack.specs.Stack.{number_from}
use Rattle.formula.specs.Formula.{Operator, Plus, Less, Times, Over, Formula, Letter, Constant, Minus, Brackets, Joined}

-- ---- words
-- "words for all eight letters as 32 bytes, each word's top byte first": that of letter k, 0 for a
unfoldable pub letter_word : List ℕ → ℕ → ℕ
letter_word letters k = number_from 0 (take 4 (drop (4 * k) letters))

-- the value of a digit 0 to 9 or A to F
abbrev pub digit_value : ℕ → ℕ
digit_value b = cond (leb b (code "9")) (b - code "0") (b - code "A" + 10)

-- the number that digits stand for, the top one first; a is the number of the digits before them
abbrev pub hex_from : ℕ → List ℕ → ℕ
hex_from a [] = a
hex_from a (b ∷ s) = hex_from (a * 16 + digit_value b) s

-- a constant's word
abbrev pub constant_word : List ℕ → ℕ
constant_word s = hex_from 0 s

-- every constant's word, and that of every letter in the text, is proper
unfoldable pub proper_in : List ℕ → Formula → Bool
proper_in letters (Letter k) = proper (letter_word letters k)
proper_in letters (Constant s) = proper (constant_word s)
proper_in letters (Minus f) = proper_in letters f
proper_in letters (Brackets f) = proper_in letters f
proper_in letters (Joined o l r) = proper_in letters l && proper_in letters r

-- ---- the file
-- a push record of a word, its low byte first
abbrev pub push_record : ℕ → List ℕ
push_record w = 6 ∷ 0 ∷ 1 ∷ 0 ∷ le4 w

-- a command record
abbrev pub command_record : ℕ → List ℕ
command_record code = 3 ∷ 0 ∷ 3 ∷ 0 ∷ code ∷ []

-- FADD, FSUB, FMUL, FDIV, with sr 0
abbrev pub code_of : Operator → ℕ
code_of o = elim o [ Plus ↦ 0x10 | Less ↦ 0x11 | Times ↦ 0x12 | Over ↦ 0x13 ]

-- CHSF, with sr 0
abbrev pub minus_code : ℕ
minus_code = 0x15

-- "In postfix order, each operand is one push record and each operation or minus one command record with sr 0."
unfoldable pub file_of : List ℕ → Formula → List ℕ
file_of letters (Letter k) = push_record (letter_word letters k)
file_of letters (Constant s) = push_record (constant_word s)
file_of letters (Minus f) = file_of letters f ++ command_record minus_code
file_of letters (Brackets f) = file_of letters f
file_of letters (Joined o l r) = file_of letters l ++ (file_of letters r ++ command_record (code_of o))
