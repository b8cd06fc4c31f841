-- 02, ask 14: the shift's figures, each from the list of sheets. Definitions only. Assumes nothing.
use Rattle.std.specs.Prelude.{ℕ, suc, Bool, not, cond, List, [], ◌∷◌, eqb, leb, length, ℤ, pos, ◌+ℤ◌}
use Rattle.numbers.specs.Little.{four_at}
use Rattle.float.specs.Word.{proper, value}

-- ---- a sheet is a line of 20 bytes

-- its serial, and the word of its slot 0
abbrev pub serial_on : List ℕ → ℕ
serial_on line = four_at line 0

abbrev pub word_on : List ℕ → ℕ
word_on line = four_at line 4

-- those of all lines
abbrev pub serials : List (List ℕ) → List ℕ
serials [] = []
serials (x ∷ l) = serial_on x ∷ serials l

abbrev pub words : List (List ℕ) → List ℕ
words [] = []
words (x ∷ l) = word_on x ∷ words l

-- ---- of lists of numbers

-- how often a number stands in a list
abbrev pub count : ℕ → List ℕ → ℕ
count x [] = 0
count x (y ∷ l) = cond (eqb x y) (suc (count x l)) (count x l)

-- the different numbers of a list, each once
abbrev pub once : List ℕ → List ℕ
once [] = []
once (x ∷ l) = cond (eqb (count x l) 0) (x ∷ once l) (once l)

-- how many numbers of a list pass a test
abbrev pub many : (ℕ → Bool) → List ℕ → ℕ
many test [] = 0
many test (x ∷ l) = cond (test x) (suc (many test l)) (many test l)

-- the sum of whole numbers
abbrev pub total : List ℤ → ℤ
total [] = pos 0
total (v ∷ l) = v +ℤ total l

-- ---- the figures

-- the different serials
abbrev pub different : List (List ℕ) → ℕ
different l = length (once (serials l))

-- those of them that stand on more than one line
abbrev pub repeated : List (List ℕ) → ℕ
repeated l = many (λ x. leb 2 (count x (serials l))) (once (serials l))

-- the words that are not proper
abbrev pub improper : List (List ℕ) → ℕ
improper l = many (λ w. not (proper w)) (words l)

-- the value of a word that is proper, times 2 ^ 88
abbrev pub worth : ℕ → ℤ
worth w = cond (proper w) (value w) (pos 0)

abbrev pub worths : List ℕ → List ℤ
worths [] = []
worths (w ∷ l) = worth w ∷ worths l

-- the sum of the values of the proper words, times 2 ^ 88
unfoldable pub sum88 : List (List ℕ) → ℤ
sum88 l = total (worths (words l))
