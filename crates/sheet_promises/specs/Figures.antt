-- 02, ask 14: the shift's figures, each from the list of sheets, and `sheets_figures` for every input. Definitions and
-- statements only: proofs/Figures.antt proves them. Assumes nothing.
use Rattle.std.specs.Prelude.{ℕ, zero, suc, ◌+◌, ◌*◌, ◌-◌, ◌/◌, ◌%◌, ◌^◌, ◌≤◌, ◌<◌, ◌≡◌, Bool, true, false, not, cond, ◌||◌, eqb, leb, ltb, length, get_or, drop, replicate, ℤ, pos, negsuc, neg_ℤ, ◌+ℤ◌, nat_abs, ◌≤ℤ◌, ◌<ℤ◌}
use mathlib.Core.List.{List, [], ◌∷◌, ◌++◌, map, Permᴰ}
use Rattle.sheet_promises.specs.Bytes.{four_at}
use Rattle.sheet_promises.specs.Sheets.{is_sheets, number_in, closed_sheets}
use Rattle.sheet_promises.specs.Subjects.{FiguresAnswer, figures_call, FiguresAllows}

-- ---- a sheet is a line of 20 bytes

-- its serial
abbrev pub serial_on : List ℕ → ℕ
serial_on line = four_at line 0

-- the word of its slot 0
abbrev pub word_on : List ℕ → ℕ
word_on line = four_at line 4

-- ---- float words

-- bit 23 is set, or the word is all zeros
abbrev pub proper : ℕ → Bool
proper w = leb 8388608 (w % 16777216) || eqb w 0

-- the magnitude m * 2 ^ (e - 24) times 2 ^ 88: m in bits 23 to 0, e in bits 30 to 24 in two's complement
abbrev pub size88 : ℕ → ℕ
size88 w = w % 16777216 * 2 ^ ((w / 16777216 + 64) % 128)

-- the value times 2 ^ 88: below zero where bit 31 is set
abbrev pub value88 : ℕ → ℤ
value88 w = cond (leb 2147483648 w) (neg_ℤ (pos (size88 w))) (pos (size88 w))

-- ---- of lists of numbers

-- how often a number stands in a list
abbrev pub count : ℕ → List ℕ → ℕ
count x [] = 0
count x (y ∷ l) = cond (eqb x y) (suc (count x l)) (count x l)

-- the different numbers of a list, each once
abbrev pub once : List ℕ → List ℕ
once [] = []
once (x ∷ l) = cond (eqb (count x l) 0) (x ∷ once l) (once l)

-- how many numbers of a list pass a test
abbrev pub many : (ℕ → Bool) → List ℕ → ℕ
many test [] = 0
many test (x ∷ l) = cond (test x) (suc (many test l)) (many test l)

-- the sum of whole numbers
abbrev pub total : List ℤ → ℤ
total [] = pos 0
total (v ∷ l) = v +ℤ total l

-- ---- the figures

-- the different serials
abbrev pub different : List (List ℕ) → ℕ
different l = length (once (map serial_on l))

-- those of them that stand on more than one line
abbrev pub repeated : List (List ℕ) → ℕ
repeated l = many (λ x. leb 2 (count x (map serial_on l))) (once (map serial_on l))

-- slot 0 words that are not proper
abbrev pub improper : List (List ℕ) → ℕ
improper l = many (λ w. not (proper w)) (map word_on l)

-- what a word adds to the sum: its value where it is proper
abbrev pub worth : ℕ → ℤ
worth w = cond (proper w) (value88 w) (pos 0)

-- the exact sum of the proper slot 0 values, times 2 ^ 88
unfoldable pub sum88 : List (List ℕ) → ℤ
sum88 l = total (map worth (map word_on l))

-- ---- as bytes

-- a hex digit's character: 0 to 9, then A to F
abbrev pub hex_digit : ℕ → ℕ
hex_digit d = cond (ltb d 10) (48 + d) (55 + d)

-- the last k hex digits of a number, the highest first
abbrev pub hex_digits : ℕ → ℕ → List ℕ
hex_digits zero n = []
hex_digits (suc k) n = hex_digits k (n / 16) ++ (hex_digit (n % 16) ∷ [])

-- `+` or `-`, plus for zero
abbrev pub sign_of : ℤ → ℕ
sign_of (pos n) = 43
sign_of (negsuc n) = 45

-- "a sign and 48 hex digits of its magnitude times 2^88"
abbrev pub sum_text : ℤ → List ℕ
sum_text z = sign_of z ∷ hex_digits 48 (nat_abs z)

-- lines, different serials, serials on more than one line, slot 0 words not proper, a byte each; then the sum
abbrev pub figures_of : List (List ℕ) → List ℕ
figures_of l = length l ∷ different l ∷ repeated l ∷ improper l ∷ sum_text (sum88 l)

-- ---- `sheets_figures`

-- 8 for another length of `out`, then 13; neither writes; else 0, and all 53 bytes are written
abbrev pub figures_answer : List ℕ → List ℕ → FiguresAnswer
figures_answer sheets out =
    cond (eqb (length out) 53)
    (cond (is_sheets sheets) (record { result = 0; out = figures_of (closed_sheets sheets) })
    (record { result = 13; out = out }))
    (record { result = 8; out = out })

-- every call, refused or not
abbrev pub FiguresCall : Type 0
FiguresCall = (sheets out : List ℕ) → figures_call sheets out ≡ figures_answer sheets out

-- what the contract allows beside an answer is that number and those bytes, and nothing else
abbrev pub FiguresAllowed : Type 0
FiguresAllowed =
    (a : FiguresAnswer) (r : ℕ) (out : List ℕ)
    → (FiguresAllows a r out → (r ≡ a.result) × (out ≡ a.out))
    × (r ≡ a.result → out ≡ a.out → FiguresAllows a r out)

-- demand 1: two answers that the contract allows coincide
abbrev pub FiguresDetermined : Type 0
FiguresDetermined =
    (sheets out : List ℕ) (r q : ℕ) (o p : List ℕ)
    → FiguresAllows (figures_call sheets out) r o → FiguresAllows (figures_call sheets out) q p → (r ≡ q) × (o ≡ p)

-- ---- what 02 asks of the figures

-- "The order of the sheets makes no difference to any figure"
pub record Same (l m : List (List ℕ)) : Type 0 where
  pub lines_same : length l ≡ length m
  pub different_same : different l ≡ different m
  pub repeated_same : repeated l ≡ repeated m
  pub improper_same : improper l ≡ improper m
  pub sum_same : sum88 l ≡ sum88 m

-- over any two lists of the same sheets
abbrev pub AnyOrder : Type 0
AnyOrder = (l m : List (List ℕ)) → Permᴰ l m → Same l m

-- nor to the answer of the call, for two slices that are lists of sheets
abbrev pub AnyOrderTold : Type 0
AnyOrderTold =
    (s t out : List ℕ) → is_sheets s ≡ true → is_sheets t ≡ true → Permᴰ (closed_sheets s) (closed_sheets t)
    → figures_call s out ≡ figures_call t out

-- "64 sheets always fit": a magnitude is at most 2^24 * 2^127, 64 of them at most 2^157, and 48 hex digits hold less
-- than 16^48
pub record Fits (z : ℤ) : Type 0 where
  pub at_most : nat_abs z ≤ 64 * (2 ^ 24 * 2 ^ 127)
  pub has_room : nat_abs z < 16 ^ 48

-- over any list that a slice can hold
abbrev pub AlwaysFits : Type 0
AlwaysFits = (l : List (List ℕ)) → length l ≤ 64 → Fits (sum88 l)

-- what a digit's character stands for
abbrev pub digit_value : ℕ → ℕ
digit_value c = cond (ltb c 65) (c - 48) (c - 55)

-- whether every character is one of 0 to 9 or A to F
abbrev pub all_hex : List ℕ → Bool
all_hex [] = true
all_hex (c ∷ l) = cond (cond (leb 48 c) (cond (ltb c 58) true (cond (leb 65 c) (ltb c 71) false)) false) (all_hex l) false

-- the number that digits stand for, after a number that stands before them
abbrev pub read_from : ℕ → List ℕ → ℕ
read_from n [] = n
read_from n (c ∷ l) = read_from (16 * n + digit_value c) l

-- 49 characters: the digits are the magnitude; the sign is plus exactly where the sum is not below zero
pub record Reads (z : ℤ) (text : List ℕ) : Type 0 where
  pub size_is : length text ≡ 49
  pub all_hex_lem : all_hex (drop 1 text) ≡ true
  pub number_is : read_from 0 (drop 1 text) ≡ nat_abs z
  pub plus_where : pos 0 ≤ℤ z → get_or text 0 0 ≡ 43
  pub plus_only : get_or text 0 0 ≡ 43 → pos 0 ≤ℤ z
  pub else_minus : z <ℤ pos 0 → get_or text 0 0 ≡ 45

-- of every list of sheets, the last 49 bytes are its sum
abbrev pub SumIsTold : Type 0
SumIsTold =
    (sheets : List ℕ) → is_sheets sheets ≡ true → Reads (sum88 (closed_sheets sheets))
    (drop 4 (figures_of (closed_sheets sheets)))

-- each number of a list stands once among its different ones, and no other does
abbrev pub EachOnce : Type 0
EachOnce = (x : ℕ) (l : List ℕ) → count x (once l) ≡ cond (eqb (count x l) 0) 0 1

-- a list of no sheets: four times 0, plus and 48 zeros
abbrev pub NoSheets : Type 0
NoSheets =
    (sheets : List ℕ) → is_sheets sheets ≡ true → number_in sheets ≡ 0
    → figures_call sheets (replicate 53 0) ≡ record { result = 0; out = 0 ∷ 0 ∷ 0 ∷ 0 ∷ 43 ∷ replicate 48 48 }
