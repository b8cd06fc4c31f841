-- 02, request 7: a formula as a tree, the text that it is written as, the stack words that it needs, its record file
-- and its plain evaluation.
-- Definitions only. Assumes nothing.
use Rattle.std.specs.Prelude.{ℕ, suc, ◌+◌, ◌*◌, ◌-◌, ◌/◌, ◌%◌, ◌≤◌, ◌<◌, max, ◌≡◌, Bool, true, ◌&&◌, ◌||◌, cond, List, [], ◌∷◌, ◌++◌, leb, length, take, drop}
use Prim.Native.Char.{code}
use Rattle.terms.specs.declared.Rule.{Rule}
use Rattle.float.specs.Float.{add, sub, mul, div}
use Rattle.float.specs.Convert.{chsf}
use Rattle.promises.specs.Stack.{number_from}
use Rattle.promises.specs.FloatWords.{proper}

-- ---- trees
-- `+`, `-`, `*`, `/`
pub data Operator : Type 0 where
  Plus Less Times Over : Operator

-- letters a to h are 0 to 7; a constant has its digits as they are written; an operation has its left and its right
pub data Formula : Type 0 where
  Letter : ℕ → Formula
  Constant : List ℕ → Formula
  Minus : Formula → Formula
  Brackets : Formula → Formula
  Joined : Operator → Formula → Formula → Formula

-- the most "brackets and minus signs" that a place stands inside
abbrev pub nested : Formula → ℕ
nested (Letter k) = 0
nested (Constant s) = 0
nested (Minus f) = suc (nested f)
nested (Brackets f) = suc (nested f)
nested (Joined o l r) = max (nested l) (nested r)

-- "A leaf needs one stack word, a minus what its factor needs, an operation the greater of what its left needs and one
-- more than its right needs."
abbrev pub need_of : Formula → ℕ
need_of (Letter k) = 1
need_of (Constant s) = 1
need_of (Minus f) = need_of f
need_of (Brackets f) = need_of f
need_of (Joined o l r) = max (need_of l) (suc (need_of r))

-- ---- texts
-- an upper-case hex digit: 0 to 9 or A to F
abbrev pub is_digit : ℕ → Bool
is_digit b = (leb (code "0") b && leb b (code "9")) || (leb (code "A") b && leb b (code "F"))

abbrev pub are_digits : List ℕ → Bool
are_digits [] = true
are_digits (b ∷ s) = is_digit b && are_digits s

mutual
  -- "a sum of products joined by plus or minus", "Left to right at equal rank": the left of a sign is a sum, its right
  -- one product
  pub data IsSum : List ℕ → Formula → Type 0 where
    product : {text : List ℕ} {f : Formula} → IsProduct text f → IsSum text f
    plus : {text s t : List ℕ} {f g : Formula} → IsSum s f → IsProduct t g → text ≡ s ++ (code "+" ∷ t)
        → IsSum text (Joined Plus f g)
    less : {text s t : List ℕ} {f g : Formula} → IsSum s f → IsProduct t g → text ≡ s ++ (code "-" ∷ t)
        → IsSum text (Joined Less f g)

  -- "a product is made of factors joined by `*` or `/`", left to right
  pub data IsProduct : List ℕ → Formula → Type 0 where
    factor : {text : List ℕ} {f : Formula} → IsFactor text f → IsProduct text f
    times : {text s t : List ℕ} {f g : Formula} → IsProduct s f → IsFactor t g → text ≡ s ++ (code "*" ∷ t)
        → IsProduct text (Joined Times f g)
    over : {text s t : List ℕ} {f g : Formula} → IsProduct s f → IsFactor t g → text ≡ s ++ (code "/" ∷ t)
        → IsProduct text (Joined Over f g)

  -- "Factors: letters a to h, a hash with eight upper-case hex digits, a minus before a factor, brackets" round a whole
  -- formula; "no blanks"
  pub data IsFactor : List ℕ → Formula → Type 0 where
    letter : {text : List ℕ} {k : ℕ} → k < 8 → text ≡ (code "a" + k) ∷ [] → IsFactor text (Letter k)
    constant : {text s : List ℕ} → length s ≡ 8 → are_digits s ≡ true → text ≡ code "#" ∷ s → IsFactor text (Constant s)
    minus : {text s : List ℕ} {f : Formula} → IsFactor s f → text ≡ code "-" ∷ s → IsFactor text (Minus f)
    brackets : {text s : List ℕ} {f : Formula} → IsSum s f → text ≡ code "(" ∷ (s ++ (code ")" ∷ []))
        → IsFactor text (Brackets f)

-- a text that is taken as this formula: of 1 to 256 bytes, inside the grammar, brackets and minus signs nested at most
-- 16 deep
pub record IsText (text : List ℕ) (f : Formula) : Type 0 where
  pub some : 1 ≤ length text
  pub short : length text ≤ 256
  pub inside : IsSum text f
  pub shallow : nested f ≤ 16

-- ---- words
-- "words for all eight letters as 32 bytes, each word's top byte first": that of letter k, 0 for a
abbrev pub letter_word : List ℕ → ℕ → ℕ
letter_word letters k = number_from 0 (take 4 (drop (4 * k) letters))

-- the value of a digit 0 to 9 or A to F
abbrev pub digit_value : ℕ → ℕ
digit_value b = cond (leb b (code "9")) (b - code "0") (b - code "A" + 10)

-- the number that digits stand for, the top one first; a is the number of the digits before them
abbrev pub hex_from : ℕ → List ℕ → ℕ
hex_from a [] = a
hex_from a (b ∷ s) = hex_from (a * 16 + digit_value b) s

-- "a constant's word, or that of a letter in the text", is proper
abbrev pub proper_in : List ℕ → Formula → Bool
proper_in letters (Letter k) = proper (letter_word letters k)
proper_in letters (Constant s) = proper (hex_from 0 s)
proper_in letters (Minus f) = proper_in letters f
proper_in letters (Brackets f) = proper_in letters f
proper_in letters (Joined o l r) = proper_in letters l && proper_in letters r

-- ---- the file
-- a push record of a word, its low byte first
abbrev pub push_record : ℕ → List ℕ
push_record w = 6 ∷ 0 ∷ 1 ∷ 0 ∷ w % 256 ∷ w / 256 % 256 ∷ w / 65536 % 256 ∷ w / 16777216 % 256 ∷ []

-- a command record
abbrev pub command_record : ℕ → List ℕ
command_record command = 3 ∷ 0 ∷ 3 ∷ 0 ∷ command ∷ []

-- FADD, FSUB, FMUL, FDIV, "with sr 0"
abbrev pub code_of : Operator → ℕ
code_of Plus = 0x10
code_of Less = 0x11
code_of Times = 0x12
code_of Over = 0x13

-- "In postfix order, each operand is one push record and each operation or minus one command record with sr 0." A minus
-- is CHSF, 15
abbrev pub file_of : List ℕ → Formula → List ℕ
file_of letters (Letter k) = push_record (letter_word letters k)
file_of letters (Constant s) = push_record (hex_from 0 s)
file_of letters (Minus f) = file_of letters f ++ command_record 0x15
file_of letters (Brackets f) = file_of letters f
file_of letters (Joined o l r) = file_of letters l ++ (file_of letters r ++ command_record (code_of o))

-- the replies to its records, each of them 0: kind 1 or 3 with 128 added, no data
abbrev pub replies_to : Formula → List ℕ
replies_to (Letter k) = 3 ∷ 0 ∷ 129 ∷ 0 ∷ 0 ∷ []
replies_to (Constant s) = 3 ∷ 0 ∷ 129 ∷ 0 ∷ 0 ∷ []
replies_to (Minus f) = replies_to f ++ (3 ∷ 0 ∷ 131 ∷ 0 ∷ 0 ∷ [])
replies_to (Brackets f) = replies_to f
replies_to (Joined o l r) = replies_to l ++ (replies_to r ++ (3 ∷ 0 ∷ 131 ∷ 0 ∷ 0 ∷ []))

-- ---- "plain evaluation of the formula .., each operation as in 01, flagged words carried on"
-- the word that an operation gives, whatever error it sets: B is its left and A its right
abbrev pub worked : Rule → Operator → ℕ → ℕ → ℕ
worked rule Plus b a = (add rule b a).word
worked rule Less b a = (sub rule b a).word
worked rule Times b a = (mul rule b a).word
worked rule Over b a = (div rule b a).word

-- the word of a formula, by the rule for float results
abbrev pub evaluated : Rule → List ℕ → Formula → ℕ
evaluated rule letters (Letter k) = letter_word letters k
evaluated rule letters (Constant s) = hex_from 0 s
evaluated rule letters (Minus f) = chsf (evaluated rule letters f)
evaluated rule letters (Brackets f) = evaluated rule letters f
evaluated rule letters (Joined o l r) = worked rule o (evaluated rule letters l) (evaluated rule letters r)
