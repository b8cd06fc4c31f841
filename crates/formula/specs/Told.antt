-- What the functions that read a part of a text tell of it, and what they leave written. Definitions only. Assumes nothing.
use Rattle.std.specs.Prelude.{ℕ, ◌+◌, ◌/◌, ◌%◌, ◌≤◌, ◌<◌, ◌≡◌, cond, List, eqb, length, drop, get_or}
use Prim.Native.Char.{code}
use Rattle.std.proofs.lemmas.List.Edits.{sets}
use Rattle.formula.specs.Formula.{Formula}
use Rattle.formula.specs.Reader.{Read, Found, Outside, Reader, Sign, Joins, Ends, sum_sign, product_sign}
use Rattle.formula.specs.File.{code_of}
use Rattle.formula.specs.declared.parts.Rank.{Rank}
use Rattle.formula.specs.declared.parts.Rank.TheVariants.{Sum, Product}
use Rattle.formula.specs.Postfix.{postfix_of}

-- ---- limits

-- the most bytes of a text
abbrev pub most_text : ℕ
most_text = 256

-- more bytes than a file has: eight for each byte of the text
abbrev pub most_file : ℕ
most_file = 2048

-- ---- places
-- A place is one number: 512 times the bytes of postfix before it, and the bytes of the text before it. Where `a*b` was read from the front, 3 bytes of text
-- and 3 of postfix (`a`, `b` and the code of FMUL) lie before it: 512 * 3 + 3.

-- the bytes of the text before a place
unfoldable pub at_of : ℕ → ℕ
at_of p = p % 512

-- the bytes of postfix before it
unfoldable pub end_of : ℕ → ℕ
end_of p = p / 512

-- the place after no part: past every text
abbrev pub nowhere : ℕ
nowhere = 511

-- the place behind the closing bracket that follows, nowhere where none does
abbrev pub closed_at : List ℕ → ℕ → ℕ
closed_at text p = cond (eqb (get_or text (at_of p) 0) (code ")")) (p + 1) nowhere

-- one byte of postfix more
abbrev pub longer_of : ℕ → ℕ
longer_of p = cond (eqb p nowhere) nowhere (p + 512)

-- the signs of a rank
abbrev pub sign_of : Rank → ℕ → Sign
sign_of Sum = sum_sign
sign_of Product = product_sign

-- the code of a sign's command, 0 where it joins nothing
abbrev pub sign_code : Sign → ℕ
sign_code (Joins o) = code_of o
sign_code Ends = 0

-- ---- a reading: from a place of the text on

-- what it asks: at most 256 bytes of text, a place in it, and no more postfix than text before it
pub record Asks (text : List ℕ) (place : ℕ) : Type 0 where
  pub short : length text ≤ most_text
  pub inside : at_of place ≤ length text
  pub few : end_of place ≤ at_of place

-- the place where it begins and the one behind it, the postfix stored before it and what is stored after it
pub record Move : Type 0 where
  pub place : ℕ
  pub next : ℕ
  pub before : List ℕ
  pub after : List ℕ

-- the formula f was found, and `rest` is the text behind it: its postfix is stored behind what stood before, and has no more bytes than its text
pub record FoundTo (text : List ℕ) (m : Move) (f : Formula) (rest : List ℕ) : Type 0 where
  pub rest_is : rest ≡ drop (at_of m.next) text
  pub end_is : end_of m.next ≡ end_of m.place + length (postfix_of f)
  pub stored_is : m.after ≡ sets m.before (end_of m.place) (postfix_of f)
  pub later : at_of m.place < at_of m.next
  pub inside : at_of m.next ≤ length text
  pub few : end_of m.next + at_of m.place ≤ end_of m.place + at_of m.next

-- what is told of a formula, and of none: then the place behind it is nowhere
abbrev pub ReadTo : List ℕ → Move → Read → Type 0
ReadTo text m (Found f rest) = FoundTo text m f rest
ReadTo text m Outside = m.next ≡ nowhere

-- a function that reads x from a place on
pub record Reads (text : List ℕ) (m : Move) (x : Read) : Type 0 where
  pub told : ReadTo text m x

-- a reader's answer to the text from the place on
abbrev pub ReadsBy : Reader → List ℕ → Move → Type 0
ReadsBy reader text m = Reads text m (reader (drop (at_of m.place) text))
