-- What stands under a name in the definitions, written out: 01's limits and refusal numbers, Figure 8 of 001 code by
-- code, the bytes of a word, the fields of a float word and of the status. Definitions and the statement only:
-- proofs/Figures.antt proves it. Assumes nothing.
use Rattle.std.specs.Prelude.{ℕ, zero, suc, ◌+◌, ◌*◌, ◌/◌, ◌%◌, ◌^◌, ◌≤◌, ◌<◌, ◌≡◌, Bool, true, false, cond, List, [], ◌∷◌, ◌++◌, map, pos, neg_ℤ, replicate}
use Rattle.terms.specs.declared.Refusal.TheVariants.{Done, UnknownCode, DerivedCode, HalfWord, Improper, NoSuchKind}
use Rattle.terms.specs.declared.Refusal.TheVariants.{CutShort, BadLength, NoRoom, InputTooLong, NotFinite, TooLarge}
use Rattle.terms.specs.declared.Refusal.TheVariants.{TooSmall, BadState, BadReport, MinusZero, BadMode, BadRule}
use Rattle.terms.specs.declared.Refusal.TheVariants.{PartEntry}
use Rattle.terms.specs.declared.Width.{Width}
use Rattle.terms.specs.declared.Width.TheVariants.{Single, Double}
use Rattle.codes.specs.declared.FloatOp.TheVariants.{Add as FAdd, Sub as FSub, Mul as FMul, Div as FDiv}
use Rattle.codes.specs.Command.{Nop, Add, Sub, Mul, Muu, Div, Chs, Float, Chsf, Flt, Fix, Pto}
use Rattle.codes.specs.Command.{Pop, Xch, Pupi, Sqrt}
use Rattle.codes.specs.Command.{Kind}
use Rattle.codes.specs.Command.{Known, Derived, Unknown}
use Rattle.codes.specs.Codes.{decoded}
use Rattle.promises.specs.Stack.{size_of, bits_of, bytes_of, low_first, tos}
use Rattle.promises.specs.RefusalNumbers.{number_of}
use Rattle.promises.specs.FloatWords.{proper, value}
use Rattle.promises.specs.BusEvents.{error_of}

-- ---- Figure 8 as a chart of 128 codes, sixteen to a row
abbrev pub unknowns : ℕ → List Kind
unknowns n = replicate n Unknown

-- 00 to 0F: NOP, SQRT, ten derived functions
abbrev pub row0 : List Kind
row0 = Known Nop ∷ Known Sqrt ∷ (replicate 10 Derived ++ unknowns 4)

-- 10 to 1F: FADD, FSUB, FMUL, FDIV, -, CHSF, -, PTOF, POPF, XCHF, PUPI, -, FLTD, FLTS, FIXD, FIXS
abbrev pub row1 : List Kind
row1 =
    Known (Float FAdd) ∷ Known (Float FSub) ∷ Known (Float FMul) ∷ Known (Float FDiv)
    ∷ Unknown ∷ Known Chsf ∷ Unknown ∷ Known (Pto Double)
    ∷ Known (Pop Double) ∷ Known (Xch Double) ∷ Known Pupi ∷ Unknown
    ∷ Known (Flt Double) ∷ Known (Flt Single) ∷ Known (Fix Double) ∷ Known (Fix Single) ∷ []

-- 20 to 2F: DADD, DSUB, DMUL, DDIV last; 60 to 6F the same at 16 bits
abbrev pub arithmetic : Width → List Kind
arithmetic w = unknowns 12 ++ (Known (Add w) ∷ Known (Sub w) ∷ Known (Mul w) ∷ Known (Div w) ∷ [])

-- 30 to 3F: CHSD at 34, DMUU, PTOD, POPD, XCHD from 36; 70 to 7F the same at 16 bits
abbrev pub others : Width → List Kind
others w =
    unknowns 4
    ++ (Known (Chs w) ∷ Unknown ∷ Known (Muu w) ∷ Known (Pto w) ∷ Known (Pop w) ∷ Known (Xch w) ∷ unknowns 6)

abbrev pub chart : List Kind
chart =
    row0 ++ (row1 ++ (arithmetic Double ++ (others Double
    ++ (unknowns 32 ++ (arithmetic Single ++ others Single)))))

-- the n codes from one on
abbrev pub from : ℕ → ℕ → List ℕ
from zero code = []
from (suc n) code = code ∷ from n (suc code)

-- ---- float words
-- the word of a sign, of an exponent e with k = e + 64 from 0 to 127, and of a mantissa m: e in two's complement in
-- bits 30 to 24
abbrev pub word_with : Bool → ℕ → ℕ → ℕ
word_with sign k m = cond sign 2147483648 0 + (k + 64) % 128 * 16777216 + m

-- ---- the statement
pub record Figures : Type 0 where
  -- words of 2 and 4 bytes
  pub widths : (size_of Single ≡ 2) × (size_of Double ≡ 4) × (bits_of Single ≡ 16) × (bits_of Double ≡ 32)
  -- the column 'no.' of 01's table of refusals, and 02's 15 to 18
  pub refusals : map number_of (Done ∷ UnknownCode ∷ DerivedCode ∷ HalfWord ∷ Improper ∷ NoSuchKind ∷ CutShort
      ∷ BadLength ∷ NoRoom ∷ InputTooLong ∷ NotFinite ∷ TooLarge ∷ TooSmall ∷ BadState ∷ BadReport ∷ MinusZero ∷ BadMode
      ∷ BadRule ∷ PartEntry ∷ [])
      ≡ 0 ∷ 1 ∷ 2 ∷ 3 ∷ 4 ∷ 5 ∷ 6 ∷ 7 ∷ 8 ∷ 9 ∷ 10 ∷ 11 ∷ 12 ∷ 13 ∷ 14 ∷ 15 ∷ 16 ∷ 17 ∷ 18 ∷ []
  -- every code without its bit 7
  pub codes : map decoded (from 128 0) ≡ chart
  -- a word's most significant byte is nearest the top, and its low byte is pushed first
  pub two_bytes : (x : ℕ) → (bytes_of 2 x ≡ x / 256 % 256 ∷ x % 256 ∷ []) × (low_first 2 x ≡ x % 256 ∷ x / 256 % 256 ∷ [])
  pub four_bytes_lem : (x : ℕ) → (bytes_of 4 x ≡ x / 16777216 % 256 ∷ x / 65536 % 256 ∷ x / 256 % 256 ∷ x % 256 ∷ [])
      × (low_first 4 x ≡ x % 256 ∷ x / 256 % 256 ∷ x / 65536 % 256 ∷ x / 16777216 % 256 ∷ [])
  pub words_read : (a b c d : ℕ) (l : List ℕ)
      → (tos 2 (a ∷ b ∷ l) ≡ a * 256 + b) × (tos 4 (a ∷ b ∷ c ∷ d ∷ l) ≡ a * 16777216 + b * 65536 + c * 256 + d)
  -- a float word's value is sign times m times 2^(e-24): times 2^88, m times 2^(e+64); and every word is of such fields
  pub float_value : (k m : ℕ) → k < 128 → m < 16777216
      → (value (word_with false k m) ≡ pos (m * 2 ^ k)) × (value (word_with true k m) ≡ neg_ℤ (pos (m * 2 ^ k)))
  pub every_word : (w : ℕ) → w < 4294967296
      → (sign : Bool) × (k : ℕ) × (m : ℕ) × (k < 128) × (m < 16777216) × (w ≡ word_with sign k m)
  -- a proper word has bit 23 set or is all zeros
  pub proper_is : (sign : Bool) (k m : ℕ) → m < 16777216 → 8388608 ≤ m → proper (word_with sign k m) ≡ true
  pub proper_zero : proper 0 ≡ true
  pub improper_is : (w : ℕ) → w % 16777216 < 8388608 → (w ≡ 0 → ⊥) → proper w ≡ false
  -- bits 4 to 1 of a status are the error
  pub error_bits : (sign zero error carry : ℕ) → sign ≤ 1 → zero ≤ 1 → error < 16 → carry ≤ 1
      → error_of (sign * 64 + zero * 32 + error * 2 + carry) ≡ error
