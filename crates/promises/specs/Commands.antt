-- Demand 2, stack, status and service line: one law for each row of 01's tables of commands, over the width where two
-- widths share it.
-- Definitions and the statement only: proofs/Commands.antt proves it. Assumes nothing.
use Rattle.std.specs.Prelude.{ℕ, suc, ◌+◌, ◌-◌, ◌*◌, ◌%◌, ◌^◌, ◌≤◌, ◌<◌, ◌≡◌, ◌⊎◌, Bool, true, false, not, ◌||◌, ◌&&◌, cond, List, ◌++◌, leb, ltb, eqb, ℤ, pos, negsuc, neg_ℤ, nat_abs, ◌+ℤ◌, ◌-ℤ◌, ◌*ℤ◌, length}
use Rattle.std.proofs.Math.IntN.{sub_ℕ}
use Rattle.std.specs.Float.Ieee.{unlike}
use Rattle.std.specs.Int.Signed.{le_z, lt_z, quot_z, shr_z}
use Rattle.terms.specs.declared.Refusal.{Refusal}
use Rattle.terms.specs.declared.Refusal.TheVariants.{Improper}
use Rattle.terms.specs.declared.Width.{Width}
use Rattle.terms.specs.declared.Width.TheVariants.{Single, Double}
use Rattle.terms.specs.declared.Rule.{Rule}
use Rattle.float.specs.Float.{add, sub, mul, div}
use Rattle.float.specs.Convert.{fltd, flts}
use Rattle.codes.specs.Command.{Command}
use Rattle.codes.specs.Command.{Nop, Add, Sub, Mul, Muu, Div, Chs, Float, Chsf, Flt, Fix, Pto}
use Rattle.codes.specs.Command.{Pop, Xch, Pupi}
use Rattle.codes.specs.declared.FloatOp.{FloatOp}
use Rattle.codes.specs.declared.FloatOp.TheVariants.{Add as FAdd, Sub as FSub, Mul as FMul, Div as FDiv}
use Rattle.codes.specs.Command.{Known}
use Rattle.codes.specs.Codes.{decoded}
use Rattle.promises.specs.Subjects.{State, command_under}
use Rattle.promises.specs.Stack.{size_of, bits_of, bytes_of, zeros}
use Rattle.promises.specs.FloatWords.{with_sign, negative, mantissa, proper, FloatWord, below0}
use Rattle.promises.specs.FloatResults.{whole_part, complement}
use Rattle.promises.specs.BusEvents.{pi_word, done, refused}

-- ---- words of a width, in two's complement
-- the word of the most negative value, 2 ^ (n - 1), and how many words there are
abbrev pub least : Width → ℕ
least w = 2 ^ (bits_of w - 1)

abbrev pub words : Width → ℕ
words w = 2 * least w

-- the value of a word: itself below 2 ^ (n - 1), itself less 2 ^ n from there on
abbrev pub value_in : Width → ℕ → ℤ
value_in w a = cond (ltb a (least w)) (pos a) (sub_ℕ a (words w))

-- whether a whole number fits: from -2 ^ (n - 1) to 2 ^ (n - 1) - 1
abbrev pub fits_in : Width → ℤ → Bool
fits_in w z = le_z (neg_ℤ (pos (least w))) z && lt_z z (pos (least w))

-- the low n bits of a whole number; `negsuc k` is -(k + 1)
abbrev pub low_of : ℕ → ℤ → ℕ
low_of most (pos k) = k % most
low_of most (negsuc k) = most - suc (k % most)

abbrev pub low_in : Width → ℤ → ℕ
low_in w z = low_of (words w) z

-- error 0001 where a result overflows, else none
abbrev pub overflow_if : Bool → ℕ
overflow_if true = 1
overflow_if false = 0

-- a word's bytes on the stack, the most significant nearest the top, over what lies below
abbrev pub word : Width → ℕ → List ℕ → List ℕ
word w a below = bytes_of (size_of w) a ++ below

-- ---- what an accepted command leaves
-- bit 6 the sign and bit 5 the zero of the new TOS r, bits 4 to 1 the error, bit 0 the carry
abbrev pub status_by : Width → ℕ → ℕ → Bool → ℕ
status_by w r error carry = cond (leb (least w) r) 64 0 + cond (eqb r 0) 32 0 + error * 2 + cond carry 1 0

-- a state with nothing pending
abbrev pub holding : List ℕ → ℕ → Bool → State
holding stack status service = record { stack = stack; pending = false; status = status; service = service }

-- the command k, given with either bit 7, from any status that is not busy and either service line, takes the stack
-- 'before' to the word r over 'below':
-- answered 0, no byte read, nothing pending, status afresh by r, service line as bit 7 says
abbrev pub Leaves : Rule → Command → List ℕ → Width → ℕ → ℕ → Bool → List ℕ → Type 0
Leaves rule k before w r error carry below =
    (code status : ℕ) (service : Bool) → decoded (code % 128) ≡ Known k → status < 128
    → command_under rule (holding before status service) code
    ≡ done 0 (holding (word w r below) (status_by w r error carry) (leb 128 code))

-- the command k is refused and the state is as before
abbrev pub Refuses : Rule → Command → List ℕ → Refusal → Type 0
Refuses rule k before refusal =
    (code status : ℕ) (service : Bool) → decoded (code % 128) ≡ Known k → status < 128
    → command_under rule (holding before status service) code ≡ refused refusal (holding before status service)

-- from A, B, C.. to R, C.., bottom
abbrev pub Two : Rule → Width → Command → ℕ → ℕ → ℕ → ℕ → Bool → ℕ → Type 0
Two rule w k b a r error carry bottom = (cs : List ℕ)
    → Leaves rule k (word w a (word w b cs)) w r error carry (cs ++ bytes_of (size_of w) bottom)

-- ---- the rows of the table 'Fixed point'
pub record FixedRows (rule : Rule) (w : Width) : Type 0 where
  -- ADD: low n bits of B + A; overflow if the exact sum does not fit; carry out; bottom holds A
  pub add_row : (b a : ℕ) → b < words w → a < words w
      → Two rule w (Add w) b a ((b + a) % words w) (overflow_if (not (fits_in w (value_in w b +ℤ value_in w a))))
      (leb (words w) (b + a)) a
  -- SUB: low n bits of B - A; overflow if the exact difference does not fit, and for every B where A is least; borrow;
  -- bottom holds A
  pub sub_row : (b a : ℕ) → b < words w → a < words w
      → Two rule w (Sub w) b a ((b + words w - a) % words w)
      (overflow_if (eqb a (least w) || not (fits_in w (value_in w b -ℤ value_in w a)))) (ltb b a) a
  -- MUL: low half of the product; overflow if the exact product does not fit; bottom 0
  pub mul_row : (b a : ℕ) → b < words w → a < words w → (b ≡ least w → ⊥) → (a ≡ least w → ⊥)
      → Two rule w (Mul w) b a (low_in w (value_in w b *ℤ value_in w a))
      (overflow_if (not (fits_in w (value_in w b *ℤ value_in w a)))) false 0
  -- MUU: upper half of the product, floor of product / 2^n; no error; as MUL
  pub muu_row : (b a : ℕ) → b < words w → a < words w → (b ≡ least w → ⊥) → (a ≡ least w → ⊥)
      → Two rule w (Muu w) b a (low_in w (shr_z (value_in w b *ℤ value_in w a) (words w))) 0 false 0
  -- MUL, MUU with A or B least: least, overflow
  pub mul_least : (b a : ℕ) → b < words w → a < words w → (b ≡ least w) ⊎ (a ≡ least w)
      → Two rule w (Mul w) b a (least w) 1 false 0
  pub muu_least : (b a : ℕ) → b < words w → a < words w → (b ≡ least w) ⊎ (a ≡ least w)
      → Two rule w (Muu w) b a (least w) 1 false 0
  -- DIV: B / A cut toward zero
  pub div_row : (b a : ℕ) → b < words w → a < words w → (a ≡ 0 → ⊥) → (b ≡ least w → ⊥) → (a ≡ least w → ⊥)
      → Two rule w (Div w) b a (low_in w (quot_z (value_in w b) (value_in w a))) 0 false 0
  -- DIV, A = 0: B, divide by zero
  pub div-zero : (b : ℕ) → b < words w → Two rule w (Div w) b 0 b 8 false 0
  -- DIV, A not 0, A or B least: least, overflow
  pub div_least : (b a : ℕ) → b < words w → a < words w → (a ≡ 0 → ⊥) → (b ≡ least w) ⊎ (a ≡ least w)
      → Two rule w (Div w) b a (least w) 1 false 0
  -- CHSS, CHSD: 0 - A, least stays and overflows; only A replaced
  pub chs_row : (a : ℕ) → a < words w → (bs : List ℕ)
      → Leaves rule (Chs w) (word w a bs) w ((words w - a) % words w) (overflow_if (eqb a (least w))) false bs
  pub chs_least : (words w - least w) % words w ≡ least w

-- what the low bits of a whole number, and B / A cut toward zero, are
pub record WholeNumbers (w : Width) : Type 0 where
  -- the low bits are a word, and the number less a multiple of 2^n; where the number fits it is that word's value
  pub low_fits : (z : ℤ) → low_in w z < words w
  pub low_modulo : (z : ℤ) → z ≡ shr_z z (words w) *ℤ pos (words w) +ℤ pos (low_in w z)
  pub low_value : (z : ℤ) → fits_in w z ≡ true → value_in w (low_in w z) ≡ z
  -- |q| * |a| <= |b| < (|q| + 1) * |a|, and q is not above zero where one of b and a is below zero, nor below zero else
  pub cut_reached : (b a : ℤ) → nat_abs (quot_z b a) * nat_abs a ≤ nat_abs b
  pub cut_passed : (b a : ℤ) → 0 < nat_abs a → nat_abs b < (nat_abs (quot_z b a) + 1) * nat_abs a
  pub cut_sign : (b a : ℤ) → quot_z b a ≡ with_sign (unlike (below0 b) (below0 a)) (nat_abs (quot_z b a))

-- ---- POP, PTO, XCH, over the width; the F forms are the D ones
pub record MoveRows (rule : Rule) (w : Width) : Type 0 where
  -- POP: A goes to the bottom
  pub pop_row_lem : (b a : ℕ) → b < words w → (cs : List ℕ)
      → Leaves rule (Pop w) (word w a (word w b cs)) w b 0 false (cs ++ bytes_of (size_of w) a)
  -- PTO: A copied on top, bottom word lost
  pub pto_row : (a lost : ℕ) → a < words w → (bs : List ℕ) → length bs ≡ 16 - (size_of w + size_of w)
      → Leaves rule (Pto w) (word w a (bs ++ bytes_of (size_of w) lost)) w a 0 false (word w a bs)
  -- XCH: A and B change places
  pub xch_row : (b a : ℕ) → b < words w → (cs : List ℕ)
      → Leaves rule (Xch w) (word w a (word w b cs)) w b 0 false (word w a cs)

-- ---- the float commands on 32-bit words
pub record FloatRows (rule : Rule) : Type 0 where
  -- FADD, FSUB, FMUL, FDIV give B+A, B-A, BxA, B/A of proper words; R, C, D, 0
  pub fadd_row : (b a : ℕ) → FloatWord b → FloatWord a
      → Two rule Double (Float FAdd) b a (add rule b a).word (add rule b a).error false 0
  pub fsub_row : (b a : ℕ) → FloatWord b → FloatWord a
      → Two rule Double (Float FSub) b a (sub rule b a).word (sub rule b a).error false 0
  pub fmul_row : (b a : ℕ) → FloatWord b → FloatWord a
      → Two rule Double (Float FMul) b a (mul rule b a).word (mul rule b a).error false 0
  pub fdiv_row : (b a : ℕ) → FloatWord b → FloatWord a
      → Two rule Double (Float FDiv) b a (div rule b a).word (div rule b a).error false 0
  -- FDIV by zero: R = B, divide by zero
  pub fdiv_zero : (b : ℕ) → FloatWord b → Two rule Double (Float FDiv) b 0 b 8 false 0
  -- an operand that is not proper: 4
  pub improper : (op : FloatOp) (b a : ℕ) → b < words Double → a < words Double
      → (proper b ≡ false) ⊎ (proper a ≡ false) → (cs : List ℕ)
      → Refuses rule (Float op) (word Double a (word Double b cs)) Improper
  -- CHSF flips bit 31 where bit 23 is 1, else changes nothing; any word, proper or not
  pub chsf_sets : (a : ℕ) → 2 ^ 23 ≤ mantissa a → a < 2 ^ 31 → (bs : List ℕ)
      → Leaves rule Chsf (word Double a bs) Double (a + 2 ^ 31) 0 false bs
  pub chsf_clears : (a : ℕ) → 2 ^ 23 ≤ mantissa a → 2 ^ 31 ≤ a → a < words Double → (bs : List ℕ)
      → Leaves rule Chsf (word Double a bs) Double (a - 2 ^ 31) 0 false bs
  pub chsf_leaves : (a : ℕ) → mantissa a < 2 ^ 23 → a < words Double → (bs : List ℕ)
      → Leaves rule Chsf (word Double a bs) Double a 0 false bs

-- ---- the rows of the table of conversions
pub record ConversionRows (rule : Rule) : Type 0 where
  -- FLTD: A's value, cut; R, B, C, 0
  pub fltd_row : (a b c : ℕ) → a < words Double → (ds : List ℕ)
      → Leaves rule (Flt Double) (word Double a (word Double b (word Double c ds)))
      Double (fltd rule a).word 0 false (word Double b (word Double c (zeros 4)))
  -- FLTS: A's value; R (two cells), 16-bit B, C, D, E, 0, 0
  pub flts_row : (a b c d e : ℕ) → a < words Single → (fs : List ℕ)
      → Leaves rule (Flt Single) (word Single a (word Single b (word Single c (word Single d (word Single e fs)))))
      Double (flts a).word 0 false
      (word Single b (word Single c (word Single d (word Single e (zeros 4)))))
  -- FIXD: whole part of A toward zero; R, B, C, 0
  pub fixd_row : (a b c : ℕ) → FloatWord a → whole_part a < 2 ^ 31 → (ds : List ℕ)
      → Leaves rule (Fix Double) (word Double a (word Double b (word Double c ds)))
      Double (complement (2 ^ 31) (negative a) (whole_part a)) 0 false (word Double b (word Double c (zeros 4)))
  -- FIXS: the same, 16 bits; R (one cell), 32-bit B, C, then three zero cells
  pub fixs_row : (a b c : ℕ) → FloatWord a → whole_part a < 2 ^ 15 → (ds : List ℕ)
      → Leaves rule (Fix Single) (word Double a (word Double b (word Double c ds)))
      Single (complement (2 ^ 15) (negative a) (whole_part a)) 0 false (word Double b (word Double c (zeros 6)))
  -- FIXD, FIXS, magnitude of the whole part over 2^31-1 or 32,767: A unchanged, overflow; A, B, C, 0; status by the
  -- 32-bit A
  pub fixd_over : (a b c : ℕ) → FloatWord a → 2 ^ 31 ≤ whole_part a → (ds : List ℕ)
      → Leaves rule (Fix Double) (word Double a (word Double b (word Double c ds)))
      Double a 1 false (word Double b (word Double c (zeros 4)))
  pub fixs_over : (a b c : ℕ) → FloatWord a → 2 ^ 15 ≤ whole_part a → (ds : List ℕ)
      → Leaves rule (Fix Single) (word Double a (word Double b (word Double c ds)))
      Double a 1 false (word Double b (word Double c (zeros 4)))
  -- FIXD, FIXS of a word that is not proper: 4
  pub fix_improper : (w : Width) (a : ℕ) → a < words Double → proper a ≡ false → (bs : List ℕ)
      → Refuses rule (Fix w) (word Double a bs) Improper

-- ---- the statement
pub record Rows (rule : Rule) : Type 0 where
  pub fixed_point : (w : Width) → FixedRows rule w
  pub whole_numbers : (w : Width) → WholeNumbers w
  pub moves : (w : Width) → MoveRows rule w
  pub float_point : FloatRows rule
  pub conversions : ConversionRows rule
  -- PUPI: pushes pi, 02C90FDA where results are cut, bottom 32-bit word lost
  pub pupi_row : (lost : ℕ) (abc : List ℕ) → length abc ≡ 12
      → Leaves rule Pupi (abc ++ bytes_of 4 lost) Double (pi_word rule) 0 false abc
  -- NOP clears the whole status, and leaves the stack
  pub nop_row : (stack : List ℕ) (code status : ℕ) (service : Bool) → decoded (code % 128) ≡ Known Nop → status < 128
      → command_under rule (holding stack status service) code ≡ done 0 (holding stack 0 (leb 128 code))

-- demand 2 of the chip as it stands
abbrev pub Commands : Type 0
Commands = (rule : Rule) → Rows rule
