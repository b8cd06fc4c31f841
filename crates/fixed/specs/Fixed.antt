-- Fixed-point arithmetic on words of n bits: 01's table 'Fixed point', row by row. Definitions only. Assumes nothing.
-- Every definition is over h = `half n`, 2 ^ (n - 1), half of the number of words. h is also the word of the least value.
use Rattle.std.specs.Prelude.{◌≡◌, ℕ, suc, ◌+◌, ◌-◌, ◌*◌, ◌%◌, ◌^◌, ◌<◌, Bool, true, false, cond, not, ◌&&◌, ◌||◌, ℤ, pos, negsuc, ◌+ℤ◌, ◌-ℤ◌, ◌*ℤ◌, neg_ℤ, ◌==◌, int_div, int_le, int_lt, nat_le, nat_lt}
use Rattle.std.proofs.Math.IntN.{sub_ℕ}
use Rattle.std.specs.Int.Signed.{shr_z}
use Rattle.terms.specs.Errors.{overflow, divide_by_zero}
use Rattle.fixed.specs.declared.Fixed.{Fixed}

abbrev pub half : ℕ → ℕ
half n = 2 ^ (n - 1)

-- ---- two's complement

-- the value of a word: itself below h, itself less 2 ^ n from h on
abbrev pub signed : ℕ → ℕ → ℤ
signed h w = cond (nat_lt w h) (pos w) (sub_ℕ w (2 * h))

-- from -h to h - 1
abbrev pub fits : ℕ → ℤ → Bool
fits h z = int_le (neg_ℤ (pos h)) z && int_lt z (pos h)

-- r is the low n bits of a whole number z: a word, and z less a multiple of 2 ^ n
pub record LowBits (h : ℕ) (z : ℤ) (r : ℕ) : Type 0 where
  pub word : r < 2 * h
  pub multiple : ℤ
  pub whole : z ≡ multiple *ℤ pos (2 * h) +ℤ pos r

-- a function that finds them; `negsuc k` is -(k + 1)
unfoldable pub low : ℕ → ℤ → ℕ
low h (pos k) = k % (2 * h)
low h (negsuc k) = 2 * h - suc (k % (2 * h))

-- whether a word is that of the most negative value, h
abbrev pub is_least : ℕ → ℕ → Bool
is_least h w = w == h

abbrev pub either_least : ℕ → ℕ → ℕ → Bool
either_least h b a = is_least h b || is_least h a

-- ---- the answer: a word R, 01's error number and the carry

abbrev pub outcome : ℕ → ℕ → Bool → Fixed
outcome r error carry = record { word = r; error = error; carry = carry }

-- overflow where the result overflows, else none
abbrev pub overflow_if : Bool → ℕ
overflow_if true = overflow
overflow_if false = 0

-- ---- where ADD, SUB and MUL overflow

-- the exact sum does not fit
abbrev pub add_overflow : ℕ → ℕ → ℕ → Bool
add_overflow h b a = not (fits h (signed h b +ℤ signed h a))

-- the exact difference does not fit, or A is least, whatever B is (000 and 001, SSUB and DSUB)
abbrev pub sub_overflow : ℕ → ℕ → ℕ → Bool
sub_overflow h b a = is_least h a || not (fits h (signed h b -ℤ signed h a))

-- the exact product does not fit
abbrev pub mul_overflow : ℕ → ℕ → ℕ → Bool
mul_overflow h b a = not (fits h (signed h b *ℤ signed h a))

-- ---- the rows

-- the row 'A or B least', before a general row: least, overflow
abbrev pub unless_least : ℕ → ℕ → ℕ → Fixed → Fixed
unless_least h b a general = cond (either_least h b a) (outcome h (overflow_if true) false) general

-- ADD: B + A, low n bits; the carry is the carry out
unfoldable pub add : ℕ → ℕ → ℕ → Fixed
unfolding low
add h b a = outcome (low h (signed h b +ℤ signed h a)) (overflow_if (add_overflow h b a)) (nat_le (2 * h) (b + a))

-- SUB: B - A, low n bits; the carry is the borrow
unfoldable pub sub : ℕ → ℕ → ℕ → Fixed
unfolding low
sub h b a = outcome (low h (signed h b -ℤ signed h a)) (overflow_if (sub_overflow h b a)) (nat_lt b a)

-- MUL: the low half of the product
unfoldable pub mul : ℕ → ℕ → ℕ → Fixed
unfolding low
mul h b a = unless_least h b a (outcome (low h (signed h b *ℤ signed h a)) (overflow_if (mul_overflow h b a)) false)

-- MUU: the upper half of the product, floor of product / 2 ^ n
unfoldable pub muu : ℕ → ℕ → ℕ → Fixed
unfolding low
muu h b a = unless_least h b a (outcome (low h (shr_z (signed h b *ℤ signed h a) (2 * h))) (overflow_if false) false)

-- DIV: B / A cut toward zero; with A = 0 the result is B and the error divide by zero
unfoldable pub div : ℕ → ℕ → ℕ → Fixed
unfolding low
div h b a =
    cond (a == 0)
    (outcome b divide_by_zero false)
    (unless_least h b a (outcome (low h (int_div (signed h b) (signed h a))) (overflow_if false) false))

-- CHSS, CHSD: 0 - A; the least value stays and overflows
unfoldable pub chs : ℕ → ℕ → Fixed
unfolding low
chs h a = outcome (low h (neg_ℤ (signed h a))) (overflow_if (is_least h a)) false
