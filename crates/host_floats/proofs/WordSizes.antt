-- The size of a proper word, from 24 digits to 151, and a word put together from its fields. Assumes nothing.
use mathlib.Core.Path.{◌≡◌, refl, ap₂}
use mathlib.Core.Logic.{◌⊎◌, inl, inr}
use mathlib.Core.Bool.{Bool, true, false, ◌||◌, cond}
use Prim.Native.Nat.{ℕ, ◌+◌, ◌*◌, ◌%◌, ◌^◌, ◌≤◌, ◌<◌}
use native.Mathlib.Nat.{zero-mul, mul-le-mul_left, mul-lt-mul_of_pos_right, lt_of_le_of_lt}
use native.Mathlib.Omega.{arith}
use lib.Dec.{leb, eqb}
use lib.Pow.{pow_pos, pow_mono}
use borrow.Author.Tests.{le-leb, lt-leb, leb-true, eqb-true}
use Rattle.float.specs.Word.{negative, biased, mantissa, proper, size88}

pub proper_cases : (w : ℕ) → proper w ≡ true → (8388608 ≤ mantissa w) ⊎ (w ≡ 0)
proper_cases w e = go (leb 8388608 (mantissa w)) (eqb w 0) (leb-true 8388608 (mantissa w)) (eqb-true w 0) e
  where
    go : (s t : Bool) → (s ≡ true → 8388608 ≤ mantissa w) → (t ≡ true → w ≡ 0) → s || t ≡ true → (8388608 ≤ mantissa w) ⊎ (w ≡ 0)
    go true t f g e = inl (f refl)
    go false t f g e = inr (g e)

pub size_zero : size88 0 ≡ 0
unfolding size88
size_zero = zero-mul (2 ^ biased 0)

-- the size of a word with bit 23 set has 24 digits at least, and no word's has more than 151
pub size_some : (w : ℕ) → 8388608 ≤ mantissa w → 8388608 ≤ size88 w
unfolding size88
size_some w h =
    let g : mantissa w * 1 ≤ mantissa w * 2 ^ biased w = mul-le-mul_left (mantissa w) (pow_pos (biased w)) in
    omega arith

pub size-lt : (w : ℕ) → size88 w < 2 ^ 151
unfolding size88
size-lt w =
    lt_of_le_of_lt (mul-le-mul_left (mantissa w) (pow_mono {i = biased w} {j = 127} (omega arith)))
    (mul-lt-mul_of_pos_right {m = mantissa w} {n = 16777216} {k = 2 ^ 127} (omega arith) (pow_pos 127))

-- ---- a word put together from a sign, an exponent's bits and a mantissa
abbrev pub packed : Bool → ℕ → ℕ → ℕ
packed s y m = cond s 2147483648 0 + y * 16777216 + m

pub packed_mantissa : (s : Bool) (y m : ℕ) → y < 128 → m < 16777216 → mantissa (packed s y m) ≡ m
packed_mantissa true y m h k = omega arith
packed_mantissa false y m h k = omega arith

pub packed_biased : (s : Bool) (y m : ℕ) → y < 128 → m < 16777216 → biased (packed s y m) ≡ (y + 64) % 128
packed_biased true y m h k = omega arith
packed_biased false y m h k = omega arith

pub packed_negative : (s : Bool) (y m : ℕ) → y < 128 → m < 16777216 → negative (packed s y m) ≡ s
packed_negative true y m h k = le-leb 2147483648 (2147483648 + y * 16777216 + m) (omega arith)
packed_negative false y m h k = lt-leb 2147483648 (0 + y * 16777216 + m) (omega arith)

pub packed_lt : (s : Bool) (y m : ℕ) → y < 128 → m < 16777216 → packed s y m < 4294967296
packed_lt true y m h k = omega arith
packed_lt false y m h k = omega arith

pub size_is : (w m e : ℕ) → mantissa w ≡ m → biased w ≡ e → size88 w ≡ m * 2 ^ e
unfolding size88
size_is w m e M E = ap₂ (λ (x y : ℕ). x * 2 ^ y) M E
