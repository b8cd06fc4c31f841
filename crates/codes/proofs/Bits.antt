-- Figure 8 by the bits of a code: what an operation's number, or a part of its bits, stands for in each format, each law by one computation over its
-- numbers. Assumes nothing.
use mathlib.Core.Path.{◌≡◌, refl, sym, ap, ◌∙◌}
use mathlib.Core.Logic.{⊎_elim}
use mathlib.Core.Bool.{◌||◌, cond}
use mathlib.Core.List.{List, [], ◌∷◌}
use Prim.Native.Nat.{ℕ, zero, suc, ◌+◌, ◌*◌, ◌/◌, ◌%◌, ◌≤◌, ◌<◌}
use native.Mathlib.Nat.{eq-or-lt_of_le}
use native.Mathlib.Omega.{arith}
use lib.Dec.{eqb}
use borrow.Author.Tests.{eq-eqb, ne_eqb}
use Rattle.terms.specs.declared.Width.{Width}
use Rattle.terms.specs.declared.Width.TheVariants.{Single, Double}
use Rattle.codes.specs.Command.{Command, Add, Sub, Mul, Div, Muu, Chs, Chsf, Flt, Fix, Pto, Pop, Xch, Pupi}
use Rattle.codes.specs.Command.{Kind}
use Rattle.codes.specs.Command.{Known, Derived, Unknown}
use Rattle.codes.specs.Codes.{decoded}
use Rattle.codes.specs.Format.{width_of, fixed_code}

-- ---- two functions with one list of values for the b numbers from a on agree on these numbers
abbrev pub values : (ℕ → Kind) → ℕ → ℕ → List Kind
values f a zero = []
values f a (suc b) = f a ∷ values f (suc a) b

abbrev first : List Kind → Kind
first [] = Unknown
first (k ∷ l) = k

abbrev others : List Kind → List Kind
others [] = []
others (k ∷ l) = l

pub agree : (f g : ℕ → Kind) (a b : ℕ) → values f a b ≡ values g a b → (n : ℕ) → a ≤ n → n < a + b → f n ≡ g n
agree f g a zero e n l h = absurd (omega arith)
agree f g a (suc b) e n l h =
    ⊎_elim
    (λ (z : a ≡ n). ap f (sym z) ∙ ap first e ∙ ap g z)
    (λ (k : a < n). agree f g (suc a) b (ap others e) n k (omega arith))
    (eq-or-lt_of_le l)

-- ---- fixed point: a number stands for one operation at both widths
abbrev fixed_kind : Width → ℕ → Kind
fixed_kind w n = decoded (fixed_code w n)

pub operation_is : (f : Width → Command) (w : Width) (n m : ℕ) → Known (f Single) ≡ decoded (fixed_code Single m)
    → Known (f Double) ≡ decoded (fixed_code Double m)
    → n ≡ m → Known (f w) ≡ decoded (fixed_code w n)
operation_is f Single n m s d e = s ∙ ap (fixed_kind Single) (sym e)
operation_is f Double n m s d e = d ∙ ap (fixed_kind Double) (sym e)

-- below 17 those are unknown that are none of 0C to 0F, 14 and 16; above 19 all are
abbrev below_moves : Width → ℕ → Kind
below_moves w n = cond (eqb (n / 4) 3 || eqb n 0x14 || eqb n 0x16) (fixed_kind w n) Unknown

unknown_low : (w : Width) → values (fixed_kind w) 0 0x17 ≡ values (below_moves w) 0 0x17
unfolding decoded
unknown_low Single = refl
unknown_low Double = refl

unknown_high : (w : Width) → values (fixed_kind w) 0x1a 6 ≡ values (λ (k : ℕ). Unknown) 0x1a 6
unfolding decoded
unknown_high Single = refl
unknown_high Double = refl

pub fixed_low : (w : Width) (n : ℕ) → n < 0x17 → (n / 4 ≡ 3 → ⊥) → (n ≡ 0x14 → ⊥) → (n ≡ 0x16 → ⊥) → Unknown ≡ decoded (fixed_code w n)
fixed_low w n h a b c =
    sym (agree (fixed_kind w) (below_moves w) 0 0x17 (unknown_low w) n (omega arith) h
    ∙ rw (ne_eqb (n / 4) 3 a, ne_eqb n 0x14 b, ne_eqb n 0x16 c))

pub fixed_high : (w : Width) (n : ℕ) → n < 32 → 0x1a ≤ n → Unknown ≡ decoded (fixed_code w n)
fixed_high w n h l = sym (agree (fixed_kind w) (λ (k : ℕ). Unknown) 0x1a 6 (unknown_high w) n l h)

-- 14 is CHS, 16 is MUU
pub chs_is : (w : Width) (n : ℕ) → n ≡ 0x14 → Known (Chs w) ≡ decoded (fixed_code w n)
unfolding decoded
chs_is w n e = operation_is Chs w n 0x14 refl refl e

pub muu_is : (w : Width) (n : ℕ) → n ≡ 0x16 → Known (Muu w) ≡ decoded (fixed_code w n)
unfolding decoded
muu_is w n e = operation_is Muu w n 0x16 refl refl e

-- 17 to 19 are the moves
pub pto_is : (w : Width) (n : ℕ) → n ≡ 0x17 → Known (Pto w) ≡ decoded (fixed_code w n)
unfolding decoded
pto_is w n e = operation_is Pto w n 0x17 refl refl e

pub pop_is : (w : Width) (n : ℕ) → n ≡ 0x18 → Known (Pop w) ≡ decoded (fixed_code w n)
unfolding decoded
pop_is w n e = operation_is Pop w n 0x18 refl refl e

pub xch_is : (w : Width) (n : ℕ) → n ≡ 0x19 → Known (Xch w) ≡ decoded (fixed_code w n)
unfolding decoded
xch_is w n e = operation_is Xch w n 0x19 refl refl e

-- 0C to 0F are ADD, SUB, MUL, DIV
pub add_is : (w : Width) (n : ℕ) → n ≡ 0 → Known (Add w) ≡ decoded (fixed_code w (0x0c + n))
unfolding decoded
add_is w n e = operation_is Add w (0x0c + n) 0x0c refl refl (ap (λ (k : ℕ). 0x0c + k) e)

pub sub_is : (w : Width) (n : ℕ) → n ≡ 1 → Known (Sub w) ≡ decoded (fixed_code w (0x0c + n))
unfolding decoded
sub_is w n e = operation_is Sub w (0x0c + n) 0x0d refl refl (ap (λ (k : ℕ). 0x0c + k) e)

pub mul_is : (w : Width) (n : ℕ) → n ≡ 2 → Known (Mul w) ≡ decoded (fixed_code w (0x0c + n))
unfolding decoded
mul_is w n e = operation_is Mul w (0x0c + n) 0x0e refl refl (ap (λ (k : ℕ). 0x0c + k) e)

pub div_is : (w : Width) (n : ℕ) → n ≡ 3 → Known (Div w) ≡ decoded (fixed_code w (0x0c + n))
unfolding decoded
div_is w n e = operation_is Div w (0x0c + n) 0x0f refl refl (ap (λ (k : ℕ). 0x0c + k) e)

-- ---- floats
-- 02 to 0B are derived functions, 0C to 0F unknown
pub derived_is : (n : ℕ) → 2 ≤ n → n < 0x0c → Derived ≡ decoded n
unfolding decoded
derived_is n l h = agree (λ (k : ℕ). Derived) decoded 2 10 refl n l h

pub past_derived : (n : ℕ) → 0x0c ≤ n → n < 0x10 → Unknown ≡ decoded n
unfolding decoded
past_derived n l h = agree (λ (k : ℕ). Unknown) decoded 0x0c 4 refl n l h

-- 14 and 16 are unknown, and so is 1B
pub beside_chsf : (n : ℕ) → 0x14 ≤ n → n < 0x17 → (n ≡ 0x15 → ⊥) → Unknown ≡ decoded n
unfolding decoded
beside_chsf n l h e = sym (agree decoded (λ (k : ℕ). cond (eqb k 0x15) (decoded k) Unknown) 0x14 3 refl n l h ∙ rw (ne_eqb n 0x15 e))

pub beside_pupi : (n : ℕ) → n ≡ 0x1b → Unknown ≡ decoded n
unfolding decoded
beside_pupi n e = sym (ap decoded e)

-- 1A is PUPI, 15 is CHSF
pub pupi_is : (n : ℕ) → n ≡ 0x1a → Known Pupi ≡ decoded n
unfolding decoded
pupi_is n e = sym (ap decoded e)

pub chsf_is : (n : ℕ) → n ≡ 0x15 → Known Chsf ≡ decoded n
unfolding decoded
chsf_is n e = sym (ap decoded e)

-- 17 to 19 are what they are at 32 bits
pub float_moves : (n : ℕ) → 0x17 ≤ n → n < 0x1a → decoded (fixed_code Double n) ≡ decoded n
unfolding decoded
float_moves n l h = agree (λ (k : ℕ). decoded (fixed_code Double k)) decoded 0x17 3 refl n l h

-- 1C to 1F: bit 1 is 1 for FIX, bit 0 for 16 bits
pub conversion_is : (low : ℕ) → low < 4 → cond (eqb (low / 2) 1) (Known (Fix (width_of (low % 2)))) (Known (Flt (width_of (low % 2)))) ≡ decoded (0x1c + low)
unfolding decoded
conversion_is low h =
    agree (λ (k : ℕ). cond (eqb (k / 2) 1) (Known (Fix (width_of (k % 2)))) (Known (Flt (width_of (k % 2))))) (λ (k : ℕ). decoded (0x1c + k)) 0 4 refl low
    (omega arith) h

-- ---- bits 6 and 5
-- bit 6 without bit 5 is no format
pub no_format : (n : ℕ) → n < 32 → decoded (0x40 + n) ≡ Unknown
unfolding decoded
no_format n h = agree (λ (k : ℕ). decoded (0x40 + k)) (λ (k : ℕ). Unknown) 0 32 refl n (omega arith) h

-- a code without its bit 7, from its bits 6 and 5 and its operation
joined : (code : ℕ) → code % 128 ≡ 64 * (code / 64 % 2) + 32 * (code / 32 % 2) + code % 32
joined code =
    let q : code / 64 ≡ code / 32 / 2 = omega arith in
    let r : code / 128 ≡ code / 64 / 2 = omega arith in
    omega arith

bit : (n : ℕ) → (n % 2 ≡ 1 → ⊥) → n % 2 ≡ 0
bit n h = omega arith

-- with bit 5 it is that of its operation at the width of bit 6
pub with_bit_5 : (code : ℕ) → code / 32 % 2 ≡ 1 → fixed_code (width_of (code / 64 % 2)) (code % 32) ≡ code % 128
with_bit_5 code e =
    let j = joined code in
    ⊎_elim
    (λ (z : code / 64 % 2 ≡ 1). rw (eq-eqb (code / 64 % 2) 1 z) (omega arith))
    (λ (n : code / 64 % 2 < 1). rw (ne_eqb (code / 64 % 2) 1 (λ z. omega arith)) (omega arith))
    (eq-or-lt_of_le (omega arith))

-- with bit 6 alone it is of no format
pub with_bit_6 : (code : ℕ) → (code / 32 % 2 ≡ 1 → ⊥) → code / 64 % 2 ≡ 1 → Unknown ≡ decoded (code % 128)
with_bit_6 code n e =
    let j = joined code in
    let z = bit (code / 32) n in
    sym (ap decoded (omega arith) ∙ no_format (code % 32) (omega arith))

-- with neither it is that of its operation
pub with_neither : (code : ℕ) → (code / 32 % 2 ≡ 1 → ⊥) → (code / 64 % 2 ≡ 1 → ⊥) → code % 32 ≡ code % 128
with_neither code n m =
    let j = joined code in
    let z = bit (code / 32) n in
    let y = bit (code / 64) m in
    omega arith
