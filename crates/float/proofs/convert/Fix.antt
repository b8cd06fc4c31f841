-- What the program computes in FLTD, FLTS, FIXD and FIXS is what they are defined to give. Assumes nothing.
use mathlib.Core.Path.{◌≡◌, sym, ap, ap₂, ◌∙◌}
use mathlib.Core.Bool.{Bool, true, false}
use Prim.Native.Nat.{ℕ, ◌+◌, ◌-◌, ◌*◌, ◌/◌, ◌%◌, ◌^◌, ◌≤◌, ◌<◌}
use native.Mathlib.Nat.{mul-div-mul_right, mul-div_cancel, div-eq_of_lt, mul-lt-mul_of_pos_right, mul-le-mul_left, lt_of_le_of_lt}
use native.Mathlib.Omega.{arith}
use borrow.Author.Tests.{le-leb, lt-leb}
use lib.Pow.{pow-add, pow_pos, pow_mono, shl_exact}
use Rattle.float.specs.Word.{negative, biased, mantissa}
use Rattle.terms.specs.declared.Rule.{Rule}
use Rattle.float.specs.Cut.{cut_size, cut}
use Rattle.float.specs.Convert.{integer, whole_part, complement, fix}
use Rattle.float.proofs.Powers.{parted}
use Rattle.float.proofs.cut.Signs.{cut_sign}

module _ (w m e : ℕ) (M : m ≡ mantissa w) (E : e ≡ biased w) (few : m < 16777216) (near : e < 128) where
  value : whole_part w ≡ m * 2 ^ e / 2 ^ 88
  unfolding whole_part
  value = ap₂ (λ (x y : ℕ). x * 2 ^ y / 2 ^ 88) (sym M) (sym E)

  pub part_up : 88 ≤ e → m * 2 ^ (e - 88) % 2 ^ 64 ≡ whole_part w
  part_up h =
      shl_exact 24 (e - 88) 64 few (omega arith)
      ∙ sym (value ∙ ap (λ (x : ℕ). x / 2 ^ 88) (parted m e (e - 88) 88 (omega arith)) ∙ mul-div_cancel (m * 2 ^ (e - 88)) (pow_pos 88))

  pub part_down : e < 88 → m / 2 ^ (88 - e) ≡ whole_part w
  part_down h = sym (value ∙ ap (λ (x : ℕ). m * 2 ^ e / x) (ap (λ (x : ℕ). 2 ^ x) (count h) ∙ pow-add 2 (88 - e) e)
      ∙ mul-div-mul_right m (2 ^ (88 - e)) (pow_pos e))
    where
      count : e < 88 → 88 ≡ 88 - e + e
      count g = omega arith

  pub part_none : e ≤ 64 → 0 ≡ whole_part w
  part_none h = sym (value ∙ div-eq_of_lt (lt_of_le_of_lt (mul-le-mul_left m (pow_mono h)) (mul-lt-mul_of_pos_right few (pow_pos 64))))

-- ---- a number of two's complement whose least is half
pub integer_below : (r : Rule) (half a n : ℕ) → half ≤ a → n ≡ 2 * half - a → cut_size r true (n * 2 ^ 200) 1 ≡ cut r (integer half a) 1
integer_below r half a n h e = rw (le-leb half a h, e) (sym (cut_sign r true (2 * half - a) 1))

pub integer_above : (r : Rule) (half a : ℕ) → a < half → cut_size r false (a * 2 ^ 200) 1 ≡ cut r (integer half a) 1
integer_above r half a h = rw (lt-leb half a h) (sym (cut_sign r false a 1))

-- ---- the whole part, below half or not
pub fix_over : (half a n : ℕ) → n ≡ whole_part a → half ≤ n → record { word = a; error = 1 } ≡ fix half a
unfolding fix
fix_over half a n e h = rw (← e, le-leb half n h)

pub fix_within : (half a n : ℕ) (s : Bool) → n ≡ whole_part a → n < half → s ≡ negative a → record { word = complement half s n; error = 0 } ≡ fix half a
unfolding fix
fix_within half a n s e h f = rw (← e, lt-leb half n h, ← f)

-- of a word below zero, and of any other
module _ (half a n : ℕ) (s : Bool) (N : n ≡ whole_part a) (h : n < half) (S : s ≡ negative a) where
  pub fix_minus : s ≡ true → record { word = (2 * half - n) % (2 * half); error = 0 } ≡ fix half a
  fix_minus e = fix_within half a n true N h (sym e ∙ S)

  pub fix_plus : s ≡ false → record { word = n; error = 0 } ≡ fix half a
  fix_plus e = fix_within half a n false N h (sym e ∙ S)
