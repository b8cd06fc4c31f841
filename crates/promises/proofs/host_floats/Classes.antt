-- Which floats are infinite or no number, minus zero, zero, and too small, by the fields of their bits, in either format. Assumes nothing.
use mathlib.Core.Path.{◌≡◌, refl, sym, ap, ◌∙◌, subst}
use mathlib.Core.Logic.{inr, ⊎_elim}
use mathlib.Core.Bool.{Bool, true, false, cond}
use Prim.Native.Nat.{ℕ, ◌+◌, ◌-◌, ◌*◌, ◌%◌, ◌^◌, ◌≤◌, ◌<◌}
use native.Mathlib.Nat.{zero-mul, mul-le-mul_left, mul-lt-mul_of_pos_right, mul-pos, lt_of_lt_of_le, lt_of_le_of_lt, le_of_eq, pos_of_ne-zero, eq-zero-or-pos}
use native.Mathlib.Nat.{lt_irrefl, mod-lt}
use native.Mathlib.Omega.{arith}
use lib.Dec.{eqb, lit<}
use lib.Pow.{pow_pos, pow_mono}
use borrow.Author.Tests.{leb-true}
use lib.Ieee.{nan, inf, Format, binary32, binary64, emax, low, hid, ones, top, of_bits, of_fields}
use Rattle.numbers.proofs.Differences.{either}
use Rattle.promises.specs.HostFloats.{HasWord, Endless, IsMinusZero, Small}
use Rattle.host_floats.proofs.Patterns.{sign_in, field_in, digits_in, leading, leading_lt, leading_none, leading_some, bits_value, of_bits_lem}
use Rattle.promises.proofs.host_floats.Sizes.{same_of, small_of, first_zero, minus_of, of_minus}
use Rattle.promises.proofs.host_floats.Apart.{endless_minus}
use Rattle.host_floats.proofs.WordSizes.{size_zero}

-- the size of bits whose field is not all ones, in units of the least value
abbrev pub size_in : Format → ℕ → ℕ
size_in f p = leading f (field_in f p) (digits_in f p) * 2 ^ (field_in f p - 1)

-- bits whose field is all ones have none
no_value : (s b : Bool) → Endless (cond b (inf s) nan)
no_value s true = tt
no_value s false = tt

ones_endless : (f : Format) (s : Bool) (t : ℕ) → Endless (of_fields f s (ones f) t)
unfolding of_fields
ones_endless binary32 s t = no_value s (eqb t 0)
ones_endless binary64 s t = no_value s (eqb t 0)

pub all_ones : (f : Format) (p : ℕ) → field_in f p ≡ ones f → Endless (of_bits f p)
all_ones f p e =
    subst Endless (sym (of_bits_lem f p ∙ ap (λ (x : ℕ). of_fields f (sign_in f p) x (digits_in f p)) e)) (ones_endless f (sign_in f p) (digits_in f p))

-- ---- the fields of a format
pub below_ones : (f : Format) (p : ℕ) → (field_in f p ≡ ones f → ⊥) → field_in f p < ones f
below_ones f p n = ⊎_elim (λ h. h) (λ (h : ones f ≤ field_in f p). absurd (n (all f h))) (either (field_in f p) (ones f))
  where
    all : (f : Format) → ones f ≤ field_in f p → field_in f p ≡ ones f
    all binary32 h = omega arith
    all binary64 h = omega arith

no_fields : (f : Format) (p : ℕ) → p % top f ≡ 0 → (field_in f p ≡ 0) × (digits_in f p ≡ 0)
no_fields binary32 p z = (omega arith, omega arith)
no_fields binary64 p z = (omega arith, omega arith)

some_fields : (f : Format) (p : ℕ) → 0 < p % top f → 0 < field_in f p * hid f + digits_in f p
some_fields binary32 p h = omega arith
some_fields binary64 p h = omega arith

finite_zero : (f : Format) (p : ℕ) → p % top f ≡ 0 → field_in f p < ones f
finite_zero f p z = subst (λ (x : ℕ). x < ones f) (sym (no_fields f p z).0) (some f)
  where
    some : (f : Format) → 0 < ones f
    some binary32 = lit< tt
    some binary64 = lit< tt

-- ---- zero
no_size : (f : Format) (p : ℕ) → p % top f ≡ 0 → size_in f p ≡ 0
no_size f p z =
    let a = no_fields f p z in
    ap (λ (n : ℕ). n * 2 ^ (field_in f p - 1)) (leading_none f (field_in f p) (digits_in f p) a.0 a.1) ∙ zero-mul (2 ^ (field_in f p - 1))

pub zero_right : (f : Format) (p : ℕ) → p % top f ≡ 0 → HasWord (of_bits f p) 0
zero_right f p z = record {
  word = record { fits = lit< tt; is_proper = refl };
  same = same_of (of_bits f p) (sign_in f p) (size_in f p) (2 ^ low f) 0 (pow_pos (low f)) (bits_value f p (finite_zero f p z))
      (ap (λ (n : ℕ). n * 2 ^ 88) (no_size f p z) ∙ sym (ap (λ (n : ℕ). n * 2 ^ low f) size_zero ∙ zero-mul (2 ^ low f)))
      (inr size_zero);
}

pub minus_right : (f : Format) (p : ℕ) → p ≡ top f → IsMinusZero (of_bits f p)
minus_right f p e =
    let z : p % top f ≡ 0 = ap (λ (n : ℕ). n % top f) e ∙ itself f in
    minus_of (of_bits f p) (sign_in f p) (size_in f p) (2 ^ low f) (pow_pos (low f)) (bits_value f p (finite_zero f p z)) (ap (sign_in f) e ∙ signed f)
    (no_size f p z)
  where
    itself : (f : Format) → top f % top f ≡ 0
    itself binary32 = refl
    itself binary64 = refl

    signed : (f : Format) → sign_in f (top f) ≡ true
    signed binary32 = refl
    signed binary64 = refl

-- no other float is minus zero
pub minus_bits : (f : Format) (p : ℕ) → p < 2 * top f → IsMinusZero (of_bits f p) → p ≡ top f
minus_bits f p l t =
    let h : field_in f p < ones f = below_ones f p (λ e. endless_minus (of_bits f p) (all_ones f p e) t) in
    let o = of_minus (of_bits f p) (sign_in f p) (size_in f p) (2 ^ low f) (bits_value f p h) t in
    let z : leading f (field_in f p) (digits_in f p) ≡ 0 = first_zero (leading f (field_in f p) (digits_in f p)) (2 ^ (field_in f p - 1)) (pow_pos (field_in f p - 1))
    o.1 in
    ⊎_elim
    (λ (k : p % top f ≡ 0). one f l (leb-true (top f) p o.0) k)
    (λ (k : 0 < p % top f). absurd (lt_irrefl 0 (subst (λ (n : ℕ). 0 < n) z (leading_some f (field_in f p) (digits_in f p) (some_fields f p k)))))
    (eq-zero-or-pos (p % top f))
  where
    one : (f : Format) → p < 2 * top f → top f ≤ p → p % top f ≡ 0 → p ≡ top f
    one binary32 l n k = omega arith
    one binary64 l n k = omega arith

-- ---- not zero, of magnitude under 2 ^ -65
pub small_right : (f : Format) (p : ℕ) → field_in f p < emax f - 65 → (p % top f ≡ 0 → ⊥) → Small (of_bits f p)
small_right f p l n =
    let a = leading f (field_in f p) (digits_in f p) in
    let u : 0 < a = leading_some f (field_in f p) (digits_in f p) (some_fields f p (pos_of_ne-zero n)) in
    let w : size_in f p < 2 * hid f * 2 ^ (emax f - 67) =
    lt_of_le_of_lt (mul-le-mul_left a (pow_mono (lower_field f l))) (mul-lt-mul_of_pos_right (leading_lt f (field_in f p) (digits_in f p) (short f))
    (pow_pos (emax f - 67))) in
    small_of (of_bits f p) (sign_in f p) (size_in f p) (2 ^ low f) (pow_pos (low f)) (bits_value f p (finite f l)) (mul-pos u (pow_pos (field_in f p - 1)))
    (lt_of_lt_of_le (mul-lt-mul_of_pos_right w (pow_pos 65)) (le_of_eq (scale f)))
  where
    lower_field : (f : Format) → field_in f p < emax f - 65 → field_in f p - 1 ≤ emax f - 67
    lower_field binary32 l = omega arith
    lower_field binary64 l = omega arith

    short : (f : Format) → digits_in f p < hid f
    short binary32 = mod-lt p (lit< tt)
    short binary64 = mod-lt p (lit< tt)

    finite : (f : Format) → field_in f p < emax f - 65 → field_in f p < ones f
    finite binary32 l = omega arith
    finite binary64 l = omega arith

    scale : (f : Format) → 2 * hid f * 2 ^ (emax f - 67) * 2 ^ 65 ≡ 2 ^ low f
    scale binary32 = refl
    scale binary64 = refl
