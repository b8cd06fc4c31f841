-- The value of a float by the fields of its bits, and bits put together from fields, in either format. Assumes nothing.
use mathlib.Core.Path.{◌≡◌, refl, sym, ap, ◌∙◌, subst}
use mathlib.Core.Logic.{⊎_elim}
use mathlib.Core.Bool.{Bool, true, false, not, cond}
use Prim.Native.Nat.{ℕ, zero, suc, ◌+◌, ◌-◌, ◌*◌, ◌/◌, ◌%◌, ◌^◌, ◌≤◌, ◌<◌}
use native.Mathlib.Nat.{eq_of_mul-eq-mul_right, mul_assoc, mul_right_comm, lt_irrefl}
use native.Mathlib.Omega.{arith}
use lib.Dec.{T, leb}
use borrow.Author.Tests.{le-leb, lt-leb, ne_eqb}
use lib.Ieee.{Float, nan, inf, fin, Format, binary32, binary64, prec, low, hid, ones, top, of_bits, of_fields, up, down, nan_bits}
use lib.Ieee.Exact.{HasValue, odd_sign}
use Rattle.numbers.proofs.Differences.{either}

-- the fields of bits: the sign, the exponent's field, the digits below the leading one
abbrev pub sign_in : Format → ℕ → Bool
sign_in f p = leb (top f) p

abbrev pub field_in : Format → ℕ → ℕ
field_in f p = p % top f / hid f

abbrev pub digits_in : Format → ℕ → ℕ
digits_in f p = p % hid f

-- the digits of a float, the leading one among them where it has one
unfoldable pub leading : Format → ℕ → ℕ → ℕ
leading f zero t = t
leading f (suc x) t = hid f + t

-- bits put together from a sign, a field and digits
abbrev pub joined : Format → Bool → ℕ → ℕ → ℕ
joined f s x t = cond s (top f) 0 + x * hid f + t

-- a value's fraction in lower terms
pub lower : (x : Float) (s : Bool) (a c k : ℕ) → 0 < k → HasValue x s (a * k) (c * k) → HasValue x s a c
lower nan s a c k p h = h
lower (inf t) s a c k p h = h
lower (fin t m e) s a c k p h =
    (h.0, eq_of_mul-eq-mul_right k p _ _ (mul_assoc (m * up e) c k ∙ h.1 ∙ mul_right_comm a k (down e)))

-- the same value of the same float, written otherwise
pub recast : (x y : Float) (s : Bool) (a b c d : ℕ) → x ≡ y → a ≡ b → c ≡ d → HasValue x s a c → HasValue y s b d
recast x y s a b c d p q r h =
    subst (λ (z : Float). HasValue z s b d) p (subst (λ (n : ℕ). HasValue x s n d) q (subst (λ (n : ℕ). HasValue x s a n) r h))

below_ones : (f : Format) (x : ℕ) → x < ones f → x ≡ ones f → ⊥
below_ones f x h e = lt_irrefl (ones f) (subst (λ (y : ℕ). y < ones f) e h)

-- ---- the value by the fields
module _ (f : Format) where
  -- bits whose field is not all ones are no NaN's
  pub no_nan : (p : ℕ) → field_in f p < ones f → T (not (nan_bits f p))
  unfolding nan_bits
  no_nan p h = simp (ne_eqb _ _ (below_ones f (field_in f p) h)) tt

  -- the digits with the leading one, and the power, in units of the least value
  pub normal : (s : Bool) (x t : ℕ) → suc x < ones f → HasValue (of_fields f s (suc x) t) s ((hid f + t) * 2 ^ x) (2 ^ low f)
  unfolding of_fields
  normal s x t l = rw (ne_eqb (suc x) (ones f) (below_ones f (suc x) l)) (odd_sign (prec f) s (hid f + t) x (low f))

  pub subnormal : (s : Bool) (t : ℕ) → HasValue (of_fields f s zero t) s (t * 2 ^ 0) (2 ^ low f)
  unfolding of_fields
  subnormal s t = odd_sign (prec f) s t 0 (low f)

  pub of_bits_lem : (p : ℕ) → of_bits f p ≡ of_fields f (sign_in f p) (field_in f p) (digits_in f p)
  unfolding of_bits
  of_bits_lem p = refl

  by_field : (s : Bool) (x t : ℕ) → x < ones f → HasValue (of_fields f s x t) s (leading f x t * 2 ^ (x - 1)) (2 ^ low f)
  by_field s zero t l = unfold leading in subnormal s t
  by_field s (suc x) t l =
      unfold leading in
      recast (of_fields f s (suc x) t) (of_fields f s (suc x) t) s ((hid f + t) * 2 ^ x) ((hid f + t) * 2 ^ (suc x - 1)) (2 ^ low f) (2 ^ low f)
      refl (ap (λ (n : ℕ). (hid f + t) * 2 ^ n) (omega arith)) refl (normal s x t l)

  -- the value of bits that are not all ones in the field
  pub bits_value : (p : ℕ) → field_in f p < ones f → HasValue (of_bits f p) (sign_in f p) (leading f (field_in f p) (digits_in f p) * 2 ^ (field_in f p - 1))
      (2 ^ low f)
  bits_value p l =
      subst (λ (x : Float). HasValue x (sign_in f p) (leading f (field_in f p) (digits_in f p) * 2 ^ (field_in f p - 1)) (2 ^ low f)) (sym (of_bits_lem p))
      (by_field (sign_in f p) (field_in f p) (digits_in f p) l)

-- ---- the digits
pub leading_many : (f : Format) (x t : ℕ) → 0 < x → leading f x t ≡ hid f + t
leading_many f zero t h = absurd (omega arith)
leading_many f (suc x) t h = unfold leading in refl

pub leading_lt : (f : Format) (x t : ℕ) → t < hid f → leading f x t < 2 * hid f
leading_lt f zero t h = unfold leading in omega arith
leading_lt f (suc x) t h = unfold leading in omega arith

pub leading_none : (f : Format) (x t : ℕ) → x ≡ 0 → t ≡ 0 → leading f x t ≡ 0
unfolding leading
leading_none f x t p q = λ i. leading f (p i) (q i)

pub leading_some : (f : Format) (x t : ℕ) → 0 < x * hid f + t → 0 < leading f x t
leading_some f zero t h = unfold leading in omega arith
leading_some binary32 (suc x) t h = unfold leading in omega arith
leading_some binary64 (suc x) t h = unfold leading in omega arith

-- ---- put together and taken apart
pub joined_field : (f : Format) (s : Bool) (x t : ℕ) → x ≤ ones f → t < hid f → field_in f (joined f s x t) ≡ x
joined_field binary32 true x t h k = omega arith
joined_field binary32 false x t h k = omega arith
joined_field binary64 true x t h k = omega arith
joined_field binary64 false x t h k = omega arith

joined_digits : (f : Format) (s : Bool) (x t : ℕ) → x ≤ ones f → t < hid f → digits_in f (joined f s x t) ≡ t
joined_digits binary32 true x t h k = omega arith
joined_digits binary32 false x t h k = omega arith
joined_digits binary64 true x t h k = omega arith
joined_digits binary64 false x t h k = omega arith

joined_sign : (f : Format) (s : Bool) (x t : ℕ) → x ≤ ones f → t < hid f → sign_in f (joined f s x t) ≡ s
joined_sign f true x t h k = le-leb (top f) (joined f true x t) (omega arith)
joined_sign binary32 false x t h k = lt-leb (top binary32) (joined binary32 false x t) (omega arith)
joined_sign binary64 false x t h k = lt-leb (top binary64) (joined binary64 false x t) (omega arith)

pub of_joined : (f : Format) (s : Bool) (x t : ℕ) → x ≤ ones f → t < hid f → of_bits f (joined f s x t) ≡ of_fields f s x t
of_joined f s x t h k =
    of_bits_lem f (joined f s x t) ∙ (λ i. of_fields f (joined_sign f s x t h k i) (joined_field f s x t h k i) (joined_digits f s x t h k i))

pub rejoined : (f : Format) (p : ℕ) → p < 2 * top f → joined f (sign_in f p) (field_in f p) (digits_in f p) ≡ p
rejoined f p l = ⊎_elim
    (λ (k : p < top f). rw (lt-leb (top f) p k) (low_part f l k))
    (λ (k : top f ≤ p). rw (le-leb (top f) p k) (high_part f l k))
    (either p (top f))
  where
    low_part : (f : Format) → p < 2 * top f → p < top f → 0 + field_in f p * hid f + digits_in f p ≡ p
    low_part binary32 l k = omega arith
    low_part binary64 l k = omega arith

    high_part : (f : Format) → p < 2 * top f → top f ≤ p → top f + field_in f p * hid f + digits_in f p ≡ p
    high_part binary32 l k = omega arith
    high_part binary64 l k = omega arith
