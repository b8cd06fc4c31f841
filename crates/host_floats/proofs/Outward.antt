-- The float that a proper word goes to has exactly the word's value, in either format; no other word goes to one; and what is answered is no NaN. Assumes
-- nothing.
use mathlib.Core.Path.{◌≡◌, refl, sym, ap, ◌∙◌, subst}
use mathlib.Core.Logic.{⊎_elim}
use mathlib.Core.Bool.{Bool, true, false, not}
use Prim.Native.Nat.{ℕ, suc, ◌+◌, ◌-◌, ◌*◌, ◌%◌, ◌^◌, ◌≤◌, ◌<◌}
use native.Mathlib.Nat.{le_of_lt, zero-mul, mul_assoc, mul-one}
use native.Mathlib.Omega.{arith}
use lib.Dec.{T, eqb, lit<}
use lib.Pow.{pow-add, pow_pos}
use borrow.Author.Tests.{ne_eqb, eqb-true, eqb-false}
use lib.Ieee.{Float, nan, inf, fin, Format, binary32, binary64, prec, emax, low, hid, ones, of_bits, of_fields, is_nan}
use lib.Ieee.Exact.{HasValue}
use Rattle.terms.specs.declared.Refusal.TheVariants.{Improper}
use Rattle.float.specs.Word.{negative, biased, mantissa, proper, size88}
use Rattle.host_floats.specs.Host.{exponent_field, host_bits, host_of}
use Rattle.host_floats.specs.declared.Host.TheVariants.{Float as Floats, Refused}
use Rattle.host_floats.proofs.Patterns.{lower, recast, normal, subnormal, of_bits_lem, field_in, joined, joined_field, of_joined}
use Rattle.host_floats.proofs.WordSizes.{proper_cases, size_zero}

-- ---- in either format
-- the bits of a word with bit 23 set: its sign, its exponent, its mantissa without the leading bit and zeros behind that
abbrev pub bits_in : Format → ℕ → ℕ
bits_in f w = joined f (negative w) (biased w + (emax f - 65)) (mantissa w % 8388608 * 2 ^ (prec f - 24))

-- either format has room for a word's digits and its exponents
digits_apart : (f : Format) (w : ℕ) → 8388608 ≤ mantissa w → hid f + mantissa w % 8388608 * 2 ^ (prec f - 24) ≡ mantissa w * 2 ^ (prec f - 24)
digits_apart binary32 w h = omega arith
digits_apart binary64 w h = omega arith

digits_fit : (f : Format) (w : ℕ) → mantissa w % 8388608 * 2 ^ (prec f - 24) < hid f
digits_fit binary32 w = omega arith
digits_fit binary64 w = omega arith

exponent_fits : (f : Format) (w : ℕ) → biased w + (emax f - 65) < ones f
exponent_fits binary32 w = omega arith
exponent_fits binary64 w = omega arith

before : (f : Format) (b : ℕ) → b + (emax f - 65) ≡ suc (b + (emax f - 66))
before binary32 b = omega arith
before binary64 b = omega arith

-- the least value of either is 2 ^ -(88 + k), and so many places above it is the last digit of a word with exponent -64
places : (f : Format) (b : ℕ) → prec f - 24 + (b + (emax f - 66)) ≡ b + (low f - 88)
places binary32 b = omega arith
places binary64 b = omega arith

beyond_88 : (f : Format) → low f ≡ 88 + (low f - 88)
beyond_88 binary32 = refl
beyond_88 binary64 = refl

pub bits_below : (f : Format) (w : ℕ) → field_in f (bits_in f w) < ones f
bits_below f w =
    subst (λ (x : ℕ). x < ones f) (sym (joined_field f (negative w) (biased w + (emax f - 65)) (mantissa w % 8388608 * 2 ^ (prec f - 24))
    (le_of_lt (exponent_fits f w)) (digits_fit f w)))
    (exponent_fits f w)

some_value : (f : Format) (w : ℕ) → 8388608 ≤ mantissa w → HasValue (of_bits f (bits_in f w)) (negative w) (size88 w) (2 ^ 88)
unfolding size88
some_value f w h =
    let s = negative w in
    let b = biased w in
    let x = b + (emax f - 66) in
    let t = mantissa w % 8388608 * 2 ^ (prec f - 24) in
    let e : of_bits f (bits_in f w) ≡ of_fields f s (suc x) t =
    of_joined f s (b + (emax f - 65)) t (le_of_lt (exponent_fits f w)) (digits_fit f w) ∙ ap (λ (y : ℕ). of_fields f s y t) (before f b) in
    lower (of_bits f (bits_in f w)) s (mantissa w * 2 ^ b) (2 ^ 88) (2 ^ (low f - 88)) (pow_pos (low f - 88))
    (recast (of_fields f s (suc x) t) (of_bits f (bits_in f w)) s ((hid f + t) * 2 ^ x) (mantissa w * 2 ^ b * 2 ^ (low f - 88)) (2 ^ low f)
    (2 ^ 88 * 2 ^ (low f - 88))
    (sym e)
    (ap (λ (y : ℕ). y * 2 ^ x) (digits_apart f w h)
    ∙ mul_assoc (mantissa w) (2 ^ (prec f - 24)) (2 ^ x)
    ∙ ap (λ (y : ℕ). mantissa w * y) (sym (pow-add 2 (prec f - 24) x) ∙ ap (λ (y : ℕ). 2 ^ y) (places f b) ∙ pow-add 2 b (low f - 88))
    ∙ sym (mul_assoc (mantissa w) (2 ^ b) (2 ^ (low f - 88))))
    (ap (λ (y : ℕ). 2 ^ y) (beyond_88 f) ∙ pow-add 2 88 (low f - 88))
    (normal f s x t (subst (λ (y : ℕ). y < ones f) (before f b) (exponent_fits f w))))

-- +0
zero_value : (f : Format) → HasValue (of_bits f 0) false (size88 0) (2 ^ 88)
zero_value f =
    recast (of_fields f false 0 0) (of_bits f 0) false 0 (size88 0) (2 ^ 88) (2 ^ 88) (zero_bits_lem f) (sym size_zero) refl
    (lower (of_fields f false 0 0) false 0 (2 ^ 88) (2 ^ (low f - 88)) (pow_pos (low f - 88))
    (recast (of_fields f false 0 0) (of_fields f false 0 0) false (0 * 2 ^ 0) (0 * 2 ^ (low f - 88)) (2 ^ low f) (2 ^ 88 * 2 ^ (low f - 88))
    refl
    (sym (zero-mul (2 ^ (low f - 88))))
    (ap (λ (y : ℕ). 2 ^ y) (beyond_88 f) ∙ pow-add 2 88 (low f - 88))
    (subnormal f false 0)))
  where
    zero_bits_lem : (f : Format) → of_fields f false 0 0 ≡ of_bits f 0
    zero_bits_lem binary32 = sym (of_bits_lem binary32 0)
    zero_bits_lem binary64 = sym (of_bits_lem binary64 0)

-- bits that are those of a word with bit 23 set, or 0 of the zero word, have a proper word's value
pub value_in_lem : (f : Format) (w p : ℕ) → proper w ≡ true → (8388608 ≤ mantissa w → p ≡ bits_in f w) → (w ≡ 0 → p ≡ 0) → HasValue (of_bits f p) (negative w)
    (size88 w) (2 ^ 88)
value_in_lem f w p e some none =
    ⊎_elim
    (λ (h : 8388608 ≤ mantissa w). subst (λ (n : ℕ). HasValue (of_bits f n) (negative w) (size88 w) (2 ^ 88)) (sym (some h)) (some_value f w h))
    (λ (z : w ≡ 0). subst (λ (n : ℕ). HasValue (of_bits f n) (negative w) (size88 w) (2 ^ 88)) (sym (none z))
    (subst (λ (n : ℕ). HasValue (of_bits f 0) (negative n) (size88 n) (2 ^ 88)) (sym z) (zero_value f)))
    (proper_cases w e)

pub finite : (x : Float) (s : Bool) (a c : ℕ) → HasValue x s a c → T (not (is_nan x))
finite nan s a c h = absurd h
finite (inf t) s a c h = absurd h
finite (fin t m k) s a c h = unfold is_nan in tt

-- ---- the f32
pub not_zero : (w : ℕ) → 8388608 ≤ mantissa w → w ≡ 0 → ⊥
not_zero w h z = omega arith

-- the bits of a word that is not zero, and the zero word's
pub bits_some : (w : ℕ) → (w ≡ 0 → ⊥) → host_bits w ≡ bits_in binary32 w
bits_some w n = simp (ne_eqb w 0 n) (ap (joined binary32 (negative w) (biased w + 62)) (sym (mul-one (mantissa w % 8388608))))

-- bits that are 0 for the zero word and else put together have no field of all ones
pub field_below : (f : Format) (bits : ℕ → ℕ) → bits 0 ≡ 0 → ((w : ℕ) → (w ≡ 0 → ⊥) → bits w ≡ bits_in f w) → (w p : ℕ) → p ≡ bits w → field_in f p < ones f
field_below f bits none some w p e = go (eqb w 0) (eqb-true w 0) (eqb-false w 0)
  where
    below : (f : Format) → field_in f 0 < ones f
    below binary32 = lit< tt
    below binary64 = lit< tt

    go : (t : Bool) → (t ≡ true → w ≡ 0) → (t ≡ false → w ≡ 0 → ⊥) → field_in f p < ones f
    go true z n = subst (λ (q : ℕ). field_in f q < ones f) (sym (e ∙ ap bits (z refl) ∙ none)) (below f)
    go false z n = subst (λ (q : ℕ). field_in f q < ones f) (sym (e ∙ some w (n refl))) (bits_below f w)

pub bits_are : (w p : ℕ) → p ≡ host_bits w → (p ≡ host_bits w) × (exponent_field p < 255)
bits_are w p e = (e, field_below binary32 host_bits refl bits_some w p e)

pub word_value : (w : ℕ) → proper w ≡ true → HasValue (of_bits binary32 (host_bits w)) (negative w) (size88 w) (2 ^ 88)
word_value w e = value_in_lem binary32 w (host_bits w) e (λ h. bits_some w (not_zero w h)) (λ z. ap host_bits z)

pub goes : (w : ℕ) → proper w ≡ true → host_of w ≡ Floats (of_bits binary32 (host_bits w))
unfolding host_of
goes w e = rw e

pub stays : (w : ℕ) → proper w ≡ false → host_of w ≡ Refused Improper
unfolding host_of
stays w e = rw e

floats_same : {x y : Float} → Floats x ≡ Floats y → x ≡ y
floats_same e = (cc)

pub plain : (w : ℕ) (x : Float) → host_of w ≡ Floats x → T (not (is_nan x))
plain w x e = go (proper w) refl
  where
    go : (t : Bool) → proper w ≡ t → T (not (is_nan x))
    go true p =
        let f : of_bits binary32 (host_bits w) ≡ x = floats_same (sym (goes w p) ∙ e) in
        subst (λ (y : Float). T (not (is_nan y))) f (finite (of_bits binary32 (host_bits w)) (negative w) (size88 w) (2 ^ 88) (word_value w p))
    go false p = let q = stays w p in let z : ◌≡◌ {A = ℕ} 0 1 = (cc) in absurd (omega arith)
