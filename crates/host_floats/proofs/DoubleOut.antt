-- The f64 that a proper word goes to has exactly the word's value; no other word goes to one; and what is answered is no NaN. Assumes nothing.
use mathlib.Core.Path.{◌≡◌, refl, sym, ap, ◌∙◌, subst}
use mathlib.Core.Bool.{Bool, true, false, not}
use Prim.Native.Nat.{ℕ, ◌^◌, ◌<◌}
use native.Mathlib.Omega.{arith}
use lib.Dec.{T}
use borrow.Author.Tests.{ne_eqb}
use lib.Ieee.{Float, binary64, of_bits, is_nan}
use lib.Ieee.Exact.{HasValue}
use Rattle.terms.specs.declared.Refusal.TheVariants.{Improper}
use Rattle.float.specs.Word.{negative, proper, size88}
use Rattle.host_floats.specs.Double.{double_field, double_bits, outward_of}
use Rattle.host_floats.specs.declared.entry.Outward.TheVariants.{Float as Floats, Refused}
use Rattle.host_floats.proofs.Outward.{bits_in, field_below, value_in_lem, not_zero, finite}

pub double_some : (w : ℕ) → (w ≡ 0 → ⊥) → double_bits w ≡ bits_in binary64 w
double_some w n = simp (ne_eqb w 0 n)

pub double_are : (w p : ℕ) → p ≡ double_bits w → (p ≡ double_bits w) × (double_field p < 2047)
double_are w p e = (e, field_below binary64 double_bits refl double_some w p e)

pub double_value_lem : (w : ℕ) → proper w ≡ true → HasValue (of_bits binary64 (double_bits w)) (negative w) (size88 w) (2 ^ 88)
double_value_lem w e = value_in_lem binary64 w (double_bits w) e (λ h. double_some w (not_zero w h)) (λ z. ap double_bits z)

pub goes_out : (w : ℕ) → proper w ≡ true → outward_of w ≡ Floats (of_bits binary64 (double_bits w))
unfolding outward_of
goes_out w e = rw e

pub stays_in : (w : ℕ) → proper w ≡ false → outward_of w ≡ Refused Improper
unfolding outward_of
stays_in w e = rw e

floats_same : {x y : Float} → Floats x ≡ Floats y → x ≡ y
floats_same e = (cc)

pub no_nan_out : (w : ℕ) (x : Float) → outward_of w ≡ Floats x → T (not (is_nan x))
no_nan_out w x e = go (proper w) refl
  where
    go : (t : Bool) → proper w ≡ t → T (not (is_nan x))
    go true p =
        let f : of_bits binary64 (double_bits w) ≡ x = floats_same (sym (goes_out w p) ∙ e) in
        subst (λ (y : Float). T (not (is_nan y))) f (finite (of_bits binary64 (double_bits w)) (negative w) (size88 w) (2 ^ 88) (double_value_lem w p))
    go false p = let q = stays_in w p in let z : ◌≡◌ {A = ℕ} 0 1 = (cc) in absurd (omega arith)
