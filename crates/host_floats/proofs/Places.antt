-- An f64's leading one stands at a fixed place, so what a rule makes of its value is what it makes of the bits of its magnitude in steps of 2 ^ 29: a digit
-- that
-- is carried past the fraction goes to the field. The field is then the place of the mantissa, and the word's own f64 has these bits. Assumes nothing.
use mathlib.Core.Path.{◌≡◌, refl, sym, ap, ap₂, ◌∙◌, subst}
use mathlib.Core.Logic.{⊎_elim}
use mathlib.Core.Bool.{Bool, cond}
use Prim.Native.Nat.{ℕ, ◌+◌, ◌-◌, ◌*◌, ◌/◌, ◌%◌, ◌^◌, ◌≤◌, ◌<◌}
use native.Mathlib.Nat.{add_assoc, mod-eq_of_lt, mod-lt}
use native.Mathlib.Omega.{arith}
use lib.Pow.{pow_pos}
use borrow.Author.Tests.{lt-leb, le-leb}
use lib.Ieee.Nearest.{closest}
use Rattle.terms.specs.declared.Rule.{Rule}
use Rattle.terms.specs.declared.Rule.TheVariants.{Cut, Nearest}
use Rattle.numbers.proofs.Differences.{either}
use Rattle.float.specs.declared.Flagged.{Flagged}
use Rattle.float.specs.Word.{biased, mantissa}
use Rattle.float.specs.Cut.{whole, mantissa_of, digits_of, packed, stored}
use Rattle.float.proofs.cut.NearWhole.{closest_up, closest_stays}
use Rattle.float.proofs.cut.Pair.{whole_same}
use Rattle.float.proofs.cut.Values.{packed_mantissa, packed_biased, packed_sign, error_in_lem, error_over, settled_same, settled_up, top_cut}
use Rattle.host_floats.specs.Double.{double_sign, double_field, double_fraction, double_bits, brought_of}
use Rattle.host_floats.proofs.DoubleIn.{cut_is}
use Rattle.host_floats.proofs.DoubleOut.{double_some, double_are}

-- ---- the digits of 2 ^ 52 + f in steps of 2 ^ 29, and those of F * 2 ^ 52 + f, which are as many more as the field says
module _ (F f : ℕ) (lo : 0 < F) (hi : f < 2 ^ 52) where
  tail : (F * 2 ^ 52 + f) % 2 ^ 29 ≡ (2 ^ 52 + f) % 2 ^ 29
  tail = omega arith

  front : (F * 2 ^ 52 + f) / 2 ^ 29 ≡ (F - 1) * 2 ^ 23 + (2 ^ 52 + f) / 2 ^ 29
  front = omega arith

  odd : (F * 2 ^ 52 + f) / 2 ^ 29 % 2 ≡ (2 ^ 52 + f) / 2 ^ 29 % 2
  odd = ap (λ (x : ℕ). x % 2) front ∙ even (F - 1) ((2 ^ 52 + f) / 2 ^ 29)
    where
      even : (a b : ℕ) → (a * 2 ^ 23 + b) % 2 ≡ b % 2
      even a b = omega arith

  left : (F * 2 ^ 52 + f) % 2 ^ 29 + (F * 2 ^ 52 + f) / 2 ^ 29 % 2 ≡ (2 ^ 52 + f) % 2 ^ 29 + (2 ^ 52 + f) / 2 ^ 29 % 2
  left = ap₂ (λ (x y : ℕ). x + y) tail odd

  pub moved : (r : Rule) → whole r (F * 2 ^ 52 + f) (2 ^ 29) ≡ (F - 1) * 2 ^ 23 + whole r (2 ^ 52 + f) (2 ^ 29)
  moved Cut = front
  moved Nearest = ⊎_elim up stays (either (2 ^ 28) ((2 ^ 52 + f) % 2 ^ 29 + (2 ^ 52 + f) / 2 ^ 29 % 2))
    where
      up : 2 ^ 28 < (2 ^ 52 + f) % 2 ^ 29 + (2 ^ 52 + f) / 2 ^ 29 % 2 → closest (F * 2 ^ 52 + f) (2 ^ 29) ≡ (F - 1) * 2 ^ 23 + closest (2 ^ 52 + f) (2 ^ 29)
      up h =
          closest_up (F * 2 ^ 52 + f) (2 ^ 29) (pow_pos 29) (2 ^ 28) refl (subst (λ (x : ℕ). 2 ^ 28 < x) (sym left) h)
          ∙ ap (λ (x : ℕ). x + 1) front
          ∙ add_assoc ((F - 1) * 2 ^ 23) ((2 ^ 52 + f) / 2 ^ 29) 1
          ∙ ap (λ (x : ℕ). (F - 1) * 2 ^ 23 + x) (sym (closest_up (2 ^ 52 + f) (2 ^ 29) (pow_pos 29) (2 ^ 28) refl h))

      stays : (2 ^ 52 + f) % 2 ^ 29 + (2 ^ 52 + f) / 2 ^ 29 % 2 ≤ 2 ^ 28 → closest (F * 2 ^ 52 + f) (2 ^ 29) ≡ (F - 1) * 2 ^ 23 + closest (2 ^ 52 + f) (2 ^ 29)
      stays h =
          closest_stays (F * 2 ^ 52 + f) (2 ^ 29) (pow_pos 29) (2 ^ 28) refl (subst (λ (x : ℕ). x ≤ 2 ^ 28) (sym left) h)
          ∙ front
          ∙ ap (λ (x : ℕ). (F - 1) * 2 ^ 23 + x) (sym (closest_stays (2 ^ 52 + f) (2 ^ 29) (pow_pos 29) (2 ^ 28) refl h))

  -- 24 digits, or 2 ^ 24
  pub between : (r : Rule) → (2 ^ 23 ≤ whole r (2 ^ 52 + f) (2 ^ 29)) × (whole r (2 ^ 52 + f) (2 ^ 29) ≤ 2 ^ 24)
  between Cut = (omega arith, omega arith)
  between Nearest = ⊎_elim
      (λ (h : 2 ^ 28 < (2 ^ 52 + f) % 2 ^ 29 + (2 ^ 52 + f) / 2 ^ 29 % 2). held (omega arith) (omega arith) (closest_up (2 ^ 52 + f) (2 ^ 29) (pow_pos 29)
      (2 ^ 28) refl h))
      (λ (h : (2 ^ 52 + f) % 2 ^ 29 + (2 ^ 52 + f) / 2 ^ 29 % 2 ≤ 2 ^ 28). held (omega arith) (omega arith) (closest_stays (2 ^ 52 + f) (2 ^ 29) (pow_pos 29)
      (2 ^ 28) refl h))
      (either (2 ^ 28) ((2 ^ 52 + f) % 2 ^ 29 + (2 ^ 52 + f) / 2 ^ 29 % 2))
    where
      held : {q x : ℕ} → 2 ^ 23 ≤ x → x ≤ 2 ^ 24 → q ≡ x → (2 ^ 23 ≤ q) × (q ≤ 2 ^ 24)
      held {q} {x} l h e = (subst (λ (y : ℕ). 2 ^ 23 ≤ y) (sym e) l, subst (λ (y : ℕ). y ≤ 2 ^ 24) (sym e) h)

-- ---- the mantissa and its place, of the sum of both
settled_at : (s : Bool) (F q y : ℕ) → 958 ≤ F → 2 ^ 23 ≤ q → q ≤ 2 ^ 24 → y ≡ (F - 1) * 2 ^ 23 + q
    → stored s (mantissa_of q) (digits_of q (F - 846)) ≡ stored s (2 ^ 23 + y % 2 ^ 23) (y / 2 ^ 23 - 846)
settled_at s F q y some lo hi e = ⊎_elim
    (λ (h : q < 2 ^ 24). settled_same s q (F - 846) h ∙ ap₂ (stored s) (same_digits h) (same_place h))
    (λ (h : 2 ^ 24 ≤ q). settled_up s q (F - 846) h ∙ ap₂ (stored s) (no_digits h) (next_place h))
    (either q (2 ^ 24))
  where
    same_digits : q < 2 ^ 24 → q ≡ 2 ^ 23 + y % 2 ^ 23
    same_digits h = omega arith

    same_place : q < 2 ^ 24 → F - 846 ≡ y / 2 ^ 23 - 846
    same_place h = omega arith

    no_digits : 2 ^ 24 ≤ q → 8388608 ≡ 2 ^ 23 + y % 2 ^ 23
    no_digits h = omega arith

    next_place : 2 ^ 24 ≤ q → F - 846 + 1 ≡ y / 2 ^ 23 - 846
    next_place h = omega arith

-- ---- an f64 of 2 ^ -65 or more; y is its magnitude's bits in steps
module _ (r : Rule) (p : ℕ) (some : 958 ≤ double_field p) (y : ℕ) (steps : y ≡ whole r (p % 2 ^ 63) (2 ^ 29)) where
  abbrev f : ℕ
  f = double_fraction p

  small : f < 2 ^ 52
  small = mod-lt p (pow_pos 52)

  abbrev q : ℕ
  q = whole r (2 ^ 52 + f) (2 ^ 29)

  y_is : y ≡ (double_field p - 1) * 2 ^ 23 + q
  y_is = steps ∙ ap (λ (x : ℕ). whole r x (2 ^ 29)) parts ∙ moved (double_field p) f (omega arith) small r
    where
      parts : p % 2 ^ 63 ≡ double_field p * 2 ^ 52 + f
      parts = omega arith

  pub at_least : 958 * 2 ^ 23 ≤ y
  at_least =
      let e = y_is in
      let b = (between (double_field p) f (omega arith) small r).0 in
      omega arith

  pub brought_at : brought_of r p ≡ stored (double_sign p) (2 ^ 23 + y % 2 ^ 23) (y / 2 ^ 23 - 846)
  brought_at =
      let b = between (double_field p) f (omega arith) small r in
      sym (cut_is r p some)
      ∙ sym (top_cut r (2 ^ 52 + f) (double_field p - 875) 11 (omega arith) (omega arith) (omega arith) (omega arith) (double_sign p) q
      (λ z. absurd (omega arith)) fits)
      ∙ ap (λ (k : ℕ). stored (double_sign p) (mantissa_of q) (digits_of q k)) (count (double_field p) some)
      ∙ settled_at (double_sign p) (double_field p) q y some b.0 b.1 y_is
    where
      count : (x : ℕ) → 958 ≤ x → x - 875 + 40 - 11 ≡ x - 846
      count x l = omega arith

      fits : q ≡ whole r ((2 ^ 52 + f) * 2 ^ 11 % 2 ^ 64) (2 ^ 40)
      fits =
          let l = small in
          let e : (2 ^ 52 + f) * 2 ^ 11 % 2 ^ 64 ≡ (2 ^ 52 + f) * 2 ^ 11 = mod-eq_of_lt (omega arith) in
          whole_same r (2 ^ 52 + f) (2 ^ 29) ((2 ^ 52 + f) * 2 ^ 11 % 2 ^ 64) (2 ^ 40) (pow_pos 29) (pow_pos 40) (omega arith)

  -- not a zero of either sign, and below 2 ^ 63 no infinity and no NaN
  pub not_minus : p ≡ 2 ^ 63 → ⊥
  not_minus e = let h = some in absurd (omega arith)

  pub not_plus : p ≡ 0 → ⊥
  not_plus e = let h = some in absurd (omega arith)

  pub not_endless : y < 1086 * 2 ^ 23 → double_field p ≡ 2047 → ⊥
  not_endless h e =
      let g = y_is in
      absurd (omega arith)

  pub over_at : 1086 * 2 ^ 23 ≤ y → (brought_of r p).error ≡ 0 → ⊥
  over_at h e = let x : ◌≡◌ {A = ℕ} 1 0 = sym (error_over (y / 2 ^ 23 - 846) (omega arith)) ∙ sym (ap (λ (z : Flagged). z.error) brought_at)
      ∙ e in absurd (omega arith)

  -- the answer where 2 ^ 63 is not reached
  pub judged_in : y < 1086 * 2 ^ 23 → (w : ℕ) → w ≡ packed (double_sign p) (2 ^ 23 + y % 2 ^ 23) (y / 2 ^ 23 - 846) → record { word = w; error = 0 }
      ≡ brought_of r p
  judged_in h w e =
      let l = at_least in
      ap₂ (λ (x z : ℕ). record { word = x; error = z }) e (sym (error_in_lem (y / 2 ^ 23 - 846) (omega arith) (omega arith))) ∙ sym brought_at

-- ---- the word
pub packed_at : (s : Bool) (y c : ℕ) → 958 * 2 ^ 23 ≤ y → c ≡ cond s (2 ^ 31) 0
    → c + (y / 2 ^ 23 + 2) % 128 * 2 ^ 24 + 2 ^ 23 + y % 2 ^ 23 ≡ packed s (2 ^ 23 + y % 2 ^ 23) (y / 2 ^ 23 - 846)
unfolding packed
packed_at s y c lo e = joins ∙ ap (λ (x : ℕ). x + (y / 2 ^ 23 - 846 + 80) % 128 * 2 ^ 24 + (2 ^ 23 + y % 2 ^ 23)) e
  where
    joins : c + (y / 2 ^ 23 + 2) % 128 * 2 ^ 24 + 2 ^ 23 + y % 2 ^ 23 ≡ c + (y / 2 ^ 23 - 846 + 80) % 128 * 2 ^ 24 + (2 ^ 23 + y % 2 ^ 23)
    joins = omega arith

-- ---- the word's own f64
pub own_at : (s : Bool) (y : ℕ) → 958 * 2 ^ 23 ≤ y → y < 1086 * 2 ^ 23
    → cond s (2 ^ 63) 0 + y * 2 ^ 29 ≡ double_bits (packed s (2 ^ 23 + y % 2 ^ 23) (y / 2 ^ 23 - 846))
own_at s y lo hi =
    let w = packed s (2 ^ 23 + y % 2 ^ 23) (y / 2 ^ 23 - 846) in
    let m : 2 ^ 23 + y % 2 ^ 23 < 16777216 = omega arith in
    sym (double_some w some
    ∙ ap (λ (t : Bool). cond t (2 ^ 63) 0 + (biased w + 958) * 2 ^ 52 + mantissa w % 2 ^ 23 * 2 ^ 29) (packed_sign s (2 ^ 23 + y % 2 ^ 23) (y / 2 ^ 23 - 846) m)
    ∙ ap₂ (λ (b d : ℕ). cond s (2 ^ 63) 0 + (b + 958) * 2 ^ 52 + d % 2 ^ 23 * 2 ^ 29)
    (packed_biased s (2 ^ 23 + y % 2 ^ 23) (y / 2 ^ 23 - 846) m)
    (packed_mantissa s (2 ^ 23 + y % 2 ^ 23) (y / 2 ^ 23 - 846) m)
    ∙ joins (cond s (2 ^ 63) 0))
  where
    some : packed s (2 ^ 23 + y % 2 ^ 23) (y / 2 ^ 23 - 846) ≡ 0 → ⊥
    some e =
        let d : mantissa (packed s (2 ^ 23 + y % 2 ^ 23) (y / 2 ^ 23 - 846)) ≡ 2 ^ 23 + y % 2 ^ 23 = packed_mantissa s (2 ^ 23 + y % 2 ^ 23) (y / 2 ^ 23 - 846)
        (omega arith) in
        let z : mantissa (packed s (2 ^ 23 + y % 2 ^ 23) (y / 2 ^ 23 - 846)) ≡ 0 = ap mantissa e in
        omega arith

    joins : (c : ℕ) → c + ((y / 2 ^ 23 - 846 + 16) % 128 + 958) * 2 ^ 52 + (2 ^ 23 + y % 2 ^ 23) % 2 ^ 23 * 2 ^ 29 ≡ c + y * 2 ^ 29
    joins c = omega arith

-- the sign's part of an f64
pub sign_part : (p : ℕ) → p < 2 ^ 64 → p - p % 2 ^ 63 ≡ cond (double_sign p) (2 ^ 63) 0
sign_part p h = ⊎_elim
    (λ (l : p < 2 ^ 63). omega arith ∙ sym (ap (λ (t : Bool). cond t (2 ^ 63) 0) (lt-leb (2 ^ 63) p l)))
    (λ (l : 2 ^ 63 ≤ p). omega arith ∙ sym (ap (λ (t : Bool). cond t (2 ^ 63) 0) (le-leb (2 ^ 63) p l)))
    (either p (2 ^ 63))

pub own_bits_at : (p y w : ℕ) → p < 2 ^ 64 → 958 * 2 ^ 23 ≤ y → y < 1086 * 2 ^ 23 → w ≡ packed (double_sign p) (2 ^ 23 + y % 2 ^ 23) (y / 2 ^ 23 - 846)
    → (p - p % 2 ^ 63 + y * 2 ^ 29 ≡ double_bits w) × (double_field (p - p % 2 ^ 63 + y * 2 ^ 29) < 2047)
own_bits_at p y w P lo hi e =
    double_are w (p - p % 2 ^ 63 + y * 2 ^ 29) (ap (λ (x : ℕ). x + y * 2 ^ 29) (sign_part p P) ∙ own_at (double_sign p) y lo hi ∙ ap double_bits (sym e))
