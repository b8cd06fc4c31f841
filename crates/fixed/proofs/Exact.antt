-- What the operations promise: the exact result where no error bit is set, the exact one modulo 2 ^ n, carry and borrow. Assumes nothing.
use Rattle.std.proofs.Common.{◌≡◌, ℕ, zero, suc, ◌+◌, ◌*◌, ◌/◌, ◌<◌, ◌≤◌, Bool, true, false, cond, not, ◌||◌, eqb, ltb, leb, ℤ, pos, negsuc, ◌+ℤ◌, ◌-ℤ◌, ◌*ℤ◌, neg_ℤ, nat_abs, sym, refl, ap, ◌∙◌, subst, ap₂, ⊎_elim, lt_of_le_of_lt, le_of_lt, mod-lt, div-add-mod', div-le_self, arith, lt-ltb, eq-eqb, le-leb}
use lib.Signed.{mag, quot_z, shr_z}
use lib.Ieee.{unlike}
use borrow.Author.Tests.{lt-leb, eqb-false, not-false}
use Rattle.numbers.specs.Signed.{with_sign}
use Rattle.numbers.proofs.Differences.{either}
use Rattle.numbers.proofs.Signs.{opposite}
use Rattle.fixed.specs.declared.Fixed.{Fixed}
use Rattle.numbers.proofs.Signs.{size_of_signed}
use Rattle.fixed.specs.Parts.{Words, negative_at, magnitude_at}
use Rattle.fixed.specs.Fixed.{signed, fits, low, overflow_if, outcome, either_least, add_overflow, sub_overflow, mul_overflow, add, sub, mul, muu, div, chs}
use Rattle.fixed.specs.Fixed.{is_least, unless_least}
use Rattle.fixed.proofs.LowBits.{fits_mag, low_lt, kept, parted}
use Rattle.fixed.proofs.Products.{upper_lt, signed_with_sign, product, quotient, product_few, abs_some}

no_overflow : (t : Bool) → overflow_if t ≡ 0 → t ≡ false
no_overflow false e = refl
no_overflow true e = absurd (omega (arith, e))

or_right : (s t : Bool) → s || t ≡ false → t ≡ false
or_right false t e = e
or_right true t e = let z : ◌≡◌ {A = ℕ} 0 1 = (cc) in absurd (omega arith)

pub add_exact : (h b a : ℕ) → (add h b a).error ≡ 0 → signed h (add h b a).word ≡ signed h b +ℤ signed h a
unfolding add
add_exact h b a e = kept h (signed h b +ℤ signed h a) (not-false (fits h (signed h b +ℤ signed h a)) (no_overflow _ e))

pub sub_exact : (h b a : ℕ) → (sub h b a).error ≡ 0 → signed h (sub h b a).word ≡ signed h b -ℤ signed h a
unfolding sub
sub_exact h b a e = kept h (signed h b -ℤ signed h a) (not-false (fits h (signed h b -ℤ signed h a)) (or_right (is_least h a) _ (no_overflow _ e)))

-- a row that is not that of a least operand
unless : (h b a : ℕ) (r : Fixed) → (unless_least h b a r).error ≡ 0 → (either_least h b a ≡ false) × (unless_least h b a r ≡ r)
unless h b a r e = go (either_least h b a) e
  where
    go : (t : Bool) → (cond t (outcome h 1 false) r).error ≡ 0 → (t ≡ false) × (cond t (outcome h 1 false) r ≡ r)
    go false e = (refl, refl)
    go true e = absurd (omega (arith, e))

pub mul_exact : (h b a : ℕ) → (mul h b a).error ≡ 0 → signed h (mul h b a).word ≡ signed h b *ℤ signed h a
unfolding mul
mul_exact h b a e =
    let z = signed h b *ℤ signed h a in
    let u = unless h b a (outcome (low h z) (overflow_if (not (fits h z))) false) e in
    let f : overflow_if (not (fits h z)) ≡ 0 = sym (ap (λ (r : Fixed). r.error) u.1) ∙ e in
    ap (λ (r : Fixed). signed h r.word) u.1 ∙ kept h z (not-false (fits h z) (no_overflow (not (fits h z)) f))

or_left : (s t : Bool) → s || t ≡ false → s ≡ false
or_left false t e = refl
or_left true t e = e

mag_with_sign : (s : Bool) (m : ℕ) → mag (with_sign s m) ≤ m
mag_with_sign false m = omega arith
mag_with_sign true zero = omega arith
mag_with_sign true (suc m) = omega arith

mag_shr : (z : ℤ) (m : ℕ) → mag (shr_z z m) ≡ mag z / m
mag_shr (pos k) m = refl
mag_shr (negsuc k) m = refl

small : (h w : ℕ) → (w ≡ h → ⊥) → w < 2 * h → magnitude_at h w < h
small h w n l =
    ⊎_elim
    (λ (k : w < h). rw (lt-leb h w k) k)
    (λ (k : h ≤ w). rw (le-leb h w k) (⊎_elim (λ (g : h < w). omega arith) (λ (g : w ≤ h). absurd (n (omega arith))) (either h w)))
    (either w h)

-- neither operand is least: the magnitudes are below h
module _ (h b a : ℕ) (W : Words h b a) (N : either_least h b a ≡ false) where
  left_small : magnitude_at h b < h
  left_small = small h b (eqb-false b h (or_left (is_least h b) (is_least h a) N)) W.left

  right_small : magnitude_at h a < h
  right_small = small h a (eqb-false a h (or_right (is_least h b) (is_least h a) N)) W.right

  quotient_fits : fits h (quot_z (signed h b) (signed h a)) ≡ true
  quotient_fits =
      let s = unlike (negative_at h b) (negative_at h a) in
      let m = magnitude_at h b / magnitude_at h a in
      ap (fits h) (quotient h b a W)
      ∙ fits_mag h (with_sign s m)
      ∙ lt-ltb (mag (with_sign s m)) h (lt_of_le_of_lt (mag_with_sign s m) (lt_of_le_of_lt (div-le_self (magnitude_at h b) (magnitude_at h a)) left_small))

  upper_fits : fits h (shr_z (signed h b *ℤ signed h a) (2 * h)) ≡ true
  upper_fits =
      let s = unlike (negative_at h b) (negative_at h a) in
      let m = magnitude_at h b * magnitude_at h a in
      let few = lt_of_le_of_lt (mag_with_sign s m) (product_few h (magnitude_at h b) (magnitude_at h a) W.some (le_of_lt left_small) (le_of_lt right_small)) in
      ap (λ (z : ℤ). fits h (shr_z z (2 * h))) (product h b a W)
      ∙ fits_mag h (shr_z (with_sign s m) (2 * h))
      ∙ ap (λ (n : ℕ). ltb n h) (mag_shr (with_sign s m) (2 * h))
      ∙ lt-ltb (mag (with_sign s m) / (2 * h)) h (upper_lt h (mag (with_sign s m)) W.some few)

pub div_exact : (h b a : ℕ) → Words h b a → (div h b a).error ≡ 0 → signed h (div h b a).word ≡ quot_z (signed h b) (signed h a)
unfolding div
div_exact h b a W e = go (eqb a 0) e
  where
    z : ℤ
    z = quot_z (signed h b) (signed h a)

    go : (t : Bool) → (cond t (outcome b 8 false) (unless_least h b a (outcome (low h z) 0 false))).error ≡ 0 → signed h
        (cond t (outcome b 8 false) (unless_least h b a (outcome (low h z) 0 false))).word ≡ z
    go true e = absurd (omega (arith, e))
    go false e =
        let u = unless h b a (outcome (low h z) 0 false) e in
        ap (λ (r : Fixed). signed h r.word) u.1 ∙ kept h z (quotient_fits h b a W u.0)

pub chs_exact : (h a : ℕ) → 0 < h → a < 2 * h → (chs h a).error ≡ 0 → signed h (chs h a).word ≡ neg_ℤ (signed h a)
unfolding chs
chs_exact h a p l e =
    let m = small h a (eqb-false a h (no_overflow (is_least h a) e)) l in
    kept h (neg_ℤ (signed h a))
    (ap (λ (z : ℤ). fits h (neg_ℤ z)) (signed_with_sign h a l) ∙ ap (fits h) (opposite (negative_at h a) (magnitude_at h a))
    ∙ fits_mag h (with_sign (not (negative_at h a)) (magnitude_at h a)) ∙ lt-ltb (mag (with_sign (not (negative_at h a)) (magnitude_at h a))) h
    (lt_of_le_of_lt (mag_with_sign (not (negative_at h a)) (magnitude_at h a)) m))

-- MUU and MUL together hold the whole product
pub muu_exact : (h b a : ℕ) → Words h b a → (muu h b a).error ≡ 0 → signed h b *ℤ signed h a ≡ signed h (muu h b a).word *ℤ pos (2 * h) +ℤ pos (mul h b a).word
unfolding muu mul
muu_exact h b a W e =
    let z = signed h b *ℤ signed h a in
    let u = unless h b a (outcome (low h (shr_z z (2 * h))) 0 false) e in
    parted h z W.some
    ∙ ap₂ (λ (x : ℤ) (y : ℕ). x *ℤ pos (2 * h) +ℤ pos y)
    (sym (ap (λ (r : Fixed). signed h r.word) u.1 ∙ kept h (shr_z z (2 * h)) (upper_fits h b a W u.0)))
    (sym (ap (λ (t : Bool). (cond t (outcome h 1 false) (outcome (low h z) (overflow_if (not (fits h z))) false)).word) u.0))

pub div_nonzero : (h b a : ℕ) → (div h b a).error ≡ 0 → a ≡ 0 → ⊥
unfolding div
div_nonzero h b a e z = absurd (omega (
  arith,
  sym
      (ap (λ (t : Bool). (cond t (outcome b 8 false) (unless_least h b a (outcome (low h (quot_z (signed h b) (signed h a))) 0 false))).error) (eq-eqb a 0 z)) ∙ e,
))

-- ---- the quotient is cut toward zero

-- q is b / a cut toward zero: |q| * |a| <= |b| < (|q| + 1) * |a|, and q is negative only where one of b and a is
pub record CutTowardZero (q : ℤ) (oneNegative : Bool) (b a : ℤ) : Type 0 where
  pub at_most : nat_abs q * nat_abs a ≤ nat_abs b
  pub above : nat_abs b < (nat_abs q + 1) * nat_abs a
  pub signs : q ≡ with_sign oneNegative (nat_abs q)

cut_between : (m n : ℕ) → 0 < n → (m / n * n ≤ m) × (m < (m / n + 1) * n)
cut_between m n p = let e = div-add-mod' m n in let l = mod-lt m p in (omega arith, omega arith)

pub div_cut : (h b a : ℕ) → Words h b a → (div h b a).error ≡ 0 → CutTowardZero (signed h (div h b a).word) (unlike (negative_at h b) (negative_at h a))
    (signed h b) (signed h a)
div_cut h b a W e = subst (λ (z : ℤ). CutTowardZero z s (signed h b) (signed h a)) (sym (div_exact h b a W e ∙ quotient h b a W)) shaped
  where
    s : Bool
    s = unlike (negative_at h b) (negative_at h a)

    m : ℕ
    m = magnitude_at h b

    n : ℕ
    n = magnitude_at h a

    abs_signed : (w : ℕ) → w < 2 * h → nat_abs (signed h w) ≡ magnitude_at h w
    abs_signed w l = ap nat_abs (signed_with_sign h w l) ∙ size_of_signed (negative_at h w) (magnitude_at h w)

    between : (m / n * n ≤ m) × (m < (m / n + 1) * n)
    between = cut_between m n (abs_some h a n refl (div_nonzero h b a e) W.right)

    shaped : CutTowardZero (with_sign s (m / n)) s (signed h b) (signed h a)
    shaped = record {
      at_most = rw (size_of_signed s (m / n), abs_signed b W.left, abs_signed a W.right) between.0;
      above = rw (size_of_signed s (m / n), abs_signed b W.left, abs_signed a W.right) between.1;
      signs = sym (ap (with_sign s) (size_of_signed s (m / n)));
    }

-- ---- every result is a word

cond_lt : (t : Bool) (x y : Fixed) (n : ℕ) → x.word < n → y.word < n → (cond t x y).word < n
cond_lt true x y n p q = p
cond_lt false x y n p q = q

module _ (h b a : ℕ) (W : Words h b a) where
  pub add_word : (add h b a).word < 2 * h
  unfolding add
  add_word = low_lt h (signed h b +ℤ signed h a) W.some

  pub sub_word : (sub h b a).word < 2 * h
  unfolding sub
  sub_word = low_lt h (signed h b -ℤ signed h a) W.some

  unless_word : (r : Fixed) → r.word < 2 * h → (unless_least h b a r).word < 2 * h
  unless_word r l = cond_lt (either_least h b a) (outcome h 1 false) r (2 * h) (omega arith) l

  pub mul_word : (mul h b a).word < 2 * h
  unfolding mul
  mul_word = unless_word _ (low_lt h (signed h b *ℤ signed h a) W.some)

  pub muu_word : (muu h b a).word < 2 * h
  unfolding muu
  muu_word = unless_word _ (low_lt h (shr_z (signed h b *ℤ signed h a) (2 * h)) W.some)

  pub div_word : (div h b a).word < 2 * h
  unfolding div
  div_word = cond_lt (eqb a 0) (outcome b 8 false) (unless_least h b a (outcome (low h (quot_z (signed h b) (signed h a))) 0 false)) (2 * h) W.left
      (unless_word _ (low_lt h (quot_z (signed h b) (signed h a)) W.some))

pub chs_word : (h a : ℕ) → 0 < h → (chs h a).word < 2 * h
unfolding chs
chs_word h a p = low_lt h (neg_ℤ (signed h a)) p

-- ---- the exact result modulo 2 ^ n: it is a multiple of 2 ^ n more than the word

pub add_modulo : (h b a : ℕ) → 0 < h → signed h b +ℤ signed h a ≡ shr_z (signed h b +ℤ signed h a) (2 * h) *ℤ pos (2 * h) +ℤ pos (add h b a).word
unfolding add
add_modulo h b a p = parted h (signed h b +ℤ signed h a) p

pub sub_modulo : (h b a : ℕ) → 0 < h → signed h b -ℤ signed h a ≡ shr_z (signed h b -ℤ signed h a) (2 * h) *ℤ pos (2 * h) +ℤ pos (sub h b a).word
unfolding sub
sub_modulo h b a p = parted h (signed h b -ℤ signed h a) p

-- ---- carry out of ADD, borrow of SUB, and none from the others

pub add_carry : (h b a : ℕ) → (add h b a).carry ≡ leb (2 * h) (b + a)
unfolding add
add_carry h b a = refl

pub sub_borrow : (h b a : ℕ) → (sub h b a).carry ≡ ltb b a
unfolding sub
sub_borrow h b a = refl

cond_carry : (t : Bool) (x y : Fixed) → x.carry ≡ false → y.carry ≡ false → (cond t x y).carry ≡ false
cond_carry true x y p q = p
cond_carry false x y p q = q

pub mul_carry : (h b a : ℕ) → (mul h b a).carry ≡ false
unfolding mul
mul_carry h b a = cond_carry (either_least h b a) _ _ refl refl

pub muu_carry : (h b a : ℕ) → (muu h b a).carry ≡ false
unfolding muu
muu_carry h b a = cond_carry (either_least h b a) _ _ refl refl

pub div_carry : (h b a : ℕ) → (div h b a).carry ≡ false
unfolding div
div_carry h b a = cond_carry (eqb a 0) _ _ refl (cond_carry (either_least h b a) _ _ refl refl)

-- ---- an error number has four bits

overflow_few : (t : Bool) → overflow_if t < 16
overflow_few true = omega arith
overflow_few false = omega arith

cond_few : (t : Bool) (x y : Fixed) → x.error < 16 → y.error < 16 → (cond t x y).error < 16
cond_few true x y p q = p
cond_few false x y p q = q

pub add_few : (h b a : ℕ) → (add h b a).error < 16
unfolding add
add_few h b a = overflow_few (add_overflow h b a)

pub sub_few : (h b a : ℕ) → (sub h b a).error < 16
unfolding sub
sub_few h b a = overflow_few (sub_overflow h b a)

pub mul_few : (h b a : ℕ) → (mul h b a).error < 16
unfolding mul
mul_few h b a = cond_few (either_least h b a) _ _ (omega arith) (overflow_few (mul_overflow h b a))

pub muu_few : (h b a : ℕ) → (muu h b a).error < 16
unfolding muu
muu_few h b a = cond_few (either_least h b a) _ _ (omega arith) (omega arith)

pub div_few : (h b a : ℕ) → (div h b a).error < 16
unfolding div
div_few h b a = cond_few (eqb a 0) _ _ (omega arith) (cond_few (either_least h b a) _ _ (omega arith) (omega arith))

pub chs_few : (h a : ℕ) → (chs h a).error < 16
unfolding chs
chs_few h a = overflow_few (is_least h a)
