-- The range of a width, the low bits of a whole number, and what a word stands for. Assumes nothing.
use Rattle.std.proofs.Common.{◌≡◌, ℕ, zero, suc, ◌+◌, ◌-◌, ◌*◌, ◌/◌, ◌%◌, ◌<◌, ◌≤◌, Bool, true, false, cond, not, ◌&&◌, ltb, leb, ℤ, pos, negsuc, ◌+ℤ◌, ◌*ℤ◌, sym, refl, ap, ◌∙◌, ⊎_elim, mod-lt, mod-eq_of_lt, pos_of_ne-zero, div-add-mod', arith, ltb-true, le-ltb, lt-ltb, le-leb}
use native.Mathlib.Nat.{mod-add-div', add-mul-mod_self_right}
use lib.IntN.{sub_ℕ}
use lib.Signed.{mag, shr_z}
use borrow.Author.Tests.{lt-leb}
use Rattle.numbers.specs.Signed.{with_sign}
use Rattle.numbers.proofs.Differences.{either, sub_lt, sub_ge, sum_differences, neg_pos, pos_is}
use Rattle.fixed.specs.Fixed.{signed, fits, LowBits, low}
use Rattle.fixed.specs.Parts.{negative_at}

-- a word below h is not negative, and no other
pub not_negative : (h w : ℕ) → ltb w h ≡ not (negative_at h w)
not_negative h w = ⊎_elim (λ (k : w < h). rw (lt-leb h w k, lt-ltb w h k)) (λ (k : h ≤ w). rw (le-leb h w k, le-ltb w h k)) (either w h)

-- ---- a difference in the range, and its low bits
-- `mag` is k both for k and for -(k + 1), and those from -h to h - 1 have it below h
pub fits_mag : (h : ℕ) (z : ℤ) → fits h z ≡ ltb (mag z) h
fits_mag zero (pos k) = ap (λ (t : Bool). t && ltb k 0) (le-leb 0 k (omega arith))
fits_mag (suc h) (pos k) = refl
fits_mag zero (negsuc k) = sym (le-ltb k 0 (omega arith))
fits_mag (suc h) (negsuc k) = ⊎_elim below above (either h k)
  where
    below : h < k → leb k h && true ≡ ltb k (suc h)
    below g = ap (λ (t : Bool). t && true) (lt-leb k h g) ∙ sym (le-ltb k (suc h) (omega arith))

    above : k ≤ h → leb k h && true ≡ ltb k (suc h)
    above g = ap (λ (t : Bool). t && true) (le-leb k h g) ∙ sym (lt-ltb k (suc h) (omega arith))

pub fits_in_lem : (h x y : ℕ) → x < y + h → y ≤ x + h → fits h (sub_ℕ x y) ≡ true
fits_in_lem h x y p q =
    ⊎_elim
    (λ (k : x < y). ap (fits h) (sub_lt x y k) ∙ fits_mag h _ ∙ lt-ltb (y - suc x) h (omega arith))
    (λ (k : y ≤ x). ap (fits h) (sub_ge x y k) ∙ fits_mag h _ ∙ lt-ltb (x - y) h (omega arith))
    (either x y)

pub fits_above : (h x y : ℕ) → y + h ≤ x → fits h (sub_ℕ x y) ≡ false
fits_above h x y p = ap (fits h) (sub_ge x y (omega arith)) ∙ fits_mag h _ ∙ le-ltb (x - y) h (omega arith)

pub fits_below : (h x y : ℕ) → x + h < y → fits h (sub_ℕ x y) ≡ false
fits_below h x y p = ap (fits h) (sub_lt x y (omega arith)) ∙ fits_mag h _ ∙ le-ltb (y - suc x) h (omega arith)

low_up : (h x y r q : ℕ) → r < 2 * h → x ≡ y + (r + q * (2 * h)) → low h (sub_ℕ x y) ≡ r
unfolding low
low_up h x y r q p e =
    ap (low h) (sub_ge x y (omega arith) ∙ ap pos (omega arith))
    ∙ add-mul-mod_self_right r q (2 * h)
    ∙ mod-eq_of_lt p

low_down : (h x y r q : ℕ) → r < 2 * h → x + suc q * (2 * h) ≡ y + r → low h (sub_ℕ x y) ≡ r
unfolding low
low_down h x y r q p e =
    ap (low h) (sub_lt x y (omega arith) ∙ ap negsuc split)
    ∙ ap (λ (k : ℕ). 2 * h - suc k) (add-mul-mod_self_right (2 * h - suc r) q (2 * h) ∙ mod-eq_of_lt (omega arith))
    ∙ back
  where
    split : y - suc x ≡ 2 * h - suc r + q * (2 * h)
    split = omega arith

    back : 2 * h - suc (2 * h - suc r) ≡ r
    back = omega arith

-- x - y is r, up to multiples of 2h
pub low_is : (h x y r i j : ℕ) → r < 2 * h → x + i * (2 * h) ≡ y + r + j * (2 * h) → low h (sub_ℕ x y) ≡ r
low_is h x y r i j p e = ⊎_elim below above (either j i)
  where
    above : i ≤ j → low h (sub_ℕ x y) ≡ r
    above k = let f : j * (2 * h) ≡ (i + (j - i)) * (2 * h) = ap (λ (n : ℕ). n * (2 * h)) (omega arith) in low_up h x y r (j - i) p (omega arith)

    below : j < i → low h (sub_ℕ x y) ≡ r
    below k = let f : i * (2 * h) ≡ (j + suc (i - suc j)) * (2 * h) = ap (λ (n : ℕ). n * (2 * h)) (omega arith) in low_down h x y r (i - suc j) p (omega arith)

-- ---- what a word stands for

-- it is w less 2h times this
pub sign : ℕ → ℕ → ℕ
sign h w = cond (ltb w h) 0 1

pub signed_is : (h w : ℕ) → signed h w ≡ sub_ℕ w (sign h w * (2 * h))
unfolding sign
signed_is h w = go (ltb w h)
  where
    go : (t : Bool) → cond t (pos w) (sub_ℕ w (2 * h)) ≡ sub_ℕ w (cond t 0 1 * (2 * h))
    go true = sym (sub_ge w (0 * (2 * h)) (omega arith) ∙ ap pos (omega arith))
    go false = ap (sub_ℕ w) (omega arith)

pub sign_pos : (h w : ℕ) → w < h → sign h w ≡ 0
unfolding sign
sign_pos h w k = rw (lt-ltb w h k)

pub sign_neg : (h w : ℕ) → h ≤ w → sign h w ≡ 1
unfolding sign
sign_neg h w k = rw (le-ltb w h k)

-- three ways to be in the range or out of it
pub inside : (h x y : ℕ) → x < y + h → y ≤ x + h → false ≡ not (fits h (sub_ℕ x y))
inside h x y p q = sym (ap not (fits_in_lem h x y p q))

pub over_up : (h x y r : ℕ) → x ≡ y + r → leb h r ≡ not (fits h (sub_ℕ x y))
over_up h x y r e =
    ⊎_elim
    (λ (k : r < h). lt-leb h r k ∙ sym (ap not (fits_in_lem h x y (omega arith) (omega arith))))
    (λ (k : h ≤ r). le-leb h r k ∙ sym (ap not (fits_above h x y (omega arith))))
    (either r h)

pub over_down : (h x y r : ℕ) → r < 2 * h → x + 2 * h ≡ y + r → ltb r h ≡ not (fits h (sub_ℕ x y))
over_down h x y r p e =
    ⊎_elim
    (λ (k : r < h). lt-ltb r h k ∙ sym (ap not (fits_below h x y (omega arith))))
    (λ (k : h ≤ r). le-ltb r h k ∙ sym (ap not (fits_in_lem h x y (omega arith) (omega arith))))
    (either r h)

-- ---- m or -m: its low bits, its upper bits, its range

module _ (h m : ℕ) (some : 0 < h) where
  pub rest : m % (2 * h) < 2 * h
  rest = mod-lt m (omega arith)

  pub low_none : (s : Bool) → m % (2 * h) ≡ 0 → 0 ≡ low h (with_sign s m)
  unfolding low
  low_none false e = sym e
  low_none true e =
      let w = mod-add-div' m (2 * h) in
      sym (ap (low h) (neg_pos m) ∙ low_is h 0 m 0 (m / (2 * h)) 0 (omega arith) (omega arith))

  pub low_pos : (s : Bool) → s ≡ false → m % (2 * h) ≡ low h (with_sign s m)
  unfolding low
  low_pos s f = rw f

  pub low_neg : (s : Bool) → s ≡ true → (m % (2 * h) ≡ 0 → ⊥) → 2 * h - m % (2 * h) ≡ low h (with_sign s m)
  low_neg s f n =
      let w = mod-add-div' m (2 * h) in
      let l = rest in
      let k : 0 < m % (2 * h) = pos_of_ne-zero n in
      sym (ap (λ (t : Bool). low h (with_sign t m)) f ∙ ap (low h) (neg_pos m) ∙ low_is h 0 m (2 * h - m % (2 * h)) (suc (m / (2 * h))) 0 (omega arith)
      (omega arith))

  pub exceeds_neg : (s : Bool) → s ≡ true → ltb h m ≡ not (fits h (with_sign s m))
  exceeds_neg s f =
      ⊎_elim
      (λ (k : h < m). lt-ltb h m k ∙ sym (ap not (fits_below h 0 m (omega arith))))
      (λ (k : m ≤ h). le-ltb h m k ∙ sym (ap not (fits_in_lem h 0 m (omega arith) (omega arith))))
      (either h m)
      ∙ sym (ap (λ (z : ℤ). not (fits h z)) (ap (λ (t : Bool). with_sign t m) f ∙ neg_pos m))

  pub exceeds_pos : (s : Bool) → s ≡ false → leb h m ≡ not (fits h (with_sign s m))
  exceeds_pos s f = over_up h m 0 m (omega arith) ∙ sym (ap (λ (z : ℤ). not (fits h z)) (ap (λ (t : Bool). with_sign t m) f ∙ pos_is m))

-- ---- the low bits and what they stand for

-- the low bits are a word
pub low_lt : (h : ℕ) (z : ℤ) → 0 < h → low h z < 2 * h
unfolding low
low_lt h (pos k) p = mod-lt k (omega arith)
low_lt h (negsuc k) p = omega arith

-- the low bits of a number in the range stand for it
pub kept : (h : ℕ) (z : ℤ) → fits h z ≡ true → signed h (low h z) ≡ z
unfolding low
kept h (pos k) f =
    let l : k < h = ltb-true k h (sym (fits_mag h (pos k)) ∙ f) in
    let e : k % (2 * h) ≡ k = mod-eq_of_lt (omega arith) in
    rw (e, lt-ltb k h l)
kept h (negsuc k) f =
    let l : k < h = ltb-true k h (sym (fits_mag h (negsuc k)) ∙ f) in
    let e : 2 * h - suc (k % (2 * h)) ≡ 2 * h - suc k = ap (λ (n : ℕ). 2 * h - suc n) (mod-eq_of_lt (omega arith)) in
    rw (e, le-ltb (2 * h - suc k) h (omega arith)) (sub_lt (2 * h - suc k) (2 * h) (omega arith) ∙ ap negsuc (omega arith))

-- a whole number is its upper part, rounded down, times 2h, and its low bits
pub parted : (h : ℕ) (z : ℤ) → 0 < h → z ≡ shr_z z (2 * h) *ℤ pos (2 * h) +ℤ pos (low h z)
unfolding low
parted h (pos k) p = ap pos (sym (div-add-mod' k (2 * h)))
parted h (negsuc k) p =
    let q = k / (2 * h) in
    let r = k % (2 * h) in
    let l : r < 2 * h = mod-lt k (omega arith) in
    let w = div-add-mod' k (2 * h) in
    sym (ap (λ (z : ℤ). z +ℤ pos (2 * h - suc r)) (neg_pos (suc q * (2 * h)))
    ∙ ap (λ (z : ℤ). sub_ℕ 0 (suc q * (2 * h)) +ℤ z) (sym (sub_ge (2 * h - suc r) 0 (omega arith) ∙ ap pos (omega arith)))
    ∙ sum_differences 0 (suc q * (2 * h)) (2 * h - suc r) 0
    ∙ sub_lt (0 + (2 * h - suc r)) (suc q * (2 * h) + 0) (omega arith)
    ∙ ap negsuc (omega arith))

-- the function finds the low bits
pub low_bits : (h : ℕ) (z : ℤ) → 0 < h → LowBits h z (low h z)
low_bits h z p = record { word = low_lt h z p; multiple = shr_z z (2 * h); whole = parted h z p }
