-- FLTD and FLTS never set an error, and FLTS is exact; FIXD and FIXS give the whole part toward zero, or overflow exactly where it is too
-- large. Assumes nothing.
use mathlib.Core.Path.{◌≡◌, refl, sym, ap, ◌∙◌, subst}
use mathlib.Core.Logic.{◌⊎◌, inl, inr, ⊎_elim}
use mathlib.Core.Bool.{Bool, true, false, cond}
use Prim.Native.Nat.{ℕ, zero, suc, ◌+◌, ◌-◌, ◌*◌, ◌/◌, ◌%◌, ◌^◌, ◌≤◌, ◌<◌}
use native.Mathlib.Nat.{le_refl, le_trans, le_of_eq, lt_of_le_of_lt, mul-one, one-mul, mul-le-mul_right, mod-eq_of_lt, mod_self, div-mul-le_self}
use native.Mathlib.Nat.{lt-div-mul-add, suc-mul, sub-zero}
use native.Mathlib.Numerals.{add-one}
use native.Mathlib.Omega.{arith}
use borrow.Author.Tests.{le-leb, lt-leb, leb-true, leb-false}
use lib.Dec.{leb, lit<, lit≤}
use lib.IntN.{ℤ, pos, nat_abs, ◌*ℤ◌}
use lib.Pow.{pow_pos}
use Rattle.numbers.specs.Signed.{with_sign}
use Rattle.numbers.proofs.Differences.{either}
use Rattle.numbers.proofs.Signs.{times, size_of_signed}
use Rattle.float.specs.declared.Flagged.{Flagged}
use Rattle.float.specs.Word.{negative, size88, value}
use Rattle.terms.specs.declared.Rule.{Rule}
use Rattle.terms.specs.declared.Rule.TheVariants.{Cut}
use Rattle.float.specs.Cut.{below0, cut_size, cut}
use Rattle.float.specs.Convert.{integer, fltd, flts, whole_part, complement, fix}
use Rattle.float.proofs.Powers.{parted}
use Rattle.float.proofs.cut.Signs.{signed_parts, alone, times_size, cut_sign}
use Rattle.float.proofs.cut.Values.{grid, cut_value}
use Rattle.promises.proofs.float.Steps.{exactly, no_error_within}
use Rattle.promises.proofs.float.Kept.{fits_exact, own_value}
use Rattle.float.proofs.Results.{flts_result}
use Rattle.promises.specs.FloatResults.{ExactlyBy, Truncated}
use Rattle.promises.proofs.Measures.{ours_word}

-- what 01 asks of FIXD and FIXS: the whole part where it is below half, A and overflow exactly where it is not
abbrev pub Fixes : ℕ → ℕ → Flagged → Type 0
Fixes half a r = ((whole_part a < half) × Truncated half a r) ⊎ ((half ≤ whole_part a) × (r ≡ record { word = a; error = 1 }))

-- ---- FLTD and FLTS
-- what a number of two's complement stands for, as a sign and a magnitude
integer_parts : (half a : ℕ) → a < 2 * half → (s : Bool) × (x : ℕ) × (integer half a ≡ with_sign s x) × (x ≤ half)
integer_parts half a h = go (leb half a) (leb-true half a) (leb-false half a)
  where
    go : (t : Bool) → (t ≡ true → half ≤ a) → (t ≡ false → a < half) → (s : Bool) × (x : ℕ)
        × (cond t (with_sign true (2 * half - a)) (with_sign false a) ≡ with_sign s x) × (x ≤ half)
    go true f g = let l = f refl in (true, 2 * half - a, refl, omega arith)
    go false f g = let l = g refl in (false, a, refl, omega arith)

-- FLTD and FLTS give exactly the cut of A's value, whose exponent is from 1 to 32
integer_exactly : (r : Rule) (half a : ℕ) → half ≤ 2147483648 → a < 2 * half → ExactlyBy r (integer half a) 1 (pos 1) (pos 32) (cut r (integer half a) 1)
integer_exactly r half a H h =
    exactly r (integer half a) 1 177 208 (le_refl 1) (lit< tt) (λ p. (
      le_trans (le_of_eq (mul-one (2 ^ 200) ∙ sym (one-mul (2 ^ 200)))) (mul-le-mul_right (2 ^ 200) p),
      le_trans (mul-le-mul_right (2 ^ 200) (le_trans small H)) (lit≤ {m = 2147483648 * 2 ^ 200} {n = 16777215 * 2 ^ 208 * 1} tt),
    ))
  where
    small : nat_abs (integer half a) ≤ half
    small = let q = integer_parts half a h in le_trans (le_of_eq (ap nat_abs q.2 ∙ size_of_signed q.0 q.1)) q.3

pub fltd_exactly : (r : Rule) (a : ℕ) → a < 4294967296 → ExactlyBy r (integer (2 ^ 31) a) 1 (pos 1) (pos 32) (fltd r a)
unfolding fltd
fltd_exactly r a h = integer_exactly r (2 ^ 31) a (le_refl 2147483648) h

-- so neither sets an error
integer_error : (r : Rule) (half a : ℕ) → half ≤ 2147483648 → a < 2 * half → (cut r (integer half a) 1).error ≡ 0
integer_error r half a H h = no_error_within 177 208 (lit≤ tt) (lit≤ tt) (integer_exactly r half a H h)

pub fltd_no_error : (r : Rule) (a : ℕ) → a < 4294967296 → (fltd r a).error ≡ 0
unfolding fltd
fltd_no_error r a h = integer_error r (2 ^ 31) a (le_refl 2147483648) h

pub flts_no_error : (a : ℕ) → a < 65536 → (flts a).error ≡ 0
unfolding flts
flts_no_error a h = integer_error Cut (2 ^ 15) a (lit≤ tt) h

-- FLTS: the word's value is A's value
pub flts_exact : (a : ℕ) → a < 65536 → value (flts a).word ≡ integer (2 ^ 15) a *ℤ pos (2 ^ 88)
flts_exact a h =
    let p = integer_parts (2 ^ 15) a h in
    let s = p.0 in
    let x = p.1 in
    let small = p.3 in
    let c : flts a ≡ cut_size Cut s (x * 2 ^ 200) 1 = unfold flts in ap (λ (z : ℤ). cut Cut z 1) p.2 ∙ cut_sign Cut s x 1 in
    let v = cut_value Cut s (x * 2 ^ 200) 1 (le_refl 1) (sym (ap (λ (y : Flagged). y.error) c) ∙ flts_no_error a h) in
    let g : grid Cut (x * 2 ^ 200) 1 ≡ x * 2 ^ 200 = fits_exact Cut (x * 2 ^ 200) 1 x 200 (le_refl 1) (lt_of_le_of_lt small (lit< tt))
    (sym (mul-one (x * 2 ^ 200))) in
    ap (λ (y : Flagged). value y.word) c ∙ v.0
    ∙ ap (λ (y : ℕ). with_sign s y) (shrink (size88 (cut_size Cut s (x * 2 ^ 200) 1).word) (x * 2 ^ 88) (v.1 ∙ g ∙ parted x 200 88 112 refl))
    ∙ sym (ap (λ (z : ℤ). z *ℤ pos (2 ^ 88)) p.2 ∙ times s false x (2 ^ 88) ∙ alone s (x * 2 ^ 88))
  where
    shrink : (y z : ℕ) → y * 2 ^ 112 ≡ z * 2 ^ 112 → y ≡ z
    shrink y z e = omega arith

-- so no rule gives another word
pub flts_either : (r : Rule) (a : ℕ) → a < 65536 → cut r (integer (2 ^ 15) a) 1 ≡ flts a
flts_either r a h =
    own_value r (flts a).word (integer (2 ^ 15) a) 1 (ours_word (flts_result a).word) (le_refl 1) (once (value (flts a).word) ∙ flts_exact a h)
    ∙ ap (λ (e : ℕ). record { word = (flts a).word; error = e }) (sym (flts_no_error a h))
  where
    once : (z : ℤ) → z *ℤ pos 1 ≡ z
    once z = times_size z 1 ∙ ap (λ (n : ℕ). with_sign (below0 z) n) (mul-one (nat_abs z)) ∙ sym (signed_parts z)

-- ---- FIXD and FIXS
-- the whole part: a whole number of 2 ^ 88, and less than one more
pub whole_part_lem : (a : ℕ) → (whole_part a * 2 ^ 88 ≤ size88 a) × (size88 a < (whole_part a + 1) * 2 ^ 88)
unfolding whole_part
whole_part_lem a = (
  div-mul-le_self (size88 a) (2 ^ 88),
  subst (λ (x : ℕ). size88 a < x) (sym (ap (λ (x : ℕ). x * 2 ^ 88) (add-one (size88 a / 2 ^ 88)) ∙ suc-mul (size88 a / 2 ^ 88) (2 ^ 88)))
      (lt-div-mul-add (pow_pos 88)),
)

-- the complement of a whole number below half stands for it
complement_is : (half n : ℕ) (s : Bool) → n < half → (integer half (complement half s n) ≡ with_sign s n) × (complement half s n < 2 * half)
complement_is half n false h = (rw (lt-leb half n h), omega arith)
complement_is half zero true h =
    let e : (2 * half - 0) % (2 * half) ≡ 0 = ap (λ (x : ℕ). x % (2 * half)) (sub-zero (2 * half)) ∙ mod_self (2 * half) in
    (rw (e, lt-leb half 0 h), subst (λ (x : ℕ). x < 2 * half) (sym e) (omega arith))
complement_is half (suc n) true h =
    let e : (2 * half - suc n) % (2 * half) ≡ 2 * half - suc n = mod-eq_of_lt (omega arith) in
    let b : 2 * half - (2 * half - suc n) ≡ suc n = omega arith in
    (rw (e, le-leb half (2 * half - suc n) (omega arith)) (ap (λ (x : ℕ). with_sign true x) b), subst (λ (x : ℕ). x < 2 * half) (sym e) (omega arith))

pub fix_law : (half a : ℕ) → Fixes half a (fix half a)
unfolding size88 whole_part
fix_law half a = ⊎_elim within over (either (whole_part a) half)
  where
    within : whole_part a < half → Fixes half a (fix half a)
    within h =
        let c = complement_is half (whole_part a) (negative a) h in
        let p = whole_part_lem a in
        let f : fix half a ≡ record { word = complement half (negative a) (whole_part a); error = 0 } = unfold fix in rw (lt-leb half (whole_part a) h) in
        let n : nat_abs (integer half (complement half (negative a) (whole_part a))) ≡ whole_part a = ap nat_abs c.0 ∙ size_of_signed (negative a) (whole_part a)
        in
        inl (
          h,
          subst (λ (r : Flagged). Truncated half a r) (sym f) (record {
            none = refl;
            fits = c.1;
            sign = c.0 ∙ ap (λ (x : ℕ). with_sign (negative a) x) (sym n);
            reached = subst (λ (x : ℕ). x * 2 ^ 88 ≤ size88 a) (sym n) p.0;
            passed = subst (λ (x : ℕ). size88 a < (x + 1) * 2 ^ 88) (sym n) p.1;
          }),
        )

    over : half ≤ whole_part a → Fixes half a (fix half a)
    over h = inr (h, unfold fix in rw (le-leb half (whole_part a) h))

-- a word of 32 bits stays one, and the error has four bits
pub fix_bounds : (half a : ℕ) → half ≤ 2147483648 → a < 4294967296 → ((fix half a).word < 4294967296) × ((fix half a).error < 16)
fix_bounds half a H A = go (fix_law half a)
  where
    go : Fixes half a (fix half a) → ((fix half a).word < 4294967296) × ((fix half a).error < 16)
    go (inl w) = let f = w.1.fits in let e = w.1.none in (omega arith, omega arith)
    go (inr w) = (subst (λ (r : Flagged). r.word < 4294967296) (sym w.1) A, subst (λ (r : Flagged). r.error < 16) (sym w.1) (lit< tt))
