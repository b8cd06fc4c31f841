-- Results are proper words of 32 bits, and errors have four bits: a magnitude of at least 2 ^ 23 fine units keeps 24 digits. Assumes nothing.
use mathlib.Core.Path.{◌≡◌, refl, sym, ap, ◌∙◌, subst}
use mathlib.Core.Logic.{◌⊎◌, inl, inr}
use mathlib.Core.Bool.{Bool, true, false, cond, ◌||◌}
use Prim.Native.Nat.{ℕ, ◌+◌, ◌*◌, ◌^◌, ◌≤◌, ◌<◌, zero-le}
use native.Mathlib.Nat.{le_refl, le_trans, le_of_eq, le_of_lt, lt_of_lt_of_le, eq-or-lt_of_le, eq-zero-or-pos, mul-one, one-mul, zero-mul, mul-pos}
use native.Mathlib.Nat.{mul-le-mul_left, mul-le-mul_right, mul_comm, le-div_iff_mul-le, mod-lt, pos_of_ne-zero}
use native.Mathlib.Omega.{arith}
use borrow.Author.Tests.{le-leb, ltb-true, eqb-false, ne_eqb}
use lib.Dec.{ltb, leb, eqb, lit<, lit≤}
use lib.IntN.{ℤ, nat_abs}
use lib.Pow.{pow_pos, pow_mono}
use Rattle.float.specs.declared.Flagged.{Flagged}
use Rattle.float.specs.Word.{negative, biased, mantissa, size88, proper, FloatWord}
use Rattle.terms.specs.declared.Rule.{Rule}
use Rattle.terms.specs.declared.Rule.TheVariants.{Cut}
use Rattle.float.specs.Cut.{lost, kept, whole, mantissa_of, digits_of, packed, stored, zero_word, below0, cut_size, cut}
use Rattle.float.specs.Float.{exact_sum, exact_difference, exact_product, dividend, divisor, add, sub, mul, div, Result}
use Rattle.float.specs.Convert.{integer, fltd, flts}
use Rattle.float.specs.Root.{whole_root, root_halves, radicand, sqrt}
use Rattle.float.proofs.cut.Pair.{whole_ge, kept_le, kept_ge, cut_zero}
use Rattle.float.proofs.cut.Values.{packed_mantissa, packed_lt, error_lt, cut_stored}
use Rattle.float.proofs.word.Proper.{proper_norm}
use Rattle.float.proofs.root.WholeRoot.{is_root, root_ge, halves_near}
use Rattle.float.proofs.root.RootCut.{root_negative, root_cut, root_none}

-- ---- a cut
pub kept_big : (r : Rule) (n d : ℕ) → 0 < d → 8388608 * d ≤ n → 8388608 ≤ kept r n d
kept_big r n d D h = go (eq-or-lt_of_le (zero-le {n = lost n d}))
  where
    go : (0 ≡ lost n d) ⊎ (0 < lost n d) → 8388608 ≤ kept r n d
    go (inl e) =
        subst (λ (x : ℕ). 8388608 ≤ whole r n (d * 2 ^ x)) e
        (le_trans ((le-div_iff_mul-le (mul-pos D (pow_pos 0))).1 (le_trans (le_of_eq (ap (λ (x : ℕ). 8388608 * x) (mul-one d))) h)) (whole_ge r n (d * 2 ^ 0)))
    go (inr l) = kept_ge r n d l

pub mantissa_big : (q : ℕ) → 8388608 ≤ q → q ≤ 16777216 → (8388608 ≤ mantissa_of q) × (mantissa_of q < 16777216)
mantissa_big q a b = go (ltb q 16777216) refl
  where
    go : (t : Bool) → ltb q 16777216 ≡ t → (8388608 ≤ cond t q 8388608) × (cond t q 8388608 < 16777216)
    go true e = (a, ltb-true q 16777216 e)
    go false e = (le_refl 8388608, lit< tt)

-- a word with a mantissa of 24 digits is proper
pub packed_result : (s : Bool) (m k : ℕ) → 8388608 ≤ m → m < 16777216 → Result (stored s m k)
packed_result s m k a b = record {
  word = record {
    fits = packed_lt s m k b;
    is_proper = ap (λ (x : ℕ). leb 8388608 x || eqb (packed s m k) 0) (packed_mantissa s m k b) ∙ ap (λ (x : Bool). x || eqb (packed s m k) 0)
        (le-leb 8388608 m a);
  };
  small = error_lt k;
}

pub zero_result : Result zero_word
zero_result = record { word = record { fits = lit< tt; is_proper = refl }; small = lit< tt }

pub cut_result : (r : Rule) (s : Bool) (n d : ℕ) → 0 < d → (n ≡ 0) ⊎ (8388608 * d ≤ n) → Result (cut_size r s n d)
cut_result r s n d D (inl z) = subst (λ (x : Flagged). Result x) (sym (cut_zero r s n d z)) zero_result
cut_result r s n d D (inr h) =
    let N : 0 < n = lt_of_lt_of_le D (le_trans (more D) h) in
    let m = mantissa_big (kept r n d) (kept_big r n d D h) (kept_le r n d) in
    subst (λ (x : Flagged). Result x) (sym (cut_stored r s n d N)) (packed_result s (mantissa_of (kept r n d)) (digits_of (kept r n d) (lost n d)) m.0 m.1)
  where
    more : 0 < d → d ≤ 8388608 * d
    more g = omega arith

-- an exact value that is zero or at least 2 ^ -177, over d
pub exact_result : (r : Rule) (z : ℤ) (d : ℕ) → 0 < d → 8388608 * d ≤ 2 ^ 200 → Result (cut r z d)
unfolding cut
exact_result r z d D h = cut_result r (below0 z) (nat_abs z * 2 ^ 200) d D (reach (eq-zero-or-pos (nat_abs z)))
  where
    reach : {n : ℕ} → (n ≡ 0) ⊎ (0 < n) → (n * 2 ^ 200 ≡ 0) ⊎ (8388608 * d ≤ n * 2 ^ 200)
    reach (inl e) = inl (ap (λ (y : ℕ). y * 2 ^ 200) e ∙ zero-mul (2 ^ 200))
    reach (inr p) = inr (le_trans h (le_trans (le_of_eq (sym (one-mul (2 ^ 200)))) (mul-le-mul_right (2 ^ 200) p)))

-- ---- the operations
pub add_result : (r : Rule) (b a : ℕ) → Result (add r b a)
unfolding add
add_result r b a = exact_result r (exact_sum b a) (2 ^ 88) (pow_pos 88) (lit≤ {m = 8388608 * 2 ^ 88} {n = 2 ^ 200} tt)

pub sub_result : (r : Rule) (b a : ℕ) → Result (sub r b a)
unfolding sub
sub_result r b a = exact_result r (exact_difference b a) (2 ^ 88) (pow_pos 88) (lit≤ {m = 8388608 * 2 ^ 88} {n = 2 ^ 200} tt)

pub mul_result : (r : Rule) (b a : ℕ) → Result (mul r b a)
unfolding mul
mul_result r b a = exact_result r (exact_product b a) (2 ^ 176) (pow_pos 176) (lit≤ {m = 8388608 * 2 ^ 176} {n = 2 ^ 200} tt)

-- the magnitude of a word, times 2 ^ 88, has at most 151 digits
pub size-le : (w : ℕ) → 8388608 * size88 w ≤ 2 ^ 200
unfolding size88
size-le w =
    le_trans
    (mul-le-mul_left 8388608
    (le_trans (mul-le-mul_right (2 ^ biased w) (le_of_lt (mod-lt w (lit< {m = 0} {n = 16777216} tt))))
    (mul-le-mul_left 16777216 (pow_mono {i = biased w} {j = 127} (omega arith)))))
    (lit≤ {m = 8388608 * (16777216 * 2 ^ 127)} {n = 2 ^ 200} tt)

pub size_pos : (w : ℕ) → (mantissa w ≡ 0 → ⊥) → 0 < size88 w
unfolding size88
size_pos w nz = mul-pos (pos_of_ne-zero nz) (pow_pos (biased w))

pub div_cut : (r : Rule) (b a : ℕ) → (mantissa a ≡ 0 → ⊥) → div r b a ≡ cut r (dividend b a) (divisor a)
unfolding div
div_cut r b a nz = rw (ne_eqb (mantissa a) 0 nz)

pub div_result : (r : Rule) (b a : ℕ) → FloatWord b → Result (div r b a)
div_result r b a B = go (eqb (mantissa a) 0) refl
  where
    go : (t : Bool) → eqb (mantissa a) 0 ≡ t → Result (div r b a)
    go true e = unfold div in rw e (record { word = B; small = lit< tt })
    go false e =
        let nz = eqb-false (mantissa a) 0 e in
        subst (λ (x : Flagged). Result x) (sym (div_cut r b a nz)) (exact_result r (dividend b a) (divisor a) (size_pos a nz) (size-le a))

pub fltd_result : (r : Rule) (a : ℕ) → Result (fltd r a)
unfolding fltd
fltd_result r a = exact_result r (integer (2 ^ 31) a) 1 (le_refl 1) (lit≤ {m = 8388608 * 1} {n = 2 ^ 200} tt)

pub flts_result : (a : ℕ) → Result (flts a)
unfolding flts
flts_result a = exact_result Cut (integer (2 ^ 15) a) 1 (le_refl 1) (lit≤ {m = 8388608 * 1} {n = 2 ^ 200} tt)

-- ---- the root
pub size_ge : (w : ℕ) → proper w ≡ true → 0 < size88 w → 2 ^ 23 ≤ size88 w
unfolding size88
size_ge w p h = go (proper_norm w p)
  where
    go : (mantissa w ≡ 0) ⊎ (8388608 ≤ mantissa w) → 8388608 ≤ mantissa w * 2 ^ biased w
    go (inl z) = let e : mantissa w * 2 ^ biased w ≡ 0 = ap (λ (x : ℕ). x * 2 ^ biased w) z ∙ zero-mul (2 ^ biased w) in absurd (omega arith)
    go (inr l) = le_trans l (le_trans (le_of_eq (sym (mul-one (mantissa w)))) (mul-le-mul_left (mantissa w) (pow_pos (biased w))))

pub root_low : (a : ℕ) → 2 ^ 23 ≤ size88 a → 2 ^ (23 + 144) * 2 ≤ root_halves (radicand a)
root_low a h =
    let N = radicand a in
    let s : 2 ^ 167 ≤ whole_root N = root_ge N (whole_root N) (2 ^ 167) (is_root N) (le_trans (lit≤ {m = 2 ^ 167 * 2 ^ 167} {n = 2 ^ 23 * 2 ^ 312} tt)
    (mul-le-mul_right (2 ^ 312) h)) in
    let c = (halves_near N).0 in
    le_trans (le_of_eq (mul_comm (2 ^ 167) 2)) (le_trans (mul-le-mul_left 2 s) c)

pub root_result : (r : Rule) (a : ℕ) → FloatWord a → Result (sqrt r a)
root_result r a A = go (negative a) refl (eq-zero-or-pos (size88 a))
  where
    go : (s : Bool) → negative a ≡ s → (size88 a ≡ 0) ⊎ (0 < size88 a) → Result (sqrt r a)
    go true s z = subst (λ (x : Flagged). Result x) (root_negative r a s) (record { word = A; small = lit< tt })
    go false s (inl z) = subst (λ (x : Flagged). Result x) (sym (root_none r a s z)) zero_result
    go false s (inr l) =
        subst (λ (x : Flagged). Result x) (sym (root_cut r a s))
        (cut_result r false (root_halves (radicand a)) 2 (lit< tt) (inr (le_trans (lit≤ {m = 8388608 * 2} {n = 2 ^ (23 + 144) * 2} tt)
        (root_low a (size_ge a A.is_proper l)))))
