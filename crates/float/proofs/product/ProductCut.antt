-- What the program computes of a times and of a quotient is the cut of the exact one: a quotient to 64 bits, its last bit made odd where
-- a remainder is left, stands for the fraction. Assumes nothing.
use mathlib.Core.Path.{◌≡◌, refl, sym, ap, ap₂, ◌∙◌, subst, subst₂}
use mathlib.Core.Logic.{◌⊎◌, inl, inr}
use mathlib.Core.Bool.{Bool, true}
use Prim.Native.Nat.{ℕ, ◌+◌, ◌-◌, ◌*◌, ◌/◌, ◌%◌, ◌^◌, ◌≤◌, ◌<◌}
use native.Mathlib.Nat.{le_trans, mul_assoc, mul-pos, mul-mul-mul_comm, div-add-mod', mod-lt, le-div_iff_mul-le, zero-mod, pos_of_ne-zero}
use native.Mathlib.Omega.{arith}
use borrow.Author.Tests.{ne_eqb, eq-eqb}
use lib.Dec.{lit<}
use lib.IntN.{ℤ}
use lib.Ieee.{unlike}
use lib.Pow.{pow-add, pow_pos}
use Rattle.numbers.proofs.Signs.{times}
use Rattle.float.specs.Word.{proper, mantissa, biased, negative, size88}
use Rattle.terms.specs.declared.Rule.{Rule}
use Rattle.float.specs.Cut.{cut_size, cut}
use Rattle.float.specs.Float.{mul, div}
use Rattle.float.specs.Jam.{Jammed}
use Rattle.float.proofs.Powers.{moved, parted}
use Rattle.float.proofs.cut.Jams.{Jam, Stands, stands_cut, jam_of, jam_scale}
use Rattle.float.proofs.cut.Signs.{cut_sign, cut_scaled}
use Rattle.float.proofs.word.Proper.{proper_norm}

pub stands_scale : (n u t c : ℕ) → 0 < c → Stands n u t → Stands (n * c) (u * c) t
stands_scale n u t c C (inl e) = inl (ap (λ (z : ℕ). z * c) e ∙ mul_assoc t u c)
stands_scale n u t c C (inr w) = inr (w.0, jam_scale n u t c C w.1)

pub stands_of : (q v u t : ℕ) → v < u → (0 < v → 33554432 ≤ q) → Jammed q v t → Stands (q * u + v) u t
stands_of q v u t h big (inl w) = inl (exact (jam_of q v u t h (inl w)))
  where
    exact : Jam (q * u + v) u t → q * u + v ≡ t * u
    exact (inl e) = e
    exact (inr x) = let a : v ≡ 0 = w.0 in let b : q * u ≡ t * u = ap (λ (z : ℕ). z * u) (sym w.1) in omega arith
stands_of q v u t h big (inr w) = inr (le_trans (big w.0) w.2, jam_of q v u t h (inr w))

-- ---- a quotient: mantissas m and n, n above 0, at exponents i and j
pub div_stands : (m n i j t : ℕ) → 0 < n → n < 16777216 → (m ≡ 0) ⊎ (8388608 ≤ m) → j ≤ i + 160 → Jammed (m * 2 ^ 40 / n) (m * 2 ^ 40 % n) t
    → Stands (m * 2 ^ i * 2 ^ 200) (n * 2 ^ j * 2 ^ (i + 160 - j)) t
div_stands m n i j t N n24 norm le s =
    subst (λ (z : ℕ). Stands z (n * 2 ^ j * 2 ^ (i + 160 - j)) t) (moved m 40 (i + 160) i 200 (omega arith))
    (subst (λ (z : ℕ). Stands (m * 2 ^ 40 * 2 ^ (i + 160)) z t) (parted n (i + 160) j (i + 160 - j) (omega arith))
    (stands_scale (m * 2 ^ 40) n t (2 ^ (i + 160)) (pow_pos (i + 160))
    (subst (λ (z : ℕ). Stands z n t) (div-add-mod' (m * 2 ^ 40) n) (stands_of (m * 2 ^ 40 / n) (m * 2 ^ 40 % n) n t (mod-lt (m * 2 ^ 40) N) (large norm) s))))
  where
    large : (m ≡ 0) ⊎ (8388608 ≤ m) → 0 < m * 2 ^ 40 % n → 33554432 ≤ m * 2 ^ 40 / n
    large (inl z) v = let a : m * 2 ^ 40 % n ≡ 0 = ap (λ (y : ℕ). y * 2 ^ 40 % n) z ∙ zero-mod n in absurd (omega arith)
    large (inr h) v = (le-div_iff_mul-le N).1 (omega arith)

-- ---- a times and a quotient, from what a program reads off the words
mul_exact : (b a : ℕ) → size88 b * size88 a * 2 ^ 24 ≡ mantissa b * mantissa a * 2 ^ (biased b + biased a + 24)
unfolding size88
mul_exact b a =
    mul_eq (mantissa b) (mantissa a) (biased b) (biased a)
  where
    mul_eq : (m n i j : ℕ) → m * 2 ^ i * (n * 2 ^ j) * 2 ^ 24 ≡ m * n * 2 ^ (i + j + 24)
    mul_eq m n i j =
        ap (λ (x : ℕ). x * 2 ^ 24) (mul-mul-mul_comm m (2 ^ i) n (2 ^ j)) ∙ mul_assoc (m * n) (2 ^ i * 2 ^ j) (2 ^ 24)
        ∙ ap (λ (x : ℕ). m * n * x) (ap (λ (x : ℕ). x * 2 ^ 24) (sym (pow-add 2 i j)) ∙ sym (pow-add 2 (i + j) 24))

pub mul_law : (r : Rule) (b a : ℕ) (neg : Bool) (m n i j : ℕ) → neg ≡ unlike (negative b) (negative a) → m ≡ mantissa b → n ≡ mantissa a → i ≡ biased b
    → j ≡ biased a
    → cut_size r neg (m * n * 2 ^ (i + j + 24)) 1 ≡ mul r b a
unfolding mul
mul_law r b a neg m n i j s e f g h =
    let v : cut_size r neg (m * n * 2 ^ (i + j + 24)) 1 ≡ cut_size r (unlike (negative b) (negative a)) (size88 b * size88 a * 2 ^ 24) 1 = cc (mul_exact b a) in
    v ∙ sym (cut_scaled r (unlike (negative b) (negative a)) (size88 b * size88 a) 176 24 refl)
    ∙ ap (λ (z : ℤ). cut r z (2 ^ 176)) (sym (times (negative b) (negative a) (size88 b) (size88 a)))

pub div_none : (r : Rule) (b a m : ℕ) → m ≡ mantissa a → m ≡ 0 → record { word = b; error = 8 } ≡ div r b a
unfolding div
div_none r b a m e z = rw (eq-eqb (mantissa a) 0 (sym e ∙ z))

pub div_law : (r : Rule) (b a : ℕ) (neg : Bool) (m n i j t : ℕ) → neg ≡ unlike (negative b) (negative a) → m ≡ mantissa b → n ≡ mantissa a → i ≡ biased b
    → j ≡ biased a
    → proper b ≡ true → (n ≡ 0 → ⊥) → Jammed (m * 2 ^ 40 / n) (m * 2 ^ 40 % n) t → cut_size r neg (t * 2 ^ (i + 160 - j)) 1 ≡ div r b a
unfolding div size88
div_law r b a neg m n i j t s e f g h pb nz jm =
    let N : 0 < mantissa a = subst (λ (x : ℕ). 0 < x) f (pos_of_ne-zero nz) in
    let st =
    div_stands (mantissa b) (mantissa a) (biased b) (biased a) t N (mod-lt a (lit< {m = 0} {n = 16777216} tt)) (proper_norm b pb) (omega arith)
    (subst₂ (λ (x y : ℕ). Jammed (x * 2 ^ 40 / y) (x * 2 ^ 40 % y) t) e f jm) in
    let c = stands_cut r neg (size88 b * 2 ^ 200) (size88 a) t (biased b + 160 - biased a) (mul-pos N (pow_pos (biased a))) st in
    rw (ne_eqb (mantissa a) 0 (λ z. nz (f ∙ z)), ← s)
    (ap₂ (λ (x y : ℕ). cut_size r neg (t * 2 ^ (x + 160 - y)) 1) g h ∙ sym c ∙ sym (cut_sign r neg (size88 b) (size88 a)))
