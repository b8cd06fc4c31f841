-- What the program computes of a root is the cut of the exact one: the root to 26 digits, its last made odd where the root is not whole,
-- stands for it. Assumes nothing.
use mathlib.Core.Path.{◌≡◌, sym, ap, ap₂, ◌∙◌, subst}
use mathlib.Core.Logic.{◌⊎◌, inl, inr}
use mathlib.Core.Bool.{true, false}
use Prim.Native.Nat.{ℕ, ◌+◌, ◌-◌, ◌*◌, ◌/◌, ◌%◌, ◌^◌, ◌≤◌, ◌<◌}
use native.Mathlib.Nat.{le_trans, le_of_eq, le_of_lt, lt_of_lt_of_le, lt_of_le_of_lt, lt_of_not-le, not-le_of_lt, mul_comm, mul-one, mul-le-mul}
use native.Mathlib.Nat.{mul-le-mul_left, mul-mul-mul_comm, mul-lt-mul_of_pos_right, mul-pos, zero-mul}
use native.Mathlib.Omega.{arith}
use lib.Pow.{pow-add, pow_pos, pow_mono}
use Rattle.float.specs.Word.{negative, size88, mantissa, biased, proper}
use Rattle.terms.specs.declared.Rule.{Rule}
use Rattle.float.specs.Cut.{cut_size}
use Rattle.float.specs.Traced.{Traced}
use Rattle.float.specs.Root.{whole_root, root_halves, radicand, sqrt}
use Rattle.float.proofs.Powers.{moved}
use Rattle.float.proofs.word.Proper.{proper_norm}
use Rattle.float.proofs.cut.Pair.{cut_zero}
use Rattle.float.proofs.cut.Jams.{Stands, stands_cut}
use Rattle.float.proofs.root.Means.{trace_large}
use Rattle.float.proofs.root.WholeRoot.{is_root, root_ge, root_lt, halves_square, halves_cases}

squared : (a p : ℕ) → (a * p) * (a * p) ≡ a * a * (p * p)
squared a p = mul-mul-mul_comm a p a p

-- t has the root of v in one number: what it stands for beside v scaled by p * p
pub root_stands : (v t p : ℕ) → 0 < p → 33554432 ≤ t → Traced v t → Stands (root_halves (v * (p * p))) (2 * p) t
root_stands v t p P big (inl e) =
    inl (halves_square (v * (p * p)) (t * p) (squared t p ∙ ap (λ (x : ℕ). x * (p * p)) e) ∙ exact)
  where
    exact : 2 * (t * p) ≡ t * (2 * p)
    exact = omega arith
root_stands v t p P big (inr w) =
    let n = v * (p * p) in
    let S = whole_root n in
    let R = is_root n in
    let odd = w.0 in
    let y = t - 1 in
    let yt : t ≡ y + 1 = omega arith in
    let PP : 0 < p * p = mul-pos P P in
    let lo : (y * p) * (y * p) < n = lt_of_le_of_lt (le_of_eq (squared y p)) (mul-lt-mul_of_pos_right w.1 PP) in
    let hi : n < ((t + 1) * p) * ((t + 1) * p) = lt_of_lt_of_le (mul-lt-mul_of_pos_right w.2 PP) (le_of_eq (sym (squared (t + 1) p))) in
    let a : y * p ≤ S = root_ge n S (y * p) R (le_of_lt lo) in
    let b : S < (t + 1) * p = root_lt n S ((t + 1) * p) R hi in
    let z = between S y n lo a b yt (halves_cases n) in
    inr (big, inr (odd, z.0, z.1))
  where
    strict : (n S z : ℕ) → z * z < n → S * S ≡ n → z < S
    strict n S z l e = lt_of_not-le (λ (g : S ≤ z). not-le_of_lt l (le_trans (le_of_eq (sym e)) (mul-le-mul g g)))

    between : (S y n : ℕ) → (y * p) * (y * p) < n → y * p ≤ S → S < (t + 1) * p → t ≡ y + 1 → ((S * S ≡ n) × (root_halves n ≡ 2 * S))
        ⊎ ((S * S < n) × (root_halves n ≡ 2 * S + 1))
        → (t * (2 * p) < root_halves n + 2 * p) × (root_halves n < t * (2 * p) + 2 * p)
    between S y n lo a b e (inl c) =
        let l = strict n S (y * p) lo c.0 in
        let m : t * p ≡ (y + 1) * p = ap (λ (x : ℕ). x * p) e in
        let g = c.1 in
        (omega arith, omega arith)
    between S y n lo a b e (inr c) =
        let m : t * p ≡ (y + 1) * p = ap (λ (x : ℕ). x * p) e in
        let g = c.1 in
        (omega arith, omega arith)

-- ---- the root of a word, from what a program reads off it
pub root_negative : (r : Rule) (a : ℕ) → negative a ≡ true → record { word = a; error = 4 } ≡ sqrt r a
unfolding sqrt
root_negative r a e = rw e

pub root_cut : (r : Rule) (a : ℕ) → negative a ≡ false → sqrt r a ≡ cut_size r false (root_halves (radicand a)) 2
unfolding sqrt
root_cut r a e = rw e

pub root_none : (r : Rule) (a : ℕ) → negative a ≡ false → size88 a ≡ 0 → sqrt r a ≡ record { word = 0; error = 0 }
root_none r a s z = root_cut r a s ∙ cut_zero r false (root_halves (radicand a)) 2 (halves_square (radicand a) 0 (sym (ap (λ (x : ℕ). x * 2 ^ 312) z
    ∙ zero-mul (2 ^ 312))))

pub size_none : (a : ℕ) → mantissa a ≡ 0 → size88 a ≡ 0
unfolding size88
size_none a z = ap (λ (x : ℕ). x * 2 ^ biased a) z ∙ zero-mul (2 ^ biased a)

pub root_zero : (r : Rule) (a m : ℕ) → negative a ≡ false → m ≡ mantissa a → m ≡ 0 → record { word = 0; error = 0 } ≡ sqrt r a
root_zero r a m s e z = sym (root_none r a s (size_none a (sym e ∙ z)))

pub root_law : (r : Rule) (a m e t v : ℕ) → negative a ≡ false → m ≡ mantissa a → e ≡ biased a → 2 ^ 46 ≤ v → v ≡ m * 2 ^ (24 - e % 2) → Traced (16 * v) t
    → cut_size r false (t * 2 ^ ((e + 284 + e % 2) / 2)) 1 ≡ sqrt r a
root_law r a m e t v N M E big W j =
    let x = (e + 284 + e % 2) / 2 in
    let same : 16 * v * (2 ^ x * 2 ^ x) ≡ radicand a =
    ap₂ (λ (y z : ℕ). y * z) (mul_comm 16 v ∙ ap (λ (y : ℕ). y * 2 ^ 4) W) (sym (pow-add 2 x x)) ∙ ap (λ (y : ℕ). y * 2 ^ (x + x)) (moved m (24 - e % 2) 4 0
    (28 - e % 2) (omega arith))
    ∙ ap (λ (y : ℕ). y * 2 ^ (28 - e % 2) * 2 ^ (x + x)) (mul-one m)
    ∙ moved m (28 - e % 2) (x + x) e 312 (omega arith) ∙ ap (λ (y : ℕ). y * 2 ^ 312) value in
    let st : Stands (root_halves (16 * v * (2 ^ x * 2 ^ x))) (2 * 2 ^ x) t = root_stands (16 * v) t (2 ^ x) (pow_pos x) (trace_large v t big j) j in
    sym (root_cut r a N ∙ stands_cut r false (root_halves (radicand a)) 2 t x (omega arith) (subst (λ (y : ℕ). Stands (root_halves y) (2 * 2 ^ x) t) same st))
  where
    value : m * 2 ^ e ≡ size88 a
    value = unfold size88 in ap₂ (λ (y z : ℕ). y * 2 ^ z) M E

-- the number whose root is found has 47 or 48 digits
pub raised : (a m e v : ℕ) → proper a ≡ true → m ≡ mantissa a → m < 16777216 → (m ≡ 0 → ⊥) → v ≡ m * 2 ^ (24 - e % 2) → (2 ^ 46 ≤ v) × (v < 2 ^ 48)
raised a m e v pa M few nz W = (
  le_trans (low (norm (proper_norm a pa))) (le_trans (mul-le-mul_left m (pow_mono {i = 23} {j = 24 - e % 2} (omega arith))) (le_of_eq (sym W))),
  lt_of_le_of_lt (le_of_eq W) (lt_of_le_of_lt (mul-le-mul_left m (pow_mono {i = 24 - e % 2} {j = 24} (omega arith))) high),
)
  where
    norm : (mantissa a ≡ 0) ⊎ (8388608 ≤ mantissa a) → 8388608 ≤ m
    norm (inl z) = absurd (nz (M ∙ z))
    norm (inr g) = omega arith

    low : 8388608 ≤ m → 2 ^ 46 ≤ m * 2 ^ 23
    low g = omega arith

    high : m * 2 ^ 24 < 2 ^ 48
    high = omega arith
