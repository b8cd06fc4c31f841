-- The whole part of a root, by comparing squares; its halves keep the order of what the root is taken of. Assumes nothing.
use mathlib.Core.Path.{◌≡◌, refl, sym, ap, ◌∙◌}
use mathlib.Core.Logic.{◌⊎◌, inl, inr}
use mathlib.Core.Bool.{Bool, true, false, cond}
use Prim.Native.Nat.{ℕ, zero, suc, ◌+◌, ◌*◌, ◌/◌, ◌^◌, ◌≤◌, ◌<◌}
use native.Mathlib.Nat.{le_trans, le_of_eq, lt_of_lt_of_le, lt_of_le_of_lt, lt_of_not-le, not-le_of_lt, eq-or-lt_of_le, mul-le-mul}
use native.Mathlib.Omega.{arith}
use borrow.Author.Tests.{leb-true, leb-false, eqb-true, eqb-false, eq-eqb}
use lib.Dec.{leb, eqb}
use lib.Pow.{pow-add, pow_mono}
use lib.Ieee.{size}
use lib.Ieee.Digits.{size-lt}
use Rattle.float.specs.Root.{root_below, whole_root, root_halves}

-- s is the whole part of the root of n
abbrev pub IsRoot : ℕ → ℕ → Type 0
IsRoot n s = (s * s ≤ n) × (n < (s + 1) * (s + 1))

quarter : (k n : ℕ) → n < 2 ^ (2 * suc k) → n / 4 < 2 ^ (2 * k)
quarter k n h = let e : 2 ^ (2 * suc k) ≡ 4 * 2 ^ (2 * k) = ap (λ (x : ℕ). 2 ^ x) (count k) ∙ pow-add 2 2 (2 * k) in omega arith
  where
    count : (k : ℕ) → 2 * suc k ≡ 2 + 2 * k
    count k = omega arith

-- from the root of n / 4, doubled
step : (n r : ℕ) → IsRoot (n / 4) r → IsRoot n (cond (leb ((2 * r + 1) * (2 * r + 1)) n) (2 * r + 1) (2 * r))
step n r h = go (leb ((2 * r + 1) * (2 * r + 1)) n) (leb-true ((2 * r + 1) * (2 * r + 1)) n) (leb-false ((2 * r + 1) * (2 * r + 1)) n)
  where
    go : (t : Bool) → (t ≡ true → (2 * r + 1) * (2 * r + 1) ≤ n) → (t ≡ false → n < (2 * r + 1) * (2 * r + 1)) → IsRoot n (cond t (2 * r + 1) (2 * r))
    go true f g = let a = h.1 in (f refl, omega arith)
    go false f g = let a = h.0 in (omega arith, g refl)

root_below_lem : (k n : ℕ) → n < 2 ^ (2 * k) → IsRoot n (root_below k n)
unfolding root_below
root_below_lem zero n h = (omega arith, omega arith)
root_below_lem (suc k) n h = step n (root_below k (n / 4)) (root_below_lem k (n / 4) (quarter k n h))

pub is_root : (n : ℕ) → IsRoot n (whole_root n)
unfolding whole_root
is_root n = root_below_lem (size n) n (lt_of_lt_of_le (size-lt n) (more (size n)))
  where
    more : (z : ℕ) → 2 ^ z ≤ 2 ^ (2 * z)
    more z = pow_mono (omega arith)

-- the root is the greatest number whose square is at most n
pub root_ge : (n s a : ℕ) → IsRoot n s → a * a ≤ n → a ≤ s
root_ge n s a h l =
    let z : a < s + 1 = lt_of_not-le (λ (g : s + 1 ≤ a). not-le_of_lt h.1 (le_trans (mul-le-mul g g) l)) in
    omega arith

pub root_lt : (n s a : ℕ) → IsRoot n s → n < a * a → s < a
root_lt n s a h l = lt_of_not-le (λ (g : a ≤ s). not-le_of_lt l (le_trans (mul-le-mul g g) h.0))

-- the root of a square
pub root_square : (n a : ℕ) → a * a ≡ n → whole_root n ≡ a
root_square n a e =
    let R = is_root n in
    let lo : a ≤ whole_root n = root_ge n (whole_root n) a R (le_of_eq e) in
    let hi : whole_root n < a + 1 = root_lt n (whole_root n) (a + 1) R (lt_of_le_of_lt (le_of_eq (sym e)) (wide a)) in
    omega arith
  where
    wide : (a : ℕ) → a * a < (a + 1) * (a + 1)
    wide a = omega arith

pub halves_square : (n a : ℕ) → a * a ≡ n → root_halves n ≡ 2 * a
unfolding root_halves
halves_square n a e =
    let s = root_square n a e in
    rw (eq-eqb (whole_root n * whole_root n) n (ap (λ (x : ℕ). x * x) s ∙ e)) (twice (whole_root n) s)
  where
    twice : (x : ℕ) → x ≡ a → 2 * x + 0 ≡ 2 * a
    twice x f = omega arith

-- the halves of a root s: 2 * s where it is whole, else one more
pub halves_cases : (n : ℕ) → ((whole_root n * whole_root n ≡ n) × (root_halves n ≡ 2 * whole_root n))
    ⊎ ((whole_root n * whole_root n < n) × (root_halves n ≡ 2 * whole_root n + 1))
unfolding root_halves
halves_cases n = go (eqb (whole_root n * whole_root n) n) (eqb-true (whole_root n * whole_root n) n) (eqb-false (whole_root n * whole_root n) n)
  where
    less : (x : ℕ) → x ≤ n → (x ≡ n → ⊥) → x < n
    less x h f = pick (eq-or-lt_of_le h)
      where
        pick : (x ≡ n) ⊎ (x < n) → x < n
        pick (inl e) = absurd (f e)
        pick (inr l) = l

    none : (x : ℕ) → 2 * x + 0 ≡ 2 * x
    none x = omega arith

    go : (t : Bool) → (t ≡ true → whole_root n * whole_root n ≡ n) → (t ≡ false → whole_root n * whole_root n ≡ n → ⊥)
        → ((whole_root n * whole_root n ≡ n) × (2 * whole_root n + cond t 0 1 ≡ 2 * whole_root n))
        ⊎ ((whole_root n * whole_root n < n) × (2 * whole_root n + cond t 0 1 ≡ 2 * whole_root n + 1))
    go true f g = inl (f refl, none (whole_root n))
    go false f g = inr (less (whole_root n * whole_root n) (is_root n).0 (g refl), refl)

pub halves_near : (n : ℕ) → (2 * whole_root n ≤ root_halves n) × (root_halves n ≤ 2 * whole_root n + 1)
halves_near n = go (halves_cases n)
  where
    go : ((whole_root n * whole_root n ≡ n) × (root_halves n ≡ 2 * whole_root n)) ⊎ ((whole_root n * whole_root n < n) × (root_halves n ≡ 2 * whole_root n + 1))
        → (2 * whole_root n ≤ root_halves n) × (root_halves n ≤ 2 * whole_root n + 1)
    go (inl w) = let e = w.1 in (omega arith, omega arith)
    go (inr w) = let e = w.1 in (omega arith, omega arith)

-- the root of more is no less
pub halves_mono : (n n' : ℕ) → n ≤ n' → root_halves n ≤ root_halves n'
halves_mono n n' h = go (eq-or-lt_of_le (root_ge n' (whole_root n') (whole_root n) (is_root n') (le_trans (is_root n).0 h)))
  where
    near : (2 * whole_root n ≤ root_halves n) × (root_halves n ≤ 2 * whole_root n + 1)
    near = halves_near n

    near' : (2 * whole_root n' ≤ root_halves n') × (root_halves n' ≤ 2 * whole_root n' + 1)
    near' = halves_near n'

    level : whole_root n ≡ whole_root n' → root_halves n ≤ root_halves n'
    level e = both (halves_cases n) (halves_cases n')
      where
        both : ((whole_root n * whole_root n ≡ n) × (root_halves n ≡ 2 * whole_root n)) ⊎ ((whole_root n * whole_root n < n) × (root_halves n ≡ 2 * whole_root n + 1))
            → ((whole_root n' * whole_root n' ≡ n') × (root_halves n' ≡ 2 * whole_root n'))
            ⊎ ((whole_root n' * whole_root n' < n') × (root_halves n' ≡ 2 * whole_root n' + 1))
            → root_halves n ≤ root_halves n'
        both (inl a) b = let x = a.1 in let y = near'.0 in omega arith
        both (inr a) (inr b) = let x = a.1 in let y = b.1 in omega arith
        both (inr a) (inl b) =
            let x = a.0 in
            let y : whole_root n * whole_root n ≡ n' = ap (λ (z : ℕ). z * z) e ∙ b.0 in
            absurd (omega arith)

    go : (whole_root n ≡ whole_root n') ⊎ (whole_root n < whole_root n') → root_halves n ≤ root_halves n'
    go (inl e) = level e
    go (inr l) = let a = near.1 in let b = near'.0 in omega arith
