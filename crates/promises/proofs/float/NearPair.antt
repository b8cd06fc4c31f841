-- Rounding to nearest has one pair m, e for every magnitude and no other: the nearest number of steps of the cut's place, where 2 ^ 24 steps
-- are 2 ^ 23 steps of the next place. Assumes nothing.
use mathlib.Core.Path.{◌≡◌, refl, sym, ap, ◌∙◌, subst}
use mathlib.Core.Logic.{◌⊎◌, inl, inr}
use Prim.Native.Nat.{ℕ, ◌+◌, ◌-◌, ◌*◌, ◌^◌, ◌≤◌, ◌<◌}
use native.Mathlib.Nat.{le_refl, le_trans, le_of_eq, lt_of_lt_of_le, mul-le-mul_right, mul-pos}
use native.Mathlib.Omega.{arith}
use borrow.Author.Tests.{eq-eqb, ne_eqb, lt-ltb, le-ltb}
use lib.Pow.{pow-add, pow_pos}
use lib.Ieee.Nearest.{closest}
use Rattle.terms.specs.declared.Rule.TheVariants.{Cut, Nearest}
use Rattle.float.specs.Cut.{lost, kept, mantissa_of, digits_of}
use Rattle.float.proofs.cut.Pair.{PairAt, kept_le, lost_is, cuts_one}
use Rattle.float.proofs.Results.{kept_big}
use Rattle.float.proofs.cut.NearWhole.{Nearby, sides, closest_near, closest_only}
use Rattle.promises.specs.FloatResults.{below_mark, above_mark, Between}

-- n / u lies between the marks of m; at either of them m is even
abbrev pub Marks : ℕ → ℕ → ℕ → Type 0
Marks n u m = Between (4 * n) (below_mark m * u) (above_mark m * u) m

-- ---- the marks of m, by m
pub mark_least : (m : ℕ) → m ≡ 8388608 → below_mark m ≡ 4 * m - 1
mark_least m e = rw (eq-eqb m 8388608 e)

pub mark_more : (m : ℕ) → 8388608 < m → below_mark m ≡ 4 * m - 2
mark_more m h = let ne : m ≡ 8388608 → ⊥ = λ e. omega arith in rw (ne_eqb m 8388608 ne)

pub least_or_more : (m : ℕ) → 8388608 ≤ m → (m ≡ 8388608) ⊎ (8388608 < m)
least_or_more m h = go (sides m 8388608)
  where
    go : (m < 8388608) ⊎ (m ≡ 8388608) ⊎ (8388608 < m) → (m ≡ 8388608) ⊎ (8388608 < m)
    go (inl x) = absurd (omega arith)
    go (inr y) = y

pub lessened : (u q : ℕ) → 2 ≤ 4 * q → (4 * q - 2) * u + 2 * u ≡ 4 * (q * u)
lessened u q h =
    let s : 4 * q - 2 + 2 ≡ 4 * q = omega arith in
    let t : (4 * q - 2 + 2) * u ≡ 4 * q * u = ap (λ (x : ℕ). x * u) s in
    omega arith

-- ---- in the cut's own place
module _ (n u q : ℕ) (U : 0 < u) (lo : 8388608 * u ≤ n) (b : 8388608 ≤ q) where
  both_ways : (Nearby n u q → Marks n u q) × (Marks n u q → Nearby n u q)
  both_ways = go (least_or_more q b)
    where
      go : (q ≡ 8388608) ⊎ (8388608 < q) → (Nearby n u q → Marks n u q) × (Marks n u q → Nearby n u q)
      go (inl e) =
          let x : q * u ≡ 8388608 * u = ap (λ (y : ℕ). y * u) e in
          let y : below_mark q * u ≡ 33554431 * u = ap (λ (z : ℕ). z * u) (mark_least q e ∙ omega arith) in (
            λ w. let p = w.passed in record { reached = omega arith; passed = omega arith; low_even = λ g. omega arith; high_even = λ g. omega arith },
            λ w. let p = w.passed in record { reached = omega arith; passed = omega arith; low_even = λ g. omega arith; high_even = λ g. omega arith },
          )
      go (inr l) =
          let y : below_mark q * u ≡ (4 * q - 2) * u = ap (λ (z : ℕ). z * u) (mark_more q l) in
          let z : (4 * q - 2) * u + 2 * u ≡ 4 * (q * u) = lessened u q (omega arith) in (
            λ w. let p = w.passed in let r = w.reached in
                record { reached = omega arith; passed = omega arith; low_even = λ g. w.low_even (omega arith); high_even = λ g. w.high_even (omega arith) },
            λ w. let p = w.passed in let r = w.reached in
                record { reached = omega arith; passed = omega arith; low_even = λ g. w.low_even (omega arith); high_even = λ g. w.high_even (omega arith) },
          )

-- ---- at 2 ^ 24 steps of u, which are 2 ^ 23 steps of v
top_marks : (n u v : ℕ) → v ≡ 2 * u → n < 16777216 * u → Nearby n u 16777216 → Marks n v 8388608
top_marks n u v e h w =
    let r = w.reached in
    record { reached = omega arith; passed = omega arith; low_even = λ g. refl; high_even = λ g. refl }

top_nearby : (n u v m : ℕ) → 0 < u → v ≡ 2 * u → 8388608 ≤ m → n < 8388608 * v → Marks n v m → (m ≡ 8388608) × Nearby n u 16777216
    × (8388608 * u ≤ n) × (n < 16777216 * u)
top_nearby n u v m U e b h w = go (least_or_more m b)
  where
    go : (m ≡ 8388608) ⊎ (8388608 < m) → (m ≡ 8388608) × Nearby n u 16777216 × (8388608 * u ≤ n) × (n < 16777216 * u)
    go (inl f) =
        let r = w.reached in
        let y : below_mark m * v ≡ 33554431 * v = ap (λ (z : ℕ). z * v) (mark_least m f ∙ omega arith) in
        (f, record { reached = omega arith; passed = omega arith; low_even = λ g. refl; high_even = λ g. refl }, omega arith, omega arith)
    go (inr l) =
        let r = w.reached in
        let y : below_mark m * v ≡ (4 * m - 2) * v = ap (λ (z : ℕ). z * v) (mark_more m l) in
        let k : 33554434 * v ≤ (4 * m - 2) * v = mul-le-mul_right v (omega arith) in
        absurd (omega arith)

-- ---- the pair at k digits
pub record NearAt (n d m k : ℕ) : Type 0 where
  pub low : 8388608 ≤ m
  pub high : m < 16777216
  pub marks : Marks n (d * 2 ^ k) m

next_place : (d k : ℕ) → d * 2 ^ (k + 1) ≡ 2 * (d * 2 ^ k)
next_place d k = let e : 2 ^ (k + 1) ≡ 2 ^ k * 2 = pow-add 2 k 1 in ap (λ (x : ℕ). d * x) e ∙ omega arith

-- there is one
pub near_one : (n d : ℕ) → 0 < d → 8388608 * d ≤ n → NearAt n d (mantissa_of (kept Nearest n d)) (digits_of (kept Nearest n d) (lost n d))
near_one n d D h = go (sides (kept Nearest n d) 16777216)
  where
    U : 0 < d * 2 ^ lost n d
    U = mul-pos D (pow_pos (lost n d))

    place : PairAt n d (kept Cut n d) (lost n d)
    place = cuts_one n d D h

    lo : 8388608 * (d * 2 ^ lost n d) ≤ n
    lo = le_trans (mul-le-mul_right (d * 2 ^ lost n d) place.0) place.2

    hi : n < 16777216 * (d * 2 ^ lost n d)
    hi = lt_of_lt_of_le place.3 (mul-le-mul_right (d * 2 ^ lost n d) place.1)

    near : Nearby n (d * 2 ^ lost n d) (kept Nearest n d)
    near = closest_near n (d * 2 ^ lost n d) U

    go : (kept Nearest n d < 16777216) ⊎ (kept Nearest n d ≡ 16777216) ⊎ (16777216 < kept Nearest n d) → NearAt n d (mantissa_of (kept Nearest n d))
        (digits_of (kept Nearest n d) (lost n d))
    go (inl x) =
        rw (lt-ltb (kept Nearest n d) 16777216 x)
        (record { low = kept_big Nearest n d D h; high = x; marks = (both_ways n (d * 2 ^ lost n d) (kept Nearest n d) U lo (kept_big Nearest n d D h)).0 near })
    go (inr (inl e)) =
        rw (le-ltb (kept Nearest n d) 16777216 (le_of_eq (sym e)))
        (record {
          low = le_refl 8388608;
          high = omega arith;
          marks = top_marks n (d * 2 ^ lost n d) (d * 2 ^ (lost n d + 1)) (next_place d (lost n d)) hi
              (subst (λ (x : ℕ). Nearby n (d * 2 ^ lost n d) x) e near);
        })
    go (inr (inr g)) = let t = kept_le Nearest n d in absurd (omega arith)

-- and no other, at places above the lowest
pub near_only : (n d m k : ℕ) → 0 < d → NearAt n d m (k + 1) → (mantissa_of (kept Nearest n d) ≡ m) × (digits_of (kept Nearest n d) (lost n d) ≡ k + 1)
near_only n d m k D w = go (sides n (8388608 * (d * 2 ^ (k + 1))))
  where
    under : (x : ℕ) → x ≡ m → (mantissa_of x ≡ m) × (digits_of x (k + 1) ≡ k + 1)
    under x e = let h : x < 16777216 = subst (λ (y : ℕ). y < 16777216) (sym e) w.high in rw (lt-ltb x 16777216 h) (e, refl)

    own : 8388608 * (d * 2 ^ (k + 1)) ≤ n → (mantissa_of (kept Nearest n d) ≡ m) × (digits_of (kept Nearest n d) (lost n d) ≡ k + 1)
    own lo =
        let u = d * 2 ^ (k + 1) in
        let U : 0 < u = mul-pos D (pow_pos (k + 1)) in
        let p = w.marks.passed in
        let g : (4 * m + 2) * u ≤ 67108862 * u = mul-le-mul_right u (let i = w.high in omega arith) in
        let f : lost n d ≡ k + 1 = lost_is n d (k + 1) D lo (omega arith) in
        let e : kept Nearest n d ≡ m = ap (λ (x : ℕ). closest n (d * 2 ^ x)) f ∙ closest_only n u U m ((both_ways n u m U lo w.low).1 w.marks) in
        subst (λ (x : ℕ). (mantissa_of (kept Nearest n d) ≡ m) × (digits_of (kept Nearest n d) x ≡ k + 1)) (sym f) (under (kept Nearest n d) e)

    top : n < 8388608 * (d * 2 ^ (k + 1)) → (mantissa_of (kept Nearest n d) ≡ m) × (digits_of (kept Nearest n d) (lost n d) ≡ k + 1)
    top hi =
        let u = d * 2 ^ k in
        let U : 0 < u = mul-pos D (pow_pos k) in
        let t = top_nearby n u (d * 2 ^ (k + 1)) m U (next_place d k) w.low hi w.marks in
        let f : lost n d ≡ k = lost_is n d k D t.2 t.3 in
        let e : kept Nearest n d ≡ 16777216 = ap (λ (x : ℕ). closest n (d * 2 ^ x)) f ∙ closest_only n u U 16777216 t.1 in
        let g : (mantissa_of (kept Nearest n d) ≡ 8388608) × (digits_of (kept Nearest n d) (lost n d) ≡ lost n d + 1) = rw (le-ltb (kept Nearest n d) 16777216
        (le_of_eq (sym e))) (refl, refl) in
        (g.0 ∙ sym t.0, g.1 ∙ ap (λ (x : ℕ). x + 1) f)

    go : (n < 8388608 * (d * 2 ^ (k + 1))) ⊎ (n ≡ 8388608 * (d * 2 ^ (k + 1))) ⊎ (8388608 * (d * 2 ^ (k + 1)) < n) → (mantissa_of (kept Nearest n d) ≡ m)
        × (digits_of (kept Nearest n d) (lost n d) ≡ k + 1)
    go (inl h) = top h
    go (inr (inl e)) = own (le_of_eq (sym e))
    go (inr (inr h)) = own (omega arith)
