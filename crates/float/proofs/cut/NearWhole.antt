-- The nearest whole number to n / u, by comparing products: it lies within half of u, and where it lies half of u away it is even; no other
-- number does. Assumes nothing.
use mathlib.Core.Path.{◌≡◌, refl, sym, ap, ◌∙◌, subst}
use mathlib.Core.Logic.{◌⊎◌, inl, inr}
use mathlib.Core.Bool.{Bool, true, false}
use Prim.Native.Nat.{ℕ, suc, ◌+◌, ◌*◌, ◌/◌, ◌%◌, ◌≤◌, ◌<◌}
use native.Mathlib.Nat.{add-zero, mul-le-mul_right, div-add-mod', mod-lt, le_of_mul-le-mul_right}
use native.Mathlib.Numerals.{add-one}
use native.Mathlib.Omega.{arith}
use lib.Dec.{ltb}
use borrow.Author.Tests.{ltb-true, ltb-false}
use lib.Ieee.{nearest}
use lib.Ieee.Nearest.{closest}
use Rattle.float.proofs.cut.Jams.{compare_lt, compare_eq, compare_gt}

-- q is the nearest whole number to n / u, of two the even one
pub record Nearby (n u q : ℕ) : Type 0 where
  pub reached : 2 * (q * u) ≤ 2 * n + u
  pub passed : 2 * n ≤ 2 * (q * u) + u
  pub low_even : 2 * n + u ≤ 2 * (q * u) → q % 2 ≡ 0
  pub high_even : 2 * (q * u) + u ≤ 2 * n → q % 2 ≡ 0

pub sides : (a b : ℕ) → (a < b) ⊎ (a ≡ b) ⊎ (b < a)
sides a b = go (ltb a b) (ltb b a) (ltb-true a b) (ltb-true b a) (ltb-false a b) (ltb-false b a)
  where
    go : (s t : Bool) → (s ≡ true → a < b) → (t ≡ true → b < a) → (s ≡ false → b ≤ a) → (t ≡ false → a ≤ b) → (a < b) ⊎ (a ≡ b) ⊎ (b < a)
    go true t f g h k = inl (f refl)
    go false true f g h k = inr (inr (g refl))
    go false false f g h k = let x = h refl in let y = k refl in inr (inl (omega arith))

module _ (n u : ℕ) (U : 0 < u) where
  split : n / u * u + n % u ≡ n
  split = div-add-mod' n u

  pub closest_less : n % u * 2 < u → closest n u ≡ n / u
  closest_less h = ap (nearest (n / u)) (compare_lt (n % u * 2) u h)

  pub closest_half : n % u * 2 ≡ u → closest n u ≡ n / u + n / u % 2
  closest_half h = ap (nearest (n / u)) (compare_eq (n % u * 2) u h)

  pub closest_more : u < n % u * 2 → closest n u ≡ suc (n / u)
  closest_more h = ap (nearest (n / u)) (compare_gt (n % u * 2) u h)

  -- as a program finds it: more than half of u left over, an odd quotient counted among it, brings the next whole number
  pub closest_up : (h : ℕ) → u ≡ 2 * h → h < n % u + n / u % 2 → closest n u ≡ n / u + 1
  closest_up h e g = go (sides (n % u * 2) u)
    where
      go : (n % u * 2 < u) ⊎ (n % u * 2 ≡ u) ⊎ (u < n % u * 2) → closest n u ≡ n / u + 1
      go (inl l) = absurd (omega arith)
      go (inr (inl l)) = closest_half l ∙ ap (λ (x : ℕ). n / u + x) (omega arith)
      go (inr (inr l)) = closest_more l ∙ sym (add-one (n / u))

  pub closest_stays : (h : ℕ) → u ≡ 2 * h → n % u + n / u % 2 ≤ h → closest n u ≡ n / u
  closest_stays h e g = go (sides (n % u * 2) u)
    where
      go : (n % u * 2 < u) ⊎ (n % u * 2 ≡ u) ⊎ (u < n % u * 2) → closest n u ≡ n / u
      go (inl l) = closest_less l
      go (inr (inl l)) = closest_half l ∙ ap (λ (x : ℕ). n / u + x) (omega arith) ∙ add-zero (n / u)
      go (inr (inr l)) = absurd (omega arith)

  less : n % u * 2 < u → Nearby n u (n / u)
  less h =
      let e = split in
      record { reached = omega arith; passed = omega arith; low_even = λ g. absurd (omega arith); high_even = λ g. absurd (omega arith) }

  more : u < n % u * 2 → Nearby n u (suc (n / u))
  more h =
      let e = split in
      let l = mod-lt n U in
      record { reached = omega arith; passed = omega arith; low_even = λ g. absurd (omega arith); high_even = λ g. absurd (omega arith) }

  even_half : (q : ℕ) → q * u + n % u ≡ n → n % u * 2 ≡ u → (q % 2 ≡ 0) ⊎ (q % 2 ≡ 1) → Nearby n u (q + q % 2)
  even_half q e h (inl z) =
      subst (λ (x : ℕ). Nearby n u (q + x)) (sym z)
      (record { reached = omega arith; passed = omega arith; low_even = λ g. omega arith; high_even = λ g. omega arith })
  even_half q e h (inr z) =
      subst (λ (x : ℕ). Nearby n u (q + x)) (sym z)
      (record { reached = omega arith; passed = omega arith; low_even = λ g. omega arith; high_even = λ g. omega arith })

  parity : (q : ℕ) → (q % 2 ≡ 0) ⊎ (q % 2 ≡ 1)
  parity q = go (ltb (q % 2) 1) (ltb-true (q % 2) 1) (ltb-false (q % 2) 1)
    where
      go : (t : Bool) → (t ≡ true → q % 2 < 1) → (t ≡ false → 1 ≤ q % 2) → (q % 2 ≡ 0) ⊎ (q % 2 ≡ 1)
      go true f g = let x = f refl in inl (omega arith)
      go false f g = let x = g refl in inr (omega arith)

  pub closest_near : Nearby n u (closest n u)
  closest_near = go (sides (n % u * 2) u)
    where
      go : (n % u * 2 < u) ⊎ (n % u * 2 ≡ u) ⊎ (u < n % u * 2) → Nearby n u (closest n u)
      go (inl h) = subst (λ (x : ℕ). Nearby n u x) (sym (closest_less h)) (less h)
      go (inr (inl h)) = subst (λ (x : ℕ). Nearby n u x) (sym (closest_half h)) (even_half (n / u) split h (parity (n / u)))
      go (inr (inr h)) = subst (λ (x : ℕ). Nearby n u x) (sym (closest_more h)) (more h)

  -- of two numbers that are nearest neither is below the other
  not_below : (p q : ℕ) → Nearby n u p → Nearby n u q → p < q → ⊥
  not_below p q P Q h =
      let a = mul-le-mul_right u h in
      let b = P.passed in
      let c = Q.reached in
      let x : p % 2 ≡ 0 = P.high_even (omega arith) in
      let y : q % 2 ≡ 0 = Q.low_even (omega arith) in
      let d : q * u ≤ (p + 1) * u = omega arith in
      let z : q ≤ p + 1 = le_of_mul-le-mul_right d U in
      omega arith

  pub closest_only : (q : ℕ) → Nearby n u q → closest n u ≡ q
  closest_only q Q = go (sides (closest n u) q)
    where
      go : (closest n u < q) ⊎ (closest n u ≡ q) ⊎ (q < closest n u) → closest n u ≡ q
      go (inl h) = absurd (not_below (closest n u) q closest_near Q h)
      go (inr (inl h)) = h
      go (inr (inr h)) = absurd (not_below q (closest n u) Q closest_near h)
