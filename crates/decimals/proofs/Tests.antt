-- What the tests on the parts of a magnitude say of the whole of it. Assumes nothing.
use mathlib.Core.Path.{◌≡◌, sym, ap}
use mathlib.Core.Bool.{Bool, true, false, not}
use mathlib.Core.List.{List, [], ◌∷◌}
use Prim.Native.Nat.{ℕ, ◌+◌, ◌*◌, ◌^◌}
use native.Mathlib.Omega.{arith}
use borrow.Author.Tests.{le-ltb, ne_eqb}
use lib.Dec.{ltb, eqb}
use Rattle.listing.specs.Text.{Adds}
use Rattle.listing.proofs.Adding.{nothing}
use Rattle.decimals.specs.Exact.{sign_text, minus}

module _ (h l : ℕ) where
  pub low_below : h ≡ 0 → ltb l 10 ≡ ltb (h * 2 ^ 48 + l) 10
  low_below e = let x : l ≡ h * 2 ^ 48 + l = omega arith in ap (λ (n : ℕ). ltb n 10) x

  pub high_beyond : (h ≡ 0 → ⊥) → false ≡ ltb (h * 2 ^ 48 + l) 10
  high_beyond n = sym (le-ltb (h * 2 ^ 48 + l) 10 (omega arith))

  pub low_nothing : h ≡ 0 → eqb l 0 ≡ eqb (h * 2 ^ 40 + l) 0
  low_nothing e = let x : l ≡ h * 2 ^ 40 + l = omega arith in ap (λ (n : ℕ). eqb n 0) x

  pub high_some : (h ≡ 0 → ⊥) → false ≡ eqb (h * 2 ^ 40 + l) 0
  high_some n = sym (ne_eqb (h * 2 ^ 40 + l) 0 (λ e. omega arith))

upper : (y x : ℕ) → y * 2 ^ 88 + x ≡ 0 → y ≡ 0
upper y x e = omega arith

module _ (h l a b : ℕ) where
  pub rest_zero : h ≡ 0 → l ≡ 0 → eqb (a * 2 ^ 40 + b) 0 ≡ eqb ((h * 2 ^ 48 + l) * 2 ^ 88 + (a * 2 ^ 40 + b)) 0
  rest_zero e f = rw (e, f) (ap (λ (n : ℕ). eqb n 0) (same (a * 2 ^ 40 + b)))
    where
      same : (x : ℕ) → x ≡ (0 * 2 ^ 48 + 0) * 2 ^ 88 + x
      same x = omega arith

  pub low_some : (l ≡ 0 → ⊥) → false ≡ eqb ((h * 2 ^ 48 + l) * 2 ^ 88 + (a * 2 ^ 40 + b)) 0
  low_some n = sym (ne_eqb ((h * 2 ^ 48 + l) * 2 ^ 88 + (a * 2 ^ 40 + b)) 0 (λ e. n (let z = upper (h * 2 ^ 48 + l) (a * 2 ^ 40 + b) e in omega arith)))

  pub whole_some : (h ≡ 0 → ⊥) → false ≡ eqb ((h * 2 ^ 48 + l) * 2 ^ 88 + (a * 2 ^ 40 + b)) 0
  whole_some n = sym (ne_eqb ((h * 2 ^ 48 + l) * 2 ^ 88 + (a * 2 ^ 40 + b)) 0 (λ e. n (let z = upper (h * 2 ^ 48 + l) (a * 2 ^ 40 + b) e in omega arith)))

-- ---- the sign
pub no_sign : (s : Bool) (n place : ℕ) (l : List ℕ) → not s ≡ true → Adds (sign_text s n) l l place place
no_sign false n place l e = nothing l place
no_sign true n place l e = let z : ◌≡◌ {A = ℕ} 0 1 = cc in absurd (omega arith)

pub zero_sign : (s : Bool) (n place : ℕ) (l : List ℕ) → not s ≡ false → eqb n 0 ≡ true → Adds (sign_text s n) l l place place
zero_sign false n place l e z = nothing l place
zero_sign true n place l e z = rw z (nothing l place)

pub some_sign : (s : Bool) (n : ℕ) {a b : List ℕ} {p q : ℕ} → not s ≡ false → eqb n 0 ≡ false → Adds (minus ∷ []) a b p q → Adds (sign_text s n) a b p q
some_sign false n e z h = let z : ◌≡◌ {A = ℕ} 0 1 = cc in absurd (omega arith)
some_sign true n e z h = rw z h
