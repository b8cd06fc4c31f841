-- What holds of both answers of a test, each with what the test says, holds of the test's answer; a test that the code turns round. Assumes nothing.
use mathlib.Core.Path.{◌≡◌, refl, sym}
use mathlib.Core.Logic.{◌⊎◌, inl, inr}
use mathlib.Core.Bool.{Bool, true, false, not, ◌&&◌, ◌||◌, cond, false≢true}
use Prim.Native.Nat.{ℕ, ◌≤◌, ◌<◌}
use lib.Dec.{ltb, eqb}
use borrow.Author.Tests.{ltb-true, ltb-false, eqb-true, eqb-false}

module _ {A : Type 0} (P : A → Type 0) (m n : ℕ) (x y : A) where
  pub either_lt : (m < n → P x) → (n ≤ m → P y) → P (cond (ltb m n) x y)
  either_lt p q = pick (ltb m n) refl
    where
      pick : (b : Bool) → ltb m n ≡ b → P (cond b x y)
      pick true e = p (ltb-true m n e)
      pick false e = q (ltb-false m n e)

  pub either_eq : (m ≡ n → P x) → ((m ≡ n → ⊥) → P y) → P (cond (eqb m n) x y)
  either_eq p q = pick (eqb m n) refl
    where
      pick : (b : Bool) → eqb m n ≡ b → P (cond b x y)
      pick true e = p (eqb-true m n e)
      pick false e = q (eqb-false m n e)

-- a test that failed, and one that did not, as the code's `!` says it
pub failed : (x y : Bool) → x ≡ y → not x ≡ true → y ≡ false
failed true y e n = absurd (false≢true n)
failed false y e n = sym e

pub passed : (x y : Bool) → x ≡ y → not x ≡ false → y ≡ true
passed true y e n = sym e
passed false y e n = absurd (false≢true (sym n))

-- two tests that the code joins by `&` or `|`
pub both : (x y : Bool) → x && y ≡ true → (x ≡ true) × (y ≡ true)
both true y e = (refl, e)
both false y e = absurd (false≢true e)

pub not_both : (x y : Bool) → x && y ≡ false → (x ≡ false) ⊎ (y ≡ false)
not_both true y e = inr e
not_both false y e = inl refl

pub either : (x y : Bool) → x || y ≡ true → (x ≡ true) ⊎ (y ≡ true)
either true y e = inl refl
either false y e = inr e

pub neither : (x y : Bool) → x || y ≡ false → (x ≡ false) × (y ≡ false)
neither true y e = absurd (false≢true (sym e))
neither false y e = (refl, e)
