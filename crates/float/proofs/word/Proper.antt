-- A proper word is zero, or its mantissa has 24 digits. Assumes nothing.
use mathlib.Core.Path.{◌≡◌, refl, ap}
use mathlib.Core.Logic.{◌⊎◌, inl, inr}
use mathlib.Core.Bool.{Bool, true, false, ◌||◌}
use Prim.Native.Nat.{ℕ, ◌≤◌}
use borrow.Author.Tests.{leb-true, eqb-true}
use lib.Dec.{leb, eqb}
use Rattle.float.specs.Word.{proper, mantissa}

pub proper_cases : (w : ℕ) → proper w ≡ true → (w ≡ 0) ⊎ (8388608 ≤ mantissa w)
proper_cases w p = go (leb 8388608 (mantissa w)) refl p
  where
    go : (b : Bool) → leb 8388608 (mantissa w) ≡ b → (b || eqb w 0) ≡ true → (w ≡ 0) ⊎ (8388608 ≤ mantissa w)
    go true e q = inr (leb-true 8388608 (mantissa w) e)
    go false e q = inl (eqb-true w 0 q)

pub proper_norm : (w : ℕ) → proper w ≡ true → (mantissa w ≡ 0) ⊎ (8388608 ≤ mantissa w)
proper_norm w p = go (proper_cases w p)
  where
    go : (w ≡ 0) ⊎ (8388608 ≤ mantissa w) → (mantissa w ≡ 0) ⊎ (8388608 ≤ mantissa w)
    go (inl e) = inl (ap mantissa e)
    go (inr l) = inr l
