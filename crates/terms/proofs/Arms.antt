-- The last arm of a `match` on a number: it is none of the numbers before, so a table of the arms has the last value for it. Assumes nothing.
use mathlib.Core.Path.{◌≡◌, refl}
use mathlib.Core.Bool.{cond}
use mathlib.Core.List.{List, [], ◌∷◌}
use Prim.Native.Nat.{ℕ}
use borrow.Author.Tests.{ne_eqb}
use lib.Dec.{eqb}

module _ {X : Type 0} (n : ℕ) (last : X) where
  -- the value beside the number, else the last
  abbrev pub arm_of : List (ℕ × X) → X
  arm_of [] = last
  arm_of (a ∷ l) = cond (eqb n a.0) a.1 (arm_of l)

  -- none of the numbers, one test behind the other
  abbrev pub NoneOf : List (ℕ × X) → Type 0 → Type 0
  NoneOf [] known = known
  NoneOf (a ∷ l) known = NoneOf l (known × (n ≡ a.0 → ⊥))

  none : (l : List (ℕ × X)) (known : Type 0) → NoneOf l known → known × (last ≡ arm_of l)
  none [] known r = (r, refl)
  none (a ∷ l) known r =
      let x = none l (known × (n ≡ a.0 → ⊥)) r in
      (x.0.0, rw (ne_eqb n a.0 x.0.1) x.1)

  pub last_arm : (l : List (ℕ × X)) → NoneOf l Unit → last ≡ arm_of l
  last_arm l r = (none l Unit r).1
