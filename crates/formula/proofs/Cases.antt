-- The reader, case by case: what each byte makes of it. Assumes nothing.
use mathlib.Core.Path.{◌≡◌, refl, sym, ◌∙◌}
use mathlib.Core.Bool.{Bool, true, false, cond}
use mathlib.Core.List.{List, ◌∷◌}
use Prim.Native.Nat.{ℕ, suc}
use native.Mathlib.Omega.{arith}
use borrow.Author.Tests.{eqb-true}
use lib.Dec.{eqb}
use Rattle.formula.specs.Formula.{Operator, Formula, Minus, Joined}
use Rattle.formula.specs.Reader.{Read, Found, Outside, Reader, then, leaf_of, Sign, Joins, Ends, more, sum_of, closed, AMinus, ABracket}
use Rattle.formula.specs.Reader.{ALeaf, start_at, factor_of}

pub never : {A : Type 0} {f : Formula} {s : List ℕ} → Outside ≡ Found f s → A
never e = let z : ◌≡◌ {A = ℕ} 0 1 = cc in absurd (omega arith)

pub ends_never : {A : Type 0} {o : Operator} → Ends ≡ Joins o → A
ends_never e = let z : ◌≡◌ {A = ℕ} 0 1 = cc in absurd (omega arith)

pub never_true : {A : Type 0} → false ≡ true → A
never_true e = let z : ◌≡◌ {A = ℕ} 0 1 = cc in absurd (omega arith)

pub unlike : {A : Type 0} {t : Bool} → t ≡ true → t ≡ false → A
unlike h e = never_true (sym e ∙ h)

-- a formula found is what was read before and what follows it
pub record Then (x : Read) (next : Formula → Reader) (f : Formula) (rest : List ℕ) : Type 0 where
  pub tree : Formula
  pub left : List ℕ
  pub first : x ≡ Found tree left
  pub last : next tree left ≡ Found f rest

pub then_found : (x : Read) (next : Formula → Reader) {f : Formula} {rest : List ℕ} → then x next ≡ Found f rest → Then x next f rest
then_found (Found g t) next e = record { tree = g; left = t; first = refl; last = e }
then_found Outside next e = never e

-- ---- more operands
module _ (sign : ℕ → Sign) (operand : Reader) (n : ℕ) (l : Formula) (b : ℕ) (s : List ℕ) where
  pub more_ends : sign b ≡ Ends → more sign operand (suc n) l (b ∷ s) ≡ Found l (b ∷ s)
  unfolding more
  more_ends e = rw (e, more)

  pub more_joins : (o : Operator) → sign b ≡ Joins o → more sign operand (suc n) l
      (b ∷ s) ≡ then (operand s) (λ r rest. more sign operand n (Joined o l r) rest)
  unfolding more
  more_joins o e = rw (e, more)

-- ---- factors
pub start_minus : (b : ℕ) → start_at b ≡ AMinus → b ≡ 0x2D
start_minus b e = go (eqb b 0x2D) refl (eqb b 0x28) refl e
  where
    go : (x : Bool) → eqb b 0x2D ≡ x → (y : Bool) → eqb b 0x28 ≡ y → cond x AMinus (cond y ABracket ALeaf) ≡ AMinus → b ≡ 0x2D
    go true p y q h = eqb-true b 0x2D p
    go false p true q h = let z : ◌≡◌ {A = ℕ} 0 1 = cc in absurd (omega arith)
    go false p false q h = let z : ◌≡◌ {A = ℕ} 0 1 = cc in absurd (omega arith)

pub start_bracket : (b : ℕ) → start_at b ≡ ABracket → b ≡ 0x28
start_bracket b e = go (eqb b 0x2D) refl (eqb b 0x28) refl e
  where
    go : (x : Bool) → eqb b 0x2D ≡ x → (y : Bool) → eqb b 0x28 ≡ y → cond x AMinus (cond y ABracket ALeaf) ≡ ABracket → b ≡ 0x28
    go true p y q h = let z : ◌≡◌ {A = ℕ} 0 1 = cc in absurd (omega arith)
    go false p true q h = eqb-true b 0x28 q
    go false p false q h = let z : ◌≡◌ {A = ℕ} 0 1 = cc in absurd (omega arith)

module _ (d b : ℕ) (s : List ℕ) where
  pub factor_minus : start_at b ≡ AMinus → factor_of (suc d) (b ∷ s) ≡ then (factor_of d s) (λ f rest. Found (Minus f) rest)
  unfolding factor_of
  factor_minus e = rw (e, factor_of)

  pub factor_bracket : start_at b ≡ ABracket → factor_of (suc d) (b ∷ s) ≡ then (sum_of d s) closed
  unfolding factor_of
  factor_bracket e = rw (e, factor_of)

  pub factor_leaf : start_at b ≡ ALeaf → factor_of (suc d) (b ∷ s) ≡ leaf_of (b ∷ s)
  unfolding factor_of
  factor_leaf e = rw (e, factor_of)
