-- Steps made as long as bits remain: where they lead from any of them, and what holds where they end. Assumes nothing.
use mathlib.Core.Path.{◌≡◌, refl, sym, ap, ◌∙◌}
use mathlib.Core.Logic.{◌⊎◌, inl, inr}
use mathlib.Core.Bool.{Bool, true, false, cond}
use Prim.Native.Nat.{ℕ, zero, suc}
use borrow.Author.Tests.{eq-eqb, ne_eqb, eqb-true, eqb-false}
use lib.Dec.{eqb}
use Rattle.bit_serial.specs.UpTo.{up_to}

-- what holds with so many steps left to make, where no bits remain or no step is left
pub record Ended {A : Type 0} (bits : A → ℕ) (P : ℕ → A → Type 0) (s : A) : Type 0 where
  pub left : ℕ
  pub holds : P left s
  pub why : (bits s ≡ 0) ⊎ (left ≡ 0)

module _ {A : Type 0} (bits : A → ℕ) (step : A → A) where
  -- what n steps from s lead to: s where no bits remain or n is 0, else what one fewer from the next lead to
  pub early : {end : A} (n : ℕ) {s : A} → up_to bits step n s ≡ end → bits s ≡ 0 → s ≡ end
  unfolding up_to
  early zero l e = l
  early (suc n) {s} l e = sym (ap (λ (t : Bool). cond t s (up_to bits step n (step s))) (eq-eqb (bits s) 0 e)) ∙ l

  pub all_made : {end : A} (n : ℕ) {s : A} → up_to bits step n s ≡ end → n ≡ 0 → s ≡ end
  unfolding up_to
  all_made n {s} l e = ap (λ (m : ℕ). up_to bits step m s) (sym e) ∙ l

  pub onward : {end : A} (n m : ℕ) {s : A} → up_to bits step n s ≡ end → n ≡ suc m → (bits s ≡ 0 → ⊥) → up_to bits step m (step s) ≡ end
  unfolding up_to
  onward n m {s} l e b = sym (ap (λ (m : ℕ). up_to bits step m s) e ∙ ap (λ (t : Bool). cond t s (up_to bits step m (step s))) (ne_eqb (bits s) 0 b)) ∙ l

  -- what each step keeps while bits remain holds where the steps end
  pub along : (P : ℕ → A → Type 0) → ((m : ℕ) (s : A) → (bits s ≡ 0 → ⊥) → P (suc m) s → P m (step s)) → (n : ℕ) (s : A) → P n s
      → Ended bits P (up_to bits step n s)
  unfolding up_to
  along P keeps zero s h = record { left = zero; holds = h; why = inr refl }
  along P keeps (suc n) s h = go (eqb (bits s) 0) (eqb-true (bits s) 0) (eqb-false (bits s) 0) (λ b. along P keeps n (step s) (keeps n s b h))
    where
      go : (t : Bool) → (t ≡ true → bits s ≡ 0) → (t ≡ false → bits s ≡ 0 → ⊥) → ((bits s ≡ 0 → ⊥) → Ended bits P (up_to bits step n (step s)))
          → Ended bits P (cond t s (up_to bits step n (step s)))
      go true z b g = record { left = suc n; holds = h; why = inl (z refl) }
      go false z b g = g (b refl)
