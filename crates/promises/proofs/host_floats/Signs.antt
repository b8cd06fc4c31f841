-- Two whole numbers with a sign are one exactly if their sizes are, and their signs too unless the size is 0; so an f32 and a word have one value exactly if
-- that holds of them. Assumes nothing.
use mathlib.Core.Path.{◌≡◌, refl, sym, ap, ap₂, ◌∙◌}
use mathlib.Core.Logic.{◌⊎◌, inl, inr, ⊎_elim}
use mathlib.Core.Bool.{Bool, true, false}
use Prim.Native.Nat.{ℕ, zero, suc, ◌*◌, ◌^◌, ◌<◌}
use native.Mathlib.Nat.{mul-pos, zero-mul, eq-zero-or-pos}
use native.Mathlib.Omega.{arith}
use lib.IntN.{ℤ, pos, neg_ℤ, neg_ℤ-neg_ℤ}
use lib.Ieee.{Float, nan, inf, fin, up, down}
use lib.Ieee.Exact.{HasValue}
use lib.Ieee.Fits.{down_pos}
use Rattle.numbers.specs.Signed.{with_sign}
use Rattle.numbers.proofs.Signs.{zero_signed}
use Rattle.float.specs.Word.{negative, size88}
use Rattle.promises.specs.HostFloats.{Same}

pos_same : {a b : ℕ} → pos a ≡ pos b → a ≡ b
pos_same e = (cc)

neg_pos : (a b : ℕ) → neg_ℤ (pos a) ≡ pos b → (a ≡ b) × (b ≡ 0)
neg_pos zero b e = let z : 0 ≡ b = pos_same e in (z, sym z)
neg_pos (suc a) b e = let z : ◌≡◌ {A = ℕ} 0 1 = (cc) in absurd (omega arith)

pub signed : (s t : Bool) (a b : ℕ) → with_sign s a ≡ with_sign t b → (a ≡ b) × ((s ≡ t) ⊎ (b ≡ 0))
signed false false a b e = (pos_same e, inl refl)
signed true true a b e = (pos_same (sym (neg_ℤ-neg_ℤ (pos a)) ∙ ap neg_ℤ e ∙ neg_ℤ-neg_ℤ (pos b)), inl refl)
signed true false a b e = let p = neg_pos a b e in (p.0, inr p.1)
signed false true a b e = let p = neg_pos b a (sym e) in (sym p.0, inr (p.0 ∙ p.1))

pub of_signed : (s t : Bool) (a b : ℕ) → a ≡ b → (s ≡ t) ⊎ (b ≡ 0) → with_sign s a ≡ with_sign t b
of_signed s t a b e (inl q) = ap₂ with_sign q e
of_signed s t a b e (inr z) = ap (with_sign s) (e ∙ z) ∙ zero_signed s ∙ sym (ap (with_sign t) z ∙ zero_signed t)

module _ (s : Bool) (m : ℕ) (e : ℤ) (w : ℕ) where
  no_size : size88 w * down e ≡ 0 → size88 w ≡ 0
  no_size z = ⊎_elim (λ h. h) (λ (h : 0 < size88 w). let p = mul-pos h (down_pos e) in absurd (omega arith)) (eq-zero-or-pos (size88 w))

  pub parted : Same (fin s m e) w → (m * up e * 2 ^ 88 ≡ size88 w * down e) × ((s ≡ negative w) ⊎ (size88 w ≡ 0))
  unfolding size88
  parted h =
      let p = signed s (negative w) (m * up e * 2 ^ 88) (size88 w * down e) h in
      (p.0, ⊎_elim (λ q. inl q) (λ z. inr (no_size z)) p.1)

  pub united : m * up e * 2 ^ 88 ≡ size88 w * down e → (s ≡ negative w) ⊎ (size88 w ≡ 0) → Same (fin s m e) w
  unfolding size88
  united p q =
      of_signed s (negative w) (m * up e * 2 ^ 88) (size88 w * down e) p
      (⊎_elim (λ h. inl h) (λ z. inr (ap (λ (n : ℕ). n * down e) z ∙ zero-mul (down e))) q)

-- an f32 that lib.Ieee gives the sign and the size of a word has the word's value
pub same_value : (x : Float) (w : ℕ) → HasValue x (negative w) (size88 w) (2 ^ 88) → Same x w
same_value nan w h = h
same_value (inf s) w h = h
same_value (fin s m e) w h = united s m e w h.1 (inl h.0)
