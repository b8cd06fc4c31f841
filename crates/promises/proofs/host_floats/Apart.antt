-- An f32 has the value of one proper word at most; having one's value, being infinite or no number, being too large and being too small exclude each other, and
-- the last three exclude being minus zero. Assumes nothing.
use mathlib.Core.Path.{◌≡◌, sym, ap, ◌∙◌, subst}
use mathlib.Core.Logic.{◌⊎◌, inl, inr, ⊎_elim}
use mathlib.Core.Bool.{Bool}
use Prim.Native.Nat.{ℕ, ◌*◌, ◌^◌, ◌≤◌, ◌<◌}
use native.Mathlib.Nat.{eq_of_mul-eq-mul_right, mul_assoc, mul_comm, mul_right_comm, zero-mul, one-mul, mul-le-mul_right, mul-lt-mul_of_pos_right, mul-pos}
use native.Mathlib.Nat.{lt_irrefl, lt_of_lt_of_le, lt_of_le_of_lt, le_trans, le_of_eq}
use lib.Pow.{pow_pos}
use lib.Ieee.{Float, nan, inf, fin, up, down}
use lib.Ieee.Fits.{down_pos, up_pos}
use Rattle.float.specs.Word.{negative, mantissa, size88, value}
use Rattle.promises.proofs.float.Kept.{same_word}
use Rattle.promises.specs.HostFloats.{HasWord, Endless, IsMinusZero, Large, Small}
use Rattle.promises.proofs.host_floats.Signs.{of_signed, parted}
use Rattle.host_floats.proofs.WordSizes.{proper_cases, size_zero, size_some, size-lt}

value_same : (w v : ℕ) → size88 w ≡ size88 v → (negative w ≡ negative v) ⊎ (size88 v ≡ 0) → value w ≡ value v
unfolding value
value_same w v e s = of_signed (negative w) (negative v) (size88 w) (size88 v) e s

pub one_word : (x : Float) (w v : ℕ) → HasWord x w → HasWord x v → w ≡ v
one_word nan w v a b = absurd a.same
one_word (inf s) w v a b = absurd a.same
one_word (fin s m e) w v a b =
    let p = parted s m e w a.same in
    let q = parted s m e v b.same in
    let f : size88 w ≡ size88 v = eq_of_mul-eq-mul_right (down e) (down_pos e) _ _ (sym p.0 ∙ q.0) in
    same_word w v a.word b.word
    (value_same w v f (⊎_elim (λ h. ⊎_elim (λ k. inl (sym h ∙ k)) (λ z. inr z) q.1) (λ z. inr (sym f ∙ z)) p.1))

pub held_endless : (x : Float) (w : ℕ) → HasWord x w → Endless x → ⊥
held_endless nan w a t = a.same
held_endless (inf s) w a t = a.same
held_endless (fin s m e) w a t = t

pub held_large : (x : Float) (w : ℕ) → HasWord x w → Large x → ⊥
held_large nan w a h = h
held_large (inf s) w a h = h
held_large (fin s m e) w a h =
    let d = 2 ^ 63 * down e * 2 ^ 88 in
    let p : d ≤ size88 w * down e = subst (λ (n : ℕ). d ≤ n) (parted s m e w a.same).0 (mul-le-mul_right (2 ^ 88) h) in
    let q : size88 w * down e < 2 ^ 151 * down e = mul-lt-mul_of_pos_right (size-lt w) (down_pos e) in
    let r : d ≡ 2 ^ 151 * down e = mul_right_comm (2 ^ 63) (down e) (2 ^ 88) in
    lt_irrefl d (lt_of_le_of_lt p (subst (λ (n : ℕ). size88 w * down e < n) (sym r) q))

pub held_small : (x : Float) (w : ℕ) → HasWord x w → Small x → ⊥
held_small nan w a h = h
held_small (inf s) w a h = h
held_small (fin s m e) w a h = ⊎_elim some none (proper_cases w a.word.is_proper)
  where
    sizes : m * up e * 2 ^ 88 ≡ size88 w * down e
    sizes = (parted s m e w a.same).0

    some : 8388608 ≤ mantissa w → ⊥
    some k =
        let p : 8388608 * down e ≤ size88 w * down e = mul-le-mul_right (down e) (size_some w k) in
        let q : m * up e * 2 ^ 65 * 2 ^ 23 < down e * 2 ^ 23 = mul-lt-mul_of_pos_right h.1 (pow_pos 23) in
        let r : m * up e * 2 ^ 65 * 2 ^ 23 ≡ size88 w * down e = mul_assoc (m * up e) (2 ^ 65) (2 ^ 23) ∙ sizes in
        lt_irrefl (size88 w * down e)
        (lt_of_lt_of_le (subst (λ (n : ℕ). n < down e * 2 ^ 23) r q) (subst (λ (n : ℕ). n ≤ size88 w * down e) (mul_comm (2 ^ 23) (down e)) p))

    none : w ≡ 0 → ⊥
    none z =
        let f : m * up e * 2 ^ 88 ≡ 0 = sizes ∙ ap (λ (n : ℕ). n * down e) (ap size88 z ∙ size_zero) ∙ zero-mul (down e) in
        lt_irrefl 0 (subst (λ (n : ℕ). 0 < n) f (mul-pos (mul-pos h.0 (up_pos e)) (pow_pos 88)))

-- an endless float has nothing that neither a NaN nor an infinity has
endless_not : (P : Float → Type 0) → (P nan → ⊥) → ((s : Bool) → P (inf s) → ⊥) → (x : Float) → Endless x → P x → ⊥
endless_not P n i nan t h = n h
endless_not P n i (inf s) t h = i s h
endless_not P n i (fin s m e) t h = t

pub endless_large : (x : Float) → Endless x → Large x → ⊥
endless_large = endless_not Large (λ h. h) (λ s h. h)

pub endless_small : (x : Float) → Endless x → Small x → ⊥
endless_small = endless_not Small (λ h. h) (λ s h. h)

pub endless_minus : (x : Float) → Endless x → IsMinusZero x → ⊥
endless_minus = endless_not IsMinusZero (λ h. h) (λ s h. h)

pub large_small : (x : Float) → Large x → Small x → ⊥
large_small nan l h = h
large_small (inf s) l h = h
large_small (fin s m e) l h =
    let p : 2 ^ 63 * down e * 2 ^ 65 ≤ m * up e * 2 ^ 65 = mul-le-mul_right (2 ^ 65) l in
    let q : 1 * down e ≤ 2 ^ 128 * down e = mul-le-mul_right (down e) (pow_pos 128) in
    let r : 2 ^ 63 * down e * 2 ^ 65 ≡ 2 ^ 128 * down e = mul_right_comm (2 ^ 63) (down e) (2 ^ 65) in
    lt_irrefl (m * up e * 2 ^ 65)
    (lt_of_lt_of_le h.1 (le_trans (le_of_eq (sym (one-mul (down e)))) (le_trans q (le_trans (le_of_eq (sym r)) p))))

pub minus_large : (x : Float) → IsMinusZero x → Large x → ⊥
minus_large nan t h = h
minus_large (inf s) t h = h
minus_large (fin s m e) t h =
    let none : m * up e ≡ 0 = ap (λ (n : ℕ). n * up e) t.1 ∙ zero-mul (up e) in
    lt_irrefl 0 (lt_of_lt_of_le (mul-pos (pow_pos 63) (down_pos e)) (subst (λ (n : ℕ). 2 ^ 63 * down e ≤ n) none h))

pub minus_small : (x : Float) → IsMinusZero x → Small x → ⊥
minus_small nan t h = h
minus_small (inf s) t h = h
minus_small (fin s m e) t h = lt_irrefl 0 (subst (λ (n : ℕ). 0 < n) t.1 h.0)
