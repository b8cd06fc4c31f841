-- From the fraction a / c that a float is in size to what 01 and 02 say of its value. Assumes nothing.
use mathlib.Core.Path.{◌≡◌, sym, ap, ◌∙◌, subst}
use mathlib.Core.Logic.{◌⊎◌, inl, inr, ⊎_elim}
use mathlib.Core.Bool.{Bool, true}
use Prim.Native.Nat.{ℕ, ◌*◌, ◌^◌, ◌≤◌, ◌<◌}
use native.Mathlib.Nat.{eq_of_mul-eq-mul_right, mul_comm, mul_right_comm, zero-mul, mul-le-mul_right, mul-lt-mul_of_pos_right, mul-pos, le_of_mul-le-mul_right}
use native.Mathlib.Nat.{lt_of_mul-lt-mul_right, eq-zero-or-pos, lt_irrefl}
use lib.Ieee.{Float, nan, inf, fin, up, down}
use lib.Ieee.Exact.{HasValue}
use lib.Ieee.Positive.{first_pos}
use lib.Ieee.Fits.{down_pos, up_pos}
use Rattle.float.specs.Word.{negative, size88}
use Rattle.promises.specs.HostFloats.{Same, IsMinusZero, Large, Small}
use Rattle.promises.proofs.host_floats.Signs.{united}

pub same_of : (x : Float) (s : Bool) (a c w : ℕ) → 0 < c → HasValue x s a c → a * 2 ^ 88 ≡ size88 w * c → (s ≡ negative w) ⊎ (size88 w ≡ 0) → Same x w
same_of nan s a c w p h e t = absurd h
same_of (inf u) s a c w p h e t = absurd h
same_of (fin u m k) s a c w p h e t =
    let q : m * up k * 2 ^ 88 * c ≡ a * 2 ^ 88 * down k =
    mul_right_comm (m * up k) (2 ^ 88) c ∙ ap (λ (n : ℕ). n * 2 ^ 88) h.1 ∙ mul_right_comm a (down k) (2 ^ 88) in
    united u m k w
    (eq_of_mul-eq-mul_right c p _ _ (q ∙ ap (λ (n : ℕ). n * down k) e ∙ mul_right_comm (size88 w) c (down k)))
    (⊎_elim (λ r. inl (h.0 ∙ r)) (λ z. inr z) t)

pub large_of : (x : Float) (s : Bool) (a c : ℕ) → 0 < c → HasValue x s a c → 2 ^ 63 * c ≤ a → Large x
large_of nan s a c p h l = absurd h
large_of (inf u) s a c p h l = absurd h
large_of (fin u m k) s a c p h l =
    le_of_mul-le-mul_right
    (subst (λ (n : ℕ). 2 ^ 63 * down k * c ≤ n) (sym h.1) (subst (λ (n : ℕ). n ≤ a * down k) (mul_right_comm (2 ^ 63) c (down k))
    (mul-le-mul_right (down k) l)))
    p

pub small_of : (x : Float) (s : Bool) (a c : ℕ) → 0 < c → HasValue x s a c → 0 < a → a * 2 ^ 65 < c → Small x
small_of nan s a c p h q l = absurd h
small_of (inf u) s a c p h q l = absurd h
small_of (fin u m k) s a c p h q l =
    let some : 0 < m * up k * c = subst (λ (n : ℕ). 0 < n) (sym h.1) (mul-pos q (down_pos k)) in
    let e : a * 2 ^ 65 * down k ≡ m * up k * 2 ^ 65 * c =
    mul_right_comm a (2 ^ 65) (down k) ∙ ap (λ (n : ℕ). n * 2 ^ 65) (sym h.1) ∙ mul_right_comm (m * up k) c (2 ^ 65) in (
      first_pos m (up k) (first_pos (m * up k) c some),
      lt_of_mul-lt-mul_right c
          (subst (λ (n : ℕ). n < down k * c) e (subst (λ (n : ℕ). a * 2 ^ 65 * down k < n) (mul_comm c (down k)) (mul-lt-mul_of_pos_right l (down_pos k)))),
    )

-- a product is 0 only where its first factor is, the second being none
pub first_zero : (a b : ℕ) → 0 < b → a * b ≡ 0 → a ≡ 0
first_zero a b h e = ⊎_elim (λ z. z) (λ (k : 0 < a). absurd (lt_irrefl 0 (subst (λ (n : ℕ). 0 < n) e (mul-pos k h)))) (eq-zero-or-pos a)

pub minus_of : (x : Float) (s : Bool) (a c : ℕ) → 0 < c → HasValue x s a c → s ≡ true → a ≡ 0 → IsMinusZero x
minus_of nan s a c p h e z = absurd h
minus_of (inf u) s a c p h e z = absurd h
minus_of (fin u m k) s a c p h e z =
    (h.0 ∙ e, first_zero m (up k) (up_pos k) (first_zero (m * up k) c p (h.1 ∙ ap (λ (n : ℕ). n * down k) z ∙ zero-mul (down k))))

pub of_minus : (x : Float) (s : Bool) (a c : ℕ) → HasValue x s a c → IsMinusZero x → (s ≡ true) × (a ≡ 0)
of_minus nan s a c h t = absurd h
of_minus (inf u) s a c h t = absurd h
of_minus (fin u m k) s a c h t =
    let none : m * up k * c ≡ 0 = ap (λ (n : ℕ). n * up k * c) t.1 ∙ ap (λ (n : ℕ). n * c) (zero-mul (up k)) ∙ zero-mul c in
    (sym h.0 ∙ t.0, first_zero a (down k) (down_pos k) (sym h.1 ∙ none))
