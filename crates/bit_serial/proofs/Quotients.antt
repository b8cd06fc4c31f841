-- With i digits of a quotient left to find, what is left of the dividend is the dividend modulo the divisor i places up, and quotient times divisor
-- and rest make the dividend. Assumes nothing.
use mathlib.Core.Path.{◌≡◌, refl, sym, ap, ◌∙◌, subst}
use mathlib.Core.Logic.{◌⊎◌, inl, inr, ⊎_elim}
use mathlib.Core.Bool.{Bool, true, false, cond}
use Prim.Native.Nat.{ℕ, ◌+◌, ◌-◌, ◌*◌, ◌/◌, ◌%◌, ◌^◌, ◌≤◌, ◌<◌}
use native.Mathlib.Nat.{le_trans, le-add_right, mul_assoc, mul-one, mul-pos, mod-lt, mod-eq_of_lt, div-add-mod', mul-add-mod_self_right, div-eq_of_lt-le}
use native.Mathlib.Nat.{mul-mod_left}
use native.Mathlib.Omega.{arith}
use lib.Dec.{leb}
use lib.Pow.{pow-add, pow_pos}
use borrow.Author.Tests.{leb-true, leb-false}
use Rattle.numbers.proofs.Differences.{either}
use Rattle.bit_serial.specs.declared.divide.Division.{Division}
use Rattle.bit_serial.specs.Quotient.{begun, shifted, subtracted, division}
use Rattle.bit_serial.proofs.UpTo.{Ended, along}
use Rattle.bit_serial.proofs.Subtracting.{halves, Subtracting, starts, subtracts}

-- what holds after each step, and, of the n digits, that bits remained before each that was found
pub record Found (n v d : ℕ) (s : Division) : Type 0 where
  pub rest : s.rest ≡ v % (d * 2 ^ s.left)
  pub whole : s.quotient * d + s.rest ≡ v
  pub needed : (i : ℕ) → s.left < i → i ≤ n → v % (d * 2 ^ i) ≡ 0 → ⊥

pub first : (n v d : ℕ) → v < d * 2 ^ n → Found n v d (begun v n)
first n v d h = record { rest = sym (mod-eq_of_lt h); whole = omega arith; needed = λ i l m. absurd (omega arith) }

-- v modulo D from v modulo twice D: D is taken away where it goes
modulo_half : (v D r : ℕ) (b : Bool) → 0 < D → r ≡ v % (D + D) → (b ≡ true → D ≤ r) → (b ≡ false → r < D) → r - cond b 1 0 * D ≡ v % D
modulo_half v D r true h e f g =
    let l = f refl in
    let m : r < D + D = subst (λ (x : ℕ). x < D + D) (sym e) (mod-lt v (omega arith)) in
    let w : v ≡ (v / (D + D) * 2 + 1) * D + (r - D) = sym (div-add-mod' v (D + D)) ∙ ap (λ (x : ℕ). v / (D + D) * (D + D) + x) (sym e) ∙ (omega arith) in
    sym (ap (λ (x : ℕ). x % D) w ∙ mul-add-mod_self_right (v / (D + D) * 2 + 1) D (r - D) ∙ mod-eq_of_lt (omega arith) ∙ (omega arith))
modulo_half v D r false h e f g =
    let w : v ≡ v / (D + D) * 2 * D + r = sym (div-add-mod' v (D + D)) ∙ ap (λ (x : ℕ). v / (D + D) * (D + D) + x) (sym e) ∙ (omega arith) in
    sym (ap (λ (x : ℕ). x % D) w ∙ mul-add-mod_self_right (v / (D + D) * 2) D r ∙ mod-eq_of_lt (g refl) ∙ (omega arith))

pub next : (n v d : ℕ) (s : Division) → 0 < d → 0 < s.left → (s.rest ≡ 0 → ⊥) → Found n v d s → Found n v d (subtracted d s)
next n v d s D l m a = record {
  rest = modulo_half v (shifted d s) s.rest (leb (shifted d s) s.rest) (mul-pos D (pow_pos (s.left - 1))) (a.rest ∙ ap (λ (x : ℕ). v % x) twice)
      (leb-true (shifted d s) s.rest) (leb-false (shifted d s) s.rest);
  whole = made (leb (shifted d s) s.rest) (leb-true (shifted d s) s.rest) ∙ a.whole;
  needed = λ i h k. ⊎_elim (λ (g : s.left < i). a.needed i g k) (λ (g : i ≤ s.left) z. m (a.rest ∙ ap (λ (x : ℕ). v % (d * 2 ^ x)) (same i h g) ∙ z))
      (either s.left i);
}
  where
    twice : d * 2 ^ s.left ≡ shifted d s + shifted d s
    twice = let e = ap (λ (x : ℕ). d * x) (halves s.left l) in omega arith

    made : (b : Bool) → (b ≡ true → shifted d s ≤ s.rest) → (s.quotient + cond b 1 0 * 2 ^ (s.left - 1)) * d + (s.rest - cond b 1 0 * shifted d s)
        ≡ s.quotient * d + s.rest
    made true f = let g = f refl in omega arith
    made false f = omega arith

    same : (i : ℕ) → s.left - 1 < i → i ≤ s.left → s.left ≡ i
    same i h g = omega arith

-- a quotient and a rest below the divisor
pub parts : (q d r v : ℕ) → q * d + r ≡ v → r < d → (q ≡ v / d) × (r ≡ v % d)
parts q d r v e l =
    (sym (div-eq_of_lt-le d (omega arith) (omega arith)), sym (ap (λ (n : ℕ). n % d) (sym e) ∙ mul-add-mod_self_right q d r ∙ mod-eq_of_lt l))

-- a number of units that is a number of larger ones
units : (v a j : ℕ) → 0 < a → v % (a * 2 ^ j) ≡ 0 → v % a ≡ 0
units v a j h z =
    let w : v ≡ v / (a * 2 ^ j) * 2 ^ j * a = sym (div-add-mod' v (a * 2 ^ j)) ∙ (ap (λ (x : ℕ). v / (a * 2 ^ j) * (a * 2 ^ j) + x) z) ∙ (omega arith) in
    ap (λ (x : ℕ). x % a) w ∙ mul-mod_left (v / (a * 2 ^ j) * 2 ^ j) a

module _ (n v d : ℕ) (D : 0 < d) (h : v < d * 2 ^ n) where
  ended : Ended (λ (s : Division). s.rest) (λ (m : ℕ) (s : Division). (s.left ≡ m) × Found n v d s) (division n v d)
  ended = along (λ (s : Division). s.rest) (subtracted d) (λ (m : ℕ) (s : Division). (s.left ≡ m) × Found n v d s)
      (λ m s b h. (omega (arith, h.0), next n v d s D (omega (arith, h.0)) b h.1)) n (begun v n) (refl, first n v d h)

  all : Found n v d (division n v d)
  all = ended.holds.1

  -- the steps end where no bits remain, or when all were made
  ends : ((division n v d).rest ≡ 0) ⊎ ((division n v d).left ≡ 0)
  ends = ⊎_elim inl (λ (z : ended.left ≡ 0). inr (ended.holds.0 ∙ z)) ended.why

  -- the whole quotient, and the remainder
  pub whole : ((division n v d).quotient ≡ v / d) × ((division n v d).rest ≡ v % d)
  whole = parts (division n v d).quotient d (division n v d).rest v all.whole (⊎_elim (λ z. subst (λ (x : ℕ). x < d) (sym z) D) last
      ends)
    where
      last : (division n v d).left ≡ 0 → (division n v d).rest < d
      last e = subst (λ (x : ℕ). x < d) (sym (all.rest ∙ ap (λ (x : ℕ). v % (d * 2 ^ x)) e ∙ ap (λ (x : ℕ). v % x) (mul-one d))) (mod-lt v D)

  -- fewer steps exactly where no bits remain
  pub then_none : (k : ℕ) → k < n → n - (division n v d).left ≤ k → v % (d * 2 ^ (n - k)) ≡ 0
  then_none k l m = ⊎_elim early (λ (e : (division n v d).left ≡ 0). absurd (omega arith)) ends
    where
      i : ℕ
      i = (division n v d).left

      apart : d * 2 ^ i ≡ d * 2 ^ (n - k) * 2 ^ (i - (n - k))
      apart = let e : i ≡ (n - k) + (i - (n - k)) = omega arith in ap (λ (x : ℕ). d * x) (ap (λ (x : ℕ). 2 ^ x) e ∙ pow-add 2 (n - k) (i - (n - k)))
          ∙ sym (mul_assoc d (2 ^ (n - k)) (2 ^ (i - (n - k))))

      early : (division n v d).rest ≡ 0 → v % (d * 2 ^ (n - k)) ≡ 0
      early z = units v (d * 2 ^ (n - k)) (i - (n - k)) (mul-pos D (pow_pos (n - k))) (ap (λ (x : ℕ). v % x) (sym apart) ∙ sym all.rest ∙ z)

  pub then_left : (k : ℕ) → k < n → v % (d * 2 ^ (n - k)) ≡ 0 → n - (division n v d).left ≤ k
  then_left k l z = ⊎_elim (λ (g : k < n - (division n v d).left). absurd (all.needed (n - k) (omega arith) (omega arith) z)) (λ g. g)
      (either k (n - (division n v d).left))

-- no more digits are found than asked for, and the quotient has no more
pub digits : (n v d : ℕ) → ((division n v d).left ≤ n) × ((division n v d).quotient ≤ 2 ^ n)
digits n v d =
    let e = along (λ (s : Division). s.rest) (subtracted d) (λ (m : ℕ) (s : Division). (s.left ≡ m) × Subtracting n v d s)
    (λ m s b h. (omega (arith, h.0), subtracts n v d s h.1 (omega (arith, h.0)) b refl)) n (begun v n) (refl, starts n v d refl) in
    let a = e.holds.1 in
    (a.few, le_trans (le-add_right (division n v d).quotient (2 ^ (division n v d).left)) a.room)
