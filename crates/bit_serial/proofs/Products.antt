-- After k steps of a product the last k bits of the multiplier are used up: x times those is added up, and the others are left. Assumes nothing.
use mathlib.Core.Path.{◌≡◌, sym, ap, ◌∙◌, subst}
use mathlib.Core.Logic.{◌⊎◌, inl, inr, ⊎_elim}
use Prim.Native.Nat.{ℕ, ◌+◌, ◌*◌, ◌/◌, ◌%◌, ◌^◌, ◌≤◌, ◌<◌}
use native.Mathlib.Nat.{lt_of_lt_of_le, div-eq_of_lt, div-one, mod-one, mod-eq_of_lt, mul-zero, mul-le-mul_left, mod-le, div-lt_iff_lt-mul, one-mul, zero-add}
use native.Mathlib.Nat.{add_comm}
use native.Mathlib.Omega.{arith}
use lib.Pow.{pow_mono, pow_pos, shr-shr, mod-pow-add}
use Rattle.numbers.proofs.Differences.{either}
use Rattle.bit_serial.specs.declared.multiply.Product.{Product}
use Rattle.bit_serial.specs.Product.{begun, added, product}
use Rattle.bit_serial.proofs.UpTo.{Ended, along}

-- what holds after each step, and, of the steps made, that bits remained before each
pub record Added (x y : ℕ) (p : Product) : Type 0 where
  pub sum : p.partial ≡ x * (y % 2 ^ p.steps)
  pub others : p.left ≡ y / 2 ^ p.steps
  pub needed : (k : ℕ) → k < p.steps → y / 2 ^ k ≡ 0 → ⊥

pub first : (x y : ℕ) → Added x y (begun y)
first x y = record {
  sum = sym (ap (λ (n : ℕ). x * n) (mod-one y) ∙ mul-zero x);
  others = sym (div-one y);
  needed = λ k l. absurd (omega arith);
}

-- one bit more: the bits below place k and the one at it
next_sum : (x y k : ℕ) → x * (y % 2 ^ k) + y / 2 ^ k % 2 * (x * 2 ^ k) ≡ x * (y % 2 ^ (k + 1))
next_sum x y k =
    let e = ap (λ (n : ℕ). y % 2 ^ n) (add_comm k 1) ∙ mod-pow-add y 1 k in
    let f : x * (y % 2 ^ (k + 1)) ≡ x * (y / 2 ^ k % 2 * 2 ^ k + y % 2 ^ k) = ap (λ (n : ℕ). x * n) e in
    omega arith

pub next : (x y : ℕ) (p : Product) → (p.left ≡ 0 → ⊥) → Added x y p → Added x y (added x p)
next x y p m a = record {
  sum = (λ i. a.sum i + a.others i % 2 * (x * 2 ^ p.steps)) ∙ next_sum x y p.steps;
  others = ap (λ (n : ℕ). n / 2) a.others ∙ shr-shr y p.steps 1;
  needed = λ k l. ⊎_elim (λ (h : k < p.steps). a.needed k h) (λ (h : k ≡ p.steps) z. m (a.others ∙ ap (λ (n : ℕ). y / 2 ^ n) (sym h) ∙ z)) (before k l);
}
  where
    before : (k : ℕ) → k < p.steps + 1 → (k < p.steps) ⊎ (k ≡ p.steps)
    before k l = ⊎_elim inl (λ (h : p.steps ≤ k). inr (omega arith)) (either k p.steps)

module _ (n x y : ℕ) where
  ended : Ended (λ (p : Product). p.left) (λ (m : ℕ) (p : Product). (p.steps + m ≡ n) × Added x y p) (product n x y)
  ended = along (λ (p : Product). p.left) (added x) (λ (m : ℕ) (p : Product). (p.steps + m ≡ n) × Added x y p)
      (λ m p b h. (omega (arith, h.0), next x y p b h.1)) n (begun y) (zero-add n, first x y)

  all : Added x y (product n x y)
  all = ended.holds.1

  -- the steps end where no bits remain, or when all were made
  ends : ((product n x y).left ≡ 0) ⊎ ((product n x y).steps ≡ n)
  ends = ⊎_elim inl (λ (z : ended.left ≡ 0). inr (omega (arith, ended.holds.0))) ended.why

  -- no bits remain: the steps made used all of them
  used : (product n x y).left ≡ 0 → y < 2 ^ (product n x y).steps
  used z = subst (λ (m : ℕ). y < m) (one-mul (2 ^ (product n x y).steps)) ((div-lt_iff_lt-mul (pow_pos (product n x y).steps)).0 (let e = sym all.others
      ∙ z in omega arith))

  -- the whole product, of a multiplier of n bits
  pub whole : y < 2 ^ n → (product n x y).partial ≡ x * y
  whole h = all.sum ∙ ap (λ (m : ℕ). x * m) (mod-eq_of_lt (⊎_elim used (λ (e : (product n x y).steps ≡ n). subst (λ (m : ℕ). y < 2 ^ m) (sym e) h) ends))

  -- never more added up than the product
  pub below : (product n x y).partial ≤ x * y
  below = subst (λ (m : ℕ). m ≤ x * y) (sym all.sum) (mul-le-mul_left x (mod-le y (2 ^ (product n x y).steps)))

  pub at_most : (product n x y).steps ≤ n
  at_most = omega (arith, ended.holds.0)

  -- fewer steps exactly where no bits remain
  pub then_none : (k : ℕ) → k < n → (product n x y).steps ≤ k → y / 2 ^ k ≡ 0
  then_none k l h =
      ⊎_elim (λ z. div-eq_of_lt (lt_of_lt_of_le (used z) (pow_mono h))) (λ (e : (product n x y).steps ≡ n). absurd (omega arith)) ends

  pub then_left : (k : ℕ) → y / 2 ^ k ≡ 0 → (product n x y).steps ≤ k
  then_left k z = ⊎_elim (λ (l : k < (product n x y).steps). absurd (all.needed k l z)) (λ l. l) (either k (product n x y).steps)
