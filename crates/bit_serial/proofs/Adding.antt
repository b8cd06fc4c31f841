-- The steps of a product: after k of them the last k bits of the multiplier were used, so the partial sum is x times those and the others are left.
-- Assumes nothing.
use mathlib.Core.Path.{◌≡◌, sym, ap, ◌∙◌, subst}
use Prim.Native.Nat.{ℕ, zero, suc, ◌+◌, ◌-◌, ◌*◌, ◌/◌, ◌%◌, ◌^◌, ◌≤◌, ◌<◌}
use native.Mathlib.Nat.{mul_assoc, mul-le-mul_left, one-mul, zero-mul, mod-lt, sub-zero}
use native.Mathlib.Omega.{arith}
use lib.Pow.{pow-add, pow_mono, shl_exact}
use Rattle.bit_serial.specs.declared.multiply.Product.{Product}
use Rattle.bit_serial.specs.Product.{begun, shifted, added, added_up_to, product}
use Rattle.bit_serial.proofs.UpTo.{onward}

-- ---- one step within 64 bits
pub shifts : (x k : ℕ) → x < 2 ^ 32 → k < 32 → x * 2 ^ k % 2 ^ 64 ≡ x * 2 ^ k
shifts x k h l = shl_exact 32 k 64 h (omega arith)

pub doubles : (x k : ℕ) → x * 2 ^ (k + 1) ≡ x * 2 ^ k * 2
doubles x k = ap (λ (n : ℕ). x * n) (pow-add 2 k 1) ∙ sym (mul_assoc x (2 ^ k) 2)

pub sum_fits : (x k s t : ℕ) → x < 2 ^ 32 → k < 32 → s ≤ x * 2 ^ k → t ≡ x * 2 ^ k % 2 ^ 64 → s + t < 2 ^ 64
sum_fits x k s t h l w e =
    let f : t ≡ x * 2 ^ k = e ∙ shifts x k h l in
    let g = doubles x k in
    let u : x * 2 ^ (k + 1) ≤ x * 2 ^ 32 = mul-le-mul_left x (pow_mono {i = k + 1} {j = 32} (omega arith)) in
    omega arith

-- by the last bit
pub set : (x : ℕ) (p : Product) (t : ℕ) → p.left % 2 ≡ 1 → t ≡ shifted x p → record { partial = p.partial + t; left = p.left / 2; steps = p.steps + 1 }
    ≡ added x p
set x p t o e = ap (λ (n : ℕ). record { partial = p.partial + n; left = p.left / 2; steps = p.steps + 1 }) (e ∙ sym (ap (λ (n : ℕ). n * shifted x p) o
    ∙ one-mul (shifted x p)))

pub unset : (x : ℕ) (p : Product) → (p.left % 2 ≡ 1 → ⊥) → record { partial = p.partial; left = p.left / 2; steps = p.steps + 1 } ≡ added x p
unset x p o =
    let z : p.left % 2 ≡ 0 = omega arith in
    ap (λ (n : ℕ). record { partial = n; left = p.left / 2; steps = p.steps + 1 }) (sym (ap (λ (n : ℕ). p.partial + n * shifted x p) z
    ∙ ap (λ (n : ℕ). p.partial + n) (zero-mul (shifted x p)) ∙ (omega arith)))

-- what holds where the loop stands: the steps that are left to make lead to the product
pub record Adding (n x y : ℕ) (p : Product) : Type 0 where
  pub leads : added_up_to (n - p.steps) x p ≡ product n x y
  pub few : p.steps ≤ n
  pub within : p.partial ≤ shifted x p

pub starts : (n x y : ℕ) {p : Product} → p ≡ begun y → Adding n x y p
starts n x y b = subst (Adding n x y) (sym b) record { leads = ap (λ (m : ℕ). added_up_to m x (begun y)) (sub-zero n); few = omega arith; within = omega arith }

pub adds : (n x y : ℕ) (p : Product) {q : Product} → Adding n x y p → p.steps < n → (p.left ≡ 0 → ⊥) → q ≡ added x p → Adding n x y q
adds n x y p a l e f = subst (Adding n x y) (sym f) record {
  leads = onward (λ (p : Product). p.left) (added x) (n - p.steps) (n - (p.steps + 1)) a.leads (omega arith) e;
  few = omega arith;
  within = bit (p.left % 2) (mod-lt p.left (omega arith));
}
  where
    bit : (b : ℕ) → b < 2 → p.partial + b * shifted x p ≤ x * 2 ^ (p.steps + 1)
    bit zero h = let g = doubles x p.steps in let w = a.within in omega arith
    bit (suc zero) h = let g = doubles x p.steps in let w = a.within in omega arith
    bit (suc (suc b)) h = absurd (omega arith)
