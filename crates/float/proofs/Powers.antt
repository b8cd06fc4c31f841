-- Powers of two moved between the factors of a product. Assumes nothing.
use mathlib.Core.Path.{◌≡◌, sym, ap, ap₂, ◌∙◌}
use Prim.Native.Nat.{ℕ, ◌+◌, ◌-◌, ◌*◌, ◌^◌, ◌<◌}
use native.Mathlib.Nat.{le_of_eq, le_of_lt, lt_of_le_of_lt, lt_of_lt_of_le, mul_assoc, mul_comm, mul-sub, mul-le-mul_left, mul-lt-mul_of_pos_right}
use lib.Pow.{pow-add, pow_pos}

pub moved : (m a b c d : ℕ) → a + b ≡ c + d → m * 2 ^ a * 2 ^ b ≡ m * 2 ^ c * 2 ^ d
moved m a b c d e =
    mul_assoc m (2 ^ a) (2 ^ b) ∙ ap (λ (x : ℕ). m * x) (sym (pow-add 2 a b) ∙ ap (λ (x : ℕ). 2 ^ x) e ∙ pow-add 2 c d) ∙ sym (mul_assoc m (2 ^ c) (2 ^ d))

pub parted : (m e a b : ℕ) → e ≡ a + b → m * 2 ^ e ≡ m * 2 ^ a * 2 ^ b
parted m e a b p = ap (λ (x : ℕ). m * x) (ap (λ (x : ℕ). 2 ^ x) p ∙ pow-add 2 a b) ∙ sym (mul_assoc m (2 ^ a) (2 ^ b))

-- a product of numbers of j and k digits
pub mul_digits : {a b : ℕ} (j k : ℕ) → a < 2 ^ j → b < 2 ^ k → a * b < 2 ^ (j + k)
mul_digits {a} {b} j k A B =
    lt_of_lt_of_le (lt_of_le_of_lt (mul-le-mul_left a (le_of_lt B)) (mul-lt-mul_of_pos_right A (pow_pos k))) (le_of_eq (sym (pow-add 2 j k)))

pub sub_mul : (b t u : ℕ) → (b - t) * u ≡ b * u - t * u
sub_mul b t u = mul_comm (b - t) u ∙ mul-sub u b t ∙ ap₂ (λ (x y : ℕ). x - y) (mul_comm u b) (mul_comm u t)
