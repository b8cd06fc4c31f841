-- A sum of two addends: the lower one, shifted into 64 bits with its last bit made odd where bits are lost, stands for itself in the sum,
-- whatever the distance of the exponents. Assumes nothing.
use mathlib.Core.Path.{◌≡◌, sym, ap, ap₂, ◌∙◌, subst, subst₂}
use mathlib.Core.Logic.{◌⊎◌, inl, inr}
use mathlib.Core.Bool.{Bool, true, false, not}
use Prim.Native.Nat.{ℕ, ◌+◌, ◌-◌, ◌*◌, ◌/◌, ◌%◌, ◌^◌, ◌≤◌, ◌<◌}
use native.Mathlib.Nat.{le_trans, le_of_eq, mul_assoc, one-mul, mul-le-mul_left, mul-le-mul_right, div-mul-le_self, mul-mod_left, mod-lt, div-add-mod'}
use native.Mathlib.Nat.{add-zero}
use native.Mathlib.Omega.{arith}
use lib.Dec.{T, ltb, ltb→lt, nltb→le}
use lib.Pow.{pow-add, pow_pos, pow_mono}
use Rattle.float.specs.Jam.{Jammed}
use Rattle.float.proofs.Powers.{moved, parted, sub_mul}
use Rattle.float.proofs.cut.Jams.{Jam, Stands, jam_of, jam_scale, jam_add, jam_sub, jam_le}

-- m has 24 digits, or m and e are 0
abbrev pub Normal : ℕ → ℕ → Type 0
Normal m e = ((m ≡ 0) × (e ≡ 0)) ⊎ (8388608 ≤ m)

-- digits are lost only in a shift of 40 places or more, and then few are left
few_left : (n d : ℕ) → n < 16777216 → 0 < n * 2 ^ 39 % 2 ^ d → (40 ≤ d) × (n * 2 ^ 39 / 2 ^ d ≤ 8388607)
few_left n d h v = go (ltb d 40) (ltb→lt d 40) (nltb→le d 40)
  where
    go : (b : Bool) → (T b → d < 40) → (T (not b) → 40 ≤ d) → (40 ≤ d) × (n * 2 ^ 39 / 2 ^ d ≤ 8388607)
    go true f g =
        let l : d < 40 = f tt in
        let e : n * 2 ^ 39 % 2 ^ d ≡ 0 = ap (λ (z : ℕ). z % 2 ^ d) (parted n 39 (39 - d) d (omega arith)) ∙ mul-mod_left (n * 2 ^ (39 - d)) (2 ^ d) in
        absurd (omega arith)
    go false f g =
        let a : n * 2 ^ 39 / 2 ^ d * 2 ^ 40 ≤ n * 2 ^ 39 = le_trans (mul-le-mul_left (n * 2 ^ 39 / 2 ^ d) (pow_mono (g tt)))
        (div-mul-le_self (n * 2 ^ 39) (2 ^ d)) in
        (g tt, omega arith)

module _ (m n i j t : ℕ) (M : Normal m i) (n24 : n < 16777216) (le : j ≤ i) (J : Jammed (n * 2 ^ 39 / 2 ^ (i - j)) (n * 2 ^ 39 % 2 ^ (i - j)) t) where
  high : 0 < i - j → Normal m i → 8388608 ≤ m
  high h (inl w) = let z = w.1 in absurd (omega arith)
  high h (inr g) = g

  -- the smaller addend, in units of 2 ^ (i + 73)
  lesser : Jam (n * 2 ^ j * 2 ^ 112) (2 ^ (i + 73)) t
  lesser =
      subst₂ (λ (x y : ℕ). Jam x y t) (moved n 39 (j + 73) j 112 (omega arith)) (sym (pow-add 2 (i - j) (j + 73)) ∙ ap (λ (x : ℕ). 2 ^ x) (sums le))
      (jam_scale (n * 2 ^ 39) (2 ^ (i - j)) t (2 ^ (j + 73)) (pow_pos (j + 73))
      (subst (λ (x : ℕ). Jam x (2 ^ (i - j)) t) (div-add-mod' (n * 2 ^ 39) (2 ^ (i - j)))
      (jam_of (n * 2 ^ 39 / 2 ^ (i - j)) (n * 2 ^ 39 % 2 ^ (i - j)) (2 ^ (i - j)) t (mod-lt (n * 2 ^ 39) (pow_pos (i - j))) J)))
    where
      sums : j ≤ i → i - j + (j + 73) ≡ i + 73
      sums h = omega arith

  greater : m * 2 ^ 39 * 2 ^ (i + 73) ≡ m * 2 ^ i * 2 ^ 112
  greater = moved m 39 (i + 73) i 112 (omega arith)

  unit : 2 ^ (i - j) * 2 ^ (j + 73) ≡ 2 ^ (i + 73)
  unit = sym (pow-add 2 (i - j) (j + 73)) ∙ ap (λ (x : ℕ). 2 ^ x) (sums le)
    where
      sums : j ≤ i → i - j + (j + 73) ≡ i + 73
      sums h = omega arith

  -- exact, or far below
  cases : (n * 2 ^ j * 2 ^ 112 ≡ t * 2 ^ (i + 73)) ⊎ ((4611686018427387904 ≤ m * 2 ^ 39) × (t ≤ 8388608) × Jam (n * 2 ^ j * 2 ^ 112) (2 ^ (i + 73)) t)
  cases = go J
    where
      go : Jammed (n * 2 ^ 39 / 2 ^ (i - j)) (n * 2 ^ 39 % 2 ^ (i - j)) t
          → (n * 2 ^ j * 2 ^ 112 ≡ t * 2 ^ (i + 73)) ⊎ ((4611686018427387904 ≤ m * 2 ^ 39) × (t ≤ 8388608) × Jam (n * 2 ^ j * 2 ^ 112) (2 ^ (i + 73)) t)
      go (inl w) =
          let e : n * 2 ^ 39 ≡ t * 2 ^ (i - j) =
          sym (div-add-mod' (n * 2 ^ 39) (2 ^ (i - j))) ∙ ap₂ (λ (x y : ℕ). x * 2 ^ (i - j) + y) (sym w.1) w.0 ∙ add-zero (t * 2 ^ (i - j)) in
          inl (sym (moved n 39 (j + 73) j 112 (omega arith)) ∙ ap (λ (x : ℕ). x * 2 ^ (j + 73)) e ∙ mul_assoc t (2 ^ (i - j)) (2 ^ (j + 73))
          ∙ ap (λ (x : ℕ). t * x) unit)
      go (inr w) =
          let l = few_left n (i - j) n24 w.0 in
          let l0 = l.0 in
          let l1 = l.1 in
          let w3 = w.3 in
          let g = high (omega arith) M in
          inr (omega arith, omega arith, lesser)

  pub sum_stands : Stands ((m * 2 ^ i + n * 2 ^ j) * 2 ^ 112) (1 * 2 ^ (i + 73)) (m * 2 ^ 39 + t)
  sum_stands = go cases
    where
      go : (n * 2 ^ j * 2 ^ 112 ≡ t * 2 ^ (i + 73)) ⊎ ((4611686018427387904 ≤ m * 2 ^ 39) × (t ≤ 8388608) × Jam (n * 2 ^ j * 2 ^ 112) (2 ^ (i + 73)) t)
          → Stands ((m * 2 ^ i + n * 2 ^ j) * 2 ^ 112) (1 * 2 ^ (i + 73)) (m * 2 ^ 39 + t)
      go (inl e) = let g = greater in inl (omega arith)
      go (inr w) =
          let big = w.0 in
          inr (
            omega arith,
            subst₂ (λ (x y : ℕ). Jam x y (m * 2 ^ 39 + t)) (let g = greater in omega arith) (sym (one-mul (2 ^ (i + 73))))
                (jam_add (n * 2 ^ j * 2 ^ 112) (2 ^ (i + 73)) t (m * 2 ^ 39) (omega arith) w.2),
          )

  pub diff_stands : t ≤ m * 2 ^ 39 → (n * 2 ^ j ≤ m * 2 ^ i) × Stands ((m * 2 ^ i - n * 2 ^ j) * 2 ^ 112) (1 * 2 ^ (i + 73)) (m * 2 ^ 39 - t)
  diff_stands l = go cases
    where
      order : n * 2 ^ j * 2 ^ 112 ≤ m * 2 ^ i * 2 ^ 112 → n * 2 ^ j ≤ m * 2 ^ i
      order h = omega arith

      parts : (m * 2 ^ i - n * 2 ^ j) * 2 ^ 112 ≡ m * 2 ^ 39 * 2 ^ (i + 73) - n * 2 ^ j * 2 ^ 112
      parts = sub_mul (m * 2 ^ i) (n * 2 ^ j) (2 ^ 112) ∙ ap (λ (x : ℕ). x - n * 2 ^ j * 2 ^ 112) (sym greater)

      go : (n * 2 ^ j * 2 ^ 112 ≡ t * 2 ^ (i + 73)) ⊎ ((4611686018427387904 ≤ m * 2 ^ 39) × (t ≤ 8388608) × Jam (n * 2 ^ j * 2 ^ 112) (2 ^ (i + 73)) t)
          → (n * 2 ^ j ≤ m * 2 ^ i) × Stands ((m * 2 ^ i - n * 2 ^ j) * 2 ^ 112) (1 * 2 ^ (i + 73)) (m * 2 ^ 39 - t)
      go (inl e) = (
        order (le_trans (le_of_eq e) (le_trans (mul-le-mul_right (2 ^ (i + 73)) l) (le_of_eq greater))),
        inl (parts ∙ ap (λ (x : ℕ). m * 2 ^ 39 * 2 ^ (i + 73) - x) e ∙ sym (sub_mul (m * 2 ^ 39) t (2 ^ (i + 73))) ∙ ap (λ (x : ℕ). (m * 2 ^ 39 - t) * x)
            (sym (one-mul (2 ^ (i + 73))))),
      )
      go (inr w) =
          let big = w.0 in
          let few = w.1 in
          let top = jam_le (n * 2 ^ j * 2 ^ 112) (2 ^ (i + 73)) t w.2 in
          let more : (t + 1) * 2 ^ (i + 73) ≤ m * 2 ^ 39 * 2 ^ (i + 73) = mul-le-mul_right (2 ^ (i + 73)) (omega arith) in
          let g = greater in (
            order (omega arith),
            inr (
              omega arith,
              subst₂ (λ (x y : ℕ). Jam x y (m * 2 ^ 39 - t)) (sym parts) (sym (one-mul (2 ^ (i + 73))))
                  (jam_sub (n * 2 ^ j * 2 ^ 112) (2 ^ (i + 73)) t (m * 2 ^ 39) (omega arith) l w.2),
            ),
          )
