-- Two tests on whole numbers in place of a comparison with large powers: under 2 ^ -65, and a mantissa that is the whole of a number. Assumes nothing.
use mathlib.Core.Path.{◌≡◌, refl, sym, ap, ◌∙◌, subst₂}
use mathlib.Core.Bool.{Bool, true, false}
use Prim.Native.Nat.{ℕ, ◌+◌, ◌-◌, ◌*◌, ◌/◌, ◌%◌, ◌^◌, ◌≤◌, ◌<◌}
use native.Mathlib.Nat.{add-zero, one-mul, zero-mul, mul_comm, mul-le-mul_right, mul-lt-mul_of_pos_right, lt_of_mul-lt-mul_right, le-div_iff_mul-le}
use native.Mathlib.Nat.{mul-div_cancel, div-add-mod', eq_of_mul-eq-mul_right, mul-mod_left, pow-le-pow_right}
use native.Mathlib.Omega.{arith}
use borrow.Author.Tests.{le-ltb, leb-true, leb-false, ltb-true, ltb-false, eqb-true, eqb-false, eq-eqb, ne_eqb}
use lib.Dec.{ltb, leb, eqb}
use lib.Pow.{pow_pos, pow_mono, shl_exact}
use Rattle.float.proofs.Powers.{parted}
use Rattle.decimals.proofs.Quotients.{ten_parts, five_pos}

-- ---- tests that say the same
pub eqb_same : (a b c d : ℕ) → (a ≡ b → c ≡ d) → (c ≡ d → a ≡ b) → eqb a b ≡ eqb c d
eqb_same a b c d f g = go (eqb a b) refl
  where
    go : (t : Bool) → eqb a b ≡ t → t ≡ eqb c d
    go true e = sym (eq-eqb c d (f (eqb-true a b e)))
    go false e = sym (ne_eqb c d (λ h. eqb-false a b e (g h)))

leb_ltb : (a b c d : ℕ) → (a ≤ b → c < d) → (c < d → a ≤ b) → leb a b ≡ ltb c d
leb_ltb a b c d f g = go (leb a b) (ltb c d) refl refl
  where
    go : (s t : Bool) → leb a b ≡ s → ltb c d ≡ t → s ≡ t
    go true true e h = refl
    go false false e h = refl
    go true false e h = let x = f (leb-true a b e) in let y = ltb-false c d h in absurd (omega arith)
    go false true e h = let x = g (ltb-true c d h) in let y = leb-false a b e in absurd (omega arith)

-- ---- under 2 ^ -65
module _ (w f p : ℕ) where
  pub whole_not_small : 0 < w → false ≡ ltb ((w * 10 ^ p + f) * 2 ^ 65) (10 ^ p)
  whole_not_small h =
      let a : 1 * 10 ^ p ≤ w * 10 ^ p = mul-le-mul_right (10 ^ p) h in
      sym (le-ltb ((w * 10 ^ p + f) * 2 ^ 65) (10 ^ p) (omega arith))

  pub few_not_small : (0 < w → ⊥) → 0 < w + f → p < 20 → false ≡ ltb ((w * 10 ^ p + f) * 2 ^ 65) (10 ^ p)
  few_not_small n h l =
      let a : 10 ^ p ≤ 10 ^ 19 = pow-le-pow_right {n = 10} (omega arith) {i = p} {j = 19} (omega arith) in
      sym (le-ltb ((w * 10 ^ p + f) * 2 ^ 65) (10 ^ p) (omega arith))

  pub many_small : (0 < w → ⊥) → 20 ≤ p → p ≤ 27 → leb f ((5 ^ p - 1) / 2 ^ (65 - p)) ≡ ltb ((w * 10 ^ p + f) * 2 ^ 65) (10 ^ p)
  many_small n lo hi = leb_ltb f ((5 ^ p - 1) / 2 ^ (65 - p)) ((w * 10 ^ p + f) * 2 ^ 65) (10 ^ p) to from
    where
      split : (w * 10 ^ p + f) * 2 ^ 65 ≡ f * 2 ^ (65 - p) * 2 ^ p
      split = ap (λ (x : ℕ). x * 2 ^ 65) alone ∙ parted f 65 (65 - p) p (omega arith)
        where
          alone : w * 10 ^ p + f ≡ f
          alone = let z : w ≡ 0 = omega arith in ap (λ (x : ℕ). x * 10 ^ p + f) z ∙ (let y = zero-mul (10 ^ p) in omega arith)

      whole : 10 ^ p ≡ 5 ^ p * 2 ^ p
      whole = ten_parts p ∙ mul_comm (2 ^ p) (5 ^ p)

      to : f ≤ (5 ^ p - 1) / 2 ^ (65 - p) → (w * 10 ^ p + f) * 2 ^ 65 < 10 ^ p
      to h =
          let a = (le-div_iff_mul-le {x = f} {y = 5 ^ p - 1} (pow_pos (65 - p))).0 h in
          let b = five_pos p in
          let d : f * 2 ^ (65 - p) < 5 ^ p = omega arith in
          subst₂ (λ (x y : ℕ). x < y) (sym split) (sym whole) (mul-lt-mul_of_pos_right d (pow_pos p))

      from : (w * 10 ^ p + f) * 2 ^ 65 < 10 ^ p → f ≤ (5 ^ p - 1) / 2 ^ (65 - p)
      from h =
          let a : f * 2 ^ (65 - p) < 5 ^ p = lt_of_mul-lt-mul_right (2 ^ p) (subst₂ (λ (x y : ℕ). x < y) split whole h) in
          (le-div_iff_mul-le {x = f} {y = 5 ^ p - 1} (pow_pos (65 - p))).1 (omega arith)

-- ---- a mantissa at the place k is t at the place x
module _ (m k t x : ℕ) (M : 0 < m) (few : m < 2 ^ 24) (T : 2 ^ 25 ≤ t) where
  pub below_not_kept : k < x → false ≡ eqb (m * 2 ^ k) (t * 2 ^ x)
  below_not_kept h = sym (ne_eqb (m * 2 ^ k) (t * 2 ^ x) (λ e.
      let a : m * 2 ^ k < 2 ^ 24 * 2 ^ k = mul-lt-mul_of_pos_right few (pow_pos k) in
      let b : 2 ^ k ≤ 2 ^ x = pow_mono {i = k} {j = x} (omega arith) in
      let d : 2 ^ 25 * 2 ^ x ≤ t * 2 ^ x = mul-le-mul_right (2 ^ x) T in
      omega arith))

  above : x ≤ k → m * 2 ^ k ≡ m * 2 ^ (k - x) * 2 ^ x
  above h = parted m k (k - x) x (omega arith)

  pub far_not_kept : x ≤ k → t < 2 ^ 64 → 64 ≤ k - x → false ≡ eqb (m * 2 ^ k) (t * 2 ^ x)
  far_not_kept h l g = sym (ne_eqb (m * 2 ^ k) (t * 2 ^ x) (λ e.
      let a : 2 ^ 64 ≤ 2 ^ (k - x) = pow_mono {i = 64} {j = k - x} g in
      let b : 1 * 2 ^ (k - x) ≤ m * 2 ^ (k - x) = mul-le-mul_right (2 ^ (k - x)) M in
      let d = eq_of_mul-eq-mul_right (2 ^ x) (pow_pos x) (m * 2 ^ (k - x)) t (sym (above h) ∙ e) in
      omega arith))

  pub other_not_kept : x ≤ k → (t / 2 ^ (k - x) ≡ m → ⊥) → false ≡ eqb (m * 2 ^ k) (t * 2 ^ x)
  other_not_kept h n = sym (ne_eqb (m * 2 ^ k) (t * 2 ^ x) (λ e.
      let d = eq_of_mul-eq-mul_right (2 ^ x) (pow_pos x) (m * 2 ^ (k - x)) t (sym (above h) ∙ e) in
      n (ap (λ (y : ℕ). y / 2 ^ (k - x)) (sym d) ∙ mul-div_cancel m (pow_pos (k - x)))))

  pub kept_where : x ≤ k → k - x < 64 → t / 2 ^ (k - x) ≡ m → eqb (t % (1 * 2 ^ (k - x) % 2 ^ 64)) 0 ≡ eqb (m * 2 ^ k) (t * 2 ^ x)
  kept_where h l e =
      let j = k - x in
      ap (λ (y : ℕ). eqb (t % y) 0) (shl_exact {a = 1} 1 j 64 (omega arith) (omega arith) ∙ one-mul (2 ^ j))
      ∙ eqb_same (t % 2 ^ j) 0 (m * 2 ^ k) (t * 2 ^ x) to from
    where
      to : t % 2 ^ (k - x) ≡ 0 → m * 2 ^ k ≡ t * 2 ^ x
      to z =
          above h
          ∙ ap (λ (y : ℕ). y * 2 ^ x) (ap (λ (y : ℕ). y * 2 ^ (k - x)) (sym e) ∙ sym (add-zero (t / 2 ^ (k - x) * 2 ^ (k - x))) ∙ ap (λ (y : ℕ). t / 2 ^
          (k - x) * 2 ^ (k - x) + y) (sym z) ∙ div-add-mod' t (2 ^ (k - x)))

      from : m * 2 ^ k ≡ t * 2 ^ x → t % 2 ^ (k - x) ≡ 0
      from g =
          let d = eq_of_mul-eq-mul_right (2 ^ x) (pow_pos x) (m * 2 ^ (k - x)) t (sym (above h) ∙ g) in
          ap (λ (y : ℕ). y % 2 ^ (k - x)) (sym d) ∙ mul-mod_left m (2 ^ (k - x))

pub some_step : (k x : ℕ) → k - x < 64 → 1 ≤ 1 * 2 ^ (k - x) % 2 ^ 64
some_step k x l =
    let e : 1 * 2 ^ (k - x) % 2 ^ 64 ≡ 1 * 2 ^ (k - x) = shl_exact {a = 1} 1 (k - x) 64 (omega arith) (omega arith) in
    let p = pow_pos (k - x) in
    omega arith
