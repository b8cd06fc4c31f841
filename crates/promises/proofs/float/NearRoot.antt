-- The root rounded to nearest has one pair: its halves lie beside twice a number exactly as its square lies beside that number's square. Assumes nothing.
use mathlib.Core.Path.{◌≡◌, sym, ap, ap₂, ◌∙◌, subst}
use mathlib.Core.Logic.{◌⊎◌, inl, inr}
use Prim.Native.Nat.{ℕ, ◌+◌, ◌*◌, ◌^◌, ◌≤◌, ◌<◌}
use native.Mathlib.Nat.{le_trans, le_of_eq, lt_of_lt_of_le, lt_of_le_of_lt, not-le_of_lt, le_of_lt, mul_assoc, mul_comm, mul-le-mul, mul-pos}
use native.Mathlib.Omega.{arith}
use lib.IntN.{ℤ, pos, sub_ℕ, ◌+ℤ◌, ◌-ℤ◌, -ℤ-+ℤ_cancel}
use lib.Ieee.{up, down}
use lib.Pow.{pow-add, pow_pos}
use Rattle.float.specs.Root.{whole_root, root_halves}
use Rattle.float.proofs.Powers.{parted}
use Rattle.numbers.proofs.Differences.{either, sum_differences, same, above, beneath, parts}
use Rattle.promises.proofs.float.OnePair.{scaled, other, down_pos}
use Rattle.promises.proofs.float.NearPair.{NearAt, near_only}
use Rattle.promises.proofs.float.RulePair.{rescaled}
use Rattle.float.proofs.root.WholeRoot.{is_root, root_ge, halves_cases, halves_near}
use Rattle.promises.specs.FloatResults.{below_mark, above_mark, Between, square_exponent, NearRoot}
use Rattle.promises.proofs.float.NearPair.{Marks}

-- n / u lies between the squares of the marks of m; at either of them m is even
abbrev pub SquareMarks : ℕ → ℕ → ℕ → Type 0
SquareMarks n u m = Between (16 * n) (below_mark m * below_mark m * u) (above_mark m * above_mark m * u) m

-- ---- the halves of a root beside 2 * y, and its square beside y * y
halves_ge : (n y : ℕ) → y * y ≤ n → 2 * y ≤ root_halves n
halves_ge n y h = let a = root_ge n (whole_root n) y (is_root n) h in let b = (halves_near n).0 in omega arith

ge_halves : (n y : ℕ) → 2 * y ≤ root_halves n → y * y ≤ n
ge_halves n y h =
    let b = (halves_near n).1 in
    let a : y ≤ whole_root n = omega arith in
    le_trans (mul-le-mul a a) (is_root n).0

le_halves : (n y : ℕ) → root_halves n ≤ 2 * y → n ≤ y * y
le_halves n y h = go (halves_cases n)
  where
    go : ((whole_root n * whole_root n ≡ n) × (root_halves n ≡ 2 * whole_root n)) ⊎ ((whole_root n * whole_root n < n) × (root_halves n ≡ 2 * whole_root n + 1))
        → n ≤ y * y
    go (inl w) =
        let e = w.1 in
        let a : whole_root n ≤ y = omega arith in
        le_trans (le_of_eq (sym w.0)) (mul-le-mul a a)
    go (inr w) =
        let e = w.1 in
        let a : whole_root n + 1 ≤ y = omega arith in
        le_of_lt (lt_of_lt_of_le (is_root n).1 (mul-le-mul a a))

halves_le : (n y : ℕ) → n ≤ y * y → root_halves n ≤ 2 * y
halves_le n y h = go (halves_cases n)
  where
    go : ((whole_root n * whole_root n ≡ n) × (root_halves n ≡ 2 * whole_root n)) ⊎ ((whole_root n * whole_root n < n) × (root_halves n ≡ 2 * whole_root n + 1))
        → root_halves n ≤ 2 * y
    go (inl w) = pick (either y (whole_root n))
      where
        up_one : y < whole_root n → y + 1 ≤ whole_root n
        up_one l = omega arith

        wide : (a : ℕ) → a * a < (a + 1) * (a + 1)
        wide a = omega arith

        pick : (y < whole_root n) ⊎ (whole_root n ≤ y) → root_halves n ≤ 2 * y
        pick (inl l) = absurd (not-le_of_lt (lt_of_lt_of_le (wide y) (le_trans (mul-le-mul (up_one l) (up_one l)) (is_root n).0)) h)
        pick (inr l) = let e = w.1 in omega arith
    go (inr w) = pick (either (whole_root n) y)
      where
        pick : (whole_root n < y) ⊎ (y ≤ whole_root n) → root_halves n ≤ 2 * y
        pick (inl l) = let e = w.1 in omega arith
        pick (inr l) = absurd (not-le_of_lt (lt_of_le_of_lt (mul-le-mul l l) w.0) h)

-- ---- at k + 2 digits: a step is four times 2 ^ k
step : (k : ℕ) → 2 ^ (k + 2) ≡ 4 * 2 ^ k
step k = pow-add 2 k 2 ∙ mul_comm (2 ^ k) 4

lined : (c p : ℕ) → c * (2 * (4 * p)) ≡ 4 * (2 * (c * p))
lined c p = omega arith

squared : (c p : ℕ) → c * c * (4 * p * (4 * p)) ≡ 16 * (c * p * (c * p))
squared c p = omega arith

module _ (n m k : ℕ) where
  low_line : below_mark m * (2 * 2 ^ (k + 2)) ≡ 4 * (2 * (below_mark m * 2 ^ k))
  low_line = ap (λ (x : ℕ). below_mark m * (2 * x)) (step k) ∙ lined (below_mark m) (2 ^ k)

  high_line : above_mark m * (2 * 2 ^ (k + 2)) ≡ 4 * (2 * (above_mark m * 2 ^ k))
  high_line = ap (λ (x : ℕ). above_mark m * (2 * x)) (step k) ∙ lined (above_mark m) (2 ^ k)

  low_square : below_mark m * below_mark m * (2 ^ (k + 2) * 2 ^ (k + 2)) ≡ 16 * (below_mark m * 2 ^ k * (below_mark m * 2 ^ k))
  low_square = ap (λ (x : ℕ). below_mark m * below_mark m * (x * x)) (step k) ∙ squared (below_mark m) (2 ^ k)

  high_square : above_mark m * above_mark m * (2 ^ (k + 2) * 2 ^ (k + 2)) ≡ 16 * (above_mark m * 2 ^ k * (above_mark m * 2 ^ k))
  high_square = ap (λ (x : ℕ). above_mark m * above_mark m * (x * x)) (step k) ∙ squared (above_mark m) (2 ^ k)

  le4 : (a b : ℕ) → 4 * a ≤ 4 * b → a ≤ b
  le4 a b h = omega arith

  le16 : (a b : ℕ) → 16 * a ≤ 16 * b → a ≤ b
  le16 a b h = omega arith

  up4 : (a b : ℕ) → a ≤ b → 4 * a ≤ 4 * b
  up4 a b h = omega arith

  up16 : (a b : ℕ) → a ≤ b → 16 * a ≤ 16 * b
  up16 a b h = omega arith

  pub squares_of : Marks (root_halves n) (2 * 2 ^ (k + 2)) m → SquareMarks n (2 ^ (k + 2) * 2 ^ (k + 2)) m
  squares_of w =
      let y = below_mark m * 2 ^ k in
      let z = above_mark m * 2 ^ k in
      record {
        reached = le_trans (le_of_eq low_square)
            (up16 (y * y) n (ge_halves n y (le4 (2 * y) (root_halves n) (le_trans (le_of_eq (sym low_line)) w.reached))));
        passed = le_trans (up16 n (z * z) (le_halves n z (le4 (root_halves n) (2 * z) (le_trans w.passed (le_of_eq high_line)))))
            (le_of_eq (sym high_square));
        low_even = λ g. w.low_even (le_trans (up4 (root_halves n) (2 * y) (halves_le n y (le16 n (y * y) (le_trans g (le_of_eq low_square)))))
            (le_of_eq (sym low_line)));
        high_even = λ g. w.high_even (le_trans (le_of_eq high_line)
            (up4 (2 * z) (root_halves n) (halves_ge n z (le16 (z * z) n (le_trans (le_of_eq (sym high_square)) g)))));
      }

  of_squares : SquareMarks n (2 ^ (k + 2) * 2 ^ (k + 2)) m → Marks (root_halves n) (2 * 2 ^ (k + 2)) m
  of_squares w =
      let y = below_mark m * 2 ^ k in
      let z = above_mark m * 2 ^ k in
      record {
        reached = le_trans (le_of_eq low_line) (up4 (2 * y) (root_halves n)
            (halves_ge n y (le16 (y * y) n (le_trans (le_of_eq (sym low_square)) w.reached))));
        passed = le_trans (up4 (root_halves n) (2 * z) (halves_le n z (le16 n (z * z) (le_trans w.passed (le_of_eq high_square)))))
            (le_of_eq (sym high_line));
        low_even = λ g. w.low_even (le_trans (up16 n (y * y) (le_halves n y (le4 (root_halves n) (2 * y) (le_trans g (le_of_eq low_line)))))
            (le_of_eq (sym low_square)));
        high_even = λ g. w.high_even (le_trans (le_of_eq high_square)
            (up16 (z * z) n (ge_halves n z (le4 (2 * z) (root_halves n) (le_trans (le_of_eq (sym high_line)) g)))));
      }

-- ---- at an exponent, and at k digits of the root of n * (2 ^ j * 2 ^ j)
module _ (n m k j : ℕ) (e : ℤ) (X : e -ℤ pos 24 ≡ sub_ℕ k (j + 44)) where
  scale : square_exponent e ≡ sub_ℕ (k + k) (j + 44 + (j + 44))
  scale = ap₂ ◌+ℤ◌ X X ∙ sum_differences k (j + 44) k (j + 44)

  units : 2 ^ 88 * up (square_exponent e) * 2 ^ (j + 44 + (j + 44)) ≡ 2 ^ k * 2 ^ k * (2 ^ 88 * down (square_exponent e))
  units =
      scaled (2 ^ 88) n (k + k) (j + 44 + (j + 44)) (square_exponent e) scale
      ∙ ap (λ (x : ℕ). 2 ^ 88 * x * down (square_exponent e)) (pow-add 2 k k)
      ∙ ap (λ (x : ℕ). x * down (square_exponent e)) (mul_comm (2 ^ 88) (2 ^ k * 2 ^ k))
      ∙ mul_assoc (2 ^ k * 2 ^ k) (2 ^ 88) (down (square_exponent e))

  numbers : n * down (square_exponent e) * 2 ^ (j + 44 + (j + 44)) ≡ n * (2 ^ j * 2 ^ j) * (2 ^ 88 * down (square_exponent e))
  numbers =
      other (2 ^ 88) n (k + k) (j + 44 + (j + 44)) (square_exponent e) scale
      ∙ ap (λ (x : ℕ). x * down (square_exponent e)) (parted n (j + 44 + (j + 44)) (j + j) 88 (omega arith) ∙ ap (λ (x : ℕ). n * x * 2 ^ 88) (pow-add 2 j j))
      ∙ mul_assoc (n * (2 ^ j * 2 ^ j)) (2 ^ 88) (down (square_exponent e))

  pub near_at : SquareMarks (n * (2 ^ j * 2 ^ j)) (2 ^ k * 2 ^ k) m → SquareMarks (n * down (square_exponent e)) (2 ^ 88 * up (square_exponent e)) m
  near_at h =
      rescaled 16 (below_mark m * below_mark m) (above_mark m * above_mark m) m (n * (2 ^ j * 2 ^ j)) (2 ^ k * 2 ^ k) (n * down (square_exponent e))
      (2 ^ 88 * up (square_exponent e))
      (2 ^ 88 * down (square_exponent e)) (2 ^ (j + 44 + (j + 44))) (mul-pos (pow_pos 88) (down_pos (square_exponent e))) (pow_pos (j + 44 + (j + 44)))
      (sym numbers) (sym units) h

  from_at : SquareMarks (n * down (square_exponent e)) (2 ^ 88 * up (square_exponent e)) m → SquareMarks (n * (2 ^ j * 2 ^ j)) (2 ^ k * 2 ^ k) m
  from_at h =
      rescaled 16 (below_mark m * below_mark m) (above_mark m * above_mark m) m (n * down (square_exponent e)) (2 ^ 88 * up (square_exponent e))
      (n * (2 ^ j * 2 ^ j)) (2 ^ k * 2 ^ k)
      (2 ^ (j + 44 + (j + 44))) (2 ^ 88 * down (square_exponent e)) (pow_pos (j + 44 + (j + 44))) (mul-pos (pow_pos 88) (down_pos (square_exponent e))) numbers
      units h

-- ---- at most one
pub one_near_root : (n m m' : ℕ) (e e' : ℤ) → NearRoot n m e → NearRoot n m' e' → (m ≡ m') × (e ≡ e')
one_near_root n m m' e e' p p' =
    let x = e -ℤ pos 24 in
    let x' = e' -ℤ pos 24 in
    let j = beneath x + beneath x' in
    let k = above x + beneath x' + 42 in
    let k' = above x' + beneath x + 42 in
    let X : x ≡ sub_ℕ (k + 2) (j + 44) = parts x ∙ same (above x) (beneath x) (k + 2) (j + 44) (omega arith) in
    let X' : x' ≡ sub_ℕ (k' + 2) (j + 44) = parts x' ∙ same (above x') (beneath x') (k' + 2) (j + 44) (omega arith) in
    let N = n * (2 ^ j * 2 ^ j) in
    let c = near_only (root_halves N) 2 m (k + 1) (omega arith)
    (placed N m k (record { low = p.low; high = p.high; marks = of_squares N m k (from_at n m (k + 2) j e X p.marks) })) in
    let c' = near_only (root_halves N) 2 m' (k' + 1) (omega arith)
    (placed N m' k' (record { low = p'.low; high = p'.high; marks = of_squares N m' k' (from_at n m' (k' + 2) j e' X' p'.marks) })) in
    let y : x ≡ x' = X ∙ ap (λ (z : ℕ). sub_ℕ z (j + 44)) (more k ∙ sym c.1 ∙ c'.1 ∙ sym (more k')) ∙ sym X' in
    (sym c.0 ∙ c'.0, sym (-ℤ-+ℤ_cancel e (pos 24)) ∙ ap (λ (z : ℤ). z +ℤ pos 24) y ∙ -ℤ-+ℤ_cancel e' (pos 24))
  where
    more : (i : ℕ) → i + 2 ≡ i + 1 + 1
    more i = omega arith

    placed : (N i k : ℕ) → NearAt (root_halves N) 2 i (k + 2) → NearAt (root_halves N) 2 i (k + 1 + 1)
    placed N i k w = subst (λ (z : ℕ). NearAt (root_halves N) 2 i z) (more k) w
