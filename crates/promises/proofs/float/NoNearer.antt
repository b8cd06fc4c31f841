-- No pair of 24 digits is nearer to a magnitude than the one that rounding to nearest gives. Assumes nothing.
use mathlib.Core.Path.{◌≡◌, sym, ap, ap₂, ◌∙◌, subst, subst₂}
use mathlib.Core.Logic.{◌⊎◌, inl, inr, ⊎_elim}
use Prim.Native.Nat.{ℕ, ◌+◌, ◌-◌, ◌*◌, ◌^◌, ◌≤◌, ◌<◌}
use native.Mathlib.Nat.{le_trans, le_of_eq, mul_assoc, mul_comm, mul_right_comm, mul-one, mul-le-mul_left, mul-le-mul_right, le_of_mul-le-mul_right}
use native.Mathlib.Omega.{arith}
use lib.IntN.{ℤ, pos, sub_ℕ, ◌-ℤ◌}
use lib.Ieee.{up, down}
use lib.Pow.{pow-add, pow_pos, pow_mono}
use Rattle.float.proofs.Powers.{sub_mul}
use Rattle.numbers.proofs.Differences.{either, above, beneath}
use Rattle.promises.proofs.float.OnePair.{scaled, other, at_one}
use Rattle.float.proofs.cut.NearWhole.{sides}
use Rattle.promises.proofs.float.NearPair.{NearAt, mark_least, mark_more, least_or_more, lessened}
use Rattle.promises.proofs.float.RulePair.{to_near}
use Rattle.promises.specs.FloatResults.{below_mark, NearPair, apart, NoNearer}
use Rattle.promises.proofs.float.NearPair.{Marks}

-- ---- on plain numbers: n lies no further than half of u from a, or a quarter
beyond : (n a c u : ℕ) → a + u ≤ c → 4 * n ≤ 4 * a + 2 * u → apart n a ≤ apart n c
beyond n a c u h k = omega arith

before : (n a c u : ℕ) → c + u ≤ a → 4 * a ≤ 4 * n + 2 * u → apart n a ≤ apart n c
before n a c u h k = omega arith

before_quarter : (n a c u : ℕ) → 2 * c + u ≤ 2 * a → 4 * a ≤ 4 * n + u → apart n a ≤ apart n c
before_quarter n a c u h k = omega arith

over : (n a c : ℕ) → c ≤ a → a ≤ n → apart n a ≤ apart n c
over n a c h k = omega arith

-- ---- the marks, as distances
module _ (n u m : ℕ) (lo : 8388608 ≤ m) (w : Marks n u m) where
  above_near : 4 * n ≤ 4 * (m * u) + 2 * u
  above_near = let p = w.passed in omega arith

  below_near : 8388608 < m → 4 * (m * u) ≤ 4 * n + 2 * u
  below_near l =
      let r = w.reached in
      let y : below_mark m * u ≡ (4 * m - 2) * u = ap (λ (z : ℕ). z * u) (mark_more m l) in
      let z = lessened u m (omega arith) in
      omega arith

  below_least : m ≡ 8388608 → 4 * (m * u) ≤ 4 * n + u
  below_least e =
      let r = w.reached in
      let y : below_mark m * u ≡ 33554431 * u = ap (λ (z : ℕ). z * u) (mark_least m e ∙ omega arith) in
      let x : m * u ≡ 8388608 * u = ap (λ (z : ℕ). z * u) e in
      omega arith

  -- another whole number q of steps of u, from 2 ^ 23 on
  steps_near : (q : ℕ) → 8388608 ≤ q → apart n (m * u) ≤ apart n (q * u)
  steps_near q h = go (sides q m)
    where
      go : (q < m) ⊎ (q ≡ m) ⊎ (m < q) → apart n (m * u) ≤ apart n (q * u)
      go (inl l) = before n (m * u) (q * u) u (let x = mul-le-mul_right u l in omega arith) (below_near (omega arith))
      go (inr (inl e)) = le_of_eq (ap (λ (x : ℕ). apart n (x * u)) (sym e))
      go (inr (inr l)) = beyond n (m * u) (q * u) u (let x = mul-le-mul_right u l in omega arith) above_near

  -- steps v of which two or more make u
  finer_near : (v q : ℕ) → 2 * v ≤ u → q < 16777216 → apart n (m * u) ≤ apart n (q * v)
  finer_near v q h l = ⊎_elim least more (least_or_more m lo)
    where
      top : q * v + v ≤ 16777216 * v
      top = let x = mul-le-mul_right v l in omega arith

      least : m ≡ 8388608 → apart n (m * u) ≤ apart n (q * v)
      least e =
          let x : m * u ≡ 8388608 * u = ap (λ (z : ℕ). z * u) e in
          let t = top in
          before_quarter n (m * u) (q * v) u (omega arith) (below_least e)

      more : 8388608 < m → apart n (m * u) ≤ apart n (q * v)
      more g =
          let x = mul-le-mul_right u g in
          let t = top in
          before n (m * u) (q * v) u (omega arith) (below_near g)

-- ---- at two places
places_near : (n d m k m' k' : ℕ) → NearAt n d m k → 8388608 ≤ m' → m' < 16777216 → apart n (m * (d * 2 ^ k)) ≤ apart n (m' * (d * 2 ^ k'))
places_near n d m k m' k' w lo hi = ⊎_elim finer coarser (either k' k)
  where
    finer : k' < k → apart n (m * (d * 2 ^ k)) ≤ apart n (m' * (d * 2 ^ k'))
    finer l = finer_near n (d * 2 ^ k) m w.low w.marks (d * 2 ^ k') m'
        (le_trans (le_of_eq two) (mul-le-mul_left d (pow_mono {i = k' + 1} {j = k} (omega arith)))) hi
      where
        two : 2 * (d * 2 ^ k') ≡ d * 2 ^ (k' + 1)
        two = let e : 2 ^ (k' + 1) ≡ 2 ^ k' * 2 = pow-add 2 k' 1 in sym (ap (λ (x : ℕ). d * x) e ∙ omega arith)

    coarser : k ≤ k' → apart n (m * (d * 2 ^ k)) ≤ apart n (m' * (d * 2 ^ k'))
    coarser l =
        let q = m' * 2 ^ (k' - k) in
        subst (λ (x : ℕ). apart n (m * (d * 2 ^ k)) ≤ apart n x) (steps l)
        (steps_near n (d * 2 ^ k) m w.low w.marks q (le_trans lo (le_trans (le_of_eq (sym (mul-one m'))) (mul-le-mul_left m' (pow_pos (k' - k))))))
      where
        steps : k ≤ k' → m' * 2 ^ (k' - k) * (d * 2 ^ k) ≡ m' * (d * 2 ^ k')
        steps l =
            mul_assoc m' (2 ^ (k' - k)) (d * 2 ^ k)
            ∙ ap (λ (x : ℕ). m' * x) (sym (mul_assoc (2 ^ (k' - k)) d (2 ^ k)) ∙ ap (λ (x : ℕ). x * 2 ^ k) (mul_comm (2 ^ (k' - k)) d)
            ∙ mul_assoc d (2 ^ (k' - k)) (2 ^ k)
            ∙ ap (λ (x : ℕ). d * x) (sym (pow-add 2 (k' - k) k) ∙ ap (λ (x : ℕ). 2 ^ x) (count l)))
          where
            count : k ≤ k' → k' - k + k ≡ k'
            count g = omega arith

-- ---- at two exponents
apart_times : (a b c : ℕ) → apart (a * c) (b * c) ≡ apart a b * c
apart_times a b c = sym (ap₂ (λ (x y : ℕ). x + y) (sub_mul a b c) (sub_mul b a c)) ∙ omega arith

pub no_nearer : (n d m : ℕ) (e : ℤ) → NearPair n d m e → NoNearer n d m e
no_nearer n d m e p m' e' lo hi =
    let x = e -ℤ pos 24 in
    let x' = e' -ℤ pos 24 in
    let J = beneath x + beneath x' in
    let k = above x + beneath x' in
    let k' = above x' + beneath x in
    let X = (at_one x x').0 in
    let X' = (at_one x x').1 in
    let h : apart (n * 2 ^ J) (m * (d * 2 ^ k)) ≤ apart (n * 2 ^ J) (m' * (d * 2 ^ k')) = places_near (n * 2 ^ J) d m k m' k' (to_near n d m k J e X p) lo hi in
    le_of_mul-le-mul_right
    (subst₂ (λ (y z : ℕ). y ≤ z) (turn m k x X (down x')) (mul_right_comm (apart (n * 2 ^ J) (m' * (d * 2 ^ k'))) (down x) (down x')
    ∙ turn m' k' x' X' (down x)) (mul-le-mul_right (down x') (mul-le-mul_right (down x) h)))
    (pow_pos J)
  where
    -- the distance at the scale, times down x, is that at the exponent, times 2 ^ J
    moved : (i k : ℕ) (x : ℤ) → x ≡ sub_ℕ k (beneath (e -ℤ pos 24) + beneath (e' -ℤ pos 24))
        → apart (n * 2 ^ (beneath (e -ℤ pos 24) + beneath (e' -ℤ pos 24))) (i * (d * 2 ^ k)) * down x ≡ apart (n * down x) (i * (d * up x))
        * 2 ^ (beneath (e -ℤ pos 24) + beneath (e' -ℤ pos 24))
    moved i k x X =
        let K = beneath (e -ℤ pos 24) + beneath (e' -ℤ pos 24) in
        sym (apart_times (n * 2 ^ K) (i * (d * 2 ^ k)) (down x))
        ∙ ap₂ apart (sym (other d n k K x X)) (mul_assoc i (d * 2 ^ k) (down x) ∙ ap (λ (y : ℕ). i * y) (sym (scaled d n k K x X))
        ∙ sym (mul_assoc i (d * up x) (2 ^ K)))
        ∙ apart_times (n * down x) (i * (d * up x)) (2 ^ K)

    turn : (i k : ℕ) (x : ℤ) → x ≡ sub_ℕ k (beneath (e -ℤ pos 24) + beneath (e' -ℤ pos 24)) → (y : ℕ)
        → apart (n * 2 ^ (beneath (e -ℤ pos 24) + beneath (e' -ℤ pos 24))) (i * (d * 2 ^ k)) * down x * y ≡ apart (n * down x) (i * (d * up x))
        * y * 2 ^ (beneath (e -ℤ pos 24) + beneath (e' -ℤ pos 24))
    turn i k x X y = ap (λ (z : ℕ). z * y) (moved i k x X) ∙ mul_right_comm (apart (n * down x) (i * (d * up x)))
        (2 ^ (beneath (e -ℤ pos 24) + beneath (e' -ℤ pos 24))) y
