-- Under either rule every magnitude that is not zero has one pair m, e and no other. Assumes nothing.
use mathlib.Core.Path.{◌≡◌, sym, ap, ◌∙◌, subst}
use Prim.Native.Nat.{ℕ, ◌+◌, ◌*◌, ◌^◌, ◌≤◌, ◌<◌}
use native.Mathlib.Nat.{le_trans, le_of_eq, le_of_lt, mul_assoc, one-mul, mul-le-mul_left, mul-le-mul_right, le_of_mul-le-mul_right}
use native.Mathlib.Omega.{arith}
use lib.IntN.{ℤ, pos, sub_ℕ, ◌+ℤ◌, ◌-ℤ◌, +ℤ-neg_ℤ_cancel, -ℤ-+ℤ_cancel}
use lib.Pow.{pow-add, pow_pos}
use lib.Ieee.{up, down, size}
use lib.Ieee.Digits.{size-lt}
use Rattle.terms.specs.declared.Rule.{Rule}
use Rattle.terms.specs.declared.Rule.TheVariants.{Cut, Nearest}
use Rattle.float.specs.Cut.{kept, lost, mantissa_of, digits_of}
use Rattle.numbers.proofs.Differences.{same, above, beneath, parts}
use Rattle.promises.proofs.float.OnePair.{scaled, other, down_pos, one_pair, a_pair}
use Rattle.promises.proofs.float.NearPair.{NearAt, near_one, near_only}
use Rattle.promises.specs.FloatResults.{below_mark, above_mark, Between, NearPair, PairBy}
use Rattle.promises.proofs.float.OnePair.{last_place}
use Rattle.promises.proofs.float.NearPair.{Marks}

-- ---- all three by one factor
between_up : (n lo hi m c : ℕ) → 0 < c → Between n lo hi m → Between (n * c) (lo * c) (hi * c) m
between_up n lo hi m c C w = record {
  reached = mul-le-mul_right c w.reached;
  passed = mul-le-mul_right c w.passed;
  low_even = λ g. w.low_even (le_of_mul-le-mul_right g C);
  high_even = λ g. w.high_even (le_of_mul-le-mul_right g C);
}

between_down : (n lo hi m c : ℕ) → 0 < c → Between (n * c) (lo * c) (hi * c) m → Between n lo hi m
between_down n lo hi m c C w = record {
  reached = le_of_mul-le-mul_right w.reached C;
  passed = le_of_mul-le-mul_right w.passed C;
  low_even = λ g. w.low_even (mul-le-mul_right c g);
  high_even = λ g. w.high_even (mul-le-mul_right c g);
}

-- a number n and marks a, b of u, at two scales: A and B of c, and of d
pub rescaled : (f a b m n u N w c d : ℕ) → 0 < c → 0 < d → n * c ≡ N * d → u * c ≡ w * d → Between (f * n) (a * u) (b * u) m → Between (f * N) (a * w) (b * w) m
rescaled f a b m n u N w c d C D p q h =
    between_down (f * N) (a * w) (b * w) m d D
    (subst₃ (scale f n N p) (scale a u w q) (scale b u w q) (between_up (f * n) (a * u) (b * u) m c C h))
  where
    scale : (g x y : ℕ) → x * c ≡ y * d → g * x * c ≡ g * y * d
    scale g x y e = mul_assoc g x c ∙ ap (λ (z : ℕ). g * z) e ∙ sym (mul_assoc g y d)

    subst₃ : {x x' y y' z z' : ℕ} → x ≡ x' → y ≡ y' → z ≡ z' → Between x y z m → Between x' y' z' m
    subst₃ {x} {x'} {y} {y'} {z} {z'} e e' e'' t =
        subst (λ (i : ℕ). Between x' y' i m) e'' (subst (λ (i : ℕ). Between x' i z m) e' (subst (λ (i : ℕ). Between i y z m) e t))

-- ---- at an exponent, and at k digits of the scale 2 ^ J
module _ (n d m k J : ℕ) (e : ℤ) (X : last_place e ≡ sub_ℕ k J) where
  at_scale : Marks (n * down (last_place e)) (d * up (last_place e)) m → Marks (n * 2 ^ J) (d * 2 ^ k) m
  at_scale =
      rescaled 4 (below_mark m) (above_mark m) m (n * down (last_place e)) (d * up (last_place e)) (n * 2 ^ J) (d * 2 ^ k) (2 ^ J) (down (last_place e)) (pow_pos J)
      (down_pos (last_place e)) (other d n k J (last_place e) X) (scaled d n k J (last_place e) X)

  at_exponent : Marks (n * 2 ^ J) (d * 2 ^ k) m → Marks (n * down (last_place e)) (d * up (last_place e)) m
  at_exponent =
      rescaled 4 (below_mark m) (above_mark m) m (n * 2 ^ J) (d * 2 ^ k) (n * down (last_place e)) (d * up (last_place e)) (down (last_place e)) (2 ^ J)
      (down_pos (last_place e)) (pow_pos J) (sym (other d n k J (last_place e) X)) (sym (scaled d n k J (last_place e) X))

  pub to_near : NearPair n d m e → NearAt (n * 2 ^ J) d m k
  to_near p = record { low = p.low; high = p.high; marks = at_scale p.marks }

  pub from_near : NearAt (n * 2 ^ J) d m k → NearPair n d m e
  from_near p = record { low = p.low; high = p.high; marks = at_exponent p.marks }

-- ---- at most one
one_near : (n d m m' : ℕ) (e e' : ℤ) → 0 < d → NearPair n d m e → NearPair n d m' e' → (m ≡ m') × (e ≡ e')
one_near n d m m' e e' D p p' =
    let x = e -ℤ pos 24 in
    let x' = e' -ℤ pos 24 in
    let J = beneath x + beneath x' + 1 in
    let k = above x + beneath x' in
    let k' = above x' + beneath x in
    let X : x ≡ sub_ℕ (k + 1) J = parts x ∙ same (above x) (beneath x) (k + 1) J (omega arith) in
    let X' : x' ≡ sub_ℕ (k' + 1) J = parts x' ∙ same (above x') (beneath x') (k' + 1) J (omega arith) in
    let c = near_only (n * 2 ^ J) d m k D (to_near n d m (k + 1) J e X p) in
    let c' = near_only (n * 2 ^ J) d m' k' D (to_near n d m' (k' + 1) J e' X' p') in
    let y : x ≡ x' = X ∙ ap (λ (z : ℕ). sub_ℕ z J) (sym c.1 ∙ c'.1) ∙ sym X' in
    (sym c.0 ∙ c'.0, sym (-ℤ-+ℤ_cancel e (pos 24)) ∙ ap (λ (z : ℤ). z +ℤ pos 24) y ∙ -ℤ-+ℤ_cancel e' (pos 24))

-- ---- and one
a_near : (n d : ℕ) → 0 < n → 0 < d → (m : ℕ) × (e : ℤ) × NearPair n d m e
a_near n d N D =
    let J = 23 + size d in
    let q = kept Nearest (n * 2 ^ J) d in
    let k = digits_of q (lost (n * 2 ^ J) d) in
    let e = sub_ℕ k J +ℤ pos 24 in
    (mantissa_of q, e, from_near n d (mantissa_of q) k J e (+ℤ-neg_ℤ_cancel (sub_ℕ k J) (pos 24)) (near_one (n * 2 ^ J) d D large))
  where
    large : 8388608 * d ≤ n * 2 ^ (23 + size d)
    large =
        le_trans (mul-le-mul_left 8388608 (le_of_lt (size-lt d)))
        (le_trans (le_of_eq (sym (pow-add 2 23 (size d)) ∙ sym (one-mul (2 ^ (23 + size d))))) (mul-le-mul_right (2 ^ (23 + size d)) N))

-- ---- under either rule
pub one_pair_by : (r : Rule) (n d m m' : ℕ) (e e' : ℤ) → 0 < d → PairBy r n d m e → PairBy r n d m' e' → (m ≡ m') × (e ≡ e')
one_pair_by Cut n d m m' e e' D p p' = one_pair n d m m' e e' D p p'
one_pair_by Nearest n d m m' e e' D p p' = one_near n d m m' e e' D p p'

pub a_pair_by : (r : Rule) (n d : ℕ) → 0 < n → 0 < d → (m : ℕ) × (e : ℤ) × PairBy r n d m e
a_pair_by Cut n d N D = a_pair n d N D
a_pair_by Nearest n d N D = a_near n d N D
