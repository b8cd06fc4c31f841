-- A number t that stands for a magnitude n may be cut in its place, under either rule: where t is odd and n lies strictly between t - 1 and
-- t + 1 units, no multiple of two units, hence no place where a cut or a rounding changes, parts the two. Assumes nothing.
use mathlib.Core.Path.{◌≡◌, refl, sym, ap, ◌∙◌, subst}
use mathlib.Core.Logic.{◌⊎◌, inl, inr}
use mathlib.Core.Bool.{Bool, true, false, not}
use Prim.Native.Nat.{ℕ, suc, ◌+◌, ◌-◌, ◌*◌, ◌/◌, ◌%◌, ◌^◌, ◌≤◌, ◌<◌, compare, Ordering}
use native.Mathlib.Nat.{le_refl, le_trans, le_of_eq, lt_of_lt_of_le, lt_of_not-le, not-le_of_lt, mul_comm, mul_assoc, mul-one, one-mul, mul-pos}
use native.Mathlib.Nat.{mul-le-mul_left, mul-le-mul_right, mul-lt-mul_of_pos_right, le_of_mul-le-mul_right, lt_of_mul-lt-mul_right, div-eq_of_lt-le}
use native.Mathlib.Nat.{div-add-mod', mod-lt, add-zero, eq-zero-or-pos, zero-mul}
use native.Mathlib.Omega.{arith}
use lib.Dec.{T, is_le, compare_is_eq, eqb, eqb_refl, ltb, leb→le, nleb→lt, eqb→eq, ltb→lt, nltb→le, lit<}
use borrow.Author.Tests.{lt-ltb}
use lib.Pow.{pow-add, pow_pos, pow_mono}
use lib.Ieee.{nearest, size}
use lib.Ieee.Nearest.{div_same}
use Rattle.terms.specs.declared.Rule.{Rule}
use Rattle.terms.specs.declared.Rule.TheVariants.{Cut, Nearest}
use Rattle.float.specs.Cut.{whole, lost, kept, cut_size}
use Rattle.float.specs.Jam.{Jammed}
use Rattle.float.proofs.Powers.{sub_mul}
use Rattle.float.proofs.cut.Pair.{whole_same, lost_is, cuts_one}

-- t stands for n in units of u: n is t units, or t is odd and n lies strictly between t - 1 and t + 1 units
abbrev pub Jam : ℕ → ℕ → ℕ → Type 0
Jam n u t = (n ≡ t * u) ⊎ ((t % 2 ≡ 1) × (t * u < n + u) × (n < t * u + u))

-- the same, where a t that is not exact has at least 26 digits
abbrev pub Stands : ℕ → ℕ → ℕ → Type 0
Stands n u t = (n ≡ t * u) ⊎ ((33554432 ≤ t) × Jam n u t)

-- ---- what `compare` gives
pub compare_lt : (a b : ℕ) → a < b → compare a b ≡ Ordering.lt
compare_lt a b h = go (compare a b) (eqb→eq a b) (nleb→lt a b)
  where
    go : (o : Ordering) → (T (compare_is_eq o) → a ≡ b) → (T (not (is_le o)) → b < a) → o ≡ Ordering.lt
    go Ordering.lt e g = refl
    go Ordering.eq e g = let x : a ≡ b = e tt in absurd (omega arith)
    go Ordering.gt e g = let x : b < a = g tt in absurd (omega arith)

pub compare_gt : (a b : ℕ) → b < a → compare a b ≡ Ordering.gt
compare_gt a b h = go (compare a b) (leb→le a b)
  where
    go : (o : Ordering) → (T (is_le o) → a ≤ b) → o ≡ Ordering.gt
    go Ordering.lt e = let x : a ≤ b = e tt in absurd (omega arith)
    go Ordering.eq e = let x : a ≤ b = e tt in absurd (omega arith)
    go Ordering.gt e = refl

pub compare_eq : (a b : ℕ) → a ≡ b → compare a b ≡ Ordering.eq
compare_eq a b h = go (compare a b) (subst (λ (x : ℕ). T (eqb a x)) h (eqb_refl a))
  where
    go : (o : Ordering) → T (compare_is_eq o) → o ≡ Ordering.eq
    go Ordering.lt t = absurd t
    go Ordering.eq t = refl
    go Ordering.gt t = absurd t

-- ---- t odd, p = 4 * h: n / (u * p) and t / p become the same whole number under either rule
even_whole : (t q h r : ℕ) → q * (4 * h) + r ≡ t → t % 2 ≡ 1 → r < 4 * h → (1 ≤ r) × (r + 1 ≤ 4 * h) × ((r + 1 ≤ 2 * h) ⊎ (2 * h + 1 ≤ r))
even_whole t q h r s odd m =
    let g : t ≡ 4 * (q * h) + r = omega arith in
    let o : r % 2 ≡ 1 = omega arith in
    (omega arith, omega arith, side (ltb r (2 * h)) (ltb→lt r (2 * h)) (nltb→le r (2 * h)))
  where
    side : (b : Bool) → (T b → r < 2 * h) → (T (not b) → 2 * h ≤ r) → (r + 1 ≤ 2 * h) ⊎ (2 * h + 1 ≤ r)
    side true f g = let x : r < 2 * h = f tt in inl (omega arith)
    side false f g =
        let x : 2 * h ≤ r = g tt in
        let y : t ≡ 4 * (q * h) + r = omega arith in
        inr (omega arith)

module _ (n u t h : ℕ) (U : 0 < u) (H : 0 < h) (odd : t % 2 ≡ 1) (lo : t * u < n + u) (hi : n < t * u + u) where
  four : 0 < 4 * h
  four = omega arith

  split : (t / (4 * h) * (4 * h) + t % (4 * h)) * u ≡ t * u
  split = ap (λ (x : ℕ). x * u) (div-add-mod' t (4 * h))

  facts : (1 ≤ t % (4 * h)) × (t % (4 * h) + 1 ≤ 4 * h) × ((t % (4 * h) + 1 ≤ 2 * h) ⊎ (2 * h + 1 ≤ t % (4 * h)))
  facts = even_whole t (t / (4 * h)) h (t % (4 * h)) (div-add-mod' t (4 * h)) odd (mod-lt t four)

  quot : n / (u * (4 * h)) ≡ t / (4 * h)
  quot =
      let a = split in
      let b = mul-le-mul_right u facts.0 in
      let d = mul-le-mul_right u facts.1 in
      div-eq_of_lt-le (u * (4 * h)) (omega arith) (omega arith)

  -- the remainder, beside half a step
  left_over_lem : (t / (4 * h)) * (u * (4 * h)) + n % (u * (4 * h)) ≡ n
  left_over_lem = ap (λ (x : ℕ). x * (u * (4 * h)) + n % (u * (4 * h))) (sym quot) ∙ div-add-mod' n (u * (4 * h))

  halves : compare (n % (u * (4 * h)) * 2) (u * (4 * h)) ≡ compare (t % (4 * h) * 2) (4 * h)
  halves = go facts.2
    where
      go : (t % (4 * h) + 1 ≤ 2 * h) ⊎ (2 * h + 1 ≤ t % (4 * h)) → compare (n % (u * (4 * h)) * 2) (u * (4 * h)) ≡ compare (t % (4 * h) * 2) (4 * h)
      go (inl x) =
          let a = split in
          let b = mul-le-mul_right u x in
          let l = left_over_lem in
          compare_lt (n % (u * (4 * h)) * 2) (u * (4 * h)) (omega arith) ∙ sym (compare_lt (t % (4 * h) * 2) (4 * h) (omega arith))
      go (inr x) =
          let a = split in
          let b = mul-le-mul_right u x in
          let l = left_over_lem in
          compare_gt (n % (u * (4 * h)) * 2) (u * (4 * h)) (omega arith) ∙ sym (compare_gt (t % (4 * h) * 2) (4 * h) (omega arith))

  pub jam_whole : (r : Rule) → whole r n (u * (4 * h)) ≡ whole r t (4 * h)
  jam_whole Cut = quot
  jam_whole Nearest = ap (λ (x : ℕ). nearest x (compare (n % (u * (4 * h)) * 2) (u * (4 * h)))) quot ∙ ap (λ (o : Ordering). nearest (t / (4 * h)) o) halves

-- ---- equal fractions are cut alike
pub same_cut : (r : Rule) (a b c d : ℕ) → 0 < b → 0 < d → a * d ≡ c * b → (kept r a b ≡ kept r c d) × (lost a b ≡ lost c d)
same_cut r a b c d B D e =
    let j : lost a b ≡ lost c d = ap (λ (z : ℕ). size z - 24) (div_same a b c d B D e) in
    let k = lost c d in
    let y : a * (d * 2 ^ k) ≡ c * (b * 2 ^ k) = sym (mul_assoc a d (2 ^ k)) ∙ ap (λ (z : ℕ). z * 2 ^ k) e ∙ mul_assoc c b (2 ^ k) in
    (ap (λ (z : ℕ). whole r a (b * 2 ^ z)) j ∙ whole_same r a (b * 2 ^ k) c (d * 2 ^ k) (mul-pos B (pow_pos k)) (mul-pos D (pow_pos k)) y, j)

-- t of 26 digits or more, at the place x: its cut loses at least two digits of t
room : (t x k : ℕ) → 33554432 ≤ t → t * 2 ^ x < 16777216 * 2 ^ k → x + 2 ≤ k
room t x k h l =
    let y : x + 1 < k = lt_of_not-le (λ (g : k ≤ x + 1). not-le_of_lt l (le_trans (mul-le-mul_left 16777216 (pow_mono g)) (big g))) in
    omega arith
  where
    big : k ≤ x + 1 → 16777216 * 2 ^ (x + 1) ≤ t * 2 ^ x
    big g =
        let a : 2 ^ (x + 1) ≡ 2 ^ x * 2 = pow-add 2 x 1 in
        let b = mul-le-mul_right (2 ^ x) h in
        omega arith

-- a quarter of the step 2 ^ k, in units of 2 ^ x
quarter : ℕ → ℕ → ℕ
quarter x k = 2 ^ (k - (x + 2))

module _ (r : Rule) (n d t x k : ℕ) (D : 0 < d) (big : 33554432 ≤ t) (odd : t % 2 ≡ 1) (lo : t * (d * 2 ^ x) < n + d * 2 ^ x)
    (hi : n < t * (d * 2 ^ x) + d * 2 ^ x)
    (below : 8388608 * 2 ^ k ≤ t * 2 ^ x) (above : t * 2 ^ x < 16777216 * 2 ^ k) where
  two_k : 2 ^ k ≡ 4 * quarter x k * 2 ^ x
  unfolding quarter
  two_k =
      ap (λ (z : ℕ). 2 ^ z) (count (room t x k big above)) ∙ pow-add 2 (2 + (k - (x + 2))) x ∙ ap (λ (z : ℕ). z * 2 ^ x) (pow-add 2 2 (k - (x + 2)))
    where
      count : x + 2 ≤ k → k ≡ 2 + (k - (x + 2)) + x
      count g = omega arith

  unit : d * 2 ^ k ≡ d * 2 ^ x * (4 * quarter x k)
  unit = ap (λ (z : ℕ). d * z) (two_k ∙ mul_comm (4 * quarter x k) (2 ^ x)) ∙ sym (mul_assoc d (2 ^ x) (4 * quarter x k))

  t_low : 8388608 * (4 * quarter x k) ≤ t
  t_low = le_of_mul-le-mul_right (le_trans (le_of_eq (mul_assoc 8388608 (4 * quarter x k) (2 ^ x) ∙ ap (λ (z : ℕ). 8388608 * z) (sym two_k))) below) (pow_pos x)

  t_high : t < 16777216 * (4 * quarter x k)
  t_high = lt_of_mul-lt-mul_right (2 ^ x) (lt_of_lt_of_le above (le_of_eq (ap (λ (z : ℕ). 16777216 * z) two_k
      ∙ sym (mul_assoc 16777216 (4 * quarter x k) (2 ^ x)))))

  places : lost n d ≡ k
  places =
      let u = d * 2 ^ x in
      let a : (8388608 * (4 * quarter x k) + 1) * u ≤ t * u = mul-le-mul_right u (stricter t_low) in
      let b : (t + 1) * u ≤ 16777216 * (4 * quarter x k) * u = mul-le-mul_right u t_high' in
      let e = unit in
      lost_is n d k D (omega arith) (omega arith)
    where
      stricter : 8388608 * (4 * quarter x k) ≤ t → 8388608 * (4 * quarter x k) + 1 ≤ t
      stricter g = omega arith

      t_high' : t + 1 ≤ 16777216 * (4 * quarter x k)
      t_high' = let g = t_high in omega arith

  H : 0 < quarter x k
  unfolding quarter
  H = pow_pos (k - (x + 2))

  keeps : kept r n d ≡ whole r t (4 * quarter x k)
  keeps =
      ap (λ (z : ℕ). whole r n (d * 2 ^ z)) places ∙ ap (λ (z : ℕ). whole r n z) unit
      ∙ jam_whole n (d * 2 ^ x) t (quarter x k) (mul-pos D (pow_pos x)) H odd lo hi r

-- t may be cut in the place of n
pub jam_cut : (r : Rule) (n d t x : ℕ) → 0 < d → 33554432 ≤ t → Jam n (d * 2 ^ x) t → (kept r n d ≡ kept r (t * 2 ^ x) 1) × (lost n d ≡ lost (t * 2 ^ x) 1)
jam_cut r n d t x D big (inl e) = same_cut r n d (t * 2 ^ x) 1 D (le_refl 1) (mul-one n ∙ e ∙ ap (λ (z : ℕ). t * z) (mul_comm d (2 ^ x))
    ∙ sym (mul_assoc t (2 ^ x) d))
jam_cut r n d t x D big (inr w) =
    let N = t * 2 ^ x in
    let k = lost N 1 in
    let m = kept Cut N 1 in
    let p : 0 < 2 ^ x = pow_pos x in
    let g = cuts_one N 1 (le_refl 1) (le_trans (mul-le-mul_right 1 (small big)) (mul-le-mul_left t p)) in
    let b : 8388608 * 2 ^ k ≤ N = le_trans (mul-le-mul_right (2 ^ k) g.0) (le_trans (le_of_eq (ap (λ (z : ℕ). m * z) (sym (one-mul (2 ^ k))))) g.2) in
    let a : N < 16777216 * 2 ^ k = lt_of_lt_of_le g.3 (le_trans (le_of_eq (ap (λ (z : ℕ). suc m * z) (one-mul (2 ^ k)))) (mul-le-mul_right (2 ^ k) g.1))
    in (
      keeps r n d t x k D big w.0 w.1 w.2 b a ∙ sym (keeps r N 1 t x k (le_refl 1) big w.0 (one_lo (2 ^ x) p) (one_hi (2 ^ x) p) b a),
      places r n d t
          x k D big w.0 w.1 w.2 b a,
    )
  where
    small : 33554432 ≤ t → 8388608 ≤ t
    small g = omega arith

    one_lo : (y : ℕ) → 0 < y → t * (1 * y) < t * y + 1 * y
    one_lo y g = omega arith

    one_hi : (y : ℕ) → 0 < y → t * y < t * (1 * y) + 1 * y
    one_hi y g = omega arith

pub stands_cut : (r : Rule) (neg : Bool) (n d t x : ℕ) → 0 < d → Stands n (d * 2 ^ x) t → cut_size r neg n d ≡ cut_size r neg (t * 2 ^ x) 1
stands_cut r neg n d t x D s = both (tests s) (parts s)
  where
    parts : Stands n (d * 2 ^ x) t → (kept r n d ≡ kept r (t * 2 ^ x) 1) × (lost n d ≡ lost (t * 2 ^ x) 1)
    parts (inl e) = same_cut r n d (t * 2 ^ x) 1 D (le_refl 1) (mul-one n ∙ e ∙ ap (λ (z : ℕ). t * z) (mul_comm d (2 ^ x)) ∙ sym (mul_assoc t (2 ^ x) d))
    parts (inr w) = jam_cut r n d t x D w.0 w.1

    U : 0 < d * 2 ^ x
    U = mul-pos D (pow_pos x)

    pos_cut : 0 < t → 0 < n → ltb 0 n ≡ ltb 0 (t * 2 ^ x)
    pos_cut a b = lt-ltb 0 n b ∙ sym (lt-ltb 0 (t * 2 ^ x) (mul-pos a (pow_pos x)))

    nil : t ≡ 0 → n ≡ 0 → ltb 0 n ≡ ltb 0 (t * 2 ^ x)
    nil a b = ap (λ (z : ℕ). ltb 0 z) (b ∙ sym (ap (λ (z : ℕ). z * 2 ^ x) a ∙ zero-mul (2 ^ x)))

    tests : Stands n (d * 2 ^ x) t → ltb 0 n ≡ ltb 0 (t * 2 ^ x)
    tests (inl e) = go (eq-zero-or-pos t)
      where
        go : (t ≡ 0) ⊎ (0 < t) → ltb 0 n ≡ ltb 0 (t * 2 ^ x)
        go (inl z) = nil z (e ∙ ap (λ (y : ℕ). y * (d * 2 ^ x)) z ∙ zero-mul (d * 2 ^ x))
        go (inr p) = pos_cut p (subst (λ (y : ℕ). 0 < y) (sym e) (mul-pos p U))
    tests (inr (b, inl e)) = pos_cut (omega arith) (subst (λ (y : ℕ). 0 < y) (sym e) (mul-pos (lt_of_lt_of_le (lit< {m = 0} {n = 33554432} tt) b) U))
    tests (inr (b, inr w)) =
        let u = d * 2 ^ x in
        let h = mul-le-mul_right u b in
        let l = w.1 in
        let U' = U in
        pos_cut (omega arith) (omega arith)

    both : ltb 0 n ≡ ltb 0 (t * 2 ^ x) → (kept r n d ≡ kept r (t * 2 ^ x) 1) × (lost n d ≡ lost (t * 2 ^ x) 1) → cut_size r neg n d ≡ cut_size r neg (t * 2 ^ x) 1
    both e p = unfold cut_size in rw (e, p.0, p.1)

pub jam_scale : (n u t c : ℕ) → 0 < c → Jam n u t → Jam (n * c) (u * c) t
jam_scale n u t c C (inl e) = inl (ap (λ (z : ℕ). z * c) e ∙ mul_assoc t u c)
jam_scale n u t c C (inr w) =
    let a = mul-lt-mul_of_pos_right w.1 C in
    let b = mul-lt-mul_of_pos_right w.2 C in
    inr (w.0, omega arith, omega arith)

-- an even number of units more, or that number less these
pub jam_add : (n u t b : ℕ) → b % 2 ≡ 0 → Jam n u t → Jam (b * u + n) u (b + t)
jam_add n u t b e (inl p) = inl (omega arith)
jam_add n u t b e (inr w) = let o = w.0 in let l = w.1 in let h = w.2 in inr (omega arith, omega arith, omega arith)

pub jam_sub : (n u t b : ℕ) → b % 2 ≡ 0 → t ≤ b → Jam n u t → Jam (b * u - n) u (b - t)
jam_sub n u t b e g (inl p) = inl (ap (λ (z : ℕ). b * u - z) p ∙ sym (sub_mul b t u))
jam_sub n u t b e g (inr w) =
    let o = w.0 in let l = w.1 in let h = w.2 in
    let c = mul-le-mul_right u (le_strict o) in
    let s = sub_mul b t u in
    inr (omega arith, omega arith, omega arith)
  where
    le_strict : t % 2 ≡ 1 → t + 1 ≤ b
    le_strict o = omega arith

-- a quotient and a remainder, in one number
pub jam_of : (q v u t : ℕ) → v < u → Jammed q v t → Jam (q * u + v) u t
jam_of q v u t h (inl w) = inl (ap (λ (z : ℕ). q * u + z) w.0 ∙ add-zero (q * u) ∙ ap (λ (z : ℕ). z * u) (sym w.1))
jam_of q v u t h (inr w) =
    let a = mul-le-mul_right u w.2 in
    let b = mul-le-mul_right u w.3 in
    let p = w.0 in
    inr (w.1, omega arith, omega arith)

pub jam_le : (n u t : ℕ) → Jam n u t → n ≤ t * u + u
jam_le n u t (inl e) = omega arith
jam_le n u t (inr w) = let h = w.2 in omega arith
