-- A number that stands for k / 10 ^ p is cut as that is, and the word is exact exactly where its mantissa is the whole of that number: a number
-- made odd is never a mantissa moved up. Assumes nothing.
use mathlib.Core.Path.{◌≡◌, refl, sym, ap, ap₂, ◌∙◌, subst}
use mathlib.Core.Logic.{inl, inr}
use mathlib.Core.Bool.{Bool, true, false, cond}
use Prim.Native.Nat.{ℕ, zero, suc, ◌+◌, ◌-◌, ◌*◌, ◌%◌, ◌^◌, ◌≤◌, ◌<◌}
use native.Mathlib.Nat.{le_refl, le_trans, lt_of_lt_of_le, lt_of_not-le, mul_assoc, mul_comm, mul_right_comm, mul-pos}
use native.Mathlib.Nat.{mul-le-mul_left, mul-le-mul_right, lt_of_mul-lt-mul_right, eq_of_mul-eq-mul_right, zero-mul}
use native.Mathlib.Omega.{arith}
use borrow.Author.Tests.{eqb-true, eqb-false, eq-eqb, ne_eqb}
use lib.Dec.{ltb, eqb, lit<}
use lib.Pow.{pow-add, pow_pos, pow_mono}
use Rattle.numbers.specs.Signed.{with_sign}
use Rattle.terms.specs.declared.Rule.{Rule}
use Rattle.terms.specs.declared.Rule.TheVariants.{Cut}
use Rattle.terms.specs.declared.Refusal.TheVariants.{TooLarge, TooSmall}
use Rattle.float.specs.declared.Flagged.{Flagged}
use Rattle.float.specs.Word.{biased, mantissa, size88}
use Rattle.float.specs.Cut.{lost, kept, mantissa_of, digits_of, stored, cut_size, cut}
use Rattle.float.proofs.Powers.{parted}
use Rattle.float.proofs.cut.Pair.{cuts_one, kept_le}
use Rattle.float.proofs.cut.Jams.{stands_cut}
use Rattle.float.proofs.cut.Signs.{cut_sign}
use Rattle.float.proofs.cut.Values.{cut_stored, packed_mantissa, packed_biased, error_kept, digits_near}
use Rattle.float.proofs.Results.{kept_big, mantissa_big}
use Rattle.decimals.specs.declared.bring.Brought.{Brought}
use Rattle.decimals.specs.declared.bring.Brought.TheVariants.{Exact, Rounded, Refused}
use Rattle.decimals.specs.declared.bring.Near.{Near}
use Rattle.decimals.specs.Bring.{StandsFor, NearTo, judged, bring_of}
use Rattle.decimals.proofs.Quotients.{ten_pos}
use Rattle.decimals.proofs.Kept.{eqb_same}

-- ---- the fields of a cut word without an error
module _ (r : Rule) (s : Bool) (t x : ℕ) (T : 2 ^ 25 ≤ t) where
  N : ℕ
  N = t * 2 ^ x

  big : 8388608 * 1 ≤ N
  unfolding N
  big = le_trans (mul-le-mul_right 1 (small T)) (mul-le-mul_left t (pow_pos x))
    where
      small : 2 ^ 25 ≤ t → 8388608 ≤ t
      small h = omega arith

  some : 0 < N
  some = lt_of_lt_of_le (lit< {m = 0} {n = 8388608} tt) big

  low : x + 2 ≤ lost N 1
  unfolding N
  low =
      let k = lost N 1 in
      let g = cuts_one N 1 (le_refl 1) big in
      let y : x + 1 < k = lt_of_not-le (λ (h : k ≤ x + 1).
      let a : 2 ^ k ≤ 2 ^ (x + 1) = pow_mono h in
      let b : 2 ^ (x + 1) ≡ 2 ^ x * 2 = pow-add 2 x 1 in
      let d : 2 ^ 25 * 2 ^ x ≤ t * 2 ^ x = mul-le-mul_right (2 ^ x) T in
      let e : suc (kept Cut N 1) * (1 * 2 ^ k) ≤ 16777216 * (1 * 2 ^ k) = mul-le-mul_right (1 * 2 ^ k) g.1 in
      let f = g.3 in
      omega arith) in
      omega arith

  pub fields : (cut_size r s (t * 2 ^ x) 1).error ≡ 0 → (x + 2 ≤ biased (cut_size r s (t * 2 ^ x) 1).word + 112) × (8388608 ≤ mantissa (cut_size r s
      (t * 2 ^ x) 1).word)
  fields = subst (λ (f : Flagged). f.error ≡ 0 → (x + 2 ≤ biased f.word + 112) × (8388608 ≤ mantissa f.word)) (sym is) go
    where
      q : ℕ
      q = kept r (t * 2 ^ x) 1

      k : ℕ
      k = digits_of q (lost (t * 2 ^ x) 1)

      is : cut_size r s (t * 2 ^ x) 1 ≡ stored s (mantissa_of q) k
      is = cut_stored r s (t * 2 ^ x) 1 (unfold N in some)

      m : (8388608 ≤ mantissa_of q) × (mantissa_of q < 16777216)
      m = mantissa_big q (kept_big r (t * 2 ^ x) 1 (le_refl 1) (unfold N in big)) (kept_le r (t * 2 ^ x) 1)

      go : (stored s (mantissa_of q) k).error ≡ 0 → (x + 2 ≤ biased (stored s (mantissa_of q) k).word + 112) × (8388608 ≤ mantissa (stored s
          (mantissa_of q) k).word)
      go e =
          let b = error_kept k e in
          let d = packed_biased s (mantissa_of q) k m.1 in
          let f = digits_near q (lost (t * 2 ^ x) 1) in
          let l : x + 2 ≤ lost (t * 2 ^ x) 1 = unfold N in low in (
            subst (λ (y : ℕ). x + 2 ≤ y + 112) (sym d) (at_least k (lost (t * 2 ^ x) 1) b.0 b.1 f.0 l),
            subst (λ (y : ℕ). 8388608 ≤ y) (sym
                (packed_mantissa s (mantissa_of q) k m.1)) m.0,
          )
        where
          at_least : (k l : ℕ) → 112 ≤ k → k < 240 → l ≤ k → x + 2 ≤ l → x + 2 ≤ (k + 16) % 128 + 112
          at_least k l a b c d = omega arith

-- ---- exact
even : (m j : ℕ) → 1 ≤ j → m * 2 ^ j % 2 ≡ 0
even m j h =
    let e : 2 ^ j ≡ 2 ^ (j - 1) * 2 = ap (λ (i : ℕ). 2 ^ i) count ∙ pow-add 2 (j - 1) 1 in
    let f : m * 2 ^ j ≡ m * 2 ^ (j - 1) * 2 = ap (λ (y : ℕ). m * y) e ∙ sym (mul_assoc m (2 ^ (j - 1)) 2) in
    omega arith
  where
    count : j ≡ j - 1 + 1
    count = omega arith

-- a number c that is not odd stands for what is c units alone
stands_even : (c u t n : ℕ) → 0 < u → c % 2 ≡ 0 → StandsFor n u t → (c ≡ t → n ≡ c * u) × (n ≡ c * u → c ≡ t)
stands_even c u t n U e (inl f) = ((λ g. f ∙ ap (λ (y : ℕ). y * u) (sym g)), (λ g. eq_of_mul-eq-mul_right u U c t (sym g ∙ f)))
stands_even c u t n U e (inr w) = (
  (λ g. let a = w.0 in absurd (omega arith)),
  (λ g.
      let a = w.0 in
      let l : t * u < (c + 1) * u = (let y = w.1 in omega arith) in
      let h : c * u < (t + 1) * u = (let y = w.2 in omega arith) in
      let i = lt_of_mul-lt-mul_right u l in
      let j = lt_of_mul-lt-mul_right u h in
      absurd (omega arith)),
)

pub exact_same : (w t x k d : ℕ) → 0 < d → x + 2 ≤ biased w + 112 → StandsFor (k * 2 ^ 200) (d * 2 ^ x) t
    → eqb (mantissa w * 2 ^ (biased w + 112)) (t * 2 ^ x) ≡ eqb (size88 w * d) (k * 2 ^ 88)
unfolding size88
exact_same w t x k d D h st = eqb_same (m * 2 ^ b) (t * 2 ^ x) (m * 2 ^ biased w * d) (k * 2 ^ 88) to from
  where
    m : ℕ
    m = mantissa w

    b : ℕ
    b = biased w + 112

    c : ℕ
    c = m * 2 ^ (b - x)

    two : (c ≡ t → k * 2 ^ 200 ≡ c * (d * 2 ^ x)) × (k * 2 ^ 200 ≡ c * (d * 2 ^ x) → c ≡ t)
    two = stands_even c (d * 2 ^ x) t (k * 2 ^ 200) (mul-pos D (pow_pos x)) (even m (b - x) (omega arith)) st

    -- the mantissa moved up, in units of 2 ^ x
    moved : m * 2 ^ b ≡ c * 2 ^ x
    moved = parted m b (b - x) x (omega arith)

    -- both sides, 2 ^ 112 times
    left : m * 2 ^ biased w * d * 2 ^ 112 ≡ c * (d * 2 ^ x)
    left =
        mul_right_comm (m * 2 ^ biased w) d (2 ^ 112) ∙ ap (λ (y : ℕ). y * d) (sym (parted m b (biased w) 112 refl) ∙ moved)
        ∙ mul_assoc c (2 ^ x) d ∙ ap (λ (y : ℕ). c * y) (mul_comm (2 ^ x) d)

    right : k * 2 ^ 88 * 2 ^ 112 ≡ k * 2 ^ 200
    right = sym (parted k 200 88 112 refl)

    to : m * 2 ^ b ≡ t * 2 ^ x → m * 2 ^ biased w * d ≡ k * 2 ^ 88
    to e =
        let f : c ≡ t = eq_of_mul-eq-mul_right (2 ^ x) (pow_pos x) c t (sym moved ∙ e) in
        eq_of_mul-eq-mul_right (2 ^ 112) (pow_pos 112) (m * 2 ^ biased w * d) (k * 2 ^ 88) (left ∙ sym (two.0 f) ∙ sym right)

    from : m * 2 ^ biased w * d ≡ k * 2 ^ 88 → m * 2 ^ b ≡ t * 2 ^ x
    from e =
        let f : k * 2 ^ 200 ≡ c * (d * 2 ^ x) = sym right ∙ ap (λ (y : ℕ). y * 2 ^ 112) (sym e) ∙ left in
        moved ∙ ap (λ (y : ℕ). y * 2 ^ x) (two.1 f)

-- ---- the answers
module _ (rule : Rule) (neg : Bool) (w f p : ℕ) where
  pub zero_brought : eqb (w + f) 0 ≡ true → Exact 0 ≡ bring_of rule neg (w * 10 ^ p + f) p
  unfolding bring_of
  zero_brought e = rw (eq-eqb (w * 10 ^ p + f) 0 none)
    where
      none : w * 10 ^ p + f ≡ 0
      none = let z = eqb-true (w + f) 0 e in let a : w ≡ 0 = omega arith in ap (λ (y : ℕ). y * 10 ^ p + f) a ∙ (let b = zero-mul (10 ^ p) in omega arith)

  pub some_digits : eqb (w + f) 0 ≡ false → 0 < w + f
  some_digits e = let n = eqb-false (w + f) 0 e in go (w + f) n
    where
      go : (x : ℕ) → (x ≡ 0 → ⊥) → 0 < x
      go zero n = absurd (n refl)
      go (suc x) n = omega arith

  not_nothing : eqb (w + f) 0 ≡ false → eqb (w * 10 ^ p + f) 0 ≡ false
  not_nothing e = ne_eqb (w * 10 ^ p + f) 0 (λ z. go w f (some_digits e) z)
    where
      go : (w f : ℕ) → 0 < w + f → w * 10 ^ p + f ≡ 0 → ⊥
      go w (suc f) h z = omega arith
      go zero zero h z = omega arith
      go (suc w) zero h z = let a : 1 * 10 ^ p ≤ suc w * 10 ^ p = mul-le-mul_right (10 ^ p) (omega arith) in let b = ten_pos p in omega arith

  pub small_brought : eqb (w + f) 0 ≡ false → ltb ((w * 10 ^ p + f) * 2 ^ 65) (10 ^ p) ≡ true → Refused TooSmall ≡ bring_of rule neg (w * 10 ^ p + f) p
  unfolding bring_of
  small_brought e s = rw (not_nothing e, s)

  module _ (e : eqb (w + f) 0 ≡ false) (s : ltb ((w * 10 ^ p + f) * 2 ^ 65) (10 ^ p) ≡ false) (near : Near) (to : NearTo (w * 10 ^ p + f) p near)
      (r : Flagged)
      (is : r ≡ cut_size rule neg (near.stand * 2 ^ near.place) 1) where
    cut_as : r ≡ cut rule (with_sign neg (w * 10 ^ p + f)) (10 ^ p)
    cut_as =
        is ∙ sym (stands_cut rule neg ((w * 10 ^ p + f) * 2 ^ 200) (10 ^ p) near.stand near.place (ten_pos p) (inr (to.enough, to.stands)))
        ∙ sym (cut_sign rule neg (w * 10 ^ p + f) (10 ^ p))

    brought_as : (b : Brought) → b ≡ judged r (w * 10 ^ p + f) p → b ≡ bring_of rule neg (w * 10 ^ p + f) p
    unfolding bring_of
    brought_as b h = rw (not_nothing e, s) (h ∙ ap (λ (x : Flagged). judged x (w * 10 ^ p + f) p) cut_as)

    pub large_brought : (r.error ≡ 0 → ⊥) → Refused TooLarge ≡ bring_of rule neg (w * 10 ^ p + f) p
    large_brought n = brought_as (Refused TooLarge) (rw (ne_eqb r.error 0 n))

    pub cut_fields : r.error ≡ 0 → (near.place + 2 ≤ biased r.word + 112) × (8388608 ≤ mantissa r.word)
    cut_fields z = subst (λ (x : Flagged). x.error ≡ 0 → (near.place + 2 ≤ biased x.word + 112) × (8388608 ≤ mantissa x.word)) (sym is)
        (fields rule neg near.stand near.place to.enough) z

    pub judged_brought : (m b : ℕ) (t : Bool) → m ≡ mantissa r.word → b ≡ biased r.word + 112 → r.error ≡ 0 → t ≡ eqb (m * 2 ^ b)
        (near.stand * 2 ^ near.place)
        → cond t (Exact r.word) (Rounded r.word) ≡ bring_of rule neg (w * 10 ^ p + f) p
    judged_brought m b t em eb z et =
        brought_as (cond t (Exact r.word) (Rounded r.word))
        (rw (eq-eqb r.error 0 z) (ap (λ (y : Bool). cond y (Exact r.word) (Rounded r.word))
        (et ∙ ap₂ (λ (x y : ℕ). eqb (x * 2 ^ y) (near.stand * 2 ^ near.place)) em eb
        ∙ exact_same r.word near.stand near.place (w * 10 ^ p + f) (10 ^ p) (ten_pos p) (cut_fields z).0 to.stands)))
