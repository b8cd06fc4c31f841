-- The theorem of Sterbenz, under either rule: FSUB of close words loses nothing. Both are whole numbers of steps of the smaller one's last digit, and their
-- difference is at most as many as the smaller one has, fewer than 2 ^ 24. Assumes nothing.
use mathlib.Core.Path.{◌≡◌, refl, sym, ap, ap₂, ◌∙◌, subst}
use mathlib.Core.Logic.{◌⊎◌, inl, inr, ⊎_elim}
use mathlib.Core.Bool.{Bool, true, false, not}
use Prim.Native.Nat.{ℕ, ◌+◌, ◌-◌, ◌*◌, ◌%◌, ◌^◌, ◌≤◌, ◌<◌}
use native.Mathlib.Nat.{le_refl, le_trans, le_of_eq, le_of_lt, lt_of_lt_of_le, not-le_of_lt, eq-zero-or-pos, eq_of_mul-eq-mul_right, mul_assoc, mul_right_comm}
use native.Mathlib.Nat.{mul-one, zero-mul, mul-pos, mul-le-mul, mul-lt-mul_of_pos_right, le_of_mul-le-mul_right, mod-lt}
use native.Mathlib.Omega.{arith}
use lib.Dec.{lit<, lit≤}
use lib.IntN.{ℤ, ◌+ℤ◌, +ℤ_comm}
use lib.Ieee.{unlike}
use lib.Pow.{pow-add, pow_pos, pow_mono}
use Rattle.float.specs.declared.Flagged.{Flagged}
use Rattle.float.specs.Word.{negative, biased, mantissa, size88, value}
use Rattle.promises.specs.FloatWords.{FloatWord}
use Rattle.terms.specs.declared.Rule.{Rule}
use Rattle.float.specs.Cut.{lost, kept, mantissa_of, digits_of, packed, zero_word, cut_size, cut}
use Rattle.float.specs.Float.{exact_difference, sub}
use Rattle.float.proofs.Powers.{parted, sub_mul}
use Rattle.float.proofs.cut.Pair.{kept_le, cut_zero}
use Rattle.numbers.specs.Signed.{with_sign}
use Rattle.numbers.proofs.Differences.{either}
use Rattle.numbers.proofs.Signs.{zero_signed, opposite, sum_unlike, times}
use Rattle.float.proofs.word.Proper.{proper_cases}
use Rattle.float.proofs.cut.Signs.{alone, cut_scaled}
use Rattle.float.proofs.cut.Values.{packed_mantissa, packed_biased, packed_sign, size_kept, error_in_lem, error_under, settled, cut_stored}
use Rattle.promises.proofs.float.Kept.{fits_exact}
use Rattle.promises.proofs.float.Steps.{place_most}
use Rattle.promises.specs.FloatResults.{Close, Lossless}

-- ---- fewer than 2 ^ 24 steps of 2 ^ k fine units are kept whole: the word has them, or with underflow 2 ^ 128 times as many
abbrev Whole : Bool → ℕ → Flagged → Type 0
Whole s n r =
    (negative r.word ≡ s) × (((r.error ≡ 0) × (size88 r.word * 2 ^ 112 ≡ n)) ⊎ ((r.error ≡ 2) × (size88 r.word * 2 ^ 112 ≡ n * 2 ^ 128)))

under_size : (s : Bool) (m k : ℕ) → m < 16777216 → k < 112 → size88 (packed s m k) * 2 ^ 112 ≡ m * 2 ^ k * 2 ^ 128
unfolding size88
under_size s m k h l =
    ap₂ (λ (x y : ℕ). x * 2 ^ y * 2 ^ 112) (packed_mantissa s m k h) (packed_biased s m k h ∙ field)
    ∙ sym (parted m (k + 128) (k + 16) 112 (omega arith)) ∙ parted m (k + 128) k 128 refl
  where
    field : (k + 16) % 128 ≡ k + 16
    field = omega arith

kept_whole : (r : Rule) (s : Bool) (j k : ℕ) → 0 < j → j < 16777216 → 112 ≤ k → k < 240 → Whole s (j * 2 ^ k) (cut_size r s (j * 2 ^ k) 1)
kept_whole r s j k P J lo hi =
    let n = j * 2 ^ k in
    let q = kept r n 1 in
    let M = mantissa_of q in
    let K = digits_of q (lost n 1) in
    let st = settled q (lost n 1) (kept_le r n 1) in
    let f : M * 2 ^ K ≡ n = st.0 ∙ fits_exact r n 1 j k (le_refl 1) J (sym (mul-one n)) in
    let N : 0 < n = mul-pos P (pow_pos k) in
    let big : 8388608 * 1 ≤ n = le_trans (lit≤ {m = 8388608 * 1} {n = 1 * 2 ^ 112} tt) (mul-le-mul P (pow_mono lo)) in
    let top : K ≤ 239 = place_most r n 1 239 (le_refl 1) big (le_trans (mul-le-mul (less J) (pow_mono {i = k} {j = 239} (omega arith)))
    (le_of_eq (sym (mul-one (16777215 * 2 ^ 239))))) in
    subst (λ (x : Flagged). Whole s n x) (sym (cut_stored r s n 1 N)) (
      packed_sign s M K st.1,
      ⊎_elim
          (λ (l : K < 112). inr (error_under K l, under_size s M K st.1 l ∙ ap (λ (x : ℕ). x * 2 ^ 128) f))
          (λ (l : 112 ≤ K). inl (error_in_lem K l (omega arith), size_kept s M K st.1 l (omega arith) ∙ f))
          (either K 112),
    )
  where
    less : j < 16777216 → j ≤ 16777215
    less h = omega arith

of_size : (x : Flagged) (s : Bool) (z : ℕ) → negative x.word ≡ s → size88 x.word ≡ z → value x.word ≡ with_sign s z
unfolding value
of_size x s z a b = ap₂ with_sign a b

-- ---- a whole number d of units of 2 ^ -88 that is fewer than 2 ^ 24 steps of 2 ^ e
module _ (s : Bool) (d : ℕ) where
  from_whole : (x : Flagged) (n : ℕ) → d * 2 ^ 112 ≡ n → Whole s n x → Lossless (with_sign s d) x
  unfolding value
  from_whole x n same (t, inl v) = record {
    exact = λ h. of_size x s d t (eq_of_mul-eq-mul_right (2 ^ 112) (pow_pos 112) _ _ (v.1 ∙ sym same));
    under = λ h. let y = v.0 in absurd (omega arith);
    no_other = inl v.0;
  }
  from_whole x n same (t, inr v) = record {
    exact = λ h. let y = v.0 in absurd (omega arith);
    under = λ h.
        of_size x s (d * 2 ^ 128) t (eq_of_mul-eq-mul_right (2 ^ 112) (pow_pos 112) (size88 x.word) (d * 2 ^ 128) (v.1
        ∙ ap (λ (y : ℕ). y * 2 ^ 128) (sym same) ∙ mul_right_comm d (2 ^ 112) (2 ^ 128)))
        ∙ sym (times s false d (2 ^ 128) ∙ alone s (d * 2 ^ 128));
    no_other = inr v.0;
  }

  lossless : (r : Rule) (j e : ℕ) → d ≡ j * 2 ^ e → j < 16777216 → e < 128 → Lossless (with_sign s d) (cut r (with_sign s d) (2 ^ 88))
  lossless r j e p J E = go (eq-zero-or-pos j)
    where
      scaled : cut r (with_sign s d) (2 ^ 88) ≡ cut_size r s (d * 2 ^ 112) 1
      scaled = cut_scaled r s d 88 112 refl

      go : (j ≡ 0) ⊎ (0 < j) → Lossless (with_sign s d) (cut r (with_sign s d) (2 ^ 88))
      go (inl z) =
          let dz : d ≡ 0 = p ∙ ap (λ (x : ℕ). x * 2 ^ e) z ∙ zero-mul (2 ^ e) in
          let c : cut r (with_sign s d) (2 ^ 88) ≡ zero_word = scaled ∙ cut_zero r s (d * 2 ^ 112) 1 (ap (λ (x : ℕ). x * 2 ^ 112) dz ∙ zero-mul (2 ^ 112)) in
          subst (λ (x : Flagged). Lossless (with_sign s d) x) (sym c)
          (record { exact = λ h. sym (ap (with_sign s) dz ∙ zero_signed s); under = λ h. absurd (omega arith); no_other = inl refl })
      go (inr g) =
          let n = j * 2 ^ (e + 112) in
          let same : d * 2 ^ 112 ≡ n = ap (λ (x : ℕ). x * 2 ^ 112) p ∙ sym (parted j (e + 112) e 112 refl) in
          subst (λ (x : Flagged). Lossless (with_sign s d) x) (sym (scaled ∙ ap (λ (x : ℕ). cut_size r s x 1) same))
          (from_whole (cut_size r s n 1) n same (kept_whole r s j (e + 112) g J (omega arith) (omega arith)))

-- ---- two proper words, v the smaller: their difference is j steps of v's last digit
steps_of : (w v : ℕ) → 8388608 ≤ mantissa w → 8388608 ≤ mantissa v → size88 v ≤ size88 w → size88 w ≤ 2 * size88 v → (j : ℕ)
    × (size88 w - size88 v ≡ j * 2 ^ biased v) × (j < 16777216)
unfolding size88
steps_of w v P Q h g =
    let i = biased w in
    let e = biased v in
    let m = mantissa w in
    let x = m * 2 ^ (i - e) in
    let o : e ≤ i = order in
    let s : m * 2 ^ i ≡ x * 2 ^ e = parted m i (i - e) e (omega arith) in
    let k : x ≤ 2 * mantissa v = le_of_mul-le-mul_right (le_trans (le_of_eq (sym s)) (le_trans g (le_of_eq (sym (mul_assoc 2 (mantissa v) (2 ^ e))))))
    (pow_pos e) in
    let v24 : mantissa v < 16777216 = mod-lt v (lit< tt) in
    (x - mantissa v, ap (λ (y : ℕ). y - mantissa v * 2 ^ e) s ∙ sym (sub_mul x (mantissa v) (2 ^ e)), omega arith)
  where
    order : biased v ≤ biased w
    order = ⊎_elim (λ (l : biased w < biased v). absurd (not-le_of_lt (far l) h)) (λ (l : biased v ≤ biased w). l) (either (biased w) (biased v))
      where
        double : (y : ℕ) → 8388608 * (y * 2) ≡ 16777216 * y
        double y = omega arith

        far : biased w < biased v → mantissa w * 2 ^ biased w < mantissa v * 2 ^ biased v
        far l =
            let a : mantissa w * 2 ^ biased w < 16777216 * 2 ^ biased w = mul-lt-mul_of_pos_right (mod-lt w (lit< tt)) (pow_pos (biased w)) in
            let b : 16777216 * 2 ^ biased w ≡ 8388608 * 2 ^ (biased w + 1) = (let c : 2 ^ (biased w + 1) ≡ 2 ^ biased w * 2 = pow-add 2 (biased w) 1
            in sym (ap (λ (x : ℕ). 8388608 * x) c ∙ double (2 ^ biased w))) in
            lt_of_lt_of_le a (le_trans (le_of_eq b) (mul-le-mul Q (pow_mono {i = biased w + 1} {j = biased v} (omega arith))))

-- ---- close words
module _ (b a : ℕ) (c : Close b a) where
  -- the difference, as a sum of unlike signs
  unlike_sum : exact_difference b a ≡ with_sign (negative b) (size88 b) +ℤ with_sign (not (negative b)) (size88 a)
  unfolding value
  unlike_sum = ap (λ (x : ℤ). with_sign (negative b) (size88 b) +ℤ x) (opposite (negative a) (size88 a) ∙ ap (λ (s : Bool). with_sign (not s) (size88 a))
      (sym c.one_sign))

  digits : (w : ℕ) → FloatWord w → (w ≡ 0 → ⊥) → 8388608 ≤ mantissa w
  digits w W n = ⊎_elim (λ (z : w ≡ 0). absurd (n z)) (λ (l : 8388608 ≤ mantissa w). l) (proper_cases w W.is_proper)

  steps_above : FloatWord b → FloatWord a → size88 a ≤ size88 b → (j : ℕ) × (size88 b - size88 a ≡ j * 2 ^ biased a) × (j < 16777216)
  unfolding size88
  steps_above B A h = steps_of b a (digits b B c.some_b) (digits a A c.some_a) h c.b_within

  steps_below : FloatWord b → FloatWord a → size88 b < size88 a → (j : ℕ) × (size88 a - size88 b ≡ j * 2 ^ biased b) × (j < 16777216)
  unfolding size88
  steps_below B A h = steps_of a b (digits a A c.some_a) (digits b B c.some_b) (le_of_lt h) c.a_within

-- FSUB of them
pub close_difference : (r : Rule) (b a : ℕ) → FloatWord b → FloatWord a → Close b a → Lossless (exact_difference b a) (sub r b a)
close_difference r b a B A c = ⊎_elim below above (either (size88 b) (size88 a))
  where
    turned : (s : Bool) → (unlike s (not s) ≡ true) × (unlike (not s) s ≡ true)
    turned true = (refl, refl)
    turned false = (refl, refl)

    sub_is : (z : ℤ) → exact_difference b a ≡ z → Lossless z (cut r z (2 ^ 88)) → Lossless (exact_difference b a) (sub r b a)
    sub_is z e l = unfold sub in subst (λ (x : ℤ). Lossless x (cut r x (2 ^ 88))) (sym e) l

    above : size88 a ≤ size88 b → Lossless (exact_difference b a) (sub r b a)
    above h =
        let s = negative b in
        let t = steps_above b a c B A h in
        sub_is (with_sign s (size88 b - size88 a)) (unlike_sum b a c ∙ sum_unlike s (not s) (size88 b) (size88 a) (turned s).0 h)
        (lossless s (size88 b - size88 a) r t.0 (biased a) t.1 t.2 (omega arith))

    below : size88 b < size88 a → Lossless (exact_difference b a) (sub r b a)
    below h =
        let s = not (negative b) in
        let t = steps_below b a c B A h in
        sub_is (with_sign s (size88 a - size88 b))
        (unlike_sum b a c ∙ +ℤ_comm (with_sign (negative b) (size88 b)) (with_sign s (size88 a)) ∙ sum_unlike s (negative b) (size88 a) (size88 b)
        (turned (negative b)).1 (le_of_lt h))
        (lossless s (size88 a - size88 b) r t.0 (biased b) t.1 t.2 (omega arith))
