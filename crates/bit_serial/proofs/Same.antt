-- The second engine's answers are the first engine's: the steps add up to the product of the magnitudes, or find its quotient, and a quotient of 26
-- digits with its mark stands for the fraction under either rule. Assumes nothing.
use mathlib.Core.Path.{◌≡◌, refl, sym, ap, ◌∙◌, subst, subst₂}
use mathlib.Core.Logic.{◌⊎◌, inl, inr, ⊎_elim}
use Rattle.std.proofs.Common.{Err}
use mathlib.Core.Bool.{Bool, true, false, not, ◌&&◌, cond}
use Prim.Native.Nat.{ℕ, ◌+◌, ◌-◌, ◌*◌, ◌/◌, ◌%◌, ◌^◌, ◌≤◌, ◌<◌}
use native.Mathlib.Nat.{lt_of_le_of_lt, lt_of_lt_of_le, mul_assoc, mul-pos, mul-mul-mul_comm, div-add-mod', mod-lt, le-div_iff_mul-le, zero-mod, pos_of_ne-zero}
use native.Mathlib.Nat.{eq-zero-or-pos, mul-le-mul_right}
use native.Mathlib.Omega.{arith}
use borrow.Author.Tests.{eq-eqb, ne_eqb, eqb-false, le-leb, lt-leb}
use lib.Dec.{eqb, lit<}
use lib.IntN.{ℤ, ◌*ℤ◌}
use lib.Ieee.{unlike}
use lib.Pow.{pow-add, pow_pos}
use lib.Signed.{quot_z, shr_z}
use Rattle.numbers.proofs.Differences.{either}
use Rattle.numbers.proofs.Signs.{times}
use Rattle.terms.specs.declared.Refusal.TheVariants.{Improper}
use Rattle.terms.specs.declared.Rule.{Rule}
use Rattle.fixed.specs.declared.Fixed.{Fixed}
use Rattle.fixed.specs.Fixed.{signed, low, fits, overflow_if, outcome, either_least, mul, muu, div}
use Rattle.fixed.specs.Parts.{Words, magnitude_at}
use Rattle.fixed.proofs.Products.{product as exact_product_lem, quotient as exact_quotient, abs_some}
use Rattle.float.specs.declared.Flagged.{Flagged}
use Rattle.float.specs.Word.{negative, biased, mantissa, proper, size88, value}
use Rattle.float.specs.Cut.{cut}
use Rattle.float.specs.Float.{mul as fmul, div as fdiv}
use Rattle.float.specs.Jam.{Jammed}
use Rattle.float.proofs.Powers.{moved, parted}
use Rattle.float.proofs.cut.Jams.{Stands, stands_cut}
use Rattle.float.proofs.product.ProductCut.{stands_scale, stands_of}
use Rattle.float.proofs.cut.Signs.{cut_sign}
use Rattle.float.proofs.word.Proper.{proper_norm}
use Rattle.bit_serial.specs.Answer.{Answer, worked, steps_in}
use Rattle.bit_serial.specs.Engine.{sizes_multiplied, sizes_divided, signed_for, least_answer, mul_answer, muu_answer, div_answer, after}
use Rattle.bit_serial.specs.Engine.{float_signed, marked, mantissas_multiplied, mantissas_divided, fmul_answer, fdiv_answer}
use Rattle.bit_serial.proofs.Products.{whole}
use Rattle.bit_serial.proofs.Quotients.{parts, whole as both}
use Rattle.bit_serial.proofs.Answers.{in_place}

-- the magnitude of a word is at most h
pub size-le : (h w : ℕ) → w < 2 * h → magnitude_at h w ≤ h
size-le h w l = ⊎_elim (λ (k : w < h). rw (lt-leb h w k) (omega arith)) (λ (k : h ≤ w). rw (le-leb h w k) (omega arith)) (either w h)

-- ---- fixed point, over every width
module _ (h n b a : ℕ) (W : Words h b a) (N : h < 2 ^ n) where
  product_is : signed_for h b a (sizes_multiplied h n b a).partial ≡ signed h b *ℤ signed h a
  product_is =
      ap (signed_for h b a) (whole n (magnitude_at h b) (magnitude_at h a) (lt_of_le_of_lt (size-le h a W.right) N)) ∙ sym (exact_product_lem h b a W)

  -- the row of a least operand, and the general one: a word and an error that both engines make of the exact result
  row : (t : Bool) (word error : ℤ → ℕ) (k : ℕ) {x y : ℤ} → x ≡ y → cond t (least_answer h) (worked (word x) (error x) k)
      ≡ worked (cond t (outcome h 1 false) (outcome (word y) (error y) false)).word (cond t (outcome h 1 false) (outcome (word y) (error y) false)).error
      (steps_in (cond t (least_answer h) (worked (word x) (error x) k)))
  row true word error k e = refl
  row false word error k e = λ i. worked (word (e i)) (error (e i)) k

  pub same_mul : mul_answer h n b a ≡ worked (mul h b a).word (mul h b a).error (steps_in (mul_answer h n b a))
  unfolding mul_answer mul
  same_mul = row (either_least h b a) (low h) (λ z. overflow_if (not (fits h z))) (sizes_multiplied h n b a).steps product_is

  pub same_muu : muu_answer h n b a ≡ worked (muu h b a).word (muu h b a).error (steps_in (muu_answer h n b a))
  unfolding muu_answer muu
  same_muu = row (either_least h b a) (λ z. low h (shr_z z (2 * h))) (λ z. 0) (sizes_multiplied h n b a).steps product_is

  -- n digits are enough for the quotient
  pub divisor_some : (a ≡ 0 → ⊥) → 0 < magnitude_at h a
  divisor_some z = abs_some h a (magnitude_at h a) refl z W.right

  pub dividend_below : (a ≡ 0 → ⊥) → magnitude_at h b < magnitude_at h a * 2 ^ n
  dividend_below z = let e = mul-le-mul_right (2 ^ n) (divisor_some z) in lt_of_lt_of_le (lt_of_le_of_lt (size-le h b W.left) N) (omega arith)

  quotient_is : (a ≡ 0 → ⊥) → signed_for h b a (sizes_divided h n b a).quotient ≡ quot_z (signed h b) (signed h a)
  quotient_is z = ap (signed_for h b a) (both n (magnitude_at h b) (magnitude_at h a) (divisor_some z) (dividend_below z)).0 ∙ sym (exact_quotient h b a W)

  pub same_div : div_answer h n b a ≡ worked (div h b a).word (div h b a).error (steps_in (div_answer h n b a))
  unfolding div_answer div
  same_div = go (eqb a 0) (eqb-false a 0)
    where
      general : Answer
      general = cond (either_least h b a) (least_answer h) (worked (low h (signed_for h b a (sizes_divided h n b a).quotient)) 0 (n - (sizes_divided h n b a).left))

      first : Fixed
      first = cond (either_least h b a) (outcome h 1 false) (outcome (low h (quot_z (signed h b) (signed h a))) 0 false)

      go : (o : Bool) → (o ≡ false → a ≡ 0 → ⊥) → cond o (worked b 8 0) general ≡ worked (cond o (outcome b 8 false) first).word
          (cond o (outcome b 8 false) first).error (steps_in (cond o (worked b 8 0) general))
      go true z = refl
      go false z = row (either_least h b a) (low h) (λ x. 0) (n - (sizes_divided h n b a).left) (quotient_is (z refl))

-- ---- floats, under either rule

sizes_multiplied_lem : (b a : ℕ) → (mantissas_multiplied b a).partial * 2 ^ (biased b + biased a) ≡ size88 b * size88 a
unfolding size88
sizes_multiplied_lem b a =
    ap (λ (m : ℕ). m * 2 ^ (biased b + biased a)) (whole 24 (mantissa b) (mantissa a) (mod-lt a (lit< tt)))
    ∙ ap (λ (m : ℕ). mantissa b * mantissa a * m) (pow-add 2 (biased b) (biased a)) ∙ mul-mul-mul_comm (mantissa b) (mantissa a) (2 ^ biased b) (2 ^ biased a)

exactly : (b a : ℕ) → float_signed b a ((mantissas_multiplied b a).partial * 2 ^ (biased b + biased a)) ≡ value b *ℤ value a
unfolding value
exactly b a = ap (float_signed b a) (sizes_multiplied_lem b a) ∙ sym (times (negative b) (negative a) (size88 b) (size88 a))

pub same_fmul : (rule : Rule) (b a : ℕ) → fmul_answer rule b a ≡ cond (proper b && proper a) (worked (fmul rule b a).word (fmul rule b a).error
    (steps_in (fmul_answer rule b a))) (Err Improper)
unfolding fmul_answer fmul
same_fmul rule b a = go (proper b && proper a)
  where
    k : ℕ
    k = (mantissas_multiplied b a).steps

    mine : Flagged
    mine = cut rule (float_signed b a ((mantissas_multiplied b a).partial * 2 ^ (biased b + biased a))) (2 ^ 176)

    first : Flagged
    first = cut rule (value b *ℤ value a) (2 ^ 176)

    go : (t : Bool) → cond t (after k mine) (Err Improper) ≡ cond t (worked first.word first.error (steps_in (cond t (after k mine) (Err Improper))))
        (Err Improper)
    go true = ap (λ (z : ℤ). after k (cut rule z (2 ^ 176))) (exactly b a)
    go false = refl

-- a quotient and its mark are twice the dividend's quotient, its last bit made odd where a remainder is left
marks : (v d : ℕ) → 0 < d → Jammed (v * 2 / d) (v * 2 % d) (marked (v / d) (v % d))
marks v d D = go (v % d) (mod-lt v D) (div-add-mod' v d)
  where
    q : ℕ
    q = v / d

    exact : (r : ℕ) → r ≡ 0 → q * d + r ≡ v → Jammed (v * 2 / d) (v * 2 % d) (marked q r)
    exact r z e = let w = parts (2 * q) d 0 (v * 2) (omega arith) D in inl (
      sym w.1,
      ap (λ (b : Bool). 2 * q + cond b 0 1) (eq-eqb r 0 z)
          ∙ (omega (arith, w.0)),
    )

    odd : (r : ℕ) → (r ≡ 0 → ⊥) → marked q r ≡ 2 * q + 1
    odd r z = ap (λ (b : Bool). 2 * q + cond b 0 1) (ne_eqb r 0 z)

    below : (r : ℕ) → (r ≡ 0 → ⊥) → r + r < d → q * d + r ≡ v → Jammed (v * 2 / d) (v * 2 % d) (marked q r)
    below r z l e =
        let w = parts (2 * q) d (r + r) (v * 2) (omega arith) l in
        let p = pos_of_ne-zero z in
        let m = odd r z in
        inr (omega (arith, w.1), omega arith, omega (arith, w.0), omega (arith, w.0))

    beyond : (r : ℕ) → (r ≡ 0 → ⊥) → d ≤ r + r → r < d → q * d + r ≡ v → Jammed (v * 2 / d) (v * 2 % d) (marked q r)
    beyond r z l h e =
        let w = parts (2 * q + 1) d (r + r - d) (v * 2) (omega arith) (omega arith) in
        let m = odd r z in
        ⊎_elim (λ (x : r + r - d ≡ 0). inl (sym w.1 ∙ x, m ∙ w.0)) (λ (x : 0 < r + r - d). inr (
          omega (arith, w.1),
          omega arith,
          omega (arith, w.0),
          omega
              (arith, w.0),
        )) (eq-zero-or-pos (r + r - d))

    go : (r : ℕ) → r < d → q * d + r ≡ v → Jammed (v * 2 / d) (v * 2 % d) (marked q r)
    go r h e = ⊎_elim (λ z. exact r z e) (λ (p : 0 < r). ⊎_elim (λ l. below r (λ z. omega arith) l e) (λ l. beyond r (λ z. omega arith) l h e)
        (either (r + r) d)) (eq-zero-or-pos r)

-- mantissas m and n, n above 0, at exponents i and j: 26 digits and a mark stand for the fraction
stands : (m n i j t : ℕ) → 0 < n → n < 16777216 → (m ≡ 0) ⊎ (8388608 ≤ m) → j < 128 → Jammed (m * 2 ^ 25 * 2 / n) (m * 2 ^ 25 * 2 % n) t
    → Stands (m * 2 ^ i * 2 ^ 200) (n * 2 ^ j * 2 ^ (i + 174 - j)) t
stands m n i j t N n24 norm l s =
    subst (λ (z : ℕ). Stands z (n * 2 ^ j * 2 ^ (i + 174 - j)) t) (ap (λ (z : ℕ). z * 2 ^ (i + 174)) (mul_assoc m (2 ^ 25) 2) ∙ moved m 26 (i + 174) i 200
    (omega arith))
    (subst (λ (z : ℕ). Stands (v * 2 ^ (i + 174)) z t) (parted n (i + 174) j (i + 174 - j) (omega arith))
    (stands_scale v n t (2 ^ (i + 174)) (pow_pos (i + 174))
    (subst (λ (z : ℕ). Stands z n t) (div-add-mod' v n) (stands_of (v / n) (v % n) n t (mod-lt v N) (large norm) s))))
  where
    v : ℕ
    v = m * 2 ^ 25 * 2

    large : (m ≡ 0) ⊎ (8388608 ≤ m) → 0 < v % n → 33554432 ≤ v / n
    large (inl z) r = let e : v % n ≡ 0 = ap (λ (y : ℕ). y * 2 ^ 25 * 2 % n) z ∙ zero-mod n in absurd (omega arith)
    large (inr h) r = (le-div_iff_mul-le N).1 (omega arith)

and_left : (s t : Bool) → (s && t) ≡ true → s ≡ true
and_left true t e = refl
and_left false t e = e

and_right : (s t : Bool) → (s && t) ≡ true → t ≡ true
and_right true t e = e
and_right false true e = refl
and_right false false e = e

module _ (rule : Rule) (b a : ℕ) (P : (proper b && proper a) ≡ true) where
  left_proper : proper b ≡ true
  left_proper = and_left (proper b) (proper a) P

  -- a quotient of mantissas is below 2
  pub narrow : (mantissa a ≡ 0 → ⊥) → mantissa b * 2 ^ 25 < mantissa a * 2 ^ 26
  narrow z = let m : mantissa b < 16777216 = mod-lt b (lit< tt) in ⊎_elim (λ e. absurd (z e)) (λ (l : 8388608 ≤ mantissa a). omega arith)
      (proper_norm a (and_right (proper b) (proper a) P))

  quotient_cut : (mantissa a ≡ 0 → ⊥) → cut rule (float_signed b a (marked (mantissas_divided b a).quotient (mantissas_divided b a).rest * 2 ^ biased b))
      (2 ^ 26 * 2 ^ biased a) ≡ cut rule (float_signed b a (size88 b)) (size88 a)
  unfolding size88
  quotient_cut z =
      let N = pos_of_ne-zero z in
      let n24 : mantissa a < 16777216 = mod-lt a (lit< tt) in
      let s = unlike (negative b) (negative a) in
      let v = mantissa b * 2 ^ 25 in
      let t = marked (mantissas_divided b a).quotient (mantissas_divided b a).rest in
      let x = biased b + 174 - biased a in
      let j : biased a < 128 = mod-lt (a / 16777216 + 64) (lit< tt) in
      let d = both 26 v (mantissa a) N (narrow z) in
      let M : Jammed (v * 2 / mantissa a) (v * 2 % mantissa a) t = subst₂ (λ (q r : ℕ). Jammed (v * 2 / mantissa a) (v * 2 % mantissa a) (marked q r))
      (sym d.0) (sym d.1) (marks v (mantissa a) N) in
      in_place rule s t (biased b) (biased a) j
      ∙ sym (cut_sign rule s (size88 b) (size88 a) ∙ stands_cut rule s (size88 b * 2 ^ 200) (size88 a) t x (mul-pos N (pow_pos (biased a)))
      (stands (mantissa b) (mantissa a) (biased b) (biased a) t N n24 (proper_norm b left_proper) j M))

pub same_fdiv : (rule : Rule) (b a : ℕ) → fdiv_answer rule b a ≡ cond (proper b && proper a) (worked (fdiv rule b a).word (fdiv rule b a).error
    (steps_in (fdiv_answer rule b a))) (Err Improper)
unfolding fdiv_answer fdiv
same_fdiv rule b a = go (proper b && proper a) (λ p. quotient_cut rule b a p) (eqb (mantissa a) 0) (eqb-false (mantissa a) 0)
  where
    k : ℕ
    k = 26 - (mantissas_divided b a).left

    mine : Flagged
    mine = cut rule (float_signed b a (marked (mantissas_divided b a).quotient (mantissas_divided b a).rest * 2 ^ biased b)) (2 ^ 26 * 2 ^ biased a)

    first : Flagged
    first = cut rule (float_signed b a (size88 b)) (size88 a)

    none : Flagged
    none = record { word = b; error = 8 }

    go : (t : Bool) → (t ≡ true → (mantissa a ≡ 0 → ⊥) → mine ≡ first) → (o : Bool) → (o ≡ false → mantissa a ≡ 0 → ⊥)
        → cond t (cond o (worked b 8 0) (after k mine)) (Err Improper)
        ≡ cond t (worked (cond o none first).word (cond o none first).error (steps_in (cond t (cond o (worked b 8 0) (after k mine)) (Err Improper))))
        (Err Improper)
    go true f true z = refl
    go true f false z = ap (after k) (f refl (z refl))
    go false f true z = refl
    go false f false z = refl
