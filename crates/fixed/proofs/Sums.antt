-- The sum and the difference that the code forms are those of the definitions. Assumes nothing.
use Rattle.std.proofs.Common.{◌≡◌, ℕ, ◌+◌, ◌-◌, ◌*◌, ◌/◌, ◌%◌, ◌<◌, ◌≤◌, Bool, true, false, not, ◌&&◌, ◌||◌, ltb, leb, ◌⊎◌, ℤ, ◌+ℤ◌, ◌-ℤ◌, neg_ℤ, sym, refl, ap, ◌∙◌, subst, ap₂, inl, inr, ⊎_elim, mod-lt, mod-eq_of_lt, arith, le-ltb, lt-ltb, le-leb}
use Rattle.std.proofs.Math.Nat.{add-mod-mod, add-zero, mod-add-mod, mod-mod_of_dvd}
use Rattle.std.proofs.lemmas.Nat.Gcd.{dvd_of_mod-eq-zero}
use Rattle.std.specs.Prelude.{◌^◌}
use native.Mathlib.Nat.{mod-add-div', mod-eq-sub-mod}
use lib.IntN.{sub_ℕ}
use lib.Ieee.{unlike}
use borrow.Author.Tests.{lt-leb}
use Rattle.numbers.proofs.Differences.{either, sum_differences, opposite_difference}
use Rattle.numbers.specs.Signed.{with_sign}
use Rattle.fixed.specs.Parts.{Words, Wraps, negative_at}
use Rattle.fixed.specs.Fixed.{signed, fits, low, is_least, add_overflow, overflow_if, outcome, add, sub}
use Rattle.fixed.proofs.LowBits.{not_negative, low_is, sign, signed_is, sign_pos, sign_neg, inside, over_up, over_down}

-- a sign beside one that is plus, and beside one that is minus
unlike_plus : (t : Bool) → unlike false t ≡ t
unlike_plus true = refl
unlike_plus false = refl

unlike_minus : (t : Bool) → unlike true t ≡ not t
unlike_minus true = refl
unlike_minus false = refl

-- ---- what wraps at 32 bits

module _ (h b a r : ℕ) (W : Words h b a) (D : Wraps h) where
  -- the low bits of the sum are left
  pub wrapped_sum : r ≡ low h (with_sign false ((b + a) % 2 ^ 32)) → r ≡ (b + a) % (2 * h)
  unfolding low
  wrapped_sum e = e ∙ mod-mod_of_dvd (2 * h) (b + a) (dvd_of_mod-eq-zero (2 * h) D)

  -- and of the difference a word that gives B with A
  pub wrapped_difference : r ≡ low h (with_sign false ((b + (2 ^ 32 - a)) % 2 ^ 32)) → (r < 2 * h) × ((r + a) % (2 * h) ≡ b)
  unfolding low
  wrapped_difference e =
      let f : r ≡ (b + (2 ^ 32 - a)) % (2 * h) = e ∙ mod-mod_of_dvd (2 * h) (b + (2 ^ 32 - a)) (dvd_of_mod-eq-zero (2 * h) D) in
      let t : b + (2 ^ 32 - a) + a ≡ b + 2 ^ 32 = omega (arith, W.narrow, W.right) in (
        subst (λ (n : ℕ). n < 2 * h) (sym f) (mod-lt (b + (2 ^ 32 - a)) (omega (arith, W.some))),
        ap (λ (n : ℕ). (n + a) % (2 * h)) f ∙ mod-add-mod (b + (2 ^ 32 - a)) (2 * h) a ∙ ap (λ (n : ℕ). n % (2 * h)) t
            ∙ sym (add-mod-mod b (2 ^ 32) (2 * h)) ∙ ap (λ (n : ℕ). (b + n) % (2 * h)) D ∙ ap (λ (n : ℕ). n % (2 * h)) (add-zero b) ∙ mod-eq_of_lt W.left,
      )

-- ---- the sum

module _ (h b a r : ℕ) (W : Words h b a) (R : r ≡ (b + a) % (2 * h)) where
  in_range : r < 2 * h
  in_range = subst (λ (n : ℕ). n < 2 * h) (sym R) (mod-lt (b + a) (omega arith))

  whole : b + a ≡ r + (b + a) / (2 * h) * (2 * h)
  whole = sym (mod-add-div' (b + a) (2 * h)) ∙ ap (λ (n : ℕ). n + (b + a) / (2 * h) * (2 * h)) (sym R)

  sum_is : signed h b +ℤ signed h a ≡ sub_ℕ (b + a) (sign h b * (2 * h) + sign h a * (2 * h))
  sum_is = ap₂ ◌+ℤ◌ (signed_is h b) (signed_is h a) ∙ sum_differences b (sign h b * (2 * h)) a (sign h a * (2 * h))

  pub sum_low : r ≡ low h (signed h b +ℤ signed h a)
  sum_low =
      let w = whole in
      sym (ap (low h) sum_is ∙ low_is h (b + a) (sign h b * (2 * h) + sign h a * (2 * h)) r (sign h b + sign h a) ((b + a) / (2 * h)) in_range (omega arith))

  sum_over : (i j : ℕ) → sign h b ≡ i → sign h a ≡ j → add_overflow h b a ≡ not (fits h (sub_ℕ (b + a) (i * (2 * h) + j * (2 * h))))
  sum_over i j p q = ap (λ (z : ℤ). not (fits h z)) (sum_is ∙ ap₂ (λ (x y : ℕ). sub_ℕ (b + a) (x * (2 * h) + y * (2 * h))) p q)

  sum_pp : b < h → a < h → leb h r ≡ add_overflow h b a
  sum_pp p q =
      let e : r ≡ b + a = R ∙ mod-eq_of_lt (omega arith) in
      over_up h (b + a) (0 * (2 * h) + 0 * (2 * h)) r (omega arith) ∙ sym (sum_over 0 0 (sign_pos h b p) (sign_pos h a q))

  sum_pn : b < h → h ≤ a → false ≡ add_overflow h b a
  sum_pn p q = inside h (b + a) (0 * (2 * h) + 1 * (2 * h)) (omega arith) (omega arith) ∙ sym (sum_over 0 1 (sign_pos h b p) (sign_neg h a q))

  sum_np : h ≤ b → a < h → false ≡ add_overflow h b a
  sum_np p q = inside h (b + a) (1 * (2 * h) + 0 * (2 * h)) (omega arith) (omega arith) ∙ sym (sum_over 1 0 (sign_neg h b p) (sign_pos h a q))

  sum_nn : h ≤ b → h ≤ a → ltb r h ≡ add_overflow h b a
  sum_nn p q =
      let e : r ≡ b + a - 2 * h = R ∙ mod-eq-sub-mod (omega arith) ∙ mod-eq_of_lt (omega arith) in
      over_down h (b + a) (1 * (2 * h) + 1 * (2 * h)) r in_range (omega arith) ∙ sym (sum_over 1 1 (sign_neg h b p) (sign_neg h a q))

  -- of like signs the wrapped result has the other sign exactly where the exact one does not fit
  sum_tells : (not (unlike (negative_at h b) (negative_at h a)) && unlike (negative_at h b) (negative_at h r)) ≡ add_overflow h b a
  sum_tells =
      ⊎_elim
      (λ (p : b < h). ⊎_elim
      (λ (q : a < h). rw (lt-leb h b p, lt-leb h a q) (unlike_plus (leb h r) ∙ sum_pp p q))
      (λ (q : h ≤ a). rw (lt-leb h b p, le-leb h a q) (sum_pn p q)) (either a h))
      (λ (p : h ≤ b). ⊎_elim
      (λ (q : a < h). rw (le-leb h b p, lt-leb h a q) (sum_np p q))
      (λ (q : h ≤ a). rw (le-leb h b p, le-leb h a q) (unlike_minus (leb h r) ∙ sym (not_negative h r) ∙ sum_nn p q)) (either a h))
      (either b h)

  pub sum_carry : ltb r b ≡ leb (2 * h) (b + a)
  sum_carry =
      ⊎_elim
      (λ (k : b + a < 2 * h). let e : r ≡ b + a = R ∙ mod-eq_of_lt k in le-ltb r b (omega arith) ∙ sym (lt-leb (2 * h) (b + a) k))
      (λ (k : 2 * h ≤ b + a). let e : r ≡ b + a - 2 * h = R ∙ mod-eq-sub-mod k ∙ mod-eq_of_lt (omega arith) in lt-ltb r b (omega arith)
      ∙ sym (le-leb (2 * h) (b + a) k))
      (either (b + a) (2 * h))

  -- what the code has: whether the signs of B and A, and of B and the result, are unlike
  pub sum_all : (e : ℕ) (s t : Bool) → s ≡ unlike (negative_at h b) (negative_at h a) → t ≡ unlike (negative_at h b) (negative_at h r)
      → e ≡ overflow_if (not s && t) → outcome r e (ltb r b) ≡ add h b a
  unfolding add
  sum_all e s t p q x = λ i. outcome (sum_low i) ((x ∙ ap overflow_if (ap₂ (λ (u v : Bool). not u && v) p q ∙ sum_tells)) i) (sum_carry i)

-- ---- the difference

module _ (h b a r : ℕ) (W : Words h b a) (near : r < 2 * h) (R : (r + a) % (2 * h) ≡ b) where
  total : r + a ≡ b + (r + a) / (2 * h) * (2 * h)
  total = sym (mod-add-div' (r + a) (2 * h)) ∙ ap (λ (n : ℕ). n + (r + a) / (2 * h) * (2 * h)) R

  diff_is : signed h b -ℤ signed h a ≡ sub_ℕ (b + sign h a * (2 * h)) (sign h b * (2 * h) + a)
  diff_is =
      ap₂ (λ (x y : ℤ). x +ℤ neg_ℤ y) (signed_is h b) (signed_is h a)
      ∙ ap (λ (y : ℤ). sub_ℕ b (sign h b * (2 * h)) +ℤ y) (opposite_difference a (sign h a * (2 * h)))
      ∙ sum_differences b (sign h b * (2 * h)) (sign h a * (2 * h)) a

  pub diff_low : r ≡ low h (signed h b -ℤ signed h a)
  diff_low =
      let w = total in
      sym (ap (low h) diff_is ∙ low_is h (b + sign h a * (2 * h)) (sign h b * (2 * h) + a) r (sign h b + (r + a) / (2 * h)) (sign h a) near (omega arith))

  diff_over : (i j : ℕ) → sign h b ≡ i → sign h a ≡ j → not (fits h (signed h b -ℤ signed h a)) ≡ not (fits h (sub_ℕ (b + j * (2 * h)) (i * (2 * h) + a)))
  diff_over i j p q = ap (λ (z : ℤ). not (fits h z)) (diff_is ∙ ap₂ (λ (x y : ℕ). sub_ℕ (b + y * (2 * h)) (x * (2 * h) + a)) p q)

  -- r is b - a, or that and 2h
  exact : (b ≡ r + a) ⊎ (b + 2 * h ≡ r + a)
  exact =
      ⊎_elim
      (λ (k : r + a < 2 * h). inl (sym R ∙ mod-eq_of_lt k))
      (λ (k : 2 * h ≤ r + a). let e : b ≡ r + a - 2 * h = sym R ∙ mod-eq-sub-mod k ∙ mod-eq_of_lt (omega arith) in inr (omega arith))
      (either (r + a) (2 * h))

  -- of unlike signs the wrapped result has another sign than B exactly where the exact one does not fit
  diff_tells : (unlike (negative_at h b) (negative_at h a) && unlike (negative_at h b) (negative_at h r)) ≡ not (fits h (signed h b -ℤ signed h a))
  diff_tells =
      ⊎_elim
      (λ (p : b < h). ⊎_elim
      (λ (q : a < h). rw (lt-leb h b p, lt-leb h a q) (inside h (b + 0 * (2 * h)) (0 * (2 * h) + a) (omega arith) (omega arith)
      ∙ sym (diff_over 0 0 (sign_pos h b p) (sign_pos h a q))))
      (λ (q : h ≤ a). rw (lt-leb h b p, le-leb h a q) (unlike_plus (leb h r)
      ∙ over_up h (b + 1 * (2 * h)) (0 * (2 * h) + a) r (⊎_elim (λ e. omega arith) (λ e. omega arith) exact)
      ∙ sym (diff_over 0 1 (sign_pos h b p) (sign_neg h a q)))) (either a h))
      (λ (p : h ≤ b). ⊎_elim
      (λ (q : a < h). rw (le-leb h b p, lt-leb h a q) (unlike_minus (leb h r) ∙ sym (not_negative h r)
      ∙ over_down h (b + 0 * (2 * h)) (1 * (2 * h) + a) r near (⊎_elim (λ e. omega arith) (λ e. omega arith) exact)
      ∙ sym (diff_over 1 0 (sign_neg h b p) (sign_pos h a q))))
      (λ (q : h ≤ a). rw (le-leb h b p, le-leb h a q) (inside h (b + 1 * (2 * h)) (1 * (2 * h) + a) (omega arith) (omega arith)
      ∙ sym (diff_over 1 1 (sign_neg h b p) (sign_neg h a q)))) (either a h))
      (either b h)

  pub diff_all : (e : ℕ) (s t : Bool) → s ≡ unlike (negative_at h b) (negative_at h a) → t ≡ unlike (negative_at h b) (negative_at h r)
      → e ≡ overflow_if (is_least h a || (s && t)) → outcome r e (ltb b a) ≡ sub h b a
  unfolding sub
  diff_all e s t p q x =
      λ i. outcome (diff_low i) ((x ∙ ap (λ (o : Bool). overflow_if (is_least h a || o)) (ap₂ (λ (u v : Bool). u && v) p q ∙ diff_tells)) i) (ltb b a)
