-- What becomes of an f64 by its bits: the cut that the program makes is that of its value, from 2 ^ 63 on it overflows, and the tests are the definition's.
-- Assumes nothing.
use mathlib.Core.Path.{◌≡◌, sym, ap, ◌∙◌}
use mathlib.Core.Logic.{inl}
use Prim.Native.Nat.{ℕ, ◌+◌, ◌-◌, ◌*◌, ◌^◌, ◌≤◌, ◌<◌}
use native.Mathlib.Nat.{le_trans, mul_assoc, mul-le-mul, mul-le-mul_right, mul-pos, not-le_of_lt}
use native.Mathlib.Omega.{arith}
use lib.Dec.{lit≤}
use lib.Pow.{pow-add, pow_pos, pow_mono}
use borrow.Author.Tests.{ne_eqb, eq-eqb, le-ltb}
use lib.Ieee.{binary64, of_bits}
use Rattle.terms.specs.declared.Rule.{Rule}
use Rattle.terms.specs.declared.Refusal.TheVariants.{TooLarge}
use Rattle.float.specs.declared.Flagged.{Flagged}
use Rattle.float.specs.Cut.{lost, kept, digits_of, cut_size}
use Rattle.float.proofs.cut.Signs.{cut_sign}
use Rattle.float.proofs.cut.Jams.{stands_cut}
use Rattle.float.proofs.cut.Pair.{lost_least}
use Rattle.float.proofs.cut.Values.{error_kept, digits_near, cut_stored}
use Rattle.host_floats.specs.Double.{double_sign, double_field, double_fraction, double_bits, brought_of, judged_of, inward_of}
use Rattle.host_floats.specs.declared.entry.Inward.TheVariants.{Exact, Rounded, Refused}

-- ---- the word and the error of the cut, judged
module _ (p : ℕ) (r : Flagged) where
  pub judged_over : (r.error ≡ 0 → ⊥) → judged_of p r ≡ Refused TooLarge
  judged_over h = rw (ne_eqb r.error 0 h)

  pub judged_exact : (d : ℕ) → r.error ≡ 0 → d ≡ double_bits r.word → d ≡ p → judged_of p r ≡ Exact r.word
  judged_exact d h e f = rw (eq-eqb r.error 0 h, eq-eqb (double_bits r.word) p (sym e ∙ f))

  pub judged_rounded : (d : ℕ) → r.error ≡ 0 → d ≡ double_bits r.word → (d ≡ p → ⊥) → judged_of p r ≡ Rounded r.word (of_bits binary64 d)
  judged_rounded d h e f =
      rw (eq-eqb r.error 0 h, ne_eqb (double_bits r.word) p (λ g. f (e ∙ g))) (ap (λ (x : ℕ). Rounded r.word (of_bits binary64 x)) (sym e))

-- the magnitude of a normal f64, times 2 ^ 1074
abbrev pub double_size : ℕ → ℕ
double_size p = (2 ^ 52 + double_fraction p) * 2 ^ (double_field p - 1)

-- ---- an f64 that is neither 10 nor 15 nor zero nor 12
module _ (rule : Rule) (p : ℕ) (some : 958 ≤ double_field p) where
  -- in fine units of 2 ^ -200 the value is its digits times 2 ^ (field - 875)
  pub cut_is : cut_size rule (double_sign p) ((2 ^ 52 + double_fraction p) * 2 ^ (double_field p - 875)) 1 ≡ brought_of rule p
  cut_is =
      sym (cut_sign rule (double_sign p) (double_size p) (2 ^ 1074)
      ∙ stands_cut rule (double_sign p) (double_size p * 2 ^ 200) (2 ^ 1074) (2 ^ 52 + double_fraction p) (double_field p - 875) (pow_pos 1074)
      (inl (moved (2 ^ 52 + double_fraction p) (double_field p) some)))
    where
      count : (x : ℕ) → 958 ≤ x → x - 1 + 200 ≡ 1074 + (x - 875)
      count x l = omega arith

      moved : (y x : ℕ) → 958 ≤ x → y * 2 ^ (x - 1) * 2 ^ 200 ≡ y * (2 ^ 1074 * 2 ^ (x - 875))
      moved y x l =
          mul_assoc y (2 ^ (x - 1)) (2 ^ 200)
          ∙ ap (λ (z : ℕ). y * z) (sym (pow-add 2 (x - 1) 200) ∙ ap (λ (z : ℕ). 2 ^ z) (count x l) ∙ pow-add 2 1074 (x - 875))

  pub judged_at : (double_field p ≡ 2047 → ⊥) → (p ≡ 2 ^ 63 → ⊥) → (p ≡ 0 → ⊥) → inward_of rule p ≡ judged_of p (brought_of rule p)
  unfolding inward_of
  judged_at a b c = rw (ne_eqb (double_field p) 2047 a, ne_eqb p (2 ^ 63) b, ne_eqb p 0 c, le-ltb (double_field p) 958 some)

  -- from 2 ^ 63 on the exponent is 64 or more under either rule
  pub overflows : 1086 ≤ double_field p → (brought_of rule p).error ≡ 0 → ⊥
  overflows l e =
      let n = double_size p * 2 ^ 200 in
      let low : 2 ^ 52 * 2 ^ 1085 ≤ double_size p = mul-le-mul {n₁ = 2 ^ 52} {m₁ = 2 ^ 1085} {n₂ = 2 ^ 52 + double_fraction p} {m₂ = 2 ^ (double_field p - 1)}
      (omega arith) (pow_mono {i = 1085} {j = double_field p - 1} (omega arith)) in
      let k = lost n (2 ^ 1074) in
      let far : 240 ≤ k = lost_least n (2 ^ 1074) 240 (pow_pos 1074) (le_trans (lit≤ {m = 2 ^ 263 * 2 ^ 1074} {n = 2 ^ 52 * 2 ^ 1085 * 2 ^ 200} tt)
      (mul-le-mul_right (2 ^ 200) low)) in
      let q = kept rule n (2 ^ 1074) in
      let f = cut_sign rule (double_sign p) (double_size p) (2 ^ 1074) ∙ cut_stored rule (double_sign p) n (2 ^ 1074) (mul-pos (positive low) (pow_pos 200)) in
      let c = (error_kept (digits_of q k) (sym (ap (λ (r : Flagged). r.error) f) ∙ e)).1 in
      let d = (digits_near q k).0 in
      not-le_of_lt c (le_trans far d)
    where
      positive : 2 ^ 52 * 2 ^ 1085 ≤ double_size p → 0 < double_size p
      positive h = le_trans (lit≤ {m = 1} {n = 2 ^ 52 * 2 ^ 1085} tt) h
