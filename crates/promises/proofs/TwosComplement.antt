-- Two's complement over half of the number of words: what fits by the laws of `fixed`, sums and differences modulo twice it. Assumes nothing.
use mathlib.Core.Path.{◌≡◌, refl, sym, ap, subst, ◌∙◌}
use mathlib.Core.Logic.{⊎_elim}
use mathlib.Core.Bool.{false}
use Prim.Native.Nat.{ℕ, ◌+◌, ◌-◌, ◌*◌, ◌%◌, ◌≤◌, ◌<◌}
use native.Mathlib.Nat.{mod-eq_of_lt, mod-eq-sub-mod}
use native.Mathlib.Omega.{arith}
use borrow.Author.Tests.{lt-ltb, le-ltb, lt-leb, le-leb}
use lib.Dec.{lit<, lit≤}
use lib.IntN.{pos, sub_ℕ}
use Rattle.numbers.proofs.Differences.{either, same, neg_pos}
use Rattle.terms.specs.declared.Width.{Width}
use Rattle.terms.specs.declared.Width.TheVariants.{Single, Double}
use Rattle.fixed.specs.Parts.{Words}
use Rattle.fixed.specs.Fixed.{signed, fits, add, sub, chs}
use Rattle.fixed.proofs.LowBits.{fits_in_lem, fits_above, fits_below}
use Rattle.fixed.proofs.Exact.{mul_carry, muu_carry, div_carry}
use Rattle.float.specs.Convert.{integer}
use Rattle.promises.specs.Commands.{least}
use Rattle.promises.specs.TwosComplement.{half_of, bit, TwosComplement}
use Rattle.promises.proofs.Commands.{sum_is, difference_is}

module _ (h : ℕ) where
  below : (a : ℕ) → a < h → signed h a ≡ pos a
  below a k = rw (lt-ltb a h k)

  above : (a : ℕ) → h ≤ a → signed h a ≡ sub_ℕ a (2 * h)
  above a k = rw (le-ltb a h k)

  no_carry : (a : ℕ) → (chs h a).carry ≡ false
  unfolding chs
  no_carry a = refl

  reading : (a : ℕ) → a < 2 * h → integer h a ≡ signed h a
  reading a i =
      ⊎_elim
      (λ (k : a < h). rw (lt-leb h a k, lt-ltb a h k))
      (λ (k : h ≤ a). rw (le-leb h a k, le-ltb a h k) (neg_pos (2 * h - a) ∙ same 0 (2 * h - a) a (2 * h) (omega arith)))
      (either a h)

  module _ (b a : ℕ) (W : Words h b a) where
    carries : b + a ≡ (add h b a).word + bit (add h b a).carry * (2 * h)
    carries =
        rw (sum_is h b a W)
        (⊎_elim
        (λ (k : b + a < 2 * h). rw (lt-leb (2 * h) (b + a) k, mod-eq_of_lt k) (omega arith))
        (λ (k : 2 * h ≤ b + a).
        let e : (b + a) % (2 * h) ≡ b + a - 2 * h = mod-eq-sub-mod k ∙ mod-eq_of_lt (omega arith) in
        rw (le-leb (2 * h) (b + a) k, e) (omega arith))
        (either (b + a) (2 * h)))

    borrows : b + bit (sub h b a).carry * (2 * h) ≡ (sub h b a).word + a
    borrows =
        rw (difference_is h b a W)
        (⊎_elim
        (λ (k : b < a).
        let e : (b + 2 * h - a) % (2 * h) ≡ b + 2 * h - a = mod-eq_of_lt (omega arith) in
        rw (lt-ltb b a k, e) (omega arith))
        (λ (k : a ≤ b).
        let e : (b + 2 * h - a) % (2 * h) ≡ b + 2 * h - a - 2 * h = mod-eq-sub-mod (omega arith) ∙ mod-eq_of_lt (omega arith) in
        rw (le-ltb b a k, e) (omega arith))
        (either b a))

-- ---- the statement
module _ (w : Width) (is : least w ≡ half_of w) (some : 0 < half_of w) (narrow : half_of w ≤ 2147483648) where
  laws : TwosComplement w
  laws = record {
    least_is = is;
    words_are = ap (λ (n : ℕ). 2 * n) is;
    value_below = λ a k. ap (λ (n : ℕ). signed n a) is ∙ below (half_of w) a k;
    value_above = λ a k. ap (λ (n : ℕ). signed n a) is ∙ above (half_of w) a k;
    fits_inside = λ x y i j. ap (λ (n : ℕ). fits n (sub_ℕ x y)) is ∙ fits_in_lem (half_of w) x y j i;
    fits_above = λ x y i. ap (λ (n : ℕ). fits n (sub_ℕ x y)) is ∙ fits_above (half_of w) x y i;
    fits_below = λ x y i. ap (λ (n : ℕ). fits n (sub_ℕ x y)) is ∙ fits_below (half_of w) x y i;
    carry_out = λ b a i j.
        subst (λ (n : ℕ). b + a ≡ (add n b a).word + bit (add n b a).carry * (2 * half_of w)) (sym is)
        (carries (half_of w) b a (record { some = some; narrow = narrow; left = i; right = j }));
    borrow = λ b a i j.
        subst (λ (n : ℕ). b + bit (sub n b a).carry * (2 * half_of w) ≡ (sub n b a).word + a) (sym is)
        (borrows (half_of w) b a (record { some = some; narrow = narrow; left = i; right = j }));
    no_carry = λ b a. (mul_carry (least w) b a, muu_carry (least w) b a, div_carry (least w) b a, no_carry (least w) a);
    one_reading = λ a i. reading (half_of w) a i ∙ ap (λ (n : ℕ). signed n a) (sym is);
  }

pub twos_complement : (w : Width) → TwosComplement w
twos_complement Single = laws Single refl (lit< tt) (lit≤ tt)
twos_complement Double = laws Double refl (lit< tt) (lit≤ tt)
