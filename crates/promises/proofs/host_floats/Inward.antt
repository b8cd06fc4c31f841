-- What `taken_of` answers is right for the f32's value: a word only where it is a proper word of that value and the f32 is not minus zero, and each refusal only
-- where 01 or 02 has it. Assumes nothing.
use mathlib.Core.Path.{◌≡◌, refl, sym, ap, ap₂, ◌∙◌, subst}
use mathlib.Core.Logic.{inl, ⊎_elim}
use mathlib.Core.Bool.{Bool, true, false, ◌||◌, cond}
use Prim.Native.Nat.{ℕ, ◌+◌, ◌-◌, ◌*◌, ◌%◌, ◌^◌, ◌≤◌, ◌<◌}
use native.Mathlib.Nat.{mul_assoc, mul-le-mul}
use native.Mathlib.Omega.{arith}
use lib.Dec.{leb, ltb, eqb}
use lib.Pow.{pow-add, pow_pos, pow_mono}
use borrow.Author.Tests.{le-leb, ltb-true, ltb-false, leb-true, leb-false, eqb-true, eqb-false}
use lib.Ieee.{Float, binary32, of_bits}
use Rattle.terms.specs.declared.Refusal.TheVariants.{NotFinite, TooLarge, TooSmall, MinusZero}
use Rattle.numbers.proofs.Differences.{either}
use Rattle.float.specs.Word.{negative, biased, mantissa, size88}
use Rattle.host_floats.specs.Host.{exponent_field, fraction, minus_zero, word_of, taken_of}
use Rattle.promises.specs.HostFloats.{HasWord, Endless, IsMinusZero, Large, Small}
use Rattle.host_floats.specs.declared.Taken.{Taken}
use Rattle.host_floats.specs.declared.Taken.TheVariants.{Word, Refused}
use Rattle.host_floats.proofs.Patterns.{leading, leading_many, bits_value}
use Rattle.promises.proofs.host_floats.Sizes.{same_of, large_of}
use Rattle.promises.proofs.host_floats.Classes.{size_in, all_ones, below_ones, zero_right, minus_right, minus_bits, small_right}
use Rattle.host_floats.proofs.WordSizes.{packed, packed_mantissa, packed_biased, packed_negative, packed_lt, size_is}

-- ---- the word of an f32, field by field
pub record Parts (p : ℕ) : Type 0 where
  pub shape : word_of p ≡ packed (negative p) ((exponent_field p + 2) % 128) (8388608 + fraction p)
  pub mant : mantissa (word_of p) ≡ 8388608 + fraction p
  pub expo : biased (word_of p) ≡ exponent_field p - 62
  pub sign : negative (word_of p) ≡ negative p

pub parts : (p : ℕ) → 62 ≤ exponent_field p → exponent_field p < 190 → Parts p
parts p l h =
    let s = negative p in
    let y = (exponent_field p + 2) % 128 in
    let m = 8388608 + fraction p in
    let shape : word_of p ≡ packed s y m = omega arith in
    record {
      shape = shape;
      mant = ap mantissa shape ∙ packed_mantissa s y m (omega arith) (omega arith);
      expo = ap biased shape ∙ packed_biased s y m (omega arith) (omega arith) ∙ omega arith;
      sign = ap negative shape ∙ packed_negative s y m (omega arith) (omega arith);
    }

-- ---- the word, and the bound above
module _ (p : ℕ) where
  large_right : exponent_field p < 255 → 190 ≤ exponent_field p → Large (of_bits binary32 p)
  large_right l h =
      let u : 8388608 ≤ leading binary32 (exponent_field p) (fraction p) = subst (λ (n : ℕ). 8388608 ≤ n) (sym (leading_many binary32 (exponent_field p)
      (fraction p) (omega arith))) (omega arith) in
      large_of (of_bits binary32 p) (negative p) (size_in binary32 p) (2 ^ 149) (pow_pos 149) (bits_value binary32 p l)
      (mul-le-mul {n₁ = 8388608} {m₁ = 2 ^ 189} u (pow_mono {i = 189} {j = exponent_field p - 1} (omega arith)))

  word_right : 62 ≤ exponent_field p → exponent_field p < 190 → HasWord (of_bits binary32 p) (word_of p)
  word_right l h =
      let s = negative p in
      let y = (exponent_field p + 2) % 128 in
      let m = 8388608 + fraction p in
      let a = leading binary32 (exponent_field p) (fraction p) in
      let c = parts p l h in
      let z : size88 (word_of p) ≡ m * 2 ^ (exponent_field p - 62) = size_is (word_of p) m (exponent_field p - 62) c.mant c.expo in
      let b : 2 ^ (exponent_field p - 1) * 2 ^ 88 ≡ 2 ^ (exponent_field p - 62) * 2 ^ 149 =
      sym (pow-add 2 (exponent_field p - 1) 88) ∙ ap (λ (n : ℕ). 2 ^ n) (omega arith) ∙ pow-add 2 (exponent_field p - 62) 149 in
      record {
        word = record {
          fits = subst (λ (n : ℕ). n < 4294967296) (sym c.shape) (packed_lt s y m (omega arith) (omega arith));
          is_proper = ap (λ (t : Bool). t || eqb (word_of p) 0)
              (le-leb 8388608 (mantissa (word_of p)) (subst (λ (n : ℕ). 8388608 ≤ n) (sym c.mant) (omega arith)));
        };
        same = same_of (of_bits binary32 p) s (size_in binary32 p) (2 ^ 149) (word_of p) (pow_pos 149) (bits_value binary32 p (omega arith))
            (mul_assoc a (2 ^ (exponent_field p - 1)) (2 ^ 88)
            ∙ ap₂ ◌*◌ (leading_many binary32 (exponent_field p) (fraction p) (omega arith)) b
            ∙ sym (mul_assoc m (2 ^ (exponent_field p - 62)) (2 ^ 149))
            ∙ ap (λ (n : ℕ). n * 2 ^ 149) (sym z))
            (inl (sym c.sign));
      }

-- an answer that is right for an f32's value
pub data Right (x : Float) (r : Taken) : Type 0 where
  held : (w : ℕ) → r ≡ Word w → HasWord x w → (IsMinusZero x → ⊥) → Right x r
  endless : r ≡ Refused NotFinite → Endless x → Right x r
  minus : r ≡ Refused MinusZero → IsMinusZero x → Right x r
  large : r ≡ Refused TooLarge → Large x → Right x r
  small : r ≡ Refused TooSmall → Small x → Right x r

pub right : (p : ℕ) → p < 4294967296 → Right (of_bits binary32 p) (taken_of p)
unfolding taken_of
right p l = go (eqb (exponent_field p) 255) (eqb p minus_zero) (leb 190 (exponent_field p)) (eqb p 0) (ltb (exponent_field p) 62) refl refl refl refl refl
  where
    not_minus : eqb p minus_zero ≡ false → IsMinusZero (of_bits binary32 p) → ⊥
    not_minus e₂ t = eqb-false p minus_zero e₂ (minus_bits binary32 p l t)

    some : eqb p minus_zero ≡ false → eqb p 0 ≡ false → p % 2147483648 ≡ 0 → ⊥
    some e₂ e₄ z = ⊎_elim (λ (k : p < 2147483648). eqb-false p 0 e₄ (omega arith)) (λ (k : 2147483648 ≤ p). eqb-false p minus_zero e₂ (omega arith))
        (either p 2147483648)

    go : (t₁ t₂ t₃ t₄ t₅ : Bool) → eqb (exponent_field p) 255 ≡ t₁ → eqb p minus_zero ≡ t₂ → leb 190 (exponent_field p) ≡ t₃ → eqb p 0 ≡ t₄ → ltb (exponent_field p)
        62 ≡ t₅
        → Right (of_bits binary32 p)
        (cond t₁ (Refused NotFinite) (cond t₂ (Refused MinusZero)
        (cond t₃ (Refused TooLarge) (cond t₄ (Word 0) (cond t₅ (Refused TooSmall) (Word (word_of p)))))))
    go true t₂ t₃ t₄ t₅ e₁ e₂ e₃ e₄ e₅ = endless refl (all_ones binary32 p (eqb-true (exponent_field p) 255 e₁))
    go false true t₃ t₄ t₅ e₁ e₂ e₃ e₄ e₅ = minus refl (minus_right binary32 p (eqb-true p minus_zero e₂))
    go false false true t₄ t₅ e₁ e₂ e₃ e₄ e₅ = large refl (large_right p (below_ones binary32 p (eqb-false (exponent_field p) 255 e₁))
        (leb-true 190 (exponent_field p) e₃))
    go false false false true t₅ e₁ e₂ e₃ e₄ e₅ = held 0 refl (zero_right binary32 p (let z = eqb-true p 0 e₄ in omega arith)) (not_minus e₂)
    go false false false false true e₁ e₂ e₃ e₄ e₅ = small refl (small_right binary32 p (ltb-true (exponent_field p) 62 e₅) (some e₂ e₄))
    go false false false false false e₁ e₂ e₃ e₄ e₅ =
        held (word_of p) refl (word_right p (ltb-false (exponent_field p) 62 e₅) (leb-false 190 (exponent_field p) e₃)) (not_minus e₂)
