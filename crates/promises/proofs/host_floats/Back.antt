-- An answer is given exactly where it is right for the value; so a word comes back from its f32, and an f32 from its word. Assumes nothing.
use mathlib.Core.Path.{◌≡◌, refl, sym, ap, ap₂, ◌∙◌, subst}
use mathlib.Core.Logic.{⊎_elim}
use mathlib.Core.Bool.{Bool, true, false, cond, true≢false}
use Prim.Native.Nat.{ℕ, ◌+◌, ◌*◌, ◌%◌, ◌^◌, ◌≤◌, ◌<◌}
use native.Mathlib.Omega.{arith}
use lib.Dec.{leb, ltb, eqb}
use borrow.Author.Tests.{ltb-false, leb-false, eqb-true}
use lib.Ieee.{Float, binary32, of_bits, to_bits}
use lib.Ieee.Bits.{of_bits-fits, of_bits-to_bits, to_bits-lt}
use lib.Ieee.Exact.{HasValue}
use Rattle.terms.specs.declared.Refusal.TheVariants.{NotFinite, TooLarge, TooSmall, MinusZero}
use Rattle.float.specs.Word.{negative, mantissa, proper, size88}
use Rattle.promises.specs.FloatWords.{FloatWord}
use Rattle.host_floats.specs.Host.{exponent_field, minus_zero, host_bits, word_of, taken_of}
use Rattle.promises.specs.HostFloats.{Same, HasWord, Endless, IsMinusZero, Large, Small}
use Rattle.host_floats.specs.declared.Taken.{Taken}
use Rattle.host_floats.specs.declared.Taken.TheVariants.{Word, Refused}
use Rattle.promises.proofs.host_floats.Signs.{same_value}
use Rattle.host_floats.proofs.Patterns.{joined, rejoined}
use Rattle.promises.proofs.host_floats.Sizes.{of_minus}
use Rattle.host_floats.proofs.WordSizes.{proper_cases, size_some}
use Rattle.host_floats.proofs.Outward.{bits_some, word_value}
use Rattle.promises.proofs.host_floats.Apart.{one_word, held_endless, held_large, held_small, endless_large, endless_small, large_small, endless_minus}
use Rattle.promises.proofs.host_floats.Apart.{minus_large, minus_small}
use Rattle.promises.proofs.host_floats.Inward.{parts, Right, held, endless, minus, large, small, right}

-- ---- each answer, given the value
module _ (x : Float) (r : Taken) where
  pub answers_word : (w : ℕ) → HasWord x w → (IsMinusZero x → ⊥) → Right x r → r ≡ Word w
  answers_word w a n (held v e b k) = e ∙ ap Word (one_word x v w b a)
  answers_word w a n (endless e b) = absurd (held_endless x w a b)
  answers_word w a n (minus e b) = absurd (n b)
  answers_word w a n (large e b) = absurd (held_large x w a b)
  answers_word w a n (small e b) = absurd (held_small x w a b)

  pub answers_endless : Endless x → Right x r → r ≡ Refused NotFinite
  answers_endless a (held v e b k) = absurd (held_endless x v b a)
  answers_endless a (endless e b) = e
  answers_endless a (minus e b) = absurd (endless_minus x a b)
  answers_endless a (large e b) = absurd (endless_large x a b)
  answers_endless a (small e b) = absurd (endless_small x a b)

  pub answers_minus : IsMinusZero x → Right x r → r ≡ Refused MinusZero
  answers_minus a (held v e b k) = absurd (k a)
  answers_minus a (endless e b) = absurd (endless_minus x b a)
  answers_minus a (minus e b) = e
  answers_minus a (large e b) = absurd (minus_large x a b)
  answers_minus a (small e b) = absurd (minus_small x a b)

  pub answers_large : Large x → Right x r → r ≡ Refused TooLarge
  answers_large a (held v e b k) = absurd (held_large x v b a)
  answers_large a (endless e b) = absurd (endless_large x b a)
  answers_large a (minus e b) = absurd (minus_large x b a)
  answers_large a (large e b) = e
  answers_large a (small e b) = absurd (large_small x a b)

  pub answers_small : Small x → Right x r → r ≡ Refused TooSmall
  answers_small a (held v e b k) = absurd (held_small x v b a)
  answers_small a (endless e b) = absurd (endless_small x b a)
  answers_small a (minus e b) = absurd (minus_small x b a)
  answers_small a (large e b) = absurd (large_small x b a)
  answers_small a (small e b) = e
  -- ---- out and back

-- the f32 of a proper word is not minus zero: the word has a size, or it is the zero word, which has no sign
pub word_not_minus : (x : Float) (w : ℕ) → proper w ≡ true → HasValue x (negative w) (size88 w) (2 ^ 88) → IsMinusZero x → ⊥
word_not_minus x w f h t =
    let o = of_minus x (negative w) (size88 w) (2 ^ 88) h t in
    ⊎_elim
    (λ (k : 8388608 ≤ mantissa w). let s = size_some w k in let z = o.1 in omega arith)
    (λ (z : w ≡ 0). true≢false (sym o.0 ∙ ap negative z))
    (proper_cases w f)

pub word_back : (w : ℕ) → FloatWord w → taken_of (to_bits binary32 (of_bits binary32 (host_bits w))) ≡ Word w
word_back w f =
    let x = of_bits binary32 (host_bits w) in
    let fit = of_bits-fits binary32 (host_bits w) in
    let again : of_bits binary32 (to_bits binary32 x) ≡ x = of_bits-to_bits binary32 x fit in
    let v = word_value w f.is_proper in
    answers_word (of_bits binary32 (to_bits binary32 x)) (taken_of (to_bits binary32 x)) w
    (record { word = f; same = subst (λ (z : Float). Same z w) (sym again) (same_value x w v) })
    (subst (λ (z : Float). IsMinusZero z → ⊥) (sym again) (word_not_minus x w f.is_proper v))
    (right (to_bits binary32 x) (to_bits-lt binary32 x fit))

-- ---- in and back
word_bits : (p : ℕ) → 62 ≤ exponent_field p → exponent_field p < 190 → p < 4294967296 → host_bits (word_of p) ≡ p
word_bits p l h k =
    let c = parts p l h in
    let w = word_of p in
    let M = c.mant in
    let n : w ≡ 0 → ⊥ = λ z. let q : mantissa w ≡ 0 = ap mantissa z in omega arith in
    bits_some w n
    ∙ (λ i. joined binary32 (c.sign i) (c.expo i + 62) (M i % 8388608 * 1))
    ∙ ap₂ (joined binary32 (negative p)) (omega arith) (omega arith)
    ∙ rejoined binary32 p k

-- the bits of an f32 that became a word are those of the word's f32
pub bits_back : (p w : ℕ) → p < 4294967296 → taken_of p ≡ Word w → host_bits w ≡ p
unfolding taken_of
bits_back p w l e = go (eqb (exponent_field p) 255) (eqb p minus_zero) (leb 190 (exponent_field p)) (eqb p 0) (ltb (exponent_field p) 62) refl refl refl e
  where
    go : (t₁ t₂ t₃ t₄ t₅ : Bool) → leb 190 (exponent_field p) ≡ t₃ → eqb p 0 ≡ t₄ → ltb (exponent_field p) 62 ≡ t₅
        → cond t₁ (Refused NotFinite) (cond t₂ (Refused MinusZero)
        (cond t₃ (Refused TooLarge) (cond t₄ (Word 0) (cond t₅ (Refused TooSmall) (Word (word_of p)))))) ≡ Word w → host_bits w ≡ p
    go true t₂ t₃ t₄ t₅ e₃ e₄ e₅ e = let z : ◌≡◌ {A = ℕ} 0 1 = (cc) in absurd (omega arith)
    go false true t₃ t₄ t₅ e₃ e₄ e₅ e = let z : ◌≡◌ {A = ℕ} 0 1 = (cc) in absurd (omega arith)
    go false false true t₄ t₅ e₃ e₄ e₅ e = let z : ◌≡◌ {A = ℕ} 0 1 = (cc) in absurd (omega arith)
    go false false false true t₅ e₃ e₄ e₅ e = let f : 0 ≡ w = (cc) in ap host_bits (sym f) ∙ sym (eqb-true p 0 e₄)
    go false false false false true e₃ e₄ e₅ e = let z : ◌≡◌ {A = ℕ} 0 1 = (cc) in absurd (omega arith)
    go false false false false false e₃ e₄ e₅ e =
        let f : word_of p ≡ w = (cc) in
        ap host_bits (sym f) ∙ word_bits p (ltb-false (exponent_field p) 62 e₅) (leb-false 190 (exponent_field p) e₃) l
