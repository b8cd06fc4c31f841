-- An f64's answer is given exactly where it is right for the value, and the rule brings an f64 to one word; so a word comes back from its f64, and an f64 from
-- the word of its value. Assumes nothing.
use mathlib.Core.Path.{◌≡◌, refl, sym, ap, ◌∙◌, subst, subst₂}
use mathlib.Core.Logic.{inl, inr}
use mathlib.Core.Bool.{Bool, true, false, cond}
use Prim.Native.Nat.{ℕ, ◌*◌, ◌^◌}
use native.Mathlib.Nat.{eq_of_mul-eq-mul_right, zero-mul}
use native.Mathlib.Omega.{arith}
use lib.Dec.{ltb, eqb, lit<}
use borrow.Author.Tests.{eqb-true}
use lib.IntN.{ℤ, pos, ◌-ℤ◌}
use lib.Ieee.{Float, nan, inf, fin, up, down, binary64, of_bits, to_bits}
use lib.Ieee.Bits.{of_bits-fits, of_bits-to_bits, to_bits-lt}
use lib.Ieee.Fits.{down_pos}
use Rattle.terms.specs.declared.Refusal.TheVariants.{NotFinite, TooLarge, TooSmall, MinusZero}
use Rattle.terms.specs.declared.Rule.{Rule}
use Rattle.float.specs.Word.{negative, mantissa, exponent, size88, value}
use Rattle.promises.specs.FloatWords.{FloatWord}
use Rattle.promises.proofs.float.Moved.{word_size}
use Rattle.promises.proofs.float.Kept.{same_word}
use Rattle.promises.proofs.float.RulePair.{one_pair_by}
use Rattle.promises.specs.HostFloats.{HasWord, Endless, IsMinusZero, Small, BroughtTo, LargeBy}
use Rattle.float.specs.declared.Flagged.{Flagged}
use Rattle.host_floats.specs.Double.{double_field, double_bits, brought_of, inward_of}
use Rattle.host_floats.specs.declared.entry.Inward.{Inward}
use Rattle.host_floats.specs.declared.entry.Inward.TheVariants.{Exact, Rounded, Refused}
use Rattle.promises.proofs.host_floats.Signs.{of_signed, united}
use Rattle.host_floats.proofs.WordSizes.{size_zero}
use Rattle.promises.proofs.host_floats.Back.{word_not_minus}
use Rattle.promises.proofs.host_floats.Apart.{one_word, held_endless, held_small, endless_small, endless_minus, minus_small}
use Rattle.host_floats.proofs.DoubleOut.{double_value_lem}
use Rattle.promises.proofs.host_floats.Pairs.{Reaches, word_below}
use Rattle.promises.proofs.host_floats.Brought.{held_large_by, endless_large_by, minus_large_by, small_large_by, Right, exact, rounded, endless, minus}
use Rattle.promises.proofs.host_floats.Brought.{small}
use Rattle.promises.proofs.host_floats.Brought.{large, own_word, right}

-- ---- a float that the rule brings to a word
pub brought_endless : (r : Rule) (x : Float) (w : ℕ) → BroughtTo r x w → Endless x → ⊥
brought_endless r nan w b t = b.pair
brought_endless r (inf s) w b t = b.pair
brought_endless r (fin s n k) w b t = t

pub brought_large : (r : Rule) (x : Float) (w : ℕ) → BroughtTo r x w → LargeBy r x → ⊥
brought_large r nan w b l = b.pair
brought_large r (inf s) w b l = b.pair
brought_large r (fin s n k) w b l =
    let one = one_pair_by r (n * up k) (down k) l.m (mantissa w) l.e (exponent w) (down_pos k) l.pair b.pair in
    word_below w (subst₂ (λ (m : ℕ) (e : ℤ). Reaches m (e -ℤ pos 24)) one.0 one.1 l.reaches)

-- minus zero has the zero word's value
minus_held : (x : Float) → IsMinusZero x → HasWord x 0
minus_held nan t = absurd t
minus_held (inf s) t = absurd t
minus_held (fin s n k) t = record {
  word = record { fits = lit< tt; is_proper = refl };
  same = united s n k 0
      (ap (λ (y : ℕ). y * up k * 2 ^ 88) t.1 ∙ ap (λ (y : ℕ). y * 2 ^ 88) (zero-mul (up k)) ∙ sym (ap (λ (y : ℕ). y * down k) size_zero ∙ zero-mul (down k)))
      (inr size_zero);
}

-- it is one word
size_by : (w v : ℕ) → mantissa w ≡ mantissa v → exponent w ≡ exponent v → size88 w ≡ size88 v
size_by w v m e =
    let x = exponent w -ℤ pos 24 in
    eq_of_mul-eq-mul_right (down x) (down_pos x) (size88 w) (size88 v)
    (word_size w ∙ subst₂ (λ (i : ℕ) (z : ℤ). mantissa w * (2 ^ 88 * up x) ≡ i * (2 ^ 88 * up (z -ℤ pos 24))) m e refl ∙ sym (word_size v)
    ∙ ap (λ (z : ℤ). size88 v * down (z -ℤ pos 24)) (sym e))

value_by : (w v : ℕ) → negative w ≡ negative v → size88 w ≡ size88 v → value w ≡ value v
unfolding value
value_by w v s e = of_signed (negative w) (negative v) (size88 w) (size88 v) e (inl s)

pub brought_once : (r : Rule) (x : Float) (w v : ℕ) → BroughtTo r x w → BroughtTo r x v → w ≡ v
brought_once r nan w v a b = absurd a.pair
brought_once r (inf s) w v a b = absurd a.pair
brought_once r (fin s n k) w v a b =
    let one = one_pair_by r (n * up k) (down k) (mantissa w) (mantissa v) (exponent w) (exponent v) (down_pos k) a.pair b.pair in
    same_word w v a.word b.word (value_by w v (sym a.sign ∙ b.sign) (size_by w v one.0 one.1))

-- ---- each answer, given the value
module _ (rule : Rule) (x : Float) (r : Inward) where
  pub answers_exact : (w : ℕ) → HasWord x w → (IsMinusZero x → ⊥) → Right rule x r → r ≡ Exact w
  answers_exact w a n (exact v e b k) = e ∙ ap Exact (one_word x v w b a)
  answers_exact w a n (rounded v y e b o k t) = absurd (k w a)
  answers_exact w a n (endless e b) = absurd (held_endless x w a b)
  answers_exact w a n (minus e b) = absurd (n b)
  answers_exact w a n (small e b) = absurd (held_small x w a b)
  answers_exact w a n (large e b) = absurd (held_large_by rule x w a b)

  pub answers_rounded : (w : ℕ) → BroughtTo rule x w → ((v : ℕ) → HasWord x v → ⊥) → (Small x → ⊥) → Right rule x r → (y : Float) × (r ≡ Rounded w y)
  answers_rounded w a n t (exact v e b k) = absurd (n v b)
  answers_rounded w a n t (rounded v y e b o k u) = (y, e ∙ ap (λ (i : ℕ). Rounded i y) (brought_once rule x v w b a))
  answers_rounded w a n t (endless e b) = absurd (brought_endless rule x w a b)
  answers_rounded w a n t (minus e b) = absurd (n 0 (minus_held x b))
  answers_rounded w a n t (small e b) = absurd (t b)
  answers_rounded w a n t (large e b) = absurd (brought_large rule x w a b)

  pub answers_endless : Endless x → Right rule x r → r ≡ Refused NotFinite
  answers_endless a (exact v e b k) = absurd (held_endless x v b a)
  answers_endless a (rounded v y e b o k t) = absurd (brought_endless rule x v b a)
  answers_endless a (endless e b) = e
  answers_endless a (minus e b) = absurd (endless_minus x a b)
  answers_endless a (small e b) = absurd (endless_small x a b)
  answers_endless a (large e b) = absurd (endless_large_by rule x a b)

  pub answers_minus : IsMinusZero x → Right rule x r → r ≡ Refused MinusZero
  answers_minus a (exact v e b k) = absurd (k a)
  answers_minus a (rounded v y e b o k t) = absurd (k 0 (minus_held x a))
  answers_minus a (endless e b) = absurd (endless_minus x b a)
  answers_minus a (minus e b) = e
  answers_minus a (small e b) = absurd (minus_small x a b)
  answers_minus a (large e b) = absurd (minus_large_by rule x a b)

  pub answers_small : Small x → Right rule x r → r ≡ Refused TooSmall
  answers_small a (exact v e b k) = absurd (held_small x v b a)
  answers_small a (rounded v y e b o k t) = absurd (t a)
  answers_small a (endless e b) = absurd (endless_small x b a)
  answers_small a (minus e b) = absurd (minus_small x b a)
  answers_small a (small e b) = e
  answers_small a (large e b) = absurd (small_large_by rule x a b)

  pub answers_large : LargeBy rule x → Right rule x r → r ≡ Refused TooLarge
  answers_large a (exact v e b k) = absurd (held_large_by rule x v b a)
  answers_large a (rounded v y e b o k t) = absurd (brought_large rule x v b a)
  answers_large a (endless e b) = absurd (endless_large_by rule x b a)
  answers_large a (minus e b) = absurd (minus_large_by rule x b a)
  answers_large a (small e b) = absurd (small_large_by rule x b a)
  answers_large a (large e b) = e

-- ---- out and back
pub double_back : (rule : Rule) (w : ℕ) → FloatWord w → inward_of rule (to_bits binary64 (of_bits binary64 (double_bits w))) ≡ Exact w
double_back rule w f =
    let x = of_bits binary64 (double_bits w) in
    let fit = of_bits-fits binary64 (double_bits w) in
    let again : of_bits binary64 (to_bits binary64 x) ≡ x = of_bits-to_bits binary64 x fit in
    answers_exact rule (of_bits binary64 (to_bits binary64 x)) (inward_of rule (to_bits binary64 x)) w
    (subst (λ (z : Float). HasWord z w) (sym again) (own_word w f))
    (subst (λ (z : Float). IsMinusZero z → ⊥) (sym again) (word_not_minus x w f.is_proper (double_value_lem w f.is_proper)))
    (right rule (to_bits binary64 x) (to_bits-lt binary64 x fit))

-- ---- in and back: the f64 that a word was exact for has the word's own bits
pub exact_bits : (rule : Rule) (p w : ℕ) → inward_of rule p ≡ Exact w → double_bits w ≡ p
unfolding inward_of
exact_bits rule p w e =
    go (eqb (double_field p) 2047) (eqb p (2 ^ 63)) (eqb p 0) (ltb (double_field p) 958) (eqb r.error 0) (eqb (double_bits r.word) p) refl refl e
  where
    r : Flagged
    r = brought_of rule p

    go : (t₁ t₂ t₃ t₄ t₅ t₆ : Bool) → eqb p 0 ≡ t₃ → eqb (double_bits r.word) p ≡ t₆
        → cond t₁ (Refused NotFinite)
        (cond t₂ (Refused MinusZero)
        (cond t₃ (Exact 0)
        (cond t₄ (Refused TooSmall) (cond t₅ (cond t₆ (Exact r.word) (Rounded r.word (of_bits binary64 (double_bits r.word)))) (Refused TooLarge)))))
        ≡ Exact w → double_bits w ≡ p
    go true t₂ t₃ t₄ t₅ t₆ e₃ e₆ e = let z : ◌≡◌ {A = ℕ} 0 1 = (cc) in absurd (omega arith)
    go false true t₃ t₄ t₅ t₆ e₃ e₆ e = let z : ◌≡◌ {A = ℕ} 0 1 = (cc) in absurd (omega arith)
    go false false true t₄ t₅ t₆ e₃ e₆ e = let f : 0 ≡ w = (cc) in ap double_bits (sym f) ∙ sym (eqb-true p 0 e₃)
    go false false false true t₅ t₆ e₃ e₆ e = let z : ◌≡◌ {A = ℕ} 0 1 = (cc) in absurd (omega arith)
    go false false false false true true e₃ e₆ e = let f : r.word ≡ w = (cc) in ap double_bits (sym f) ∙ eqb-true (double_bits r.word) p e₆
    go false false false false true false e₃ e₆ e = let z : ◌≡◌ {A = ℕ} 0 1 = (cc) in absurd (omega arith)
    go false false false false false t₆ e₃ e₆ e = let z : ◌≡◌ {A = ℕ} 0 1 = (cc) in absurd (omega arith)
