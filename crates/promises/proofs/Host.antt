-- The statements on host floats: what is answered is right for the value, of right answers there is one, and so each number and each word is given exactly
-- where it is due. Assumes nothing.
use mathlib.Core.Path.{◌≡◌, refl, sym, ap, ◌∙◌, subst}
use mathlib.Core.Logic.{inl, inr}
use mathlib.Core.Bool.{true, cond}
use Prim.Native.Nat.{ℕ, ◌^◌, ◌<◌}
use lib.Dec.{eqb}
use lib.Ieee.{Float, binary32, of_bits, to_bits}
use lib.Ieee.Bits.{of_bits-fits, of_bits-to_bits, to_bits-of_bits}
use lib.Ieee.Exact.{HasValue}
use Rattle.float.specs.Word.{negative, proper, size88}
use Rattle.host_floats.specs.Host.{host_bits, taken_of, host_reply, taken_reply}
use Rattle.promises.specs.HostFloats.{HasWord, Endless, IsMinusZero, Large, Small}
use Rattle.host_floats.specs.declared.Taken.{Taken}
use Rattle.host_floats.specs.declared.Taken.TheVariants.{Word}
use Rattle.host_floats.proofs.Outward.{word_value, goes, stays, plain}
use Rattle.promises.proofs.host_floats.Apart.{held_endless, held_large, held_small, endless_minus, endless_large, endless_small, minus_large}
use Rattle.promises.proofs.host_floats.Apart.{minus_small, large_small}
use Rattle.promises.proofs.host_floats.Classes.{minus_right, minus_bits, zero_right}
use Rattle.promises.proofs.host_floats.Inward.{Right, held, endless, minus, large, small, right}
use Rattle.promises.proofs.host_floats.Back.{answers_word, answers_endless, answers_minus, answers_large, answers_small, word_back, bits_back}
use Rattle.promises.specs.Host.{outward, inward, number, Gives, ValueKept, AcceptedExactly, OneException, Answered, RefusedExactly, WordBack, FloatBack}

-- the f32 of a word
abbrev out : ℕ → Float
out w = of_bits binary32 (host_bits w)

-- it is the f32 that the reply's bits stand for
again : (w : ℕ) → proper w ≡ true → out w ≡ of_bits binary32 (outward w).bits
again w e =
    sym (of_bits-to_bits binary32 (out w) (of_bits-fits binary32 (host_bits w))) ∙ ap (λ h. of_bits binary32 (host_reply h).bits) (sym (goes w e))

pub value_kept : ValueKept
unfolding size88
value_kept w l = (
  λ e. (ap (λ h. number (host_reply h)) (goes w e), subst (λ (x : Float). HasValue x (negative w) (size88 w) (2 ^ 88)) (again w e) (word_value w e)),
  λ e. ap (λ h. number (host_reply h)) (stays w e),
)

-- ---- from the right answer to its number and bits
abbrev number_in : Taken → ℕ
number_in r = number (taken_reply r)

abbrev bits_in : Taken → ℕ
bits_in r = (taken_reply r).bits

-- why an answer to x has a number: 0 with a proper word of its value and x not minus zero, or 10, 15, 11, 12
abbrev Because : Float → Taken → ℕ → Type 0
Because x r n =
    cond (eqb n 0) ((r ≡ Word (bits_in r)) × HasWord x (bits_in r) × (IsMinusZero x → ⊥))
    (cond (eqb n 10) (Endless x)
    (cond (eqb n 15) (IsMinusZero x)
    (cond (eqb n 11) (Large x)
    (cond (eqb n 12) (Small x) ⊥))))

module _ (x : Float) (r : Taken) where
  because : Right x r → Because x r (number_in r)
  because (held w e b n) =
      let f : w ≡ bits_in r = sym (ap bits_in e) in
      subst (Because x r) (sym (ap number_in e)) (e ∙ ap Word f, subst (HasWord x) f b, n)
  because (endless e b) = subst (Because x r) (sym (ap number_in e)) b
  because (minus e b) = subst (Because x r) (sym (ap number_in e)) b
  because (large e b) = subst (Because x r) (sym (ap number_in e)) b
  because (small e b) = subst (Because x r) (sym (ap number_in e)) b

  answered : Right x r → Answered (number_in r)
  answered (held w e b n) = inl (ap number_in e)
  answered (endless e b) = inr (inl (ap number_in e))
  answered (minus e b) = inr (inr (inl (ap number_in e)))
  answered (large e b) = inr (inr (inr (inl (ap number_in e))))
  answered (small e b) = inr (inr (inr (inr (ap number_in e))))

  gives_word_lem : (w : ℕ) → HasWord x w × (IsMinusZero x → ⊥) → Right x r → Gives (taken_reply r) w
  gives_word_lem w a h =
      let e : r ≡ Word w = answers_word x r w a.0 a.1 h in
      record { done = ap number_in e; bits_are = ap bits_in e }

  word_given : (w : ℕ) → Gives (taken_reply r) w → Right x r → HasWord x w × (IsMinusZero x → ⊥)
  word_given w g h =
      let b = subst (Because x r) g.done (because h) in
      (subst (HasWord x) g.bits_are b.1, b.2)

pub accepted_exactly : AcceptedExactly
accepted_exactly p l w =
    let x = of_bits binary32 p in (
      λ g. let a = word_given x (taken_of p) w g (right p l) in (a.0, a.1),
      λ a. gives_word_lem x (taken_of p) w (a.0, a.1) (right p l),
    )

pub one_exception : OneException
one_exception = (λ p l. (λ t. minus_bits binary32 p l t, λ e. minus_right binary32 p e), zero_right binary32 (2 ^ 31) refl)

pub refused_exactly : RefusedExactly
refused_exactly p l =
    let x = of_bits binary32 p in
    let r = taken_of p in
    let h = right p l in (
      answered x r h,
      (λ d. subst (Because x r) d (because x r h), λ a. ap number_in (answers_endless x r a h)),
      (λ d. subst (Because x r) d (because x r h), λ a. ap number_in (answers_minus x r a h)),
      (λ d. subst (Because x r) d (because x r h), λ a. ap number_in (answers_large x r a h)),
      (λ d. subst (Because x r) d (because x r h), λ a. ap number_in (answers_small x r a h)),
      (
        endless_minus x,
        endless_large x,
        endless_small x,
        minus_large x,
        minus_small x,
        large_small x,
        λ w a. (held_endless x w a, held_large x w a, held_small x w a),
      ),
    )

pub word_comes_back : WordBack
word_comes_back w f =
    let p = to_bits binary32 (out w) in
    let e : (outward w).bits ≡ p = ap (λ h. (host_reply h).bits) (goes w f.is_proper) in
    let b = word_back w f in
    subst (λ (n : ℕ). Gives (inward n) w) (sym e) record { done = ap number_in b; bits_are = ap bits_in b }

-- the reply to a proper word carries the bits of its f32
gives_float : (w p : ℕ) → p < 2 ^ 32 → proper w ≡ true → host_bits w ≡ p → Gives (outward w) p
gives_float w p l e f =
    let same : to_bits binary32 (out w) ≡ host_bits w =
    to_bits-of_bits binary32 (host_bits w) (subst (λ (n : ℕ). n < 2 ^ 32) (sym f) l) (plain w (out w) (goes w e)) in
    record { done = ap (λ h. number (host_reply h)) (goes w e); bits_are = ap (λ h. (host_reply h).bits) (goes w e) ∙ same ∙ f }

-- the f32 that became a word comes back from it
pub float_comes_back : FloatBack
float_comes_back p l d =
    let x = of_bits binary32 p in
    let r = taken_of p in
    let w = bits_in r in
    let b = subst (Because x r) d (because x r (right p l)) in
    gives_float w p l b.1.word.is_proper (bits_back p w l b.0)
