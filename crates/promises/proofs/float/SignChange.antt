-- CHSF gives the opposite value, so it turns the order round, and FSUB is FADD of the changed sign. Assumes nothing.
use mathlib.Core.Path.{◌≡◌, refl, sym, ap, ap₂, ◌∙◌, subst, subst₂}
use mathlib.Core.Bool.{Bool, true, false, not, cond, ◌||◌}
use Prim.Native.Nat.{ℕ, ◌+◌, ◌-◌, ◌*◌, ◌^◌, ◌≤◌, ◌<◌}
use native.Mathlib.Omega.{arith}
use borrow.Author.Tests.{le-leb, lt-leb, leb-true, leb-false, eqb-true}
use lib.Dec.{leb, eqb, lit<}
use lib.IntN.{ℤ, neg_ℤ, ◌+ℤ◌}
use lib.Signed.{◌≤ℤ◌}
use Rattle.numbers.specs.Signed.{with_sign}
use Rattle.numbers.proofs.Differences.{le_opposite}
use Rattle.numbers.proofs.Signs.{opposite}
use Rattle.float.specs.Word.{negative, biased, mantissa, size88, value, FloatWord}
use Rattle.terms.specs.declared.Rule.{Rule}
use Rattle.float.specs.Cut.{cut}
use Rattle.float.specs.Float.{add, sub}
use Rattle.float.specs.Convert.{chsf}
use Rattle.promises.proofs.float.Order.{Le}

flip_down : (w : ℕ) → 2147483648 ≤ w → 8388608 ≤ mantissa w → chsf w ≡ w - 2147483648
unfolding chsf
flip_down w n m = rw (le-leb 8388608 (mantissa w) m, le-leb 2147483648 w n)

flip_up : (w : ℕ) → w < 2147483648 → 8388608 ≤ mantissa w → chsf w ≡ w + 2147483648
unfolding chsf
flip_up w n m = rw (le-leb 8388608 (mantissa w) m, lt-leb 2147483648 w n)

-- v is proper and has the opposite value of w
record Opposed (w v : ℕ) : Type 0 where
  word : FloatWord v
  turned : value v ≡ neg_ℤ (value w)

sizes : (w v : ℕ) → mantissa v ≡ mantissa w → biased v ≡ biased w → size88 v ≡ size88 w
unfolding size88
sizes w v m e = ap₂ (λ (x y : ℕ). x * 2 ^ y) m e

opposed : (w v : ℕ) → 8388608 ≤ mantissa w → v < 4294967296 → mantissa v ≡ mantissa w → biased v ≡ biased w → negative v ≡ not (negative w) → Opposed w v
unfolding value
opposed w v l h m e n = record {
  word = record { fits = h; is_proper = rw (le-leb 8388608 (mantissa v) (omega arith)) };
  turned = ap₂ with_sign n (sizes w v m e) ∙ sym (opposite (negative w) (size88 w));
}

changed : (w : ℕ) → FloatWord w → Opposed w (chsf w)
changed w W = go (leb 8388608 (mantissa w)) refl (leb 2147483648 w) refl
  where
    none : w ≡ 0 → Opposed w (chsf w)
    none z = subst (λ (x : ℕ). Opposed x (chsf x)) (sym z) (unfold chsf value in record { word = record { fits = lit< tt; is_proper = refl }; turned = refl })

    go : (t : Bool) → leb 8388608 (mantissa w) ≡ t → (n : Bool) → leb 2147483648 w ≡ n → Opposed w (chsf w)
    go false e n f = none (eqb-true w 0 (sym (ap (λ (b : Bool). b || eqb w 0) e) ∙ W.is_proper))
    go true e true f =
        let m = leb-true 8388608 (mantissa w) e in
        let g = leb-true 2147483648 w f in
        let W32 = W.fits in
        subst (λ (x : ℕ). Opposed w x) (sym (flip_down w g m))
        (opposed w (w - 2147483648) m (omega arith) (omega arith) (omega arith) (lt-leb 2147483648 (w - 2147483648) (omega arith) ∙ sym (ap not f)))
    go true e false f =
        let m = leb-true 8388608 (mantissa w) e in
        let g = leb-false 2147483648 w f in
        subst (λ (x : ℕ). Opposed w x) (sym (flip_up w g m))
        (opposed w (w + 2147483648) m (omega arith) (omega arith) (omega arith) (le-leb 2147483648 (w + 2147483648) (omega arith) ∙ sym (ap not f)))

pub chsf_word : (w : ℕ) → FloatWord w → FloatWord (chsf w)
chsf_word w W = (changed w W).word

pub chsf_value : (w : ℕ) → FloatWord w → value (chsf w) ≡ neg_ℤ (value w)
chsf_value w W = (changed w W).turned

-- any word of 32 bits, proper or not, stays one
pub chsf_fits : (w : ℕ) → w < 4294967296 → chsf w < 4294967296
unfolding chsf
chsf_fits w h = go (leb 8388608 (mantissa w)) (leb 2147483648 w) (leb-false 2147483648 w)
  where
    go : (t n : Bool) → (n ≡ false → w < 2147483648) → cond t (cond n (w - 2147483648) (w + 2147483648)) w < 4294967296
    go false n f = h
    go true true f = omega arith
    go true false f = let l = f refl in omega arith

pub chsf_turns : (v w : ℕ) → FloatWord v → FloatWord w → Le v w → Le (chsf w) (chsf v)
chsf_turns v w A B h = subst₂ (λ (x y : ℤ). x ≤ℤ y) (sym (chsf_value w B)) (sym (chsf_value v A)) (le_opposite (value v) (value w) h)

-- FSUB is FADD of the changed sign
pub sub_is_add : (r : Rule) (b a : ℕ) → FloatWord a → sub r b a ≡ add r b (chsf a)
unfolding sub add
sub_is_add r b a A = ap (λ (z : ℤ). cut r (value b +ℤ z) (2 ^ 88)) (sym (chsf_value a A))
