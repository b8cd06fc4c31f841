-- What has 24 digits is kept whole, under either rule; so a proper word's own value is cut to that word, and two proper words of one value
-- are one word. Assumes nothing.
use mathlib.Core.Path.{◌≡◌, refl, sym, ap, ap₂, ◌∙◌, subst, subst₂}
use mathlib.Core.Logic.{◌⊎◌, inl, inr}
use mathlib.Core.Bool.{Bool, true, false, cond}
use Prim.Native.Nat.{ℕ, zero, suc, ◌+◌, ◌-◌, ◌*◌, ◌/◌, ◌%◌, ◌^◌, ◌≤◌, ◌<◌, compare}
use native.Mathlib.Nat.{le_refl, lt_of_lt_of_le, mul_assoc, mul_right_comm, mul-one, one-mul, zero-mul, mul-pos, mul-le-mul_right, mul-lt-mul_of_pos_right}
use native.Mathlib.Nat.{div-one, mod-one, mod-lt}
use native.Mathlib.Omega.{arith}
use borrow.Author.Tests.{leb-true, leb-false}
use lib.Dec.{leb, lit<}
use lib.IntN.{ℤ, pos, nat_abs, ◌*ℤ◌}
use lib.Pow.{pow-add, pow_pos}
use lib.Ieee.{size, nearest}
use lib.Ieee.Digits.{size-le}
use Rattle.numbers.specs.Signed.{with_sign}
use Rattle.numbers.proofs.Signs.{size_of_signed}
use Rattle.float.specs.declared.Flagged.{Flagged}
use Rattle.float.specs.Word.{negative, biased, mantissa, size88, value}
use Rattle.promises.specs.FloatWords.{FloatWord}
use Rattle.terms.specs.declared.Rule.{Rule}
use Rattle.terms.specs.declared.Rule.TheVariants.{Cut, Nearest}
use Rattle.float.specs.Cut.{whole, lost, packed, stored, below0, cut_size, cut}
use Rattle.float.proofs.Powers.{parted}
use Rattle.float.proofs.word.Proper.{proper_cases}
use Rattle.float.proofs.cut.Pair.{whole_same, lost_is, cut_of, cut_zero}
use Rattle.float.proofs.cut.Jams.{same_cut, stands_cut}
use Rattle.float.proofs.cut.Signs.{signed_parts, nought, times_size, cut_sign}
use Rattle.float.proofs.cut.Values.{grid, error_in_lem}

-- ---- under either rule a whole number stays
whole_one : (r : Rule) (q : ℕ) → whole r q 1 ≡ q
whole_one Cut q = div-one q
whole_one Nearest q = ap₂ (λ (x y : ℕ). nearest x (compare (y * 2) 1)) (div-one q) (mod-one q)

pub whole_exact : (r : Rule) (q u : ℕ) → 0 < u → whole r (q * u) u ≡ q
whole_exact r q u U = whole_same r (q * u) u q 1 U (le_refl 1) (mul-one (q * u)) ∙ whole_one r q

-- a magnitude of at most 24 digits, at any place
kept_whole : (r : Rule) (j k : ℕ) → j < 16777216 → grid r (j * 2 ^ k) 1 ≡ j * 2 ^ k
kept_whole r j k h =
    let n = j * 2 ^ k in
    let e = lost n 1 in
    let l : e ≤ k = less (size (n / 1)) k (size-le (n / 1) (24 + k) (subst₂ (λ (x y : ℕ). x < y) (sym (div-one n)) (sym (pow-add 2 24 k))
    (mul-lt-mul_of_pos_right h (pow_pos k)))) in
    let p : n ≡ j * 2 ^ (k - e) * (1 * 2 ^ e) = parted j k (k - e) e (omega arith) ∙ ap (λ (x : ℕ). j * 2 ^ (k - e) * x) (sym (one-mul (2 ^ e))) in
    ap (λ (x : ℕ). x * 2 ^ e) (ap (λ (x : ℕ). whole r x (1 * 2 ^ e)) p ∙ whole_exact r (j * 2 ^ (k - e)) (1 * 2 ^ e) (mul-pos (le_refl 1) (pow_pos e)))
    ∙ sym (parted j k (k - e) e (omega arith))
  where
    less : (z k : ℕ) → z ≤ 24 + k → z - 24 ≤ k
    less z k g = omega arith

-- the same as a fraction n / d
pub fits_exact : (r : Rule) (n d j k : ℕ) → 0 < d → j < 16777216 → n ≡ j * 2 ^ k * d → grid r n d ≡ j * 2 ^ k
fits_exact r n d j k D h e =
    let c = same_cut r n d (j * 2 ^ k) 1 D (le_refl 1) (mul-one n ∙ e) in
    ap₂ (λ (x y : ℕ). x * 2 ^ y) c.0 c.1 ∙ kept_whole r j k h

-- ---- a mantissa of 24 digits keeps its place
own_place : (r : Rule) (s : Bool) (m k : ℕ) → 8388608 ≤ m → m < 16777216 → cut_size r s (m * 2 ^ k) 1 ≡ stored s m k
own_place r s m k lo hi =
    let U : 0 < 1 * 2 ^ k = mul-pos (le_refl 1) (pow_pos k) in
    let n : m * 2 ^ k ≡ m * (1 * 2 ^ k) = ap (λ (x : ℕ). m * x) (sym (one-mul (2 ^ k))) in
    let l : lost (m * 2 ^ k) 1 ≡ k =
    lost_is (m * 2 ^ k) 1 k (le_refl 1) (subst (λ (x : ℕ). 8388608 * (1 * 2 ^ k) ≤ x) (sym n) (mul-le-mul_right (1 * 2 ^ k) lo))
    (subst (λ (x : ℕ). x < 16777216 * (1 * 2 ^ k)) (sym n) (mul-lt-mul_of_pos_right hi U)) in
    cut_of r s (m * 2 ^ k) 1 m k (mul-pos (lt_of_lt_of_le (lit< tt) lo) (pow_pos k)) hi
    (ap (λ (x : ℕ). whole r (m * 2 ^ k) (1 * 2 ^ x)) l ∙ ap (λ (x : ℕ). whole r x (1 * 2 ^ k)) n ∙ whole_exact r m (1 * 2 ^ k) U, l)

-- ---- a word is the packing of its fields
repacked : (w : ℕ) → w < 4294967296 → packed (negative w) (mantissa w) (biased w + 112) ≡ w
unfolding packed
repacked w h = go (leb 2147483648 w) (leb-true 2147483648 w) (leb-false 2147483648 w)
  where
    go : (s : Bool) → (s ≡ true → 2147483648 ≤ w) → (s ≡ false → w < 2147483648) → cond s 2147483648 0 + ((w / 16777216 + 64) % 128 + 112 + 80) % 128 * 16777216
        + w % 16777216 ≡ w
    go true a b = let c = a refl in omega arith
    go false a b = let c = b refl in omega arith

spread : (m b d : ℕ) → m * 2 ^ b * d * 2 ^ 112 ≡ m * (d * 2 ^ (b + 112))
spread m b d =
    ap (λ (x : ℕ). x * 2 ^ 112) (mul_right_comm m (2 ^ b) d) ∙ mul_assoc (m * d) (2 ^ b) (2 ^ 112)
    ∙ ap (λ (x : ℕ). m * d * x) (sym (pow-add 2 b 112)) ∙ mul_assoc m d (2 ^ (b + 112))

-- The exact value z / d is the value of a proper word w: it is cut to w, with no error.
pub own_value : (r : Rule) (w : ℕ) (z : ℤ) (d : ℕ) → FloatWord w → 0 < d → value w *ℤ pos d ≡ z *ℤ pos (2 ^ 88) → cut r z d ≡ record { word = w; error = 0 }
own_value r w z d W D e = go (proper_cases w W.is_proper)
  where
    signs : with_sign (below0 (value w)) (nat_abs (value w) * d) ≡ with_sign (below0 z) (nat_abs z * 2 ^ 88)
    signs = sym (times_size (value w) d) ∙ e ∙ times_size z (2 ^ 88)

    sized : nat_abs (value w) ≡ size88 w
    sized = unfold value in size_of_signed (negative w) (size88 w)

    sizes : size88 w * d ≡ nat_abs z * 2 ^ 88
    sizes =
        ap (λ (x : ℕ). x * d) (sym sized) ∙ sym (size_of_signed (below0 (value w)) (nat_abs (value w) * d)) ∙ ap nat_abs signs
        ∙ size_of_signed (below0 z) (nat_abs z * 2 ^ 88)

    zeroed : (x : ℕ) → x * 2 ^ 88 ≡ 0 → x ≡ 0
    zeroed x f = omega arith

    none : w ≡ 0 → z ≡ pos 0
    none f = nought z (zeroed (nat_abs z) (sym sizes ∙ ap (λ (x : ℕ). size88 x * d) f ∙ (unfold size88 in zero-mul d)))

    -- the sign of a number that is not zero
    sign_of : (s t : Bool) (x : ℕ) → with_sign s (suc x) ≡ with_sign t (suc x) → s ≡ t
    sign_of true true x f = refl
    sign_of false false x f = refl
    sign_of true false x f = ap below0 f
    sign_of false true x f = ap below0 f

    sign_pos : (s t : Bool) (x : ℕ) → 0 < x → with_sign s x ≡ with_sign t x → s ≡ t
    sign_pos s t zero h f = absurd (omega arith)
    sign_pos s t (suc x) h f = sign_of s t x f

    turn : 0 < size88 w → below0 z ≡ negative w
    turn h =
        let X : 0 < nat_abs z * 2 ^ 88 = subst (λ (x : ℕ). 0 < x) sizes (mul-pos h D) in
        sign_pos (below0 z) (negative w) (nat_abs z * 2 ^ 88) X (sym signs ∙ ap₂ with_sign (own h) (ap (λ (x : ℕ). x * d) sized ∙ sizes))
      where
        own : 0 < size88 w → below0 (value w) ≡ negative w
        own g = unfold value in sign_pos (below0 (value w)) (negative w) (size88 w) g (ap (λ (x : ℕ). with_sign (below0 (value w)) x) (sym sized)
            ∙ sym (signed_parts (value w)))

    go : (w ≡ 0) ⊎ (8388608 ≤ mantissa w) → cut r z d ≡ record { word = w; error = 0 }
    go (inl f) =
        ap (λ (x : ℤ). cut r x d) (none f) ∙ cut_sign r false 0 d ∙ cut_zero r false (0 * 2 ^ 200) d refl
        ∙ ap (λ (x : ℕ). record { word = x; error = 0 }) (sym f)
    go (inr l) =
        let m = mantissa w in
        let k = biased w + 112 in
        let P : 0 < size88 w = unfold size88 in mul-pos (lt_of_lt_of_le (lit< {m = 0} {n = 8388608} tt) l) (pow_pos (biased w)) in
        let m24 : m < 16777216 = mod-lt w (lit< tt) in
        ap (λ (x : ℤ). cut r x d) (signed_parts z) ∙ cut_sign r (below0 z) (nat_abs z) d
        ∙ ap (λ (s : Bool). cut_size r s (nat_abs z * 2 ^ 200) d) (turn P)
        ∙ stands_cut r (negative w) (nat_abs z * 2 ^ 200) d m k D (inl place)
        ∙ own_place r (negative w) m k l m24
        ∙ ap₂ (λ (x y : ℕ). record { word = x; error = y }) (repacked w W.fits) (error_in_lem k (omega arith) (omega arith))
      where
        place : nat_abs z * 2 ^ 200 ≡ mantissa w * (d * 2 ^ (biased w + 112))
        place = parted (nat_abs z) 200 88 112 refl ∙ ap (λ (x : ℕ). x * 2 ^ 112) (sym sizes) ∙ (unfold size88 in spread (mantissa w) (biased w) d)

-- two proper words of one value are one word
pub same_word : (v w : ℕ) → FloatWord v → FloatWord w → value v ≡ value w → v ≡ w
same_word v w A B e =
    ap (λ (x : Flagged). x.word)
    (sym (own_value Cut v (value v) (2 ^ 88) A (pow_pos 88) refl) ∙ own_value Cut w (value v) (2 ^ 88) B (pow_pos 88)
    (ap (λ (z : ℤ). z *ℤ pos (2 ^ 88)) (sym e)))
