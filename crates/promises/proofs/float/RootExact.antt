-- SQRT gives the one pair of the root and no error, under either rule, keeps the order of words not below zero, and is exact where the root is a word. Assumes
-- nothing.
use mathlib.Core.Path.{◌≡◌, refl, sym, ap, ap₂, ◌∙◌, subst, subst₂}
use mathlib.Core.Logic.{◌⊎◌, inl, inr}
use mathlib.Core.Bool.{Bool, true, false}
use Prim.Native.Nat.{ℕ, ◌+◌, ◌-◌, ◌*◌, ◌^◌, ◌≤◌, ◌<◌}
use native.Mathlib.Nat.{le_refl, le_trans, lt_of_lt_of_le, lt_of_le_of_lt, eq-zero-or-pos, mul_assoc, mul_comm, mul-one, mul-mul-mul_comm, mul-le-mul}
use native.Mathlib.Nat.{mul-le-mul_right, mul-lt-mul_of_pos_right, le_of_mul-le-mul_right, lt_of_mul-lt-mul_right}
use native.Mathlib.Omega.{arith}
use borrow.Author.Tests.{lt-ltb}
use lib.Dec.{lit<, lit≤}
use lib.IntN.{ℤ, pos, sub_ℕ, ◌+ℤ◌, ◌-ℤ◌, ◌*ℤ◌, -ℤ-+ℤ_cancel}
use lib.Signed.{◌≤ℤ◌}
use lib.Ieee.{up, down}
use lib.Pow.{pow-add, pow_pos}
use Rattle.numbers.specs.Signed.{with_sign}
use Rattle.numbers.proofs.Differences.{sum_differences, same, above, beneath, parts, le_differences, less_difference}
use Rattle.float.specs.declared.Flagged.{Flagged}
use Rattle.float.specs.Word.{negative, size88, value, proper}
use Rattle.promises.specs.FloatWords.{FloatWord}
use Rattle.terms.specs.declared.Rule.{Rule}
use Rattle.terms.specs.declared.Rule.TheVariants.{Cut, Nearest}
use Rattle.float.specs.Cut.{lost, kept, mantissa_of, digits_of, stored, cut_size}
use Rattle.float.specs.Root.{whole_root, root_halves, radicand, sqrt}
use Rattle.float.proofs.Powers.{parted}
use Rattle.float.proofs.cut.Signs.{signed_le, le_signed, cut_scaled}
use Rattle.float.proofs.cut.Pair.{PairAt, kept_le, cuts_only, cuts_one, grid_mono}
use Rattle.float.proofs.cut.Jams.{stands_cut}
use Rattle.promises.proofs.float.OnePair.{to_le, from_le, to_lt, from_lt}
use Rattle.float.proofs.cut.Values.{packed_mantissa, packed_sign, digits_near, cut_stored, cut_value}
use Rattle.promises.proofs.float.Steps.{steps, place_most, size-lt}
use Rattle.float.proofs.Results.{kept_big, mantissa_big}
use Rattle.promises.proofs.float.NearPair.{near_one}
use Rattle.promises.proofs.float.NearRoot.{squares_of, near_at, one_near_root}
use Rattle.promises.proofs.float.Kept.{own_value}
use Rattle.float.proofs.root.WholeRoot.{is_root, root_ge, root_lt, halves_square, halves_near, halves_mono}
use Rattle.float.proofs.root.RootCut.{root_negative, root_cut, root_none}
use Rattle.promises.specs.FloatResults.{square_exponent, RootPair, RootBy, RootCutsBy, ExactlyRootBy}
use Rattle.promises.proofs.float.NearPair.{Marks}
use Rattle.promises.proofs.float.NearRoot.{SquareMarks}
use Rattle.promises.proofs.float.Order.{Le}
use Rattle.float.proofs.cut.Pair.{lost_least}
use Rattle.float.proofs.Results.{size_ge, root_low}

-- ---- the pair of the root of n * 2 ^ (j + j), at k digits
abbrev pub RootAt : ℕ → ℕ → ℕ → ℕ → Type 0
RootAt n j m k = (m * 2 ^ k * (m * 2 ^ k) ≤ n * (2 ^ j * 2 ^ j)) × (n * (2 ^ j * 2 ^ j) < (m + 1) * 2 ^ k * ((m + 1) * 2 ^ k))

-- beside 2 ^ 88, as the pair compares
sides : (c k : ℕ) → c * c * 2 ^ 88 * 2 ^ (k + k) ≡ c * 2 ^ k * (c * 2 ^ k) * 2 ^ 88
sides c k =
    mul_assoc (c * c) (2 ^ 88) (2 ^ (k + k)) ∙ ap (λ (x : ℕ). c * c * x) (mul_comm (2 ^ 88) (2 ^ (k + k)))
    ∙ sym (mul_assoc (c * c) (2 ^ (k + k)) (2 ^ 88))
    ∙ ap (λ (x : ℕ). x * 2 ^ 88) (ap (λ (x : ℕ). c * c * x) (pow-add 2 k k) ∙ mul-mul-mul_comm c c (2 ^ k) (2 ^ k))

middle : (n j : ℕ) → n * 2 ^ (j + 44 + (j + 44)) ≡ n * (2 ^ j * 2 ^ j) * 2 ^ 88
middle n j = parted n (j + 44 + (j + 44)) (j + j) 88 (omega arith) ∙ ap (λ (x : ℕ). n * x * 2 ^ 88) (pow-add 2 j j)

module _ (n m k j : ℕ) (e : ℤ) (X : e -ℤ pos 24 ≡ sub_ℕ k (j + 44)) where
  scale : square_exponent e ≡ sub_ℕ (k + k) (j + 44 + (j + 44))
  scale = ap₂ ◌+ℤ◌ X X ∙ sum_differences k (j + 44) k (j + 44)

  split : (c : ℕ) → c * c * (2 ^ 88 * up (square_exponent e)) ≡ c * c * 2 ^ 88 * up (square_exponent e)
  split c = sym (mul_assoc (c * c) (2 ^ 88) (up (square_exponent e)))

  at_exponent : 8388608 ≤ m → m < 16777216 → RootAt n j m k → RootPair n m e
  at_exponent lo hi r = record {
    low = lo;
    high = hi;
    reached =
        subst (λ (x : ℕ). x ≤ n * down (square_exponent e)) (sym (split m))
        (from_le (m * m * 2 ^ 88) n (k + k) (j + 44 + (j + 44)) (square_exponent e) scale
        (subst₂ (λ (x y : ℕ). x ≤ y) (sym (sides m k)) (sym (middle n j)) (mul-le-mul_right (2 ^ 88) r.0)));
    passed =
        subst (λ (x : ℕ). n * down (square_exponent e) < x) (sym (split (m + 1)))
        (from_lt ((m + 1) * (m + 1) * 2 ^ 88) n (k + k) (j + 44 + (j + 44)) (square_exponent e) scale
        (subst₂ (λ (x y : ℕ). x < y) (sym (middle n j)) (sym (sides (m + 1) k)) (mul-lt-mul_of_pos_right r.1 (pow_pos 88))));
  }

  from_exponent : RootPair n m e → RootAt n j m k
  from_exponent p = (
    le_of_mul-le-mul_right (subst₂ (λ (x y : ℕ). x ≤ y) (sides m k) (middle n j)
        (to_le (m * m * 2 ^ 88) n (k + k) (j + 44 + (j + 44)) (square_exponent e) scale (subst (λ (x : ℕ). x ≤ n * down (square_exponent e)) (split m)
        p.reached))) (pow_pos 88),
    lt_of_mul-lt-mul_right (2 ^ 88) (subst₂ (λ (x y : ℕ). x < y) (middle n j) (sides (m + 1) k)
        (to_lt ((m + 1) * (m + 1) * 2 ^ 88) n (k + k) (j + 44 + (j + 44)) (square_exponent e) scale (subst (λ (x : ℕ). n * down (square_exponent e) < x)
        (split (m + 1)) p.passed))),
  )

-- the pair of the root is the pair of its whole part
whole_pair : (n j m k : ℕ) → 8388608 ≤ m → m < 16777216 → RootAt n j m k → PairAt (whole_root (n * (2 ^ j * 2 ^ j))) 1 m k
whole_pair n j m k lo hi r =
    let N = n * (2 ^ j * 2 ^ j) in
    let S = whole_root N in
    let a : m * 2 ^ k ≤ S = root_ge N S (m * 2 ^ k) (is_root N) r.0 in
    let b : S < (m + 1) * 2 ^ k = root_lt N S ((m + 1) * 2 ^ k) (is_root N) r.1 in
    (lo, hi, omega arith, omega arith)

pair_whole : (n j m k : ℕ) → PairAt (whole_root (n * (2 ^ j * 2 ^ j))) 1 m k → RootAt n j m k
pair_whole n j m k p =
    let N = n * (2 ^ j * 2 ^ j) in
    let S = whole_root N in
    let c = p.2 in
    let d = p.3 in
    let a : m * 2 ^ k ≤ S = omega arith in
    let b : S + 1 ≤ (m + 1) * 2 ^ k = omega arith in
    (le_trans (mul-le-mul a a) (is_root N).0, lt_of_lt_of_le (is_root N).1 (mul-le-mul b b))

-- ---- at most one
pub one_root : (n m m' : ℕ) (e e' : ℤ) → RootPair n m e → RootPair n m' e' → (m ≡ m') × (e ≡ e')
one_root n m m' e e' p p' =
    let x = e -ℤ pos 24 in
    let x' = e' -ℤ pos 24 in
    let j = beneath x + beneath x' in
    let k = above x + beneath x' + 44 in
    let k' = above x' + beneath x + 44 in
    let X : x ≡ sub_ℕ k (j + 44) = parts x ∙ same (above x) (beneath x) k (j + 44) (omega arith) in
    let X' : x' ≡ sub_ℕ k' (j + 44) = parts x' ∙ same (above x') (beneath x') k' (j + 44) (omega arith) in
    let S = whole_root (n * (2 ^ j * 2 ^ j)) in
    let c = cuts_only S 1 m k (le_refl 1) (whole_pair n j m k p.low p.high (from_exponent n m k j e X p)) in
    let c' = cuts_only S 1 m' k' (le_refl 1) (whole_pair n j m' k' p'.low p'.high (from_exponent n m' k' j e' X' p')) in
    let y : x ≡ x' = X ∙ ap (λ (z : ℕ). sub_ℕ z (j + 44)) (sym c.1 ∙ c'.1) ∙ sym X' in
    (sym c.0 ∙ c'.0, sym (-ℤ-+ℤ_cancel e (pos 24)) ∙ ap (λ (z : ℤ). z +ℤ pos 24) y ∙ -ℤ-+ℤ_cancel e' (pos 24))

-- ---- the digits that a root loses
root_most : (a : ℕ) → root_halves (radicand a) ≤ 16777215 * 2 ^ 208 * 2
root_most a =
    let N = radicand a in
    let s : whole_root N < 16777215 * 2 ^ 208 =
    root_lt N (whole_root N) (16777215 * 2 ^ 208) (is_root N) (lt_of_lt_of_le (mul-lt-mul_of_pos_right (size-lt a) (pow_pos 312))
    (lit≤ {m = 2 ^ 151 * 2 ^ 312} {n = 16777215 * 2 ^ 208 * (16777215 * 2 ^ 208)} tt)) in
    let c = (halves_near N).1 in
    under (whole_root N) (root_halves N) (16777215 * 2 ^ 208) s c
  where
    under : (s h p : ℕ) → s < p → h ≤ 2 * s + 1 → h ≤ p * 2
    under s h p x y = omega arith

halves_pair : (N m k : ℕ) → PairAt (root_halves N) 2 m k → PairAt (whole_root N) 1 m k
halves_pair N m k p =
    let c = p.2 in
    let d = p.3 in
    let lo = (halves_near N).0 in
    let hi = (halves_near N).1 in
    (p.0, p.1, omega arith, omega arith)

-- ---- SQRT under either rule: the one pair, no error, e from -32 to 32
root_pair : (r : Rule) (a : ℕ) → 8388608 * 2 ≤ root_halves (radicand a) → 2 ≤ digits_of (kept r (root_halves (radicand a)) 2) (lost (root_halves (radicand a)) 2)
    → RootBy r (size88 a) (mantissa_of (kept r (root_halves (radicand a)) 2))
    (sub_ℕ (digits_of (kept r (root_halves (radicand a)) 2) (lost (root_halves (radicand a)) 2)) 176)
root_pair Cut a big two =
    let n = root_halves (radicand a) in
    let c = cuts_one n 2 (lit< tt) big in
    let m = kept Cut n 2 in
    let k = lost n 2 in
    let t = lt-ltb m 16777216 c.1 in
    let M : mantissa_of m ≡ m = rw t refl in
    let K : digits_of m k ≡ k = rw t refl in
    subst₂ (λ (x y : ℕ). RootPair (size88 a) x (sub_ℕ y 176)) (sym M) (sym K)
    (at_exponent (size88 a) m k 156 (sub_ℕ k 176) (less_difference k 176 24) c.0 c.1 (pair_whole (size88 a) 156 m k (halves_pair (radicand a) m k c)))
root_pair Nearest a big two =
    let n = root_halves (radicand a) in
    let w = near_one n 2 (lit< tt) big in
    let m = mantissa_of (kept Nearest n 2) in
    let k = digits_of (kept Nearest n 2) (lost n 2) in
    let e : k ≡ k - 2 + 2 = omega arith in
    record {
      low = w.low;
      high = w.high;
      marks =
          near_at (size88 a) m k 156 (sub_ℕ k 176) (less_difference k 176 24)
          (subst (λ (x : ℕ). SquareMarks (radicand a) (2 ^ x * 2 ^ x) m) (sym e) (squares_of (radicand a) m (k - 2) (subst (λ (x : ℕ). Marks n (2 * 2 ^ x) m) e
          w.marks)));
    }

root_is : (r : Rule) (a : ℕ) → negative a ≡ false → 2 ^ 23 ≤ size88 a → RootCutsBy r (size88 a) (sqrt r a)
root_is r a s h =
    let n = root_halves (radicand a) in
    let q = kept r n 2 in
    let m = mantissa_of q in
    let k = digits_of q (lost n 2) in
    let low = root_low a h in
    let lo : 144 ≤ k = le_trans (lost_least n 2 144 (lit< tt) low) (digits_near q (lost n 2)).0 in
    let big : 8388608 * 2 ≤ n = le_trans (lit≤ {m = 8388608 * 2} {n = 2 ^ (23 + 144) * 2} tt) low in
    let hi : k ≤ 208 = place_most r n 2 208 (lit< tt) big (root_most a) in
    let M = (mantissa_big q (kept_big r n 2 (lit< tt) big) (kept_le r n 2)).1 in
    let e : sqrt r a ≡ stored false m k = root_cut r a s ∙ cut_stored r false n 2 (lt_of_lt_of_le (lit< {m = 0} {n = 8388608 * 2} tt) big) in
    let w = (steps false m k M (lt_of_le_of_lt hi (lit< tt))).within (le_differences 112 176 k 176 (omega arith)) (le_differences k 176 239 176 (omega arith)) in
    subst (λ (x : Flagged). RootCutsBy r (size88 a) x) (sym e)
    (record {
      m = m;
      e = sub_ℕ k 176;
      pair = root_pair r a big (le_trans (lit≤ {m = 2} {n = 144} tt) lo);
      sign = packed_sign false m k M;
      digits = packed_mantissa false m k M;
      place = w.1;
      none = w.0;
      at_least = le_differences 144 176 k 176 (omega arith);
      at_most = le_differences k 176 208 176 (omega arith);
    })

pub root_exactly : (r : Rule) (a : ℕ) → proper a ≡ true → ExactlyRootBy r a (sqrt r a)
unfolding size88
root_exactly r a p = go (negative a) refl (eq-zero-or-pos (size88 a))
  where
    go : (s : Bool) → negative a ≡ s → (size88 a ≡ 0) ⊎ (0 < size88 a) → ExactlyRootBy r a (sqrt r a)
    go true s z = inr (inl (s, sym (root_negative r a s)))
    go false s (inl z) = inl (z, root_none r a s z)
    go false s (inr l) = inr (inr (s, root_is r a s (size_ge a p l)))

-- at most one pair, under either rule
pub one_root_by : (r : Rule) (n m m' : ℕ) (e e' : ℤ) → RootBy r n m e → RootBy r n m' e' → (m ≡ m') × (e ≡ e')
one_root_by Cut n m m' e e' p p' = one_root n m m' e e' p p'
one_root_by Nearest n m m' e e' p p' = one_near_root n m m' e e' p p'

-- so there is neither overflow nor underflow
pub root_no_error : (r : Rule) (a : ℕ) → proper a ≡ true → negative a ≡ false → (sqrt r a).error ≡ 0
root_no_error r a p s = go (eq-zero-or-pos (size88 a))
  where
    go : (size88 a ≡ 0) ⊎ (0 < size88 a) → (sqrt r a).error ≡ 0
    go (inl z) = ap (λ (x : Flagged). x.error) (root_none r a s z)
    go (inr l) = (root_is r a s (size_ge a p l)).none

-- ---- the order of two words not below zero
pub root_keeps : (r : Rule) (a b : ℕ) → proper a ≡ true → proper b ≡ true → negative a ≡ false → negative b ≡ false → Le a b
    → Le (sqrt r a).word (sqrt r b).word
root_keeps r a b A B s t h =
    let c = root_cut r a s in
    let d = root_cut r b t in
    let v = cut_value r false (root_halves (radicand a)) 2 (lit< tt) (sym (ap (λ (x : Flagged). x.error) c) ∙ root_no_error r a A s) in
    let w = cut_value r false (root_halves (radicand b)) 2 (lit< tt) (sym (ap (λ (x : Flagged). x.error) d) ∙ root_no_error r b B t) in
    let l : size88 a ≤ size88 b = sizes in
    let m : root_halves (radicand a) ≤ root_halves (radicand b) = halves_mono (radicand a) (radicand b) (mul-le-mul_right (2 ^ 312) l) in
    let g = grid_mono r (root_halves (radicand a)) 2 (root_halves (radicand b)) 2 (lit< tt) (lit< tt) (mul-le-mul_right 2 m) in
    subst₂ (λ (x y : Flagged). Le x.word y.word) (sym c) (sym d)
    (subst₂ (λ (x y : ℤ). x ≤ℤ y) (sym v.0) (sym w.0) (signed_le false false _ _ (level _ _ (subst₂ (λ (x y : ℕ). x ≤ y) (sym v.1) (sym w.1) g))))
  where
    level : (x y : ℕ) → x * 2 ^ 112 ≤ y * 2 ^ 112 → x + 0 ≤ y + 0
    level x y z = omega arith

    signed : with_sign false (size88 a) ≤ℤ with_sign false (size88 b)
    signed = unfold value in subst₂ (λ (x y : Bool). with_sign x (size88 a) ≤ℤ with_sign y (size88 b)) s t h

    sizes : size88 a ≤ size88 b
    sizes = let z = le_signed false false (size88 a) (size88 b) signed in omega arith

-- ---- a root that is a word is found exactly
pub root_exact : (r : Rule) (a b : ℕ) → negative a ≡ false → negative b ≡ false → FloatWord b → size88 b * size88 b ≡ size88 a * 2 ^ 88 → sqrt r
    a ≡ record { word = b; error = 0 }
root_exact r a b s t B e =
    let x = size88 b * 2 ^ 112 in
    root_cut r a s
    ∙ ap (λ (y : ℕ). cut_size r false y 2) (halves_square (radicand a) x square)
    ∙ stands_cut r false (2 * x) 2 x 0 (lit< tt) (inl (mul_comm 2 x))
    ∙ ap (λ (y : ℕ). cut_size r false y 1) (mul-one x)
    ∙ sym (cut_scaled r false (size88 b) 88 112 refl)
    ∙ own_value r b (with_sign false (size88 b)) (2 ^ 88) B (pow_pos 88) (ap (λ (z : ℤ). z *ℤ pos (2 ^ 88)) own)
  where
    own : value b ≡ with_sign false (size88 b)
    own = unfold value in ap (λ (y : Bool). with_sign y (size88 b)) t

    square : size88 b * 2 ^ 112 * (size88 b * 2 ^ 112) ≡ radicand a
    square =
        mul-mul-mul_comm (size88 b) (2 ^ 112) (size88 b) (2 ^ 112) ∙ ap (λ (y : ℕ). y * (2 ^ 112 * 2 ^ 112)) e
        ∙ mul_assoc (size88 a) (2 ^ 88) (2 ^ 112 * 2 ^ 112)
