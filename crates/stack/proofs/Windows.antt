-- The bytes of a word in two parts, and the eight bytes that a shift of two words leaves. Assumes nothing.
use mathlib.Core.Path.{◌≡◌, refl, sym, ap, ap₂, subst, ◌∙◌}
use mathlib.Core.List.{List, [], ◌∷◌, ◌++◌, append_assoc, append-nil}
use Prim.Native.Nat.{ℕ, zero, suc, ◌+◌, ◌*◌, ◌/◌, ◌%◌, ◌^◌, ◌<◌}
use native.Mathlib.Nat.{mod-lt, mul-le-mul_right, mul-lt-mul_of_pos_right, div-div-eq-div-mul, pow-suc, mul-suc, mul_comm, mul_assoc, add-mul, one-le-pow}
use native.Mathlib.Nat.{div-one, div-lt_iff_lt-mul}
use native.Mathlib.Nat.{div-eq_of_lt, div-add-mod', mul-add-div_right}
use native.Mathlib.Omega.{arith}
use lib.Dec.{lit<}
use lib.Pow.{pow-add, low as low'}
use lib.ListN.{take, drop}
use lib.Seq.{take_at, drop_at}
use Rattle.stack.specs.Stack.{bytes_of}
use Rattle.stack.proofs.Words.{length-bytes}
use Rattle.stack.specs.Words.{eight, window}

pub pos : (k : ℕ) → 0 < 256 ^ k
pos k = one-le-pow k 256 (lit< tt)

-- the bytes of a number: those above the last k, and the last k
pub split : (k m n r : ℕ) → n ≡ m + k → bytes_of n r ≡ bytes_of m (r / 256 ^ k) ++ bytes_of k r
split zero m n r e =
    let f : n ≡ m = omega arith in
    rw (f, div-one r) (sym (append-nil (bytes_of m r)))
split (suc k) m zero r e = absurd (omega arith)
split (suc k) m (suc n) r e =
    let f : n ≡ m + k = omega arith in
    let d : r / 256 / 256 ^ k ≡ r / 256 ^ suc k = div-div-eq-div-mul r 256 (256 ^ k) ∙ ap (λ (x : ℕ). r / x) (mul_comm 256 (256 ^ k) ∙ sym (pow-suc 256 k)) in
    ap (λ (l : List ℕ). l ++ (r % 256 ∷ [])) (split k m n (r / 256) f ∙ ap (λ (x : ℕ). bytes_of m x ++ bytes_of k (r / 256)) d)
    ∙ append_assoc (bytes_of m (r / 256 ^ suc k)) (bytes_of k (r / 256)) (r % 256 ∷ [])

-- what stands above the last k bytes does not move them
pub above : (k q s : ℕ) → bytes_of k (q * 256 ^ k + s) ≡ bytes_of k s
above zero q s = refl
above (suc k) q s =
    let p = pow-suc 256 k in
    let d : (q * 256 ^ suc k + s) / 256 ≡ q * 256 ^ k + s / 256 = rw p (omega arith) in
    let m : (q * 256 ^ suc k + s) % 256 ≡ s % 256 = rw p (omega arith) in
    rw (d, m) (ap (λ (l : List ℕ). l ++ (s % 256 ∷ [])) (above k q (s / 256)))

-- the last k bytes of a number are those of what is below 256 ^ k
pub kept : (k r : ℕ) → bytes_of k (r % 256 ^ k) ≡ bytes_of k r
kept k r = sym (above k (r / 256 ^ k) (r % 256 ^ k)) ∙ ap (bytes_of k) (div-add-mod' r (256 ^ k))

-- a shift by bytes: 256 to their number
bytes_pow : (k : ℕ) → 2 ^ (8 * k) ≡ 256 ^ k
bytes_pow zero = refl
bytes_pow (suc k) = ap (λ (x : ℕ). 2 ^ x) (mul-suc 8 k) ∙ pow-add 2 (8 * k) 8 ∙ ap (λ (x : ℕ). x * 256) (bytes_pow k) ∙ sym (pow-suc 256 k)

-- of the eight bytes of a word the last j, and the first k
module _ (k j w : ℕ) (e : k + j ≡ 8) where
  pub last_bytes : drop k (eight w) ≡ bytes_of j w
  unfolding eight
  last_bytes = ap (drop k) (split j k 8 w (sym e)) ∙ drop_at (bytes_of k (w / 256 ^ j)) (bytes_of j w) k (length-bytes k (w / 256 ^ j))

  pub first_bytes_lem : take k (eight w) ≡ bytes_of k (w / 256 ^ j)
  unfolding eight
  first_bytes_lem = ap (take k) (split j k 8 w (sym e)) ∙ take_at (bytes_of k (w / 256 ^ j)) (bytes_of j w) k (length-bytes k (w / 256 ^ j))

-- ---- a shift of two words
module _ (k j high low : ℕ) (e : k + j ≡ 8) where
  whole : 256 ^ j * 256 ^ k ≡ 2 ^ 64
  whole =
      let f : j + k ≡ 8 = omega arith in
      sym (pow-add 256 j k) ∙ ap (λ (x : ℕ). 256 ^ x) f

  -- what a shift to the left by k bytes leaves of 64 bits
  left_by_lem : high * 256 ^ k % 2 ^ 64 ≡ high % 256 ^ j * 256 ^ k
  left_by_lem =
      let b = 256 ^ j in
      let c = 256 ^ k in
      let q = high / b in
      let r = high % b in
      let small : r * c < 2 ^ 64 = subst (λ (x : ℕ). r * c < x) whole (mul-lt-mul_of_pos_right (mod-lt high (pos j)) (pos k)) in
      ap (λ (x : ℕ). x * c % 2 ^ 64) (sym (div-add-mod' high b))
      ∙ ap (λ (x : ℕ). x % 2 ^ 64) (add-mul (q * b) r c ∙ ap (λ (x : ℕ). x + r * c) (mul_assoc q b c ∙ ap (λ (x : ℕ). q * x) whole))
      ∙ low' q 64 small

  below : low < 2 ^ 64 → low / 256 ^ j < 256 ^ k
  below h = (div-lt_iff_lt-mul (pos j)).1 (subst (λ (x : ℕ). low < x) (sym whole ∙ mul_comm (256 ^ j) (256 ^ k)) h)

  shift_is : {m n : ℕ} → m ≡ 8 * k → n ≡ 8 * j → high * 2 ^ m % 2 ^ 64 + low / 2 ^ n ≡ high % 256 ^ j * 256 ^ k + low / 256 ^ j
  shift_is em en =
      ap₂ (λ (x y : ℕ). high * x % 2 ^ 64 + low / y) (ap (λ (x : ℕ). 2 ^ x) em ∙ bytes_pow k) (ap (λ (x : ℕ). 2 ^ x) en ∙ bytes_pow j)
      ∙ ap (λ (x : ℕ). x + low / 256 ^ j) left_by_lem

  -- a shift of two words fits one
  pub fits : {m n : ℕ} → m ≡ 8 * k → n ≡ 8 * j → low < 2 ^ 64 → high * 2 ^ m % 2 ^ 64 + low / 2 ^ n < 2 ^ 64
  fits em en h =
      let most = mul-le-mul_right (256 ^ k) (mod-lt high (pos j)) in
      let b = below h in
      let w = whole in
      let s = shift_is em en in
      omega arith

  -- and has the eight bytes of the two from place k on
  pub shifted : {m n : ℕ} → m ≡ 8 * k → n ≡ 8 * j → low < 2 ^ 64 → eight (high * 2 ^ m % 2 ^ 64 + low / 2 ^ n) ≡ window k high low
  unfolding eight
  shifted em en h =
      let s = high % 256 ^ j * 256 ^ k + low / 256 ^ j in
      let top : s / 256 ^ k ≡ high % 256 ^ j = mul-add-div_right (pos k) (high % 256 ^ j) (low / 256 ^ j) ∙ rw (div-eq_of_lt (below h)) (omega arith) in
      ap (bytes_of 8) (shift_is em en)
      ∙ split k j 8 s (omega arith)
      ∙ ap₂ (λ (x y : List ℕ). x ++ y) (ap (bytes_of j) top ∙ kept j high ∙ sym (last_bytes k j high e))
      (above k (high % 256 ^ j) (low / 256 ^ j) ∙ sym (first_bytes_lem k j low e))
