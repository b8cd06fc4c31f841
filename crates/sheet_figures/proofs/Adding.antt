-- A number added to bytes from a place on, byte by byte. Assumes nothing.
use Prim.Native.Nat.{ℕ, zero, suc, ◌+◌, ◌*◌, ◌-◌, ◌/◌, ◌%◌, ◌^◌, ◌≤◌, ◌<◌}
use mathlib.Core.Path.{◌≡◌, refl, sym, ap, subst, ◌∙◌}
use mathlib.Core.Bool.{Bool, true, false}
use mathlib.Core.List.{List, [], ◌∷◌}
use mathlib.Core.Logic.{⊎_elim}
use borrow.Author.Tests.{le-leb, lt-leb, eqb-true, eqb-false}
use native.Mathlib.Omega.{arith}
use native.Mathlib.Nat.{not-suc-le-zero, le_of_suc-le-suc, pow-suc, mul-le-mul_right, mul_assoc}
use native.Mathlib.Numerals.{add-one}
use lib.Dec.{lit<, eqb}
use lib.ListN.{length, get_or, set, take}
use lib.Pow.{pow-add, shl_exact}
use lib.Seq.{take_all, get_or-set_same, get_or-set_other}
use Rattle.numbers.proofs.Differences.{either}
use Rattle.float.specs.Word.{size88, proper}
use Rattle.sheet_figures.specs.Limbs.{le, sum_limit, up, down}

-- a byte stored
pub le_set : (l : List ℕ) (i v : ℕ) → i < length l → le (set l i v) + get_or l i 0 * 256 ^ i ≡ le l + v * 256 ^ i
le_set [] i v h = absurd (not-suc-le-zero h)
le_set (b ∷ l) zero v h = omega arith
le_set (b ∷ l) (suc i) v h =
    let e = le_set l i v (le_of_suc-le-suc h) in
    rw (pow-suc 256 i) (omega arith)

-- a byte taken on, with what it carries
pub le_step : (l : List ℕ) (i x s : ℕ) → i < length l → le l + x * 256 ^ i ≡ s
    → le (set l i ((get_or l i 0 + x) % 256)) + (get_or l i 0 + x) / 256 * 256 ^ (i + 1) ≡ s
le_step l i x s h e =
    let g : ℕ = get_or l i 0 in
    let v : ℕ = (g + x) % 256 in
    let q : ℕ = (g + x) / 256 in
    let p : ℕ = 256 ^ i in
    let a = le_set l i v h in
    let d : v + 256 * q ≡ g + x = omega arith in
    let f : (v + 256 * q) * p ≡ (g + x) * p = ap (λ (n : ℕ). n * p) d in
    let k : 256 ^ (i + 1) ≡ p * 256 = ap (λ (n : ℕ). 256 ^ n) (add-one i) ∙ pow-suc 256 i in
    rw k (last (le (set l i v)) (le l) g x v q p s a f e)
  where
    last : (n o g x v q p s : ℕ) → n + g * p ≡ o + v * p → (v + 256 * q) * p ≡ (g + x) * p → o + x * p ≡ s → n + q * (p * 256) ≡ s
    last n o g x v q p s a f e = omega arith

-- at the end nothing is carried
pub le_end : (l : List ℕ) (x s top : ℕ) → le l + x * top ≡ s → s < top → le l ≡ s
le_end l x s top e h =
    ⊎_elim
    (λ (p : 0 < x). let y = mul-le-mul_right top p in let z : ⊥ = omega arith in absurd z)
    (λ (p : x ≤ 0). let z : x ≡ 0 = omega arith in let w : le l + 0 * top ≡ s = subst (λ (k : ℕ). le l + k * top ≡ s) z e in omega arith)
    (either 0 x)

pub le_whole : (l : List ℕ) (x s : ℕ) → le l + x * 256 ^ 24 ≡ s → s < sum_limit → le l ≡ s
unfolding sum_limit
le_whole l x s e h = le_end l x s (256 ^ 24) e h

-- every element is a byte
abbrev pub Small : List ℕ → Type 0
Small l = (k : ℕ) → get_or l k 0 < 256

pub small_set : (l : List ℕ) (i v : ℕ) → i < length l → v < 256 → Small l → Small (set l i v)
small_set l i v h b s k = pick (eqb k i) refl
  where
    pick : (t : Bool) → eqb k i ≡ t → get_or (set l i v) k 0 < 256
    pick true e = subst (λ (j : ℕ). get_or (set l i v) j 0 < 256) (sym (eqb-true k i e)) (rw (get_or-set_same l i v 0 h) b)
    pick false e = rw (get_or-set_other l i k v 0 (eqb-false k i e)) (s k)

-- 2 to a power as bytes and bits
bytes_power : (k : ℕ) → 256 ^ k ≡ 2 ^ (8 * k)
bytes_power zero = refl
bytes_power (suc k) =
    let e : 8 * suc k ≡ 8 * k + 8 = omega arith in
    pow-suc 256 k ∙ ap (λ (n : ℕ). n * 256) (bytes_power k) ∙ sym (pow-add 2 (8 * k) 8) ∙ ap (λ (n : ℕ). 2 ^ n) (sym e)

pub power : (b : ℕ) → 2 ^ (b % 8) * 256 ^ (b / 8) ≡ 2 ^ b
power b =
    let e : b % 8 + 8 * (b / 8) ≡ b = omega arith in
    ap (λ (n : ℕ). 2 ^ (b % 8) * n) (bytes_power (b / 8)) ∙ sym (pow-add 2 (b % 8) (8 * (b / 8))) ∙ ap (λ (n : ℕ). 2 ^ n) e

pub placed : (w : ℕ)
    → w % 16777216 * 2 ^ ((w / 16777216 + 64) % 128 % 8) % 2 ^ 32 * 256 ^ ((w / 16777216 + 64) % 128 / 8) ≡ size88 w
unfolding size88
placed w =
    let b : ℕ = (w / 16777216 + 64) % 128 in
    let m : w % 16777216 < 2 ^ 24 = omega arith in
    ap (λ (n : ℕ). n * 256 ^ (b / 8)) (shl_exact 24 (b % 8) 32 m (omega arith)) ∙ mul_assoc (w % 16777216) (2 ^ (b % 8)) (256 ^ (b / 8))
    ∙ ap (λ (n : ℕ). w % 16777216 * n) (power b)

-- ---- a difference

-- one byte more of a number
pub le_take : (l : List ℕ) (i : ℕ) → i < length l → le (take (suc i) l) ≡ le (take i l) + get_or l i 0 * 256 ^ i
le_take [] i h = absurd (not-suc-le-zero h)
le_take (b ∷ l) zero h = omega arith
le_take (b ∷ l) (suc i) h =
    let e = le_take l i (le_of_suc-le-suc h) in
    rw (pow-suc 256 i) (omega arith)

-- bytes hold less than a byte more would
pub le_small : (l : List ℕ) → Small l → le l < 256 ^ length l
le_small [] s = lit< tt
le_small (b ∷ l) s =
    let e = le_small l (λ k. s (suc k)) in
    let x = s 0 in
    rw (pow-suc 256 (length l)) (last b (le l) (256 ^ length l) x e)
  where
    last : (b n p : ℕ) → b < 256 → n < p → b + 256 * n < p * 256
    last b n p x e = omega arith

pub le_limit : (l : List ℕ) → length l ≡ 24 → Small l → le l < sum_limit
unfolding sum_limit
le_limit l h s = subst (λ (n : ℕ). le l < 256 ^ n) h (le_small l s)

-- a byte less another and what was borrowed
pub less_step : (l m : List ℕ) (i x a n : ℕ) → i < length l → i < length m → get_or l i 0 < 256 → get_or m i 0 < 256 → x ≤ 1
    → n ≡ 256 + get_or l i 0 - get_or m i 0 - x
    → le l + le (take i m) ≡ a + x * 256 ^ i
    → le (set l i (n % 256)) + le (take (i + 1) m) ≡ a + (1 - n / 256) * 256 ^ (i + 1)
less_step l m i x a n hl hm bl bm one is e =
    let g : ℕ = get_or l i 0 in
    let b : ℕ = get_or m i 0 in
    let v : ℕ = n % 256 in
    let q : ℕ = 1 - n / 256 in
    let p : ℕ = 256 ^ i in
    let s = le_set l i v hl in
    let d : v + b + x ≡ g + 256 * q = omega arith in
    let f : (v + b + x) * p ≡ (g + 256 * q) * p = ap (λ (k : ℕ). k * p) d in
    let k : 256 ^ (i + 1) ≡ p * 256 = ap (λ (j : ℕ). 256 ^ j) (add-one i) ∙ pow-suc 256 i in
    let t : le (take (i + 1) m) ≡ le (take i m) + b * p = ap (λ (j : ℕ). le (take j m)) (add-one i) ∙ le_take m i hm in
    rw (k, t) (last (le (set l i v)) (le l) (le (take i m)) g b x v q p a s f e)
  where
    last : (y o w g b x v q p a : ℕ) → y + g * p ≡ o + v * p → (v + b + x) * p ≡ (g + 256 * q) * p → o + w ≡ a + x * p → y + (w + b * p) ≡ a + q * (p * 256)
    last y o w g b x v q p a s f e = omega arith

pub less_start : (a : ℕ) → a + 0 ≡ a + 0 * 256 ^ 0
less_start a = omega arith

pub less_end : (l m : List ℕ) (a x i : ℕ) → i ≡ 24 → length m ≡ 24 → le l + le (take i m) ≡ a + x * 256 ^ i → le l + le m ≡ a + x * sum_limit
unfolding sum_limit
less_end l m a x i e h q =
    ap (λ (k : List ℕ). le l + le k) (sym (take_all 24 m (omega arith))) ∙ subst (λ (n : ℕ). le l + le (take n m) ≡ a + x * 256 ^ n) e q

-- ---- a word gathered

module _ (a b w : ℕ) where
  pub gather_none : proper w ≡ false → (a ≡ a + up w) × (b ≡ b + down w)
  gather_none p = rw p (omega arith, omega arith)

  pub gather_below : (r : ℕ) → proper w ≡ true → 2147483648 ≤ w → r ≡ b + size88 w → (a ≡ a + up w) × (r ≡ b + down w)
  gather_below r p n e = rw (p, le-leb 2147483648 w n) (omega arith, e)

  pub gather_above : (r : ℕ) → proper w ≡ true → w < 2147483648 → r ≡ a + size88 w → (r ≡ a + up w) × (b ≡ b + down w)
  gather_above r p n e = rw (p, lt-leb 2147483648 w n) (e, omega arith)

  pub room_below : proper w ≡ true → 2147483648 ≤ w → b + down w < sum_limit → b + size88 w < sum_limit
  room_below p n h = rw (p, le-leb 2147483648 w n) at h

  pub room_above : proper w ≡ true → w < 2147483648 → a + up w < sum_limit → a + size88 w < sum_limit
  room_above p n h = rw (p, lt-leb 2147483648 w n) at h
