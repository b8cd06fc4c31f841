-- The mean of s and v / s is never below the root of v, since four times a product is at most the square of the sum; where it does not fall,
-- s is the root. What is left over the square tells the side of the next half. Assumes nothing.
use mathlib.Core.Path.{◌≡◌, ap}
use mathlib.Core.Logic.{◌⊎◌, inl, inr, ⊎_elim}
use Prim.Native.Nat.{ℕ, ◌+◌, ◌-◌, ◌*◌, ◌/◌, ◌%◌, ◌^◌, ◌≤◌, ◌<◌}
use native.Mathlib.Nat.{le_trans, mul-le-mul, mul-le-mul_right, div-mul-le_self, div-le_self, div-add-mod', mod-lt, eq-zero-or-pos}
use native.Mathlib.Omega.{arith}
use Rattle.numbers.proofs.Differences.{either}
use Rattle.float.specs.Traced.{Beyond, Traced}

-- four times a product is at most the square of the sum
squares : (a b : ℕ) → 4 * (a * b) ≤ (a + b) * (a + b)
squares a b = ⊎_elim (λ (h : a < b). up_to a b (b - a) (omega arith)) (λ (h : b ≤ a). back (up_to b a (a - b) (omega arith))) (either a b)
  where
    -- by the difference d of the two
    apart : (x d : ℕ) → 4 * (x * (x + d)) ≤ (x + (x + d)) * (x + (x + d))
    apart x d = omega arith

    up_to : (x y d : ℕ) → y ≡ x + d → 4 * (x * y) ≤ (x + y) * (x + y)
    up_to x y d e = rw e (apart x d)

    back : 4 * (b * a) ≤ (b + a) * (b + a) → 4 * (a * b) ≤ (a + b) * (a + b)
    back h = omega arith

pub mean_beyond : (s v : ℕ) → 0 < s → Beyond v s ((s + v / s) / 2)
mean_beyond s v S = record { above = over (v / s) (v % s) (div-add-mod' v s) (mod-lt v S); last = reach (v / s) (div-mul-le_self v s) }
  where
    over : (q w : ℕ) → q * s + w ≡ v → w < s → v < ((s + q) / 2 + 1) * ((s + q) / 2 + 1)
    over q w e h =
        let r = (s + q) / 2 in
        let l : s + (q + 1) ≤ 2 * (r + 1) = omega arith in
        let a = squares s (q + 1) in
        let b = mul-le-mul l l in
        close r (s + (q + 1)) (s * (q + 1)) a b (less q w e h)
      where
        less : (q w : ℕ) → q * s + w ≡ v → w < s → v < s * (q + 1)
        less q w e h = omega arith

        close : (r x p : ℕ) → 4 * p ≤ x * x → x * x ≤ 2 * (r + 1) * (2 * (r + 1)) → v < p → v < (r + 1) * (r + 1)
        close r x p a b h = omega arith

    reach : (q : ℕ) → q * s ≤ v → s ≤ (s + q) / 2 → s * s ≤ v
    reach q a h = le_trans (mul-le-mul_right s (more h)) a
      where
        more : s ≤ (s + q) / 2 → s ≤ q
        more g = omega arith

-- s is not below the root of v, and t is the next mean
pub record Falling (v s t : ℕ) : Type 0 where
  pub above : v < (s + 1) * (s + 1)
  pub next : Beyond v s t
  pub some : 0 < t
  pub few : t < 281474976710656

pub mean_few : (s v : ℕ) → s < 2 ^ 48 → v < 2 ^ 48 → s + v / s < 2 ^ 49
mean_few s v S h = let a = div-le_self v s in omega arith

pub mean_some : (s v r : ℕ) → 0 < v → Beyond v s r → 0 < r
mean_some s v r h b = go (eq-zero-or-pos r)
  where
    none : r ≡ 0 → v < (r + 1) * (r + 1) → ⊥
    none z a = let e : (r + 1) * (r + 1) ≡ 1 = ap (λ (x : ℕ). (x + 1) * (x + 1)) z in omega arith

    go : (r ≡ 0) ⊎ (0 < r) → 0 < r
    go (inl z) = absurd (none z b.above)
    go (inr p) = p

-- ---- four times a root in one number
pub trace_whole : (v s : ℕ) → s * s ≤ v → v - s * s ≡ 0 → Traced (16 * v) (4 * s)
trace_whole v s a z = inl (omega arith)

-- below s and a half
pub trace_low : (v s : ℕ) → s * s ≤ v → (v - s * s ≡ 0 → ⊥) → v - s * s ≤ s → Traced (16 * v) (4 * s + 1)
trace_low v s a n l = inr (omega arith, low (4 * s + 1 - 1) (omega arith), high)
  where
    more : s * s < v
    more = ⊎_elim (λ (h : s * s < v). h) (λ (h : v ≤ s * s). absurd (n (omega arith))) (either (s * s) v)

    low : (x : ℕ) → x ≡ 4 * s → x * x < 16 * v
    low x e = let h = more in rw e (omega arith)

    high : 16 * v < (4 * s + 1 + 1) * (4 * s + 1 + 1)
    high = omega arith

-- above it
pub trace_high : (v s : ℕ) → v < (s + 1) * (s + 1) → s < v - s * s → Traced (16 * v) (4 * s + 3)
trace_high v s a l = inr (omega arith, low (4 * s + 3 - 1) (omega arith), high)
  where
    low : (x : ℕ) → x ≡ 4 * s + 2 → x * x < 16 * v
    low x e = rw e (omega arith)

    high : 16 * v < (4 * s + 3 + 1) * (4 * s + 3 + 1)
    high = omega arith

-- a number of four digits more has as many digits as four times a root of 24
pub trace_large : (v t : ℕ) → 2 ^ 46 ≤ v → Traced (16 * v) t → 33554432 ≤ t
trace_large v t h j = ⊎_elim (λ (l : t < 33554432). absurd (small l j)) (λ (l : 33554432 ≤ t). l) (either t 33554432)
  where
    below : t < 33554432 → (t + 1) * (t + 1) ≤ 1125899906842624
    below g = let a : t + 1 ≤ 33554432 = omega arith in let b = mul-le-mul a a in omega arith

    small : t < 33554432 → Traced (16 * v) t → ⊥
    small g (inl e) = let b = below g in omega arith
    small g (inr w) = let b = below g in let c = w.2 in omega arith
