-- The fewest digits to base ten that hold a number are its decimal: both cut off one digit at a time. Assumes nothing.
use mathlib.Core.Path.{◌≡◌}
use mathlib.Core.List.{[], ◌∷◌, ◌++◌}
use mathlib.Core.Bool.{Bool, true, false, cond}
use Prim.Native.Nat.{ℕ, zero, suc, ◌-◌, ◌*◌, ◌/◌, ◌%◌, ◌^◌, ◌≤◌, ◌<◌, zero-le}
use native.Mathlib.Omega.{arith}
use native.Mathlib.Nat.{le-div_iff_mul-le, div-lt_iff_lt-mul, not-suc-le-zero, mod-lt, mod-eq_of_lt, pow-suc, pow-le-pow_right, lt_of_not-le}
use lib.Dec.{ltb}
use lib.ListN.{length, length-append}
use borrow.Author.Tests.{lt-ltb, le-ltb}
use Rattle.io.specs.Digits.{hex_digit_ascii, last_digits, IsDigitCount}
use Rattle.listing.specs.Text.{digit, spelled, decimal}

-- below ten a digit has one character in either case
same_digit : (d : ℕ) → d < 10 → digit d ≡ hex_digit_ascii d
same_digit d h = rw (lt-ltb d 10 h)

pub fewest : (most k n : ℕ) → k ≤ most → IsDigitCount 10 1 n k → spelled most n ≡ last_digits 10 k n
unfolding spelled
fewest most zero n h w = absurd (not-suc-le-zero w.0)
fewest zero (suc k) n h w = absurd (not-suc-le-zero h)
fewest (suc most) (suc zero) n h w =
    let s : n < 10 = w.1 in
    rw (mod-eq_of_lt s, lt-ltb n 10 s)
fewest (suc most) (suc (suc k)) n h w =
    let d : n % 10 < 10 = mod-lt n (omega arith) in
    let m : suc (suc k) - 1 ≡ suc k = omega arith in
    let p : 10 ^ suc k ≤ n = rw m at (w.2 (omega arith)) in
    let q : 10 ^ suc (suc k) ≡ 10 ^ suc k * 10 = pow-suc 10 (suc k) in
    let r : 10 ^ suc k ≡ 10 ^ k * 10 = pow-suc 10 k in
    let z : 0 < 10 ^ k = ten_pos k in
    let b : 10 ≤ n = omega arith in
    let u : n / 10 < 10 ^ suc k = (div-lt_iff_lt-mul {k = 10} {x = n} {y = 10 ^ suc k} (omega arith)).1 (omega (arith, w.1)) in
    let o : suc k - 1 ≡ k = omega arith in
    let v : 10 ^ (suc k - 1) ≤ n / 10 = rw o ((le-div_iff_mul-le {k = 10} {x = 10 ^ k} {y = n} (omega arith)).1 (omega arith)) in
    rw (le-ltb n 10 b, same_digit (n % 10) d, fewest most (suc k) (n / 10) (omega arith) (omega arith, u, λ _. v))
  where
    ten_pos : (k : ℕ) → 0 < 10 ^ k
    ten_pos zero = omega arith
    ten_pos (suc k) = let e = pow-suc 10 k in let z = ten_pos k in omega arith

-- a number below a power of ten has no more digits than its exponent
pub short : (most k n : ℕ) → 0 < k → n < 10 ^ k → length (spelled most n) ≤ k
unfolding spelled
short zero k n h w = zero-le
short (suc most) zero n h w = absurd (not-suc-le-zero h)
short (suc most) (suc zero) n h w = let s : n < 10 = w in rw (lt-ltb n 10 s) (omega arith)
short (suc most) (suc (suc k)) n h w = pick (short most (suc k) (n / 10) (omega arith) u) (ltb n 10)
  where
    e : 10 ^ suc (suc k) ≡ 10 ^ suc k * 10
    e = pow-suc 10 (suc k)

    u : n / 10 < 10 ^ suc k
    u = (div-lt_iff_lt-mul {k = 10} {x = n} {y = 10 ^ suc k} (omega arith)).1 (omega arith)

    pick : length (spelled most (n / 10)) ≤ suc k → (b : Bool) → length (cond b (digit n ∷ []) (spelled most (n / 10) ++ (digit (n % 10) ∷ []))) ≤ suc (suc k)
    pick i true = omega arith
    pick i false = omega (arith, length-append (spelled most (n / 10)) (digit (n % 10) ∷ []))

-- and never more than it may have
pub at_most : (most n : ℕ) → length (spelled most n) ≤ most
unfolding spelled
at_most zero n = zero-le
at_most (suc most) n = pick (at_most most (n / 10)) (ltb n 10)
  where
    pick : length (spelled most (n / 10)) ≤ most → (b : Bool) → length (cond b (digit n ∷ []) (spelled most (n / 10) ++ (digit (n % 10) ∷ []))) ≤ suc most
    pick i true = omega arith
    pick i false = omega (arith, length-append (spelled most (n / 10)) (digit (n % 10) ∷ []))

-- a number of 64 bits has no more than 20 digits
pub twenty : (n k : ℕ) → n < 2 ^ 64 → IsDigitCount 10 1 n k → k ≤ 20
twenty n k h w =
    let few : k < 21 =
    lt_of_not-le (λ m.
    let p : 10 ^ 20 ≤ 10 ^ (k - 1) = pow-le-pow_right {n = 10} (omega arith) {i = 20} {j = k - 1} (omega arith) in
    let q : 10 ^ (k - 1) ≤ n = w.2 (omega arith) in
    omega arith) in
    omega arith

-- so its fewest digits are its decimal
pub is_decimal : (n k : ℕ) → n < 2 ^ 64 → IsDigitCount 10 1 n k → decimal n ≡ last_digits 10 k n
is_decimal n k h w = fewest 20 k n (twenty n k h w) w
