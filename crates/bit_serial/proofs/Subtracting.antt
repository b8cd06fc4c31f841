-- The steps of a quotient: with i digits left to find, the rest is the dividend modulo the divisor i places up, and the quotient and the rest make
-- the dividend. Assumes nothing.
use mathlib.Core.Path.{◌≡◌, refl, sym, ap, ap₂, ◌∙◌, subst}
use mathlib.Core.Bool.{Bool, true, false, cond}
use Prim.Native.Nat.{ℕ, ◌+◌, ◌-◌, ◌*◌, ◌%◌, ◌^◌, ◌≤◌, ◌<◌}
use native.Mathlib.Nat.{le_trans, one-mul, zero-mul}
use native.Mathlib.Omega.{arith}
use lib.Dec.{leb}
use lib.Pow.{pow-add, pow_mono, shl_exact}
use borrow.Author.Tests.{le-leb, lt-leb}
use Rattle.bit_serial.specs.declared.divide.Division.{Division}
use Rattle.bit_serial.specs.Quotient.{begun, shifted, digit, subtracted, subtracted_up_to, division, Places}
use Rattle.bit_serial.proofs.UpTo.{onward}

-- ---- one step within 64 bits
pub unit : (k : ℕ) → k < 32 → 1 * 2 ^ k % 2 ^ 64 ≡ 2 ^ k
unit k l = shl_exact 1 k 64 (omega arith) (omega arith) ∙ one-mul (2 ^ k)

-- a power of two and its half
pub halves : (k : ℕ) → 0 < k → 2 ^ k ≡ 2 ^ (k - 1) + 2 ^ (k - 1)
halves k h = let e : k ≡ (k - 1) + 1 = omega arith in let f = ap (λ (n : ℕ). 2 ^ n) e ∙ pow-add 2 (k - 1) 1 in omega arith

pub digit_fits : (q k u : ℕ) → 0 < k → k ≤ 32 → q + 2 ^ k ≤ 2 ^ 32 → u ≡ 1 * 2 ^ (k - 1) % 2 ^ 64 → q + u < 2 ^ 64
digit_fits q k u h l r e =
    let f : u ≡ 2 ^ (k - 1) = e ∙ unit (k - 1) (omega arith) in
    let g = halves k h in
    omega arith

-- by whether the shifted divisor goes
pub goes : (d : ℕ) (s : Division) (t u : ℕ) → t ≡ shifted d s → u ≡ 2 ^ (s.left - 1) → t ≤ s.rest
    → record { quotient = s.quotient + u; rest = s.rest - t; left = s.left - 1 } ≡ subtracted d s
goes d s t u e f l =
    let o : digit d s ≡ 1 = ap (λ (b : Bool). cond b 1 0) (le-leb (shifted d s) s.rest (subst (λ (n : ℕ). n ≤ s.rest) e l)) in
    ap₂ (λ (x y : ℕ). record { quotient = s.quotient + x; rest = s.rest - y; left = s.left - 1 })
    (f ∙ sym (ap (λ (n : ℕ). n * 2 ^ (s.left - 1)) o ∙ one-mul (2 ^ (s.left - 1))))
    (e ∙ sym (ap (λ (n : ℕ). n * shifted d s) o ∙ one-mul (shifted d s)))

pub stays : (d : ℕ) (s : Division) (t : ℕ) → t ≡ shifted d s → s.rest < t → record { quotient = s.quotient; rest = s.rest; left = s.left - 1 }
    ≡ subtracted d s
stays d s t e l =
    let o : digit d s ≡ 0 = ap (λ (b : Bool). cond b 1 0) (lt-leb (shifted d s) s.rest (subst (λ (n : ℕ). s.rest < n) e l)) in
    let x : s.quotient ≡ s.quotient + digit d s * 2 ^ (s.left - 1) = omega (arith, ap (λ (n : ℕ). n * 2 ^ (s.left - 1)) o ∙ zero-mul (2 ^ (s.left - 1))) in
    let y : s.rest ≡ s.rest - digit d s * shifted d s = omega (arith, ap (λ (n : ℕ). n * shifted d s) o ∙ zero-mul (shifted d s)) in
    ap₂ (λ (x y : ℕ). record { quotient = x; rest = y; left = s.left - 1 }) x y

-- what holds where the loop stands: the digits that are left to find lead to the quotient
pub record Subtracting (n v d : ℕ) (s : Division) : Type 0 where
  pub leads : subtracted_up_to s.left d s ≡ division n v d
  pub few : s.left ≤ n
  pub room : s.quotient + 2 ^ s.left ≤ 2 ^ n

pub starts : (n v d : ℕ) {s : Division} → s ≡ begun v n → Subtracting n v d s
starts n v d b = subst (Subtracting n v d) (sym b) record { leads = refl; few = omega arith; room = omega arith }

pub subtracts : (n v d : ℕ) (s : Division) {q : Division} → Subtracting n v d s → 0 < s.left → (s.rest ≡ 0 → ⊥) → q ≡ subtracted d s → Subtracting n v d q
subtracts n v d s a l e f = subst (Subtracting n v d) (sym f) record {
  leads = onward (λ (s : Division). s.rest) (subtracted d) s.left (s.left - 1) a.leads (omega arith) e;
  few = let f = a.few in omega arith;
  room = bit (leb (shifted d s) s.rest);
}
  where
    bit : (b : Bool) → s.quotient + cond b 1 0 * 2 ^ (s.left - 1) + 2 ^ (s.left - 1) ≤ 2 ^ n
    bit true = let g = halves s.left l in let r = a.room in omega arith
    bit false = let g = halves s.left l in let r = a.room in omega arith

-- what a step asks, at most 32 digits being asked for
pub placed : (n v d : ℕ) (s : Division) → Subtracting n v d s → d < 2 ^ 32 → n ≤ 32 → 0 < s.left → Places d s
placed n v d s a h l z = record { narrow = h; some = z; few = let f = a.few in omega arith; room = le_trans a.room (pow_mono l) }
