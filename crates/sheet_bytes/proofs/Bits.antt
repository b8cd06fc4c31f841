-- Which slots are kept, bit by bit: a slot's bit set, and the others as they were. Assumes nothing.
use mathlib.Core.Path.{◌≡◌, refl, sym, ap, subst, ◌∙◌}
use Prim.Native.Nat.{ℕ, ◌+◌, ◌*◌, ◌-◌, ◌/◌, ◌%◌, ◌^◌, ◌<◌}
use native.Mathlib.Nat.{one-mul, add-div_right, add-mul-div_left, div-div-eq-div-mul}
use native.Mathlib.Omega.{arith}
use lib.Dec.{lit<}
use lib.Pow.{pow-add, pow_pos, shl_exact}
use Rattle.record_files.proofs.Tests.{either_eq, either_lt}
use Rattle.sheet_bytes.specs.Ledger.{with_bit}

-- the bits of a slot set
abbrev pub Bits : ℕ → ℕ → ℕ → Type 0
Bits j n m = (m < 16) × ((k : ℕ) → k < 4 → (k ≡ j → ⊥) → m / 2 ^ k % 2 ≡ n / 2 ^ k % 2)

below4 : (P : ℕ → Type 0) → P 0 → P 1 → P 2 → P 3 → (k : ℕ) → k < 4 → P k
below4 P a b c d k h =
    either_eq (λ (n : ℕ). P k) k 0 0 0 (λ e. subst P (sym e) a) (λ x.
    either_eq (λ (n : ℕ). P k) k 1 0 0 (λ e. subst P (sym e) b) (λ y.
    either_eq (λ (n : ℕ). P k) k 2 0 0 (λ e. subst P (sym e) c) (λ z.
    let e : 3 ≡ k = omega arith in subst P e d)))

-- ---- a slot's weight within a byte

pub weight : (k : ℕ) → k < 4 → 1 * 2 ^ k % 2 ^ 8 ≡ 2 ^ k
weight k h = shl_exact 1 k 8 (lit< tt) (omega arith) ∙ one-mul (2 ^ k)

pub some_weight : (k : ℕ) → k < 4 → 0 < 1 * 2 ^ k % 2 ^ 8
some_weight k h = subst (λ (w : ℕ). 0 < w) (sym (weight k h)) (pow_pos k)

-- a bit that is not set has room, below any multiple of 16
room : (b n j : ℕ) → j < 4 → n < 16 * b → n / 2 ^ j % 2 ≡ 0 → n + 2 ^ j < 16 * b
room b n j l h =
    below4 (λ j. n / 2 ^ j % 2 ≡ 0 → n + 2 ^ j < 16 * b) (λ z. omega arith) (λ z. omega arith) (λ z. omega arith) (λ z. omega arith) j l

pub has_room : (n k w : ℕ) → n < 256 → k < 4 → w ≡ 1 * 2 ^ k % 2 ^ 8 → n / w % 2 ≡ 0 → n + w < 256
has_room n k w h l e = subst (λ (x : ℕ). n / x % 2 ≡ 0 → n + x < 256) (sym (weight k l) ∙ sym e) (room 16 n k l h)

-- ---- the other slots

-- one below gains an even number of its weights, one above no carry
lower : (n w c : ℕ) → 0 < w → (n + w * (2 * c)) / w % 2 ≡ n / w % 2
lower n w c h = ap (λ (x : ℕ). x % 2) (add-mul-div_left n (2 * c) h) ∙ even (n / w) c
  where
    even : (x c : ℕ) → (x + 2 * c) % 2 ≡ x % 2
    even x c = omega arith

upper : (n w c : ℕ) → 0 < w → n / w % 2 ≡ 0 → (n + w) / (w * (2 * c)) ≡ n / (w * (2 * c))
upper n w c h e =
    parts (n + w) ∙ ap (λ (x : ℕ). x / 2 / c) (add-div_right n h) ∙ ap (λ (x : ℕ). x / c) (none (n / w) e) ∙ sym (parts n)
  where
    parts : (m : ℕ) → m / (w * (2 * c)) ≡ m / w / 2 / c
    parts m = sym (div-div-eq-div-mul m w (2 * c)) ∙ sym (div-div-eq-div-mul (m / w) 2 c)

    none : (q : ℕ) → q % 2 ≡ 0 → (q + 1) / 2 ≡ q / 2
    none q z = omega arith

-- a weight by a lower one
over : (j k : ℕ) → k < j → 2 ^ j ≡ 2 ^ k * (2 * 2 ^ (j - k - 1))
over j k h =
    let e : j ≡ k + (1 + (j - k - 1)) = omega arith in
    ap (λ (n : ℕ). 2 ^ n) e ∙ pow-add 2 k (1 + (j - k - 1)) ∙ ap (λ (n : ℕ). 2 ^ k * n) (pow-add 2 1 (j - k - 1))

others : (n j k : ℕ) → n / 2 ^ j % 2 ≡ 0 → (k ≡ j → ⊥) → (n + 2 ^ j) / 2 ^ k % 2 ≡ n / 2 ^ k % 2
others n j k e z =
    either_lt (λ (x : ℕ). (n + 2 ^ j) / 2 ^ k % 2 ≡ n / 2 ^ k % 2) k j 0 0
    (λ l. ap (λ (w : ℕ). (n + w) / 2 ^ k % 2) (over j k l) ∙ lower n (2 ^ k) (2 ^ (j - k - 1)) (pow_pos k))
    (λ l. subst (λ (w : ℕ). (n + 2 ^ j) / w % 2 ≡ n / w % 2) (sym (over k j (omega (arith, z))))
    (ap (λ (x : ℕ). x % 2) (upper n (2 ^ j) (2 ^ (k - j - 1)) (pow_pos j) e)))

pub bits : (n j : ℕ) → n < 16 → j < 4 → Bits j n (with_bit j n)
bits n j h l = either_eq (Bits j n) (n / 2 ^ j % 2) 0 (n + 2 ^ j) n (λ e. (room 1 n j l h e, λ k i z. others n j k e z)) (λ e. (h, λ k i z. refl))
