-- 24 bytes written as 48 digits, two for each byte, the highest byte first; the counts and the sign before them. Assumes nothing.
use Prim.Native.Nat.{ℕ, suc, ◌+◌, ◌*◌, ◌-◌, ◌/◌, ◌%◌, ◌≤◌, ◌<◌}
use mathlib.Core.Path.{◌≡◌, sym, ap, ap₂, subst, ◌∙◌}
use mathlib.Core.List.{List, [], ◌∷◌, ◌++◌, append-nil}
use native.Mathlib.Omega.{arith}
use native.Mathlib.Nat.{zero-add}
use lib.ListN.{length, get_or, set, take, drop, length-set, length-drop, drop_of_length-le}
use lib.Seq.{take-suc-set, take_all, drop-cons, drop_at, length-take-le, sets, sets-eq}
use lib.IntN.{nat_abs}
use Rattle.sheet_figures.specs.Limbs.{le}
use Rattle.sheet_figures.specs.Figures.{different, repeated, improper, sum88}
use Rattle.sheet_figures.specs.Digits.{hex_digit, hex_digits, sign_of}
use Rattle.sheet_figures.specs.Telling.{written}

-- two digits more for a byte more
two_digits : (k b m : ℕ) → b < 256 → hex_digits (suc (suc k)) (b + 256 * m) ≡ (hex_digits k m ++ (hex_digit (b / 16) ∷ [])) ++ (hex_digit (b % 16) ∷ [])
two_digits k b m h =
    let x : (b + 256 * m) / 16 / 16 ≡ m = omega arith in
    let y : (b + 256 * m) / 16 % 16 ≡ b / 16 = omega arith in
    let z : (b + 256 * m) % 16 ≡ b % 16 = omega arith in
    rw (x, y, z)

-- what stands in the slice after i bytes: the digits of the i highest
pub digits_on : (out size : List ℕ) (i c d : ℕ) → length out ≡ 48 → length size ≡ 24 → i < 24 → get_or size (23 - i) 0 < 256
    → c ≡ hex_digit (get_or size (23 - i) 0 / 16) → d ≡ hex_digit (get_or size (23 - i) 0 % 16)
    → take (2 * i) out ≡ hex_digits (2 * i) (le (drop (24 - i) size))
    → take (2 * (i + 1)) (set (set out (2 * i) c) (2 * i + 1) d) ≡ hex_digits (2 * (i + 1)) (le (drop (24 - (i + 1)) size))
digits_on out size i c d ho hs h small ec ed is =
    let b : ℕ = get_or size (23 - i) 0 in
    let n : 2 * (i + 1) ≡ suc (suc (2 * i)) = omega arith in
    let e : 2 * i + 1 ≡ suc (2 * i) = omega arith in
    let f : 24 - (i + 1) ≡ 23 - i = omega arith in
    let g : suc (23 - i) ≡ 24 - i = omega arith in
    let low : drop (24 - (i + 1)) size ≡ b ∷ drop (24 - i) size =
    ap (λ (k : ℕ). drop k size) f ∙ drop-cons size (23 - i) 0 (omega arith) ∙ ap (λ (k : ℕ). b ∷ drop k size) g
    in
    let first : take (suc (2 * i)) (set out (2 * i) c) ≡ take (2 * i) out ++ (c ∷ []) = take-suc-set out (2 * i) c (omega arith) in
    let lens : length (set out (2 * i) c) ≡ 48 = length-set out (2 * i) c ∙ ho in
    let second : take (suc (suc (2 * i))) (set (set out (2 * i) c) (suc (2 * i)) d) ≡ take (suc (2 * i)) (set out (2 * i) c) ++ (d ∷ []) =
    take-suc-set (set out (2 * i) c) (suc (2 * i)) d (omega arith)
    in
    ap₂ (λ (j k : ℕ). take j (set (set out (2 * i) c) k d)) n e
    ∙ second
    ∙ ap (λ (l : List ℕ). l ++ (d ∷ [])) (first ∙ ap₂ (λ (l : List ℕ) (k : ℕ). l ++ (k ∷ [])) is ec)
    ∙ ap (λ (k : ℕ). (hex_digits (2 * i) (le (drop (24 - i) size)) ++ (hex_digit (b / 16) ∷ [])) ++ (k ∷ [])) ed
    ∙ sym (two_digits (2 * i) b (le (drop (24 - i) size)) small)
    ∙ ap₂ (λ (k : ℕ) (l : List ℕ). hex_digits k (le l)) (sym n) (sym low)

pub digits_all : (out size : List ℕ) (i : ℕ) → i ≡ 24 → length out ≡ 48 → take (2 * i) out ≡ hex_digits (2 * i) (le (drop (24 - i) size))
    → out ≡ hex_digits 48 (le size)
digits_all out size i e h is =
    sym (take_all 48 out (omega arith)) ∙ subst (λ (k : ℕ). take (2 * k) out ≡ hex_digits (2 * k) (le (drop (24 - k) size))) e is

-- ---- before them

-- stores at the front
pub front : (vs out : List ℕ) → length vs ≤ length out → sets out 0 vs ≡ vs ++ drop (length vs) out
front vs out h = sets-eq vs out 0 (omega arith) ∙ rw (zero-add (length vs))

-- what was lent from the fifth byte on, once it is back
behind : (out left : List ℕ) → 5 ≤ length out → drop 5 (take 5 out ++ (left ++ drop (length out - 5) (drop 5 out))) ≡ left
behind out left h =
    drop_at (take 5 out) (left ++ drop (length out - 5) (drop 5 out)) 5 (length-take-le 5 out h)
    ∙ rw (drop_of_length-le (drop 5 out) {i = length out - 5} (simp length-drop (omega arith)), append-nil left)

pub written_is : (l : List (List ℕ)) (out left after : List ℕ) (a b c d e n : ℕ) → 5 ≤ length out
    → a ≡ length l → b ≡ different l → c ≡ repeated l → d ≡ improper l → e ≡ sign_of (sum88 l) → n ≡ nat_abs (sum88 l) → left ≡ hex_digits 48 n
    → after ≡ a ∷ b ∷ c ∷ d ∷ e ∷ drop 5 (take 5 out ++ (left ++ drop (length out - 5) (drop 5 out)))
    → after ≡ written l
written_is l out left after a b c d e n h ea eb ec ed ee en el is =
    is
    ∙ ap (λ (m : List ℕ). a ∷ b ∷ c ∷ d ∷ e ∷ m) (behind out left h ∙ el ∙ ap (hex_digits 48) en)
    ∙ ap₂ (λ (x y : ℕ). x ∷ y ∷ c ∷ d ∷ e ∷ hex_digits 48 (nat_abs (sum88 l))) ea eb
    ∙ ap₂ (λ (x y : ℕ). length l ∷ different l ∷ x ∷ y ∷ e ∷ hex_digits 48 (nat_abs (sum88 l))) ec ed
    ∙ ap (λ (x : ℕ). length l ∷ different l ∷ repeated l ∷ improper l ∷ x ∷ hex_digits 48 (nat_abs (sum88 l))) ee
