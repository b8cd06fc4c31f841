-- The bytes of a number that they have room for give it back. Assumes nothing.
use mathlib.Core.Path.{◌≡◌, refl, sym, ap, ap₂, ◌∙◌}
use mathlib.Core.List.{List, [], ◌∷◌, ◌++◌}
use Prim.Native.Nat.{ℕ, ◌+◌, ◌*◌, ◌/◌, ◌%◌, ◌^◌, ◌≤◌, ◌<◌}
use native.Mathlib.Omega.{arith}
use native.Mathlib.Nat.{div-add-mod'}
use native.Mathlib.Numerals.{add-one}
use lib.Dec.{lit<, lit≤}
use lib.ListN.{length, take, drop, get_or}
use lib.Seq.{get_or-take, get_or-drop, drop-cons, take-take, take-add, drop-drop, drop_at}
use Rattle.numbers.specs.Little.{le2, le4, le8, four_at, eight_at}

-- two bytes give back every number, since the second is not cut
pub two_bytes : (n : ℕ) → n % 256 + n / 256 * 256 ≡ n
two_bytes n = omega (arith, div-add-mod' n 256)

-- a small number has no second byte
pub le2_small : (n : ℕ) → n < 256 → n ∷ 0 ∷ [] ≡ le2 n
le2_small n h =
    let a : n ≡ n % 256 = omega arith in
    let b : 0 ≡ n / 256 = omega arith in
    rw (← a, ← b)

-- four bytes give back a number below 2 ^ 32
pub le4_exact : (n : ℕ) → n < 4294967296 → n % 256 + 256 * (n / 256 % 256 + 256 * (n / 65536 % 256 + 256 * (n / 16777216 % 256))) ≡ n
le4_exact n h =
    let a : n / 65536 ≡ n / 256 / 256 = omega arith in
    let b : n / 16777216 ≡ n / 65536 / 256 = omega arith in
    let c : n / 16777216 % 256 ≡ n / 16777216 = omega arith in
    omega arith

-- four bytes of any number give back its low 32 bits
le4_low : (n : ℕ) → n % 256 + n / 256 % 256 * 256 + n / 65536 % 256 * 65536 + n / 16777216 % 256 * 16777216 ≡ n % 4294967296
le4_low n =
    let a : n / 65536 ≡ n / 256 / 256 = omega arith in
    let b : n / 16777216 ≡ n / 65536 / 256 = omega arith in
    let c : n / 4294967296 ≡ n / 16777216 / 256 = omega arith in
    omega arith

-- ---- numbers laid at a place, and read there
-- the byte at j of a list is the k-th of n bytes that lie from i on
at_part : (l m : List ℕ) (i n k j : ℕ) → take n (drop i l) ≡ m → k < n → j ≡ i + k → get_or l j 0 ≡ get_or m k 0
at_part l m i n k j e h q =
    ap (λ (x : ℕ). get_or l x 0) q ∙ sym (get_or-take n (drop i l) k 0 h ∙ get_or-drop i l k 0) ∙ ap (λ (t : List ℕ). get_or t k 0) e

-- the four bytes of a number below 2 ^ 32 are read as that number, and the eight bytes of one below 2 ^ 64
read_four : (l : List ℕ) (i n : ℕ) → take 4 (drop i l) ≡ le4 n → four_at l i ≡ n % 4294967296
read_four l i n e =
    let b₀ = at_part l (le4 n) i 4 0 i e (lit< tt) (omega arith) in
    let b₁ = at_part l (le4 n) i 4 1 (i + 1) e (lit< tt) (omega arith) in
    let b₂ = at_part l (le4 n) i 4 2 (i + 2) e (lit< tt) (omega arith) in
    let b₃ = at_part l (le4 n) i 4 3 (i + 3) e (lit< tt) (omega arith) in
    rw (b₀, b₁, b₂, b₃) (le4_low n)

pub four_back : (l : List ℕ) (i n : ℕ) → n < 4294967296 → take 4 (drop i l) ≡ le4 n → four_at l i ≡ n
four_back l i n h e = read_four l i n e ∙ omega arith

pub eight_back : (l : List ℕ) (i n : ℕ) → n < 2 ^ 64 → take 8 (drop i l) ≡ le8 n → eight_at l i ≡ n
eight_back l i n h e =
    let first : take 4 (drop i l) ≡ le4 n = sym (take-take 4 8 (drop i l) (lit≤ tt)) ∙ ap (take 4) e in
    let low = read_four l i n first in
    let high = read_four l (i + 4) (n / 4294967296) (upper (ap length first) ∙ ap (drop 4) e) in
    omega arith
  where
    upper : length (take 4 (drop i l)) ≡ 4 → take 4 (drop (i + 4) l) ≡ drop 4 (take 8 (drop i l))
    upper f =
        ap (take 4) (sym (drop-drop 4 i l))
        ∙ sym (ap (drop 4) (take-add 4 4 (drop i l)) ∙ drop_at (take 4 (drop i l)) (take 4 (drop 4 (drop i l))) 4 f)

-- four bytes of a list are those of the number that is read there, and so are eight
next : (l : List ℕ) (i j : ℕ) → i < length l → j ≡ i + 1 → drop i l ≡ get_or l i 0 ∷ drop j l
next l i j h e = drop-cons l i 0 h ∙ ap (λ (k : ℕ). get_or l i 0 ∷ drop k l) (sym (e ∙ add-one i))

four_bytes_lem : (l : List ℕ) (i : ℕ) → i + 4 ≤ length l → take 4 (drop i l) ≡ get_or l i 0 ∷ get_or l (i + 1) 0 ∷ get_or l (i + 2) 0 ∷ get_or l (i + 3) 0 ∷ []
four_bytes_lem l i h =
    rw (
      next l i (i + 1) (omega arith) refl,
      next l (i + 1) (i + 2) (omega arith) (omega arith),
      next l (i + 2) (i + 3) (omega arith) (omega arith),
      next l
          (i + 3) (i + 4) (omega arith) (omega arith),
    )

pub same_bytes : (a b c d : ℕ) → a < 256 → b < 256 → c < 256 → d < 256 → le4 (a + b * 256 + c * 65536 + d * 16777216) ≡ a ∷ b ∷ c ∷ d ∷ []
same_bytes a b c d A B C D =
    let n = a + b * 256 + c * 65536 + d * 16777216 in
    let n₁ : n / 256 ≡ b + c * 256 + d * 65536 = omega arith in
    let n₂ : n / 65536 ≡ c + d * 256 = omega arith in
    let n₃ : n / 16777216 ≡ d = omega arith in
    let a' : n % 256 ≡ a = omega arith in
    let b' : n / 256 % 256 ≡ b = rw n₁ (omega arith) in
    let c' : n / 65536 % 256 ≡ c = rw n₂ (omega arith) in
    let d' : n / 16777216 % 256 ≡ d = rw n₃ (omega arith) in
    rw (a', b', c', d')

pub le4_of : (l : List ℕ) (i : ℕ) → i + 4 ≤ length l → ((j : ℕ) → get_or l j 0 < 256) → le4 (four_at l i) ≡ take 4 (drop i l)
le4_of l i h b = same_bytes (get_or l i 0) (get_or l (i + 1) 0) (get_or l (i + 2) 0) (get_or l (i + 3) 0) (b i) (b (i + 1)) (b (i + 2)) (b (i + 3))
    ∙ sym (four_bytes_lem l i h)

pub four_lt : (l : List ℕ) (i : ℕ) → ((j : ℕ) → get_or l j 0 < 256) → four_at l i < 4294967296
four_lt l i b =
    let b₀ = b i in
    let b₁ = b (i + 1) in
    let b₂ = b (i + 2) in
    let b₃ = b (i + 3) in
    omega arith

pub eight_lt : (l : List ℕ) (i : ℕ) → ((j : ℕ) → get_or l j 0 < 256) → eight_at l i < 2 ^ 64
eight_lt l i b = joined_lt (four_at l i) (four_at l (i + 4)) (four_lt l i b) (four_lt l (i + 4) b)
  where
    joined_lt : (x y : ℕ) → x < 4294967296 → y < 4294967296 → x + y * 4294967296 < 2 ^ 64
    joined_lt x y p q = omega arith

pub le8_joined : (x y : ℕ) → x < 4294967296 → le8 (x + y * 4294967296) ≡ le4 x ++ le4 y
le8_joined x y h =
    let n = x + y * 4294967296 in
    let x₀ : n % 256 ≡ x % 256 = omega arith in
    let n₁ : n / 256 ≡ x / 256 + y * 16777216 = omega arith in
    let n₂ : n / 65536 ≡ x / 65536 + y * 65536 = omega arith in
    let n₃ : n / 16777216 ≡ x / 16777216 + y * 256 = omega arith in
    let x₁ : n / 256 % 256 ≡ x / 256 % 256 = rw n₁ (omega arith) in
    let x₂ : n / 65536 % 256 ≡ x / 65536 % 256 = rw n₂ (omega arith) in
    let x₃ : n / 16777216 % 256 ≡ x / 16777216 % 256 = rw n₃ (omega arith) in
    let high : n / 4294967296 ≡ y = omega arith in
    rw (x₀, x₁, x₂, x₃, high)

pub le8_of : (l : List ℕ) (i : ℕ) → i + 8 ≤ length l → ((j : ℕ) → get_or l j 0 < 256) → le8 (eight_at l i) ≡ take 8 (drop i l)
le8_of l i h b =
    le8_joined (four_at l i) (four_at l (i + 4)) (four_lt l i b)
    ∙ ap₂ (λ (s t : List ℕ). s ++ t) (le4_of l i (omega arith) b) (le4_of l (i + 4) (omega arith) b ∙ ap (take 4) (sym (drop-drop 4 i l)))
    ∙ sym (take-add 4 4 (drop i l))
