-- A number in two parts, h * s + l: over ten the remainder of the upper part goes to the lower; a mantissa moved up, and bytes, fall into such parts.
-- Assumes nothing.
use mathlib.Core.Path.{◌≡◌, sym, ap, ap₂, ◌∙◌}
use mathlib.Core.List.{List, [], ◌∷◌}
use Prim.Native.Nat.{ℕ, zero, suc, ◌+◌, ◌-◌, ◌*◌, ◌/◌, ◌%◌, ◌^◌, ◌≤◌, ◌<◌}
use native.Mathlib.Nat.{add-zero, div-add-mod', mod-le, lt_of_le_of_lt, lt_of_lt_of_le, not-suc-le-zero, le_of_suc-le-suc, pow-suc, pow-le-pow_right}
use native.Mathlib.Numerals.{add-one}
use native.Mathlib.Omega.{arith}
use lib.ListN.{length, take, drop, get_or, length-drop}
use lib.Pow.{shl_exact, shl_lt, pow_mono}
use lib.Seq.{drop-cons, drop-drop, take_all}
use Rattle.float.specs.Word.{biased, mantissa, size88}
use Rattle.float.proofs.Powers.{parted}
use Rattle.decimals.specs.Magnitude.{bytes_at}

-- ---- over ten
pub tenth_of : (h l : ℕ) → h / 10 * 2 ^ 48 + (h % 10 * 2 ^ 48 + l) / 10 ≡ (h * 2 ^ 48 + l) / 10
tenth_of h l = go (h / 10) (h % 10) (omega arith)
  where
    go : (a b : ℕ) → h ≡ 10 * a + b → a * 2 ^ 48 + (b * 2 ^ 48 + l) / 10 ≡ (h * 2 ^ 48 + l) / 10
    go a b e = omega arith

pub digit_of : (h l : ℕ) → (h % 10 * 2 ^ 48 + l) % 10 ≡ (h * 2 ^ 48 + l) % 10
digit_of h l = go (h / 10 * 2 ^ 48) (h % 10 * 2 ^ 48 + l) (h * 2 ^ 48 + l) (omega arith)
  where
    go : (k x y : ℕ) → y ≡ x + 10 * k → x % 10 ≡ y % 10
    go k x y e = omega arith

pub tenth_low : (h l : ℕ) → l < 2 ^ 48 → (h % 10 * 2 ^ 48 + l) / 10 < 2 ^ 48
tenth_low h l s = omega arith

-- ---- a mantissa moved up
pub whole_only : (x : ℕ) → (x / 2 ^ 48 * 2 ^ 48 + x % 2 ^ 48) * 2 ^ 88 + (0 * 2 ^ 40 + 0) ≡ x * 2 ^ 88
whole_only x = add-zero ((x / 2 ^ 48 * 2 ^ 48 + x % 2 ^ 48) * 2 ^ 88) ∙ ap (λ (y : ℕ). y * 2 ^ 88) (div-add-mod' x (2 ^ 48))

pub raised : (w m b k x : ℕ) → m ≡ mantissa w → b ≡ biased w → m < 16777216 → k ≤ b → b ≤ k + 40 → x ≡ m * 2 ^ (b - k) % 2 ^ 64 * 2 ^ k → x ≡ size88 w
unfolding size88
raised w m b k x M B few lo hi e =
    e ∙ ap (λ (y : ℕ). y * 2 ^ k) (shl_exact 24 (b - k) 64 few (omega arith)) ∙ sym (parted m b (b - k) k (omega arith)) ∙ ap₂ (λ (y z : ℕ). y * 2 ^ z) M B

pub unraised : (w m b x : ℕ) → m ≡ mantissa w → b ≡ biased w → m < 16777216 → b ≤ 40 → x ≡ m * 2 ^ b % 2 ^ 64 → x ≡ size88 w
unfolding size88
unraised w m b x M B few hi e = e ∙ shl_exact 24 b 64 few (omega arith) ∙ ap₂ (λ (y z : ℕ). y * 2 ^ z) M B

-- ---- bytes
pub bytes_cons : (l : List ℕ) (i k : ℕ) → i < length l → get_or l i 0 + 256 * bytes_at (take k (drop (i + 1) l)) ≡ bytes_at (take (k + 1) (drop i l))
bytes_cons l i k h = rw (add-one i, add-one k, drop-cons l i 0 h)

pub bytes_split : (n : ℕ) (l : List ℕ) → n ≤ length l → bytes_at l ≡ bytes_at (take n l) + 256 ^ n * bytes_at (drop n l)
bytes_split zero l h = omega arith
bytes_split (suc n) [] h = absurd (not-suc-le-zero h)
bytes_split (suc n) (b ∷ l) h =
    let e = bytes_split n l (le_of_suc-le-suc h) in
    let p = pow-suc 256 n in
    last b (bytes_at l) (bytes_at (take n l)) (bytes_at (drop n l)) (256 ^ n) (256 ^ suc n) e p
  where
    last : (b x t d p q : ℕ) → x ≡ t + p * d → q ≡ p * 256 → b + 256 * x ≡ b + 256 * t + q * d
    last b x t d p q e f = rw (e, f) (omega arith)

pub moved_small : (m b : ℕ) → m < 16777216 → b < 88 → m * 2 ^ (b - 80) % 2 ^ 64 < 2 ^ 56
moved_small m b few hi =
    lt_of_le_of_lt (mod-le (m * 2 ^ (b - 80)) (2 ^ 64)) (lt_of_lt_of_le (shl_lt 24 (b - 80) few) (pow_mono {i = 24 + (b - 80)} {j = 56} (omega arith)))

-- where the loop over bytes stands: so many are left below those whose value was gathered
pub record Gathered (l : List ℕ) (at count value left : ℕ) : Type 0 where
  pub size : length l ≡ 24
  pub bytes_small : (k : ℕ) → get_or l k 0 < 256
  pub few : count ≤ 7
  pub within : at + count ≤ 24
  pub left_in : left ≤ count
  pub value_is : value ≡ bytes_at (take (count - left) (drop (at + left) l))
  pub value_small : value < 256 ^ (count - left)

pub gathers_narrow : (l : List ℕ) (at count value left : ℕ) → 0 < left → Gathered l at count value left → value < 2 ^ 48
gathers_narrow l at count value left h g = lt_of_lt_of_le g.value_small (pow-le-pow_right {n = 256} (omega arith) {i = count - left} {j = 6}
    (let a = g.few in omega arith))

pub gathers : (l : List ℕ) (at count value left : ℕ) → 0 < left → Gathered l at count value left
    → Gathered l at count (value * 256 + get_or l (at + (left - 1)) 0) (left - 1)
gathers l at count value left h g =
    let a = g.within in
    let b = g.left_in in
    let s = g.size in
    let e : at + left ≡ at + (left - 1) + 1 = omega arith in
    let k : count - (left - 1) ≡ count - left + 1 = omega arith in
    record {
      size = s;
      bytes_small = g.bytes_small;
      few = g.few;
      within = a;
      left_in = omega arith;
      value_is =
          swap value (get_or l (at + (left - 1)) 0) (bytes_at (take (count - left) (drop (at + left) l))) g.value_is
          ∙ ap (λ (n : ℕ). get_or l (at + (left - 1)) 0 + 256 * bytes_at (take (count - left) (drop n l))) e
          ∙ bytes_cons l (at + (left - 1)) (count - left) (omega arith)
          ∙ ap (λ (n : ℕ). bytes_at (take n (drop (at + (left - 1)) l))) (sym k);
      value_small = rw (k, add-one (count - left), pow-suc 256 (count - left)) (let v = g.value_small in let y = g.bytes_small (at +
          (left - 1)) in omega arith);
    }
  where
    swap : (v b x : ℕ) → v ≡ x → v * 256 + b ≡ b + 256 * x
    swap v b x e = omega arith

pub gathers_start : (l : List ℕ) (at count : ℕ) → length l ≡ 24 → ((k : ℕ) → get_or l k 0 < 256) → count ≤ 7 → at + count ≤ 24 → Gathered l at count 0 count
gathers_start l at count s b f w = record {
  size = s;
  bytes_small = b;
  few = f;
  within = w;
  left_in = omega arith;
  value_is = let e : count - count ≡ 0 = omega arith in rw e;
  value_small = let e : count - count ≡ 0 = omega arith in rw e (omega arith);
}

pub gathers_end : (l : List ℕ) (at count value left : ℕ) → left ≤ 0 → Gathered l at count value left → (value ≡ bytes_at (take count (drop at l))) ×
    (value < 256 ^ count)
gathers_end l at count value left h g =
    let e : left ≡ 0 = omega arith in
    let k : count - left ≡ count = omega arith in
    let i : at + left ≡ at = omega arith in
    (g.value_is ∙ rw (k, i), rw k at g.value_small)

-- four runs of bytes
pub four_runs : (l : List ℕ) → length l ≡ 24
    → (bytes_at (take 7 (drop 17 l)) * 2 ^ 48 + bytes_at (take 6 (drop 11 l))) * 2 ^ 88 + (bytes_at (take 6 (drop 5 l)) * 2 ^ 40 + bytes_at (take 5
    (drop 0 l))) ≡ bytes_at l
four_runs l h =
    sym (bytes_split 5 l (omega arith)
    ∙ ap (λ (x : ℕ). bytes_at (take 5 l) + 256 ^ 5 * x)
    (bytes_split 6 (drop 5 l) (simp length-drop (omega arith))
    ∙ ap (λ (x : ℕ). bytes_at (take 6 (drop 5 l)) + 256 ^ 6 * x)
    (ap bytes_at (drop-drop 6 5 l) ∙ bytes_split 6 (drop 11 l) (simp length-drop (omega arith))
    ∙ ap (λ (x : ℕ). bytes_at (take 6 (drop 11 l)) + 256 ^ 6 * x)
    (ap bytes_at (drop-drop 6 11 l ∙ sym (take_all 7 (drop 17 l) (simp length-drop (omega arith)))))))
    ∙ laid (bytes_at (take 5 l)) (bytes_at (take 6 (drop 5 l))) (bytes_at (take 6 (drop 11 l))) (bytes_at (take 7 (drop 17 l))))
  where
    laid : (a b c d : ℕ) → a + 256 ^ 5 * (b + 256 ^ 6 * (c + 256 ^ 6 * d)) ≡ (d * 2 ^ 48 + c) * 2 ^ 88 + (b * 2 ^ 40 + a)
    laid a b c d =
        let x : c + 256 ^ 6 * d ≡ d * 2 ^ 48 + c = omega arith in
        rw x (nest a b (d * 2 ^ 48 + c))
      where
        nest : (a b y : ℕ) → a + 256 ^ 5 * (b + 256 ^ 6 * y) ≡ y * 2 ^ 88 + (b * 2 ^ 40 + a)
        nest a b y = omega arith

pub four_parts : (l : List ℕ) (a b c d : ℕ) → length l ≡ 24 → a ≡ bytes_at (take 5 (drop 0 l)) → b ≡ bytes_at (take 6 (drop 5 l)) → c ≡ bytes_at (take 6
    (drop 11 l))
    → d ≡ bytes_at (take 7 (drop 17 l)) → (d * 2 ^ 48 + c) * 2 ^ 88 + (b * 2 ^ 40 + a) ≡ bytes_at l
four_parts l a b c d h ea eb ec ed =
    ap₂ (λ (x y : ℕ). (x * 2 ^ 48 + y) * 2 ^ 88 + (b * 2 ^ 40 + a)) ed ec
    ∙ ap₂ (λ (x y : ℕ). (bytes_at (take 7 (drop 17 l)) * 2 ^ 48 + bytes_at (take 6 (drop 11 l))) * 2 ^ 88 + (x * 2 ^ 40 + y)) eb ea
    ∙ four_runs l h
