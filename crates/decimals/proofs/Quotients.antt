-- A quotient found bit by bit: q * d + r is the number, doubled so often; the last bit, made odd where something remains, stands for all below it. Assumes
-- nothing.
use mathlib.Core.Path.{◌≡◌, refl, sym, ap, ap₂, ◌∙◌, subst, subst₂}
use mathlib.Core.Logic.{inl, inr}
use Prim.Native.Nat.{ℕ, zero, suc, ◌+◌, ◌-◌, ◌*◌, ◌/◌, ◌%◌, ◌^◌, ◌≤◌, ◌<◌}
use native.Mathlib.Nat.{lt_of_not-le, mul_assoc, mul_comm, mul-mul-mul_comm, mul-le-mul, mul-le-mul_left, mul-le-mul_right, div-le_self}
use native.Mathlib.Nat.{div-add-mod', pow-suc, pow-le-pow_right, lt_of_le_of_lt, zero-mul}
use native.Mathlib.Numerals.{add-one}
use native.Mathlib.Omega.{arith}
use lib.Dec.{lit<}
use lib.Pow.{pow-add, pow_pos, pow_mono, shl_exact}
use Rattle.float.specs.Jam.{Jammed}
use Rattle.float.proofs.cut.Jams.{jam_of, jam_scale}
use Rattle.decimals.specs.Bring.{StandsFor}

-- ---- powers of five and of ten
pub five_lt : (n : ℕ) → n ≤ 27 → 5 ^ n < 2 ^ 63
five_lt n h = lt_of_le_of_lt (pow-le-pow_right {n = 5} (omega arith) {i = n} {j = 27} h) (lit< {m = 5 ^ 27} {n = 2 ^ 63} tt)

pub five_suc : (n : ℕ) → 5 ^ (n + 1) ≡ 5 ^ n * 5
five_suc n = ap (λ (k : ℕ). 5 ^ k) (add-one n) ∙ pow-suc 5 n

pub five_pos : (n : ℕ) → 0 < 5 ^ n
five_pos zero = omega arith
five_pos (suc n) = let e = pow-suc 5 n in let h = five_pos n in omega arith

pub ten_pos : (n : ℕ) → 0 < 10 ^ n
ten_pos zero = omega arith
ten_pos (suc n) = let e = pow-suc 10 n in let h = ten_pos n in omega arith

pub ten_parts : (n : ℕ) → 10 ^ n ≡ 2 ^ n * 5 ^ n
ten_parts zero = refl
ten_parts (suc n) =
    pow-suc 10 n ∙ ap (λ (x : ℕ). x * 10) (ten_parts n) ∙ mul-mul-mul_comm (2 ^ n) (5 ^ n) 2 5 ∙ ap₂ (λ (x y : ℕ). x * y) (sym (pow-suc 2 n)) (sym
    (pow-suc 5 n))

-- ---- one bit after the other
pub record Onward (k d q r s : ℕ) : Type 0 where
  pub same : q * d + r ≡ k * 2 ^ s
  pub below : r < d
  pub small : d < 2 ^ 63
  pub some : 0 < k
  pub few : s ≤ 88

pub begins : (d q r : ℕ) → r < d → d < 2 ^ 63 → 0 < q + r → Onward (q * d + r) d q r 0
begins d q r b l h = record {
  same = let e : (q * d + r) * 2 ^ 0 ≡
      (q * d + r) * 1 = refl in omega arith;
  below = b;
  small = l;
  some = go r q h;
  few = omega arith;
}
  where
    go : (r q : ℕ) → 0 < q + r → 0 < q * d + r
    go (suc r) q h = omega arith
    go zero zero h = absurd (omega arith)
    go zero (suc q) h = let e : 1 * d ≤ suc q * d = mul-le-mul_right d (omega arith) in omega arith

pub not_yet : (k d q r s : ℕ) → Onward k d q r s → q < 2 ^ 25 → s < 88
not_yet k d q r s w h =
    lt_of_not-le (λ (g : 88 ≤ s).
    let a : 2 ^ 88 ≤ 2 ^ s = pow_mono g in
    let b : 1 * 2 ^ s ≤ k * 2 ^ s = mul-le-mul_right (2 ^ s) w.some in
    let c : (q + 1) * d ≤ 2 ^ 25 * d = mul-le-mul_right d (omega arith) in
    let e = w.same in
    let f = w.below in
    let l = w.small in
    omega arith)

pub goes_on : (k d q r s a b t : ℕ) → Onward k d q r s → s < 88 → a * d + b ≡ 2 * (q * d + r) → b < d → t ≡ s + 1 → Onward k d a b t
goes_on k d q r s a b t w h e l f =
    let p : 2 ^ (s + 1) ≡ 2 ^ s * 2 = pow-add 2 s 1 in
    let g = w.same in
    record {
      same = e ∙ ap (λ (x : ℕ). 2 * x) g ∙ twice k (2 ^ s) ∙ ap (λ (x : ℕ). k * x) (sym p ∙ ap (λ (x : ℕ). 2 ^ x) (sym f));
      below = l;
      small = w.small;
      some = w.some;
      few = omega arith;
    }
  where
    twice : (k x : ℕ) → 2 * (k * x) ≡ k * (x * 2)
    twice k x = omega arith

-- ---- what stands for the number
pub jam_enough : (q v t : ℕ) → 2 ^ 25 ≤ q → Jammed q v t → 2 ^ 25 ≤ t
jam_enough q v t h (inl w) = let e = w.1 in omega arith
jam_enough q v t h (inr w) = let e = w.2 in omega arith

-- the whole part, of 26 bits or more
pub whole_stands : (w f p t : ℕ) → f < 10 ^ p → Jammed w f t → StandsFor ((w * 10 ^ p + f) * 2 ^ 200) (10 ^ p * 2 ^ 200) t
whole_stands w f p t l j = jam_scale (w * 10 ^ p + f) (10 ^ p) t (2 ^ 200) (pow_pos 200) (jam_of w f (10 ^ p) t l j)

-- a quotient by 5 ^ p of the number times 2 ^ s
pub quotient_stands : (k p s q r t : ℕ) → s ≤ 88 → p ≤ 27 → q * 5 ^ p + r ≡ k * 2 ^ s → r < 5 ^ p → Jammed q r t
    → StandsFor (k * 2 ^ 200) (10 ^ p * 2 ^ (200 - s - p)) t
quotient_stands k p s q r t a b e l j =
    subst₂ (λ (x y : ℕ). StandsFor x y t) number unit (jam_scale (q * 5 ^ p + r) (5 ^ p) t (2 ^ (200 - s)) (pow_pos (200 - s)) (jam_of q r (5 ^ p) t l j))
  where
    number : (q * 5 ^ p + r) * 2 ^ (200 - s) ≡ k * 2 ^ 200
    number =
        ap (λ (x : ℕ). x * 2 ^ (200 - s)) e ∙ mul_assoc k (2 ^ s) (2 ^ (200 - s))
        ∙ ap (λ (x : ℕ). k * x) (sym (pow-add 2 s (200 - s)) ∙ ap (λ (n : ℕ). 2 ^ n) count)
      where
        count : s + (200 - s) ≡ 200
        count = omega arith

    unit : 5 ^ p * 2 ^ (200 - s) ≡ 10 ^ p * 2 ^ (200 - s - p)
    unit =
        ap (λ (n : ℕ). 5 ^ p * 2 ^ n) count ∙ ap (λ (x : ℕ). 5 ^ p * x) (pow-add 2 p (200 - s - p)) ∙ sym (mul_assoc (5 ^ p) (2 ^ p) (2 ^ (200 - s - p)))
        ∙ ap (λ (x : ℕ). x * 2 ^ (200 - s - p)) (mul_comm (5 ^ p) (2 ^ p) ∙ sym (ten_parts p))
      where
        count : 200 - s ≡ p + (200 - s - p)
        count = omega arith

-- where the quotient begins: the whole part moved up, and the places over 5 ^ p
pub begun_is : (w f p d : ℕ) → w < 2 ^ 25 → p ≤ 27 → d ≡ 5 ^ p → (w * 2 ^ p % 2 ^ 64 + f / d) * d + f % d ≡ w * 10 ^ p + f
begun_is w f p d h b e =
    ap (λ (x : ℕ). (x + f / d) * d + f % d) (shl_exact 25 p 64 h (omega arith))
    ∙ spread (w * 2 ^ p) (f / d) (f % d) d
    ∙ ap₂ (λ (x y : ℕ). x + y) (ap (λ (x : ℕ). w * 2 ^ p * x) e ∙ mul_assoc w (2 ^ p) (5 ^ p) ∙ ap (λ (x : ℕ). w * x) (sym (ten_parts p))) (div-add-mod' f d)
  where
    spread : (a b c d : ℕ) → (a + b) * d + c ≡ a * d + (b * d + c)
    spread a b c d = omega arith

pub begun_room : (w f p d : ℕ) → w < 2 ^ 25 → p ≤ 27 → f < 10 ^ 19 → w * 2 ^ p % 2 ^ 64 + f / d < 2 ^ 64
begun_room w f p d h b l =
    let e : w * 2 ^ p % 2 ^ 64 ≡ w * 2 ^ p = shl_exact 25 p 64 h (omega arith) in
    let a : 2 ^ p ≤ 2 ^ 27 = pow_mono {i = p} {j = 27} b in
    let g : w * 2 ^ p ≤ 2 ^ 25 * 2 ^ 27 = mul-le-mul {n₁ = w} {m₁ = 2 ^ p} {n₂ = 2 ^ 25} {m₂ = 2 ^ 27} (omega arith) a in
    let i = div-le_self f d in
    omega arith

pub begun_some : (w f p d : ℕ) → w < 2 ^ 25 → p ≤ 27 → 0 < d → 0 < w + f → 0 < w * 2 ^ p % 2 ^ 64 + f / d + f % d
begun_some w f p d h b D s =
    let e : w * 2 ^ p % 2 ^ 64 ≡ w * 2 ^ p = shl_exact 25 p 64 h (omega arith) in
    let a : w * 1 ≤ w * 2 ^ p = mul-le-mul_left w (pow_pos p) in
    let g = div-add-mod' f d in
    subst (λ (v : ℕ). 0 < v + f / d + f % d) (sym e) (go w (f / d) (f % d) (w * 2 ^ p) e g a s)
  where
    go : (w q r v : ℕ) → w * 2 ^ p % 2 ^ 64 ≡ v → q * d + r ≡ f → w * 1 ≤ v → 0 < w + f → 0 < v + q + r
    go w (suc q) r v e g a s = omega arith
    go w zero (suc r) v e g a s = omega arith
    go w zero zero v e g a s = let z = zero-mul d in omega arith
