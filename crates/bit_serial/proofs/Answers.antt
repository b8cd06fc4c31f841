-- What the program has at the end of each operation is the answer of the definitions: the steps are the same, and the cut is the same in fine units.
-- Assumes nothing.
use mathlib.Core.Path.{◌≡◌, refl, sym, ap, ap₂, ◌∙◌}
use mathlib.Core.Logic.{inl}
use Rattle.std.proofs.Common.{Result, Ok, Err}
use mathlib.Core.Bool.{Bool, true, false, ◌&&◌, cond}
use Prim.Native.Nat.{ℕ, ◌+◌, ◌-◌, ◌*◌, ◌^◌, ◌≤◌, ◌<◌}
use native.Mathlib.Nat.{mul_assoc, mul-pos, lt_of_le_of_lt}
use native.Mathlib.Omega.{arith}
use borrow.Author.Tests.{ne_eqb}
use lib.Ieee.{unlike}
use lib.Pow.{pow-add, pow_pos}
use Rattle.numbers.specs.Signed.{with_sign}
use Rattle.terms.specs.declared.Refusal.{Refusal}
use Rattle.terms.specs.declared.Refusal.TheVariants.{Improper}
use Rattle.terms.specs.declared.Rule.{Rule}
use Rattle.fixed.proofs.Products.{product_few}
use Rattle.float.specs.declared.Flagged.{Flagged}
use Rattle.float.specs.Word.{negative, biased, mantissa, proper}
use Rattle.float.specs.Cut.{cut_size, cut}
use Rattle.float.proofs.Powers.{parted}
use Rattle.float.proofs.cut.Jams.{stands_cut}
use Rattle.float.proofs.cut.Signs.{cut_sign, cut_scaled}
use Rattle.bit_serial.specs.declared.multiply.Product.{Product}
use Rattle.bit_serial.specs.declared.divide.Division.{Division}
use Rattle.bit_serial.specs.Answer.{worked}
use Rattle.bit_serial.specs.Product.{product}
use Rattle.bit_serial.specs.Quotient.{division}
use Rattle.bit_serial.specs.Engine.{after, marked, mantissas_of, mantissas_multiplied, mantissas_divided, fmul_answer, fdiv_answer}
use Rattle.bit_serial.proofs.Products.{below}

-- a product in the making has room in both halves
pub few : (h n x y : ℕ) (p : Product) → 0 < h → x ≤ h → y ≤ h → p ≡ product n x y → p.partial < 2 * h * h
few h n x y p k X Y P = lt_of_le_of_lt (rw P (below n x y)) (product_few h x y k X Y)

-- ---- floats
-- a marked quotient m at the place of the exponents i and j, in fine units
pub in_place : (rule : Rule) (s : Bool) (m i j : ℕ) → j < 128 → cut rule (with_sign s (m * 2 ^ i)) (2 ^ 26 * 2 ^ j) ≡ cut_size rule s (m * 2 ^ (i + 174 - j)) 1
in_place rule s m i j l =
    cut_sign rule s (m * 2 ^ i) (2 ^ 26 * 2 ^ j) ∙ stands_cut rule s (m * 2 ^ i * 2 ^ 200) (2 ^ 26 * 2 ^ j) m (i + 174 - j) (mul-pos (pow_pos 26) (pow_pos j))
    (inl units)
  where
    units : m * 2 ^ i * 2 ^ 200 ≡ m * (2 ^ 26 * 2 ^ j * 2 ^ (i + 174 - j))
    units =
        let e : i + 200 ≡ 26 + j + (i + 174 - j) = omega arith in
        mul_assoc m (2 ^ i) (2 ^ 200)
        ∙ ap (λ (k : ℕ). m * k) (sym (pow-add 2 i 200) ∙ ap (λ (k : ℕ). 2 ^ k) e ∙ pow-add 2 (26 + j) (i + 174 - j) ∙ ap (λ (k : ℕ). k * 2 ^ (i + 174 - j))
        (pow-add 2 26 j))

-- the mantissas of proper operands
taken : (t : Bool) (p q : ℕ × ℕ) → Ok p ≡ cond {A = Result (ℕ × ℕ) Refusal} t (Ok q) (Err Improper) → (t ≡ true) × (p.0 ≡ q.0) × (p.1 ≡ q.1)
taken true p q e = let w : p ≡ q = (cc) in (refl, ap (λ (u : ℕ × ℕ). u.0) w, ap (λ (u : ℕ × ℕ). u.1) w)
taken false p q e = absurd (cc)

module _ (rule : Rule) (b a : ℕ) (s : Bool) (x y i j : ℕ) (M : Ok (x, y) ≡ mantissas_of b a) (S : s ≡ unlike (negative b) (negative a)) (I : i ≡ biased b)
    (J : j ≡ biased a) where
  both : ((proper b && proper a) ≡ true) × (x ≡ mantissa b) × (y ≡ mantissa a)
  both = taken (proper b && proper a) (x, y) (mantissa b, mantissa a) M

  pub fmul_rest : (p : Product) (r : Flagged) → p ≡ product 24 x y → r ≡ cut_size rule s (p.partial * 2 ^ (i + j + 24)) 1
      → worked r.word r.error p.steps ≡ fmul_answer rule b a
  unfolding fmul_answer
  fmul_rest p r P R =
      rw both.0 (ap (after p.steps) (R ∙ scaled) ∙ (λ k. after (same k).steps (cut rule (with_sign (S k) ((same k).partial * 2 ^ (I k + J k))) (2 ^ 176))))
    where
      same : p ≡ mantissas_multiplied b a
      same = P ∙ ap₂ (product 24) both.1 both.2

      scaled : cut_size rule s (p.partial * 2 ^ (i + j + 24)) 1 ≡ cut rule (with_sign s (p.partial * 2 ^ (i + j))) (2 ^ 176)
      scaled = ap (λ (m : ℕ). cut_size rule s m 1) (parted p.partial (i + j + 24) (i + j) 24 refl)
          ∙ sym (cut_scaled rule s (p.partial * 2 ^ (i + j)) 176 24 refl)

  pub fdiv_rest : (q : Division) (m : ℕ) (r : Flagged) → (y ≡ 0 → ⊥) → j < 128 → q ≡ division 26 (x * 2 ^ 25) y → m ≡ marked q.quotient q.rest
      → r ≡ cut_size rule s (m * 2 ^ (i + 174 - j)) 1
      → worked r.word r.error (26 - q.left) ≡ fdiv_answer rule b a
  unfolding fdiv_answer
  fdiv_rest q m r z l Q N R =
      rw (both.0, ne_eqb (mantissa a) 0 (λ e. z (both.2 ∙ e)))
      (ap (after (26 - q.left)) (R ∙ sym (in_place rule s m i j l) ∙ ap (λ (k : ℕ). cut rule (with_sign s (k * 2 ^ i)) (2 ^ 26 * 2 ^ j)) N)
      ∙ (λ k. after (26 - (same k).left) (cut rule (with_sign (S k) (marked (same k).quotient (same k).rest * 2 ^ I k)) (2 ^ 26 * 2 ^ J k))))
    where
      same : q ≡ mantissas_divided b a
      same = Q ∙ ap₂ (λ (u v : ℕ). division 26 (u * 2 ^ 25) v) both.1 both.2
