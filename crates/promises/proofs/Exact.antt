-- How float results are formed and cut: each sentence is a law of `float`, over the rule. Assumes nothing.
use mathlib.Core.Path.{◌≡◌, refl, sym, ap, ap₂, ◌∙◌, subst}
use mathlib.Core.Bool.{Bool, true, false}
use mathlib.Core.Logic.{inl, inr}
use Prim.Native.Nat.{ℕ, ◌+◌, ◌-◌, ◌*◌, ◌^◌, ◌≤◌, ◌<◌}
use native.Mathlib.Nat.{mul_assoc}
use native.Mathlib.Omega.{arith}
use borrow.Author.Tests.{le-leb, lt-leb, leb-true, leb-false}
use lib.Dec.{leb}
use lib.IntN.{ℤ, pos, neg_ℤ, nat_abs, ◌*ℤ◌}
use lib.Ieee.{unlike}
use lib.Pow.{pow_pos}
use Rattle.numbers.proofs.Signs.{times}
use Rattle.terms.specs.declared.Rule.{Rule}
use Rattle.terms.specs.declared.Rule.TheVariants.{Cut}
use Rattle.float.specs.Word.{size88 as size_of, value as value_of_lem}
use Rattle.float.specs.Cut.{cut}
use Rattle.float.specs.Float.{add, sub, mul, div}
use Rattle.float.specs.Convert.{fltd, flts, fix, chsf, whole_part as whole_of}
use Rattle.promises.proofs.float.OnePair.{a_pair, one_pair}
use Rattle.float.proofs.cut.Signs.{times_size}
use Rattle.float.proofs.Results.{size_pos, div_cut}
use Rattle.promises.proofs.float.Steps.{add_exactly, sub_exactly, mul_exactly, div_exactly, div_by_zero}
use Rattle.float.proofs.Results.{add_result, sub_result, mul_result, div_result, fltd_result, flts_result}
use Rattle.promises.proofs.float.SignChange.{chsf_word, chsf_value}
use Rattle.promises.proofs.float.Kept.{own_value, same_word}
use Rattle.promises.proofs.float.Conversions.{Fixes, flts_exact, fltd_exactly, fltd_no_error, flts_no_error, flts_either, whole_part_lem, fix_law}
use Rattle.promises.specs.FloatWords.{with_sign, below0, mantissa, size88, value, FloatWord, exact_sum, exact_difference, exact_product, dividend, divisor}
use Rattle.promises.specs.FloatResults.{clean, ExactlyBy, integer, whole_part, Truncated}
use Rattle.promises.specs.Exact.{Operations, ResultWords, Exact}
use Rattle.promises.proofs.Measures.{theirs_word, ours_word}

-- ---- the exact value, brought to a word by a rule
pub sum_exact : (r : Rule) (b a : ℕ) → ExactlyBy r (exact_sum b a) (2 ^ 88) (neg_ℤ (pos 87)) (pos 64) (add r b a)
unfolding value_of_lem
sum_exact r b a = add_exactly r b a

pub difference_exact : (r : Rule) (b a : ℕ) → ExactlyBy r (exact_difference b a) (2 ^ 88) (neg_ℤ (pos 87)) (pos 64) (sub r b a)
unfolding value_of_lem
difference_exact r b a = sub_exactly r b a

pub product_exact : (r : Rule) (b a : ℕ) → FloatWord b → FloatWord a → ExactlyBy r (exact_product b a) (2 ^ 176) (neg_ℤ (pos 129)) (pos 126) (mul r b a)
unfolding value_of_lem
product_exact r b a B A = mul_exactly r b a B.is_proper A.is_proper

pub quotient_exact : (r : Rule) (b a : ℕ) → FloatWord b → FloatWord a → (mantissa a ≡ 0 → ⊥) → ExactlyBy r (dividend b a) (divisor a) (neg_ℤ (pos 127)) (pos 128)
    (div r b a)
unfolding size_of
quotient_exact r b a B A nz = div_exactly r b a B.is_proper A.is_proper nz

pub fltd_exact : (r : Rule) (a : ℕ) → a < 2 ^ 32 → ExactlyBy r (integer (2 ^ 31) a) 1 (pos 1) (pos 32) (fltd r a)
fltd_exact r a h = fltd_exactly r a h

-- FLTS of a word is FLTD of the same number in 32 bits
long : (r : Rule) (a b : ℕ) → b < 2 ^ 32 → integer (2 ^ 31) b ≡ integer (2 ^ 15) a → ExactlyBy r (integer (2 ^ 15) a) 1 (pos 1) (pos 32)
    (cut r (integer (2 ^ 15) a) 1)
unfolding fltd
long r a b h e = subst (λ (z : ℤ). ExactlyBy r z 1 (pos 1) (pos 32) (cut r z 1)) e (fltd_exact r b h)

longer : (a : ℕ) → a < 65536 → (b : ℕ) × (b < 2 ^ 32) × (integer (2 ^ 31) b ≡ integer (2 ^ 15) a)
longer a h = go (leb 32768 a) refl
  where
    go : (x : Bool) → leb 32768 a ≡ x → (b : ℕ) × (b < 2 ^ 32) × (integer (2 ^ 31) b ≡ integer (2 ^ 15) a)
    go true e =
        let l = leb-true 32768 a e in
        let q : 4294967296 - (a + 4294901760) ≡ 65536 - a = omega arith in
        (a + 4294901760, omega arith, rw (le-leb 2147483648 (a + 4294901760) (omega arith), e) (ap (λ (n : ℕ). with_sign true n) q))
    go false e =
        let l = leb-false 32768 a e in
        (a, omega arith, rw (lt-leb 2147483648 a (omega arith), e) refl)

pub flts_brought : (r : Rule) (a : ℕ) → a < 2 ^ 16 → ExactlyBy r (integer (2 ^ 15) a) 1 (pos 1) (pos 32) (flts a)
flts_brought r a h =
    let b = longer a h in
    subst (ExactlyBy r (integer (2 ^ 15) a) 1 (pos 1) (pos 32)) (flts_either r a h) (long r a b.0 b.1 b.2)

-- ---- the words
-- a whole number times two factors
twice : (z : ℤ) (x y : ℕ) → z *ℤ pos x *ℤ pos y ≡ z *ℤ pos (x * y)
twice z x y =
    ap (λ (u : ℤ). u *ℤ pos y) (times_size z x) ∙ times (below0 z) false (nat_abs z * x) y
    ∙ ap₂ with_sign (alone (below0 z)) (mul_assoc (nat_abs z) x y) ∙ sym (times_size z (x * y))
  where
    alone : (s : Bool) → unlike s false ≡ s
    alone true = refl
    alone false = refl

-- an exact result that is the value of a proper word, under either rule
pub sum_kept : (r : Rule) (b a w : ℕ) → FloatWord w → value w ≡ exact_sum b a → add r b a ≡ clean w
unfolding add
sum_kept r b a w W e = own_value r w (exact_sum b a) (2 ^ 88) W (pow_pos 88) (ap (λ (z : ℤ). z *ℤ pos (2 ^ 88)) e)

pub difference_kept : (r : Rule) (b a w : ℕ) → FloatWord w → value w ≡ exact_difference b a → sub r b a ≡ clean w
unfolding sub
difference_kept r b a w W e = own_value r w (exact_difference b a) (2 ^ 88) W (pow_pos 88) (ap (λ (z : ℤ). z *ℤ pos (2 ^ 88)) e)

pub product_kept : (r : Rule) (b a w : ℕ) → FloatWord w → value w *ℤ pos (2 ^ 88) ≡ exact_product b a → mul r b a ≡ clean w
unfolding mul
product_kept r b a w W e = own_value r w (exact_product b a) (2 ^ 176) W (pow_pos 176)
    (sym (twice (value w) (2 ^ 88) (2 ^ 88)) ∙ ap (λ (z : ℤ). z *ℤ pos (2 ^ 88)) e)

pub quotient_kept : (r : Rule) (b a w : ℕ) → FloatWord w → (mantissa a ≡ 0 → ⊥) → value w *ℤ pos (divisor a) ≡ dividend b a *ℤ pos (2 ^ 88) → div r b
    a ≡ clean w
unfolding value_of_lem
quotient_kept r b a w W nz e = div_cut r b a nz ∙ own_value r w (dividend b a) (divisor a) W (size_pos a nz) e

one_word : (v w : ℕ) → FloatWord v → FloatWord w → value v ≡ value w → v ≡ w
unfolding value_of_lem
one_word v w A B e = same_word v w A B e

opposite : (a : ℕ) → FloatWord a → value (chsf a) ≡ neg_ℤ (value a)
unfolding value_of_lem
opposite a A = chsf_value a (theirs_word A)

-- ---- the conversions
flts_value : (a : ℕ) → a < 2 ^ 16 → value (flts a).word ≡ integer (2 ^ 15) a *ℤ pos (2 ^ 88)
unfolding value_of_lem
flts_value a h = flts_exact a h

part : (a : ℕ) → (whole_part a * 2 ^ 88 ≤ size88 a) × (size88 a < (whole_part a + 1) * 2 ^ 88)
unfolding whole_of
part a = whole_part_lem a

-- below half, or not
taken : (half a : ℕ) → whole_part a < half → Truncated half a (fix half a)
unfolding whole_of
taken half a h = go (fix_law half a)
  where
    go : Fixes half a (fix half a) → Truncated half a (fix half a)
    go (inl t) = t.1
    go (inr t) = let k = t.0 in absurd (omega arith)

over : (half a : ℕ) → half ≤ whole_part a → fix half a ≡ record { word = a; error = 1 }
unfolding whole_of
over half a h = go (fix_law half a)
  where
    go : Fixes half a (fix half a) → fix half a ≡ record { word = a; error = 1 }
    go (inl t) = let k = t.0 in absurd (omega arith)
    go (inr t) = t.1

-- ---- the four operations under either rule
pub operations_by : (rule : Rule) → Operations rule
operations_by rule = record {
  sum = λ b a B A. sum_exact rule b a;
  difference = λ b a B A. difference_exact rule b a;
  product = product_exact rule;
  quotient = quotient_exact rule;
  by_zero = λ b a A z. div_by_zero rule b a z;
}

pub results_by : (rule : Rule) → ResultWords rule
results_by rule = record {
  proper_sum = λ b a. (ours_word (add_result rule b a).word, ours_word (sub_result rule b a).word);
  proper_product = λ b a. ours_word (mul_result rule b a).word;
  proper_quotient = λ b a B. ours_word (div_result rule b a (theirs_word B)).word;
  sum_kept = sum_kept rule;
  difference_kept = difference_kept rule;
  product_kept = product_kept rule;
  quotient_kept = quotient_kept rule;
}

-- ---- the statement
pub exact : Exact
exact = record {
  one_pair = record {
    exists = a_pair;
    only = one_pair;
  };
  operations = operations_by Cut;
  words = record {
    results = results_by Cut;
    proper_change = λ a A. ours_word (chsf_word a (theirs_word A));
    one_word = one_word;
    opposite = opposite;
  };
  conversions = record {
    flts_exact = flts_value;
    fltd_cut = fltd_exact Cut;
    no_error = λ a. (λ h. flts_no_error a h, λ h. fltd_no_error Cut a h);
    proper_floats = λ a. (ours_word (flts_result a).word, ours_word (fltd_result Cut a).word);
    fixd_taken = λ a h. taken (2 ^ 31) a h;
    fixs_taken = λ a h. taken (2 ^ 15) a h;
    fixd_over = λ a h. over (2 ^ 31) a h;
    fixs_over = λ a h. over (2 ^ 15) a h;
    whole_part_lem = part;
  };
}
