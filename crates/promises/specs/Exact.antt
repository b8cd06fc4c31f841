-- Demand 2, float results: how they are formed and cut, in whole numbers. Definitions and the statement only:
-- proofs/Exact.antt proves it. Assumes nothing.
-- Results are taken from the definitions that the commands cite, under the rule of the chip as it stands.
use Rattle.std.specs.Prelude.{ℕ, ◌+◌, ◌*◌, ◌^◌, ◌≤◌, ◌<◌, ◌≡◌, ℤ, pos, neg_ℤ, ◌*ℤ◌}
use Rattle.terms.specs.declared.Rule.{Rule}
use Rattle.terms.specs.declared.Rule.TheVariants.{Cut}
use Rattle.float.specs.Float.{add, sub, mul, div}
use Rattle.float.specs.Convert.{fltd, flts, fixd, fixs, chsf}
use Rattle.promises.specs.FloatWords.{mantissa, size88, value, FloatWord, exact_sum, exact_difference, exact_product}
use Rattle.promises.specs.FloatWords.{dividend, divisor}
use Rattle.promises.specs.FloatResults.{clean, integer, whole_part, Pair, ExactlyBy, Exactly, Truncated}

-- ---- the pair m, e of a magnitude n / d, e unbounded, by comparing products
pub record OnePair : Type 0 where
  -- there is one
  pub exists : (n d : ℕ) → 0 < n → 0 < d → (m : ℕ) × (e : ℤ) × Pair n d m e
  -- and no other
  pub only : (n d m m' : ℕ) (e e' : ℤ) → 0 < d → Pair n d m e → Pair n d m' e' → (m ≡ m') × (e ≡ e')

-- ---- FADD, FSUB, FMUL, FDIV under a rule: zero gives the zero word; else sign kept, m of the rule's pair, and its e,
-- that after rounding, with at most one step of 128. The bounds of e are those of 01's cut
pub record Operations (rule : Rule) : Type 0 where
  -- the exact sum and difference, times 2^88: e from -87 to 64
  pub sum : (b a : ℕ) → FloatWord b → FloatWord a
      → ExactlyBy rule (exact_sum b a) (2 ^ 88) (neg_ℤ (pos 87)) (pos 64) (add rule b a)
  pub difference : (b a : ℕ) → FloatWord b → FloatWord a
      → ExactlyBy rule (exact_difference b a) (2 ^ 88) (neg_ℤ (pos 87)) (pos 64) (sub rule b a)
  -- the exact product, times 2^176: e from -129 to 126
  pub product : (b a : ℕ) → FloatWord b → FloatWord a
      → ExactlyBy rule (exact_product b a) (2 ^ 176) (neg_ℤ (pos 129)) (pos 126) (mul rule b a)
  -- the exact quotient, two whole numbers: e from -127 to 128
  pub quotient : (b a : ℕ) → FloatWord b → FloatWord a → (mantissa a ≡ 0 → ⊥)
      → ExactlyBy rule (dividend b a) (divisor a) (neg_ℤ (pos 127)) (pos 128) (div rule b a)
  -- by zero: B, divide by zero
  pub by_zero : (b a : ℕ) → FloatWord a → mantissa a ≡ 0 → div rule b a ≡ record { word = b; error = 8 }

-- ---- what follows for the words
pub record ResultWords (rule : Rule) : Type 0 where
  -- results are proper
  pub proper_sum : (b a : ℕ) → FloatWord (add rule b a).word × FloatWord (sub rule b a).word
  pub proper_product : (b a : ℕ) → FloatWord (mul rule b a).word
  pub proper_quotient : (b a : ℕ) → FloatWord b → FloatWord (div rule b a).word
  -- an exact result that is the value of a proper word is that word, with no error bit
  pub sum_kept : (b a w : ℕ) → FloatWord w → value w ≡ exact_sum b a → add rule b a ≡ clean w
  pub difference_kept : (b a w : ℕ) → FloatWord w → value w ≡ exact_difference b a → sub rule b a ≡ clean w
  pub product_kept : (b a w : ℕ) → FloatWord w → value w *ℤ pos (2 ^ 88) ≡ exact_product b a → mul rule b a ≡ clean w
  pub quotient_kept : (b a w : ℕ) → FloatWord w → (mantissa a ≡ 0 → ⊥)
      → value w *ℤ pos (divisor a) ≡ dividend b a *ℤ pos (2 ^ 88) → div rule b a ≡ clean w

pub record WordLaws : Type 0 where
  pub results : ResultWords Cut
  pub proper_change : (a : ℕ) → FloatWord a → FloatWord (chsf a)
  -- two proper words of one value are one word
  pub one_word : (v w : ℕ) → FloatWord v → FloatWord w → value v ≡ value w → v ≡ w
  -- CHSF gives the opposite value
  pub opposite : (a : ℕ) → FloatWord a → value (chsf a) ≡ neg_ℤ (value a)

-- ---- the conversions
pub record Conversions : Type 0 where
  -- FLTS: A's value, exact; FLTD: A's value, cut to 24 bits; neither sets an error
  pub flts_exact : (a : ℕ) → a < 2 ^ 16 → value (flts a).word ≡ integer (2 ^ 15) a *ℤ pos (2 ^ 88)
  pub fltd_cut : (a : ℕ) → a < 2 ^ 32 → Exactly (integer (2 ^ 31) a) 1 (pos 1) (pos 32) (fltd Cut a)
  pub no_error : (a : ℕ) → (a < 2 ^ 16 → (flts a).error ≡ 0) × (a < 2 ^ 32 → (fltd Cut a).error ≡ 0)
  pub proper_floats : (a : ℕ) → FloatWord (flts a).word × FloatWord (fltd Cut a).word
  -- FIXD, FIXS: |R| <= |A| < |R| + 1 with A's sign where the whole part is at most 2^31-1 or 32,767
  pub fixd_taken : (a : ℕ) → whole_part a < 2 ^ 31 → Truncated (2 ^ 31) a (fixd a)
  pub fixs_taken : (a : ℕ) → whole_part a < 2 ^ 15 → Truncated (2 ^ 15) a (fixs a)
  -- over that, A unchanged and overflow
  pub fixd_over : (a : ℕ) → 2 ^ 31 ≤ whole_part a → fixd a ≡ record { word = a; error = 1 }
  pub fixs_over : (a : ℕ) → 2 ^ 15 ≤ whole_part a → fixs a ≡ record { word = a; error = 1 }
  -- the whole part of the magnitude, times 2^88
  pub whole_part_lem : (a : ℕ) → (whole_part a * 2 ^ 88 ≤ size88 a) × (size88 a < (whole_part a + 1) * 2 ^ 88)

pub record Exact : Type 0 where
  pub one_pair : OnePair
  pub operations : Operations Cut
  pub words : WordLaws
  pub conversions : Conversions
