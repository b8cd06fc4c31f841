-- 01, 'Float words', and 02's requests 1, 9 and 12: how a result is formed from the exact value and cut once, or
-- brought to the nearest word, by comparing products.
-- Definitions only. Assumes nothing.
use Rattle.std.specs.Prelude.{ℕ, ◌+◌, ◌-◌, ◌*◌, ◌/◌, ◌%◌, ◌^◌, ◌≤◌, ◌<◌, ◌≡◌, ◌⊎◌, Bool, true, false, cond, leb, eqb, ℤ, pos, neg_ℤ, nat_abs, ◌+ℤ◌, ◌-ℤ◌, ◌*ℤ◌, ◌≤ℤ◌}
use Rattle.std.specs.Float.Ieee.{up, down}
use Rattle.terms.specs.declared.Rule.{Rule}
use Rattle.terms.specs.declared.Rule.TheVariants.{Cut, Nearest}
use Rattle.float.specs.declared.Flagged.{Flagged}
use Rattle.promises.specs.FloatWords.{with_sign, below0, negative, exponent, mantissa, size88, value}

-- a result that is the word w, with no error bit
abbrev pub clean : ℕ → Flagged
clean w = record { word = w; error = 0 }

-- ---- the pair m, e of a magnitude n / d. The kit's fraction up x / down x is 2 ^ x
-- "the one pair, e unbounded, with m the whole part of magnitude times 2^(24-e) and 2^23 <= m < 2^24": m * 2 ^ (e - 24)
-- reaches n / d, (m + 1) * 2 ^ (e - 24) passes it
pub record Pair (n d m : ℕ) (e : ℤ) : Type 0 where
  pub low : 2 ^ 23 ≤ m
  pub high : m < 2 ^ 24
  pub reached : m * (d * up (e -ℤ pos 24)) ≤ n * down (e -ℤ pos 24)
  pub passed : n * down (e -ℤ pos 24) < (m + 1) * (d * up (e -ℤ pos 24))

-- four times the mark below m, halfway to the next number of 24 digits: half a unit down, but a quarter at 2 ^ 23,
-- below which words lie twice as close
abbrev pub below_mark : ℕ → ℕ
below_mark m = cond (eqb m (2 ^ 23)) (4 * m - 1) (4 * m - 2)

-- four times the mark above m, half a unit up
abbrev pub above_mark : ℕ → ℕ
above_mark m = 4 * m + 2

-- n lies from lo to hi, and m is even where n is one of the two: "ties to the even mantissa"
pub record Between (n lo hi m : ℕ) : Type 0 where
  pub reached : lo ≤ n
  pub passed : n ≤ hi
  pub low_even : n ≤ lo → m % 2 ≡ 0
  pub high_even : hi ≤ n → m % 2 ≡ 0

-- the pair of the nearest rule: n / d times 2 ^ (24 - e) lies between the marks of m
pub record NearPair (n d m : ℕ) (e : ℤ) : Type 0 where
  pub low : 2 ^ 23 ≤ m
  pub high : m < 2 ^ 24
  pub marks :
      Between (4 * (n * down (e -ℤ pos 24)))
      (below_mark m * (d * up (e -ℤ pos 24))) (above_mark m * (d * up (e -ℤ pos 24))) m

-- the pair under a rule
abbrev pub PairBy : Rule → ℕ → ℕ → ℕ → ℤ → Type 0
PairBy Cut n d m e = Pair n d m e
PairBy Nearest n d m e = NearPair n d m e

-- how far two numbers are apart
abbrev pub apart : ℕ → ℕ → ℕ
apart x y = (x - y) + (y - x)

-- no m', e' with 2 ^ 23 <= m' < 2 ^ 24 lies nearer to n / d than m, e does: the two distances, each times d and both
-- powers of two
abbrev pub NoNearer : ℕ → ℕ → ℕ → ℤ → Type 0
NoNearer n d m e =
    (m' : ℕ) (e' : ℤ) → 2 ^ 23 ≤ m' → m' < 2 ^ 24
    → apart (n * down (e -ℤ pos 24)) (m * (d * up (e -ℤ pos 24))) * down (e' -ℤ pos 24)
    ≤ apart (n * down (e' -ℤ pos 24)) (m' * (d * up (e' -ℤ pos 24))) * down (e -ℤ pos 24)

-- ---- the word and the error
-- "If e > 63 overflow is set and e-128 stored; if e < -64 underflow is set and e+128 stored": errors 1 and 2
pub record Steps (e : ℤ) (r : Flagged) : Type 0 where
  pub within : neg_ℤ (pos 64) ≤ℤ e → e ≤ℤ pos 63 → (r.error ≡ 0) × (exponent r.word ≡ e)
  pub over : pos 64 ≤ℤ e → (r.error ≡ 1) × (exponent r.word ≡ e -ℤ pos 128)
  pub under : e ≤ℤ neg_ℤ (pos 65) → (r.error ≡ 2) × (exponent r.word ≡ e +ℤ pos 128)

-- the word of r has the sign of z, the m of the pair of its magnitude over d under a rule, and the e after at most one
-- step of 128; e is from lo to hi
pub record CutsBy (rule : Rule) (z : ℤ) (d : ℕ) (lo hi : ℤ) (r : Flagged) : Type 0 where
  pub m : ℕ
  pub e : ℤ
  pub pair : PairBy rule (nat_abs z) d m e
  pub sign : negative r.word ≡ below0 z
  pub digits : mantissa r.word ≡ m
  pub step : Steps e r
  pub at_least : lo ≤ℤ e
  pub at_most : e ≤ℤ hi

-- what the documents ask for the exact value z / d under a rule: "zero gives the zero word", else its cut
abbrev pub ExactlyBy : Rule → ℤ → ℕ → ℤ → ℤ → Flagged → Type 0
ExactlyBy rule z d lo hi r = ((z ≡ pos 0) × (r ≡ clean 0)) ⊎ CutsBy rule z d lo hi r

-- what 01 asks
abbrev pub Exactly : ℤ → ℕ → ℤ → ℤ → Flagged → Type 0
Exactly z d lo hi r = ExactlyBy Cut z d lo hi r

-- ---- conversions
-- the value of a number of two's complement of which half = 2 ^ (n - 1) is the least
abbrev pub integer : ℕ → ℕ → ℤ
integer half a = cond (leb half a) (with_sign true (2 * half - a)) (with_sign false a)

-- the whole part of the magnitude of a word
abbrev pub whole_part : ℕ → ℕ
whole_part w = size88 w / 2 ^ 88

-- a whole number of magnitude n below half, in two's complement
abbrev pub complement : ℕ → Bool → ℕ → ℕ
complement half neg n = cond neg ((2 * half - n) % (2 * half)) n

-- a whole number R of two's complement, half the least: |R| <= |A| < |R| + 1, with A's sign, and no error
pub record Truncated (half a : ℕ) (r : Flagged) : Type 0 where
  pub none : r.error ≡ 0
  pub fits : r.word < 2 * half
  pub sign : integer half r.word ≡ with_sign (negative a) (nat_abs (integer half r.word))
  pub reached : nat_abs (integer half r.word) * 2 ^ 88 ≤ size88 a
  pub passed : size88 a < (nat_abs (integer half r.word) + 1) * 2 ^ 88

-- ---- the root, request 1: by comparing squares
-- 2 * (e - 24), the exponent of the square of m * 2 ^ (e - 24)
abbrev pub square_exponent : ℤ → ℤ
square_exponent e = (e -ℤ pos 24) +ℤ (e -ℤ pos 24)

-- "found exactly and cut once to 24 bits": the square of m * 2 ^ (e - 24) reaches n / 2 ^ 88, that of (m + 1) * 2 ^ (e
-- - 24) passes it
pub record RootPair (n m : ℕ) (e : ℤ) : Type 0 where
  pub low : 2 ^ 23 ≤ m
  pub high : m < 2 ^ 24
  pub reached : m * m * (2 ^ 88 * up (square_exponent e)) ≤ n * down (square_exponent e)
  pub passed : n * down (square_exponent e) < (m + 1) * (m + 1) * (2 ^ 88 * up (square_exponent e))

-- the same under request 9: the root times 2 ^ (24 - e) lies between the marks of m
pub record NearRoot (n m : ℕ) (e : ℤ) : Type 0 where
  pub low : 2 ^ 23 ≤ m
  pub high : m < 2 ^ 24
  pub marks :
      Between (16 * (n * down (square_exponent e))) (below_mark m * below_mark m * (2 ^ 88 * up (square_exponent e)))
      (above_mark m * above_mark m * (2 ^ 88 * up (square_exponent e))) m

-- the pair of the root under a rule
abbrev pub RootBy : Rule → ℕ → ℕ → ℤ → Type 0
RootBy Cut n m e = RootPair n m e
RootBy Nearest n m e = NearRoot n m e

-- the word of r is the root of the magnitude n / 2 ^ 88 under a rule: no sign, no error, the m and e of the pair, e
-- from -32 to 32
pub record RootCutsBy (rule : Rule) (n : ℕ) (r : Flagged) : Type 0 where
  pub m : ℕ
  pub e : ℤ
  pub pair : RootBy rule n m e
  pub sign : negative r.word ≡ false
  pub digits : mantissa r.word ≡ m
  pub place : exponent r.word ≡ e
  pub none : r.error ≡ 0
  pub at_least : neg_ℤ (pos 32) ≤ℤ e
  pub at_most : e ≤ℤ pos 32

-- what the documents want of SQRT under a rule: zero for zero, A and error 0100 for a negative word, else the root
abbrev pub ExactlyRootBy : Rule → ℕ → Flagged → Type 0
ExactlyRootBy rule a r =
    ((size88 a ≡ 0) × (r ≡ clean 0))
    ⊎ ((negative a ≡ true) × (r ≡ record { word = a; error = 4 }))
    ⊎ ((negative a ≡ false) × RootCutsBy rule (size88 a) r)

-- what request 1 wants, under 01's cut
abbrev pub ExactlyRoot : ℕ → Flagged → Type 0
ExactlyRoot a r = ExactlyRootBy Cut a r

-- ---- close readings, request 12
-- "of one sign, neither zero, neither more than twice the other in magnitude"
pub record Close (b a : ℕ) : Type 0 where
  pub one_sign : negative b ≡ negative a
  pub some_b : b ≡ 0 → ⊥
  pub some_a : a ≡ 0 → ⊥
  pub b_within : size88 b ≤ 2 * size88 a
  pub a_within : size88 a ≤ 2 * size88 b

-- r is the exact value z, times 2 ^ 88, "where no error bit is set"; "where underflow is set it is exact after taking
-- 128 from the exponent", so the word
-- as it stands is 2 ^ 128 times z; no other error is set
pub record Lossless (z : ℤ) (r : Flagged) : Type 0 where
  pub exact : r.error ≡ 0 → value r.word ≡ z
  pub under : r.error ≡ 2 → value r.word ≡ z *ℤ pos (2 ^ 128)
  pub no_other : (r.error ≡ 0) ⊎ (r.error ≡ 2)
