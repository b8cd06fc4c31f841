-- 01, 'Host floats', and request 13: the value of a host float, an f32 or an f64, against words and against the bounds
-- of the refusals 10, 15, 11 and 12.
-- Definitions only. Assumes nothing.
use Rattle.std.specs.Prelude.{ℕ, ◌*◌, ◌^◌, ◌≤◌, ◌<◌, ◌≡◌, Bool, true, ℤ, pos, ◌-ℤ◌, Float}
use Rattle.std.specs.Float.{nan, inf, fin}
use Rattle.std.specs.Float.Ieee.{up, down}
use Rattle.terms.specs.declared.Rule.{Rule}
use Rattle.promises.specs.FloatWords.{with_sign, negative, mantissa, exponent, size88, FloatWord}
use Rattle.promises.specs.FloatResults.{PairBy}

-- the value of a finite float, sign times m times up e / down e, is that of the word w: taken times 2 ^ 88 and times
-- down e they are one whole number
abbrev pub Same : Float → ℕ → Type 0
Same nan w = ⊥
Same (inf s) w = ⊥
Same (fin s m e) w = with_sign s (m * up e * 2 ^ 88) ≡ with_sign (negative w) (size88 w * down e)

-- w is a proper word of the float's value
pub record HasWord (x : Float) (w : ℕ) : Type 0 where
  pub word : FloatWord w
  pub same : Same x w

-- 10: infinite or not a number
abbrev pub Endless : Float → Type 0
Endless nan = Unit
Endless (inf s) = Unit
Endless (fin s m e) = ⊥

-- 15: zero with the minus sign
abbrev pub IsMinusZero : Float → Type 0
IsMinusZero nan = ⊥
IsMinusZero (inf s) = ⊥
IsMinusZero (fin s m e) = (s ≡ true) × (m ≡ 0)

-- 11: finite, of magnitude 2 ^ 63 or more
abbrev pub Large : Float → Type 0
Large nan = ⊥
Large (inf s) = ⊥
Large (fin s m e) = 2 ^ 63 * down e ≤ m * up e

-- 12: not zero, of magnitude under 2 ^ -65
abbrev pub Small : Float → Type 0
Small nan = ⊥
Small (inf s) = ⊥
Small (fin s m e) = (0 < m) × (m * up e * 2 ^ 65 < down e)

-- ---- an f64 brought to 24 bits by a rule
-- m and e are the pair of a finite float's magnitude under the rule, the same as for a result of FMUL: n * up x / down
-- x against m * 2 ^ (e - 24)
abbrev pub PairOf : Rule → Float → ℕ → ℤ → Type 0
PairOf rule nan m e = ⊥
PairOf rule (inf s) m e = ⊥
PairOf rule (fin s n x) m e = PairBy rule (n * up x) (down x) m e

-- a finite float's sign
abbrev pub Signed : Float → Bool → Type 0
Signed nan t = ⊥
Signed (inf s) t = ⊥
Signed (fin s m e) t = s ≡ t

-- w is what the rule brings the float to: a proper word with its sign and the m and e of its pair
pub record BroughtTo (rule : Rule) (x : Float) (w : ℕ) : Type 0 where
  pub word : FloatWord w
  pub sign : Signed x (negative w)
  pub pair : PairOf rule x (mantissa w) (exponent w)

-- 11, where the float is brought to 24 bits: finite, and m * 2 ^ (e - 24) of its pair is 2 ^ 63 or more
pub record LargeBy (rule : Rule) (x : Float) : Type 0 where
  pub m : ℕ
  pub e : ℤ
  pub pair : PairOf rule x m e
  pub reaches : 2 ^ 63 * down (e -ℤ pos 24) ≤ m * up (e -ℤ pos 24)
