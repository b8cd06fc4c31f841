-- 02, ask 13, for one entry: chip words as f64s, which are the double precision of document 003, and back under a rule, by the bits. Definitions only. Assumes
-- nothing.
use Rattle.std.specs.Prelude.{ℕ, ◌+◌, ◌-◌, ◌*◌, ◌/◌, ◌%◌, ◌^◌, Bool, cond, leb, ltb, eqb, ℤ}
use Rattle.std.specs.Float.{binary64}
use Rattle.std.specs.Float.Ieee.{of_bits}
use Rattle.terms.specs.declared.Refusal.TheVariants.{Improper, NotFinite, TooLarge, TooSmall, MinusZero}
use Rattle.terms.specs.declared.Rule.{Rule}
use Rattle.numbers.specs.Signed.{with_sign}
use Rattle.float.specs.declared.Flagged.{Flagged}
use Rattle.float.specs.Word.{negative, biased, mantissa, proper}
use Rattle.float.specs.Cut.{cut}
use Rattle.host_floats.specs.declared.entry.Outward.{Outward}
use Rattle.host_floats.specs.declared.entry.Outward.TheVariants.{Float, Refused}
use Rattle.host_floats.specs.declared.entry.Inward.{Inward}
use Rattle.host_floats.specs.declared.entry.Inward.TheVariants.{Exact, Rounded, Refused as Turned}

-- bit 63 of an f64, S, the sign
abbrev pub double_sign : ℕ → Bool
double_sign p = leb (2 ^ 63) p

-- bits 62 to 52, E, the exponent's field: the exponent plus 1023
abbrev pub double_field : ℕ → ℕ
double_field p = p % 2 ^ 63 / 2 ^ 52

-- bits 51 to 0, M, the digits below the leading one
abbrev pub double_fraction : ℕ → ℕ
double_fraction p = p % 2 ^ 52

-- ---- outward

-- the f64 of a proper word: its sign, e + 1022 as the field, the mantissa without its leading bit and 29 zeros behind it; the zero word gives +0
abbrev pub double_bits : ℕ → ℕ
double_bits w = cond (eqb w 0) 0 (cond (negative w) (2 ^ 63) 0 + (biased w + 958) * 2 ^ 52 + mantissa w % 2 ^ 23 * 2 ^ 29)

-- what becomes of a word: a proper one goes to the f64 of its value, any other is refused (4)
unfoldable pub outward_of : ℕ → Outward
outward_of w = cond (proper w) (Float (of_bits binary64 (double_bits w))) (Refused Improper)

-- ---- inward

-- the value of an f64 whose field is neither 0 nor all ones, times 2 ^ 1074: the leading one and its digits, from the place that the field says
abbrev pub double_value : ℕ → ℤ
double_value p = with_sign (double_sign p) ((2 ^ 52 + double_fraction p) * 2 ^ (double_field p - 1))

-- that value brought to 24 bits by a rule
abbrev pub brought_of : Rule → ℕ → Flagged
brought_of rule p = cut rule (double_value p) (2 ^ 1074)

-- what an f64 p is answered where r is its value brought to 24 bits: overflow, a magnitude of 2 ^ 63 or more (11); exact where the word's own f64 is p;
-- else rounded, with the f64 that the word stands for
abbrev pub judged_of : ℕ → Flagged → Inward
judged_of p r =
    cond (eqb r.error 0)
    (cond (eqb (double_bits r.word) p) (Exact r.word) (Rounded r.word (of_bits binary64 (double_bits r.word))))
    (Turned TooLarge)

-- what becomes of an f64: infinite or not a number (10); minus zero (15); plus zero is the zero word; under 2 ^ -65 as it is given (12); else by its value
-- brought to 24 bits
unfoldable pub inward_of : Rule → ℕ → Inward
unfolding cut
inward_of rule p =
    cond (eqb (double_field p) 2047) (Turned NotFinite)
    (cond (eqb p (2 ^ 63)) (Turned MinusZero)
    (cond (eqb p 0) (Exact 0)
    (cond (ltb (double_field p) (1023 - 65)) (Turned TooSmall)
    (judged_of p (brought_of rule p)))))
