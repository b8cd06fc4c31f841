-- Document 01's section 'Host floats', with 02's exception of minus zero, by the bits: what becomes of a word, what of an f32, and what each answer says.
-- Definitions only. Assumes nothing.
use Rattle.std.specs.Prelude.{ℕ, ◌+◌, ◌-◌, ◌*◌, ◌/◌, ◌%◌, ◌^◌, cond, leb, ltb, eqb}
use Rattle.std.specs.Float.{binary32}
use Rattle.std.specs.Float.Ieee.{of_bits, to_bits}
use Rattle.terms.specs.declared.Refusal.TheVariants.{Done, Improper, NotFinite, TooLarge, TooSmall, MinusZero}
use Rattle.float.specs.Word.{negative, biased, mantissa, proper}
use Rattle.host_floats.specs.declared.Host.{Host}
use Rattle.host_floats.specs.declared.Host.TheVariants.{Float, Refused}
use Rattle.host_floats.specs.declared.Taken.{Taken}
use Rattle.host_floats.specs.declared.Taken.TheVariants.{Word, Refused as Turned}
use Rattle.host_floats.specs.declared.Reply.{Reply}

-- bits 30 to 23 of an f32, the exponent's field: the exponent plus 127
abbrev pub exponent_field : ℕ → ℕ
exponent_field p = p % 2 ^ 31 / 2 ^ 23

-- bits 22 to 0 of an f32, the digits below the leading one
abbrev pub fraction : ℕ → ℕ
fraction p = p % 2 ^ 23

-- the f32 of a proper word: its sign, e + 126 as the field, the mantissa without its leading bit; the zero word gives +0
abbrev pub host_bits : ℕ → ℕ
host_bits w = cond (eqb w 0) 0 (cond (negative w) (2 ^ 31) 0 + (biased w + 62) * 2 ^ 23 + mantissa w % 2 ^ 23)

-- what becomes of a word: a proper one goes to the f32 of its value, any other is refused (4)
unfoldable pub host_of : ℕ → Host
host_of w = cond (proper w) (Float (of_bits binary32 (host_bits w))) (Refused Improper)

-- the word of an f32 with a field of 62 to 189: its sign, e in two's complement, the leading one and the fraction as the mantissa
abbrev pub word_of : ℕ → ℕ
word_of p = cond (negative p) (2 ^ 31) 0 + (exponent_field p + 2) % 128 * 2 ^ 24 + 2 ^ 23 + fraction p

-- the bits of f32 minus zero: bit 31 alone
abbrev pub minus_zero : ℕ
minus_zero = 2 ^ 31

-- what becomes of an f32: infinite or not a number (10); minus zero (15); 2 ^ 63 or more (11); plus zero is the zero word; under 2 ^ -65 (12); else its word
unfoldable pub taken_of : ℕ → Taken
taken_of p =
    cond (eqb (exponent_field p) 255) (Turned NotFinite)
    (cond (eqb p minus_zero) (Turned MinusZero)
    (cond (leb (127 + 63) (exponent_field p)) (Turned TooLarge)
    (cond (eqb p 0) (Word 0)
    (cond (ltb (exponent_field p) (127 - 65)) (Turned TooSmall)
    (Word (word_of p))))))

-- what each case of an answer says: its refusal, and the 32 bits that it carries, 0 where it carries none
abbrev pub host_reply : Host → Reply
host_reply (Float x) = record { refusal = Done; bits = to_bits binary32 x }
host_reply (Refused r) = record { refusal = r; bits = 0 }

abbrev pub taken_reply : Taken → Reply
taken_reply (Word w) = record { refusal = Done; bits = w }
taken_reply (Turned r) = record { refusal = r; bits = 0 }
