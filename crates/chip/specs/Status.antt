-- The status byte that an accepted command leaves. Definitions only. Assumes nothing.
use Rattle.std.specs.Prelude.{ℕ, ◌+◌, ◌-◌, ◌*◌, ◌/◌, ◌%◌, ◌^◌, Bool, cond, List, leb, eqb}
use Rattle.terms.specs.declared.Width.{Width}
use Rattle.terms.specs.Width.{size_of, bits_of}
use Rattle.stack.specs.Stack.{tos}

-- top bit of the new TOS in the result's width
abbrev pub sign : Width → List ℕ → Bool
sign w stack = leb (2 ^ (bits_of w - 1)) (tos (size_of w) stack)

-- new TOS all zero bits
abbrev pub zero_bits : Width → List ℕ → Bool
zero_bits w stack = eqb (tos (size_of w) stack) 0

-- bit 6 sign, bit 5 zero, bits 4 to 1 error, bit 0 carry
unfoldable pub status_of : Width → List ℕ → ℕ → Bool → ℕ
status_of w stack error carry = cond (sign w stack) 64 0 + cond (zero_bits w stack) 32 0 + error * 2 + cond carry 1 0

-- the error field of a status: divide by zero 8, the root of a negative word 4, underflow 2, overflow 1
abbrev pub error_of : ℕ → ℕ
error_of status = status / 2 % 16
