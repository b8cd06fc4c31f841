-- Document 000's section 'Command format': bits 4 to 0 of a code are the operation, bits 6 and 5 the data format. Definitions only. Assumes nothing.
use Rattle.std.specs.Prelude.{ℕ, ◌+◌, cond, eqb}
use Rattle.terms.specs.declared.Width.{Width}
use Rattle.terms.specs.declared.Width.TheVariants.{Single, Double}

-- the precision that a bit selects: 16 bits where it is 1, else 32
abbrev pub width_of : ℕ → Width
width_of bit = cond (eqb bit 1) Single Double

-- the code of an operation in fixed point: bit 5 is 1, and bit 6 is 1 for 16 bits, 0 for 32
abbrev pub fixed_code : Width → ℕ → ℕ
fixed_code Single operation = 0x60 + operation
fixed_code Double operation = 0x20 + operation
