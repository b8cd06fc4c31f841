-- Request 5, "Work the decode out from the bits of the code": Figure 8 of 001 follows 000's section 'Command format',
-- bits 4 to 0 the operation and bits 6 and 5 the data format.
-- Definitions and the statement only: proofs/Format.antt proves it. Assumes nothing.
use Rattle.std.specs.Prelude.{ℕ, ◌+◌, ◌<◌, ◌≡◌, cond, List, [], ◌∷◌, eqb}
use Rattle.terms.specs.declared.Width.{Width}
use Rattle.terms.specs.declared.Width.TheVariants.{Single, Double}
use Rattle.codes.specs.Command.{Command}
use Rattle.codes.specs.Command.{Add, Sub, Mul, Muu, Div, Chs, Pto, Pop, Xch}
use Rattle.codes.specs.Command.{Kind}
use Rattle.codes.specs.Command.{Known, Unknown}
use Rattle.codes.specs.Codes.{decoded}

-- the operations of the fixed-point formats, which have one number in both
abbrev pub operations : List (ℕ × (Width → Command))
operations =
    (0x0c, Add)
    ∷ (0x0d, Sub)
    ∷ (0x0e, Mul)
    ∷ (0x0f, Div)
    ∷ (0x14, Chs)
    ∷ (0x16, Muu)
    ∷ (0x17, Pto)
    ∷ (0x18, Pop)
    ∷ (0x19, Xch)
    ∷ []

-- what a number stands for at a width; unknown where no operation has it
abbrev pub operation_in : List (ℕ × (Width → Command)) → Width → ℕ → Kind
operation_in [] w operation = Unknown
operation_in (row ∷ rows) w operation = cond (eqb operation row.0) (Known (row.1 w)) (operation_in rows w operation)

pub record CommandFormat : Type 0 where
  -- in fixed point each operation has one number: the code of its 16-bit form is 60 hex plus it, that of its 32-bit
  -- form 20 hex plus it; other numbers are unknown in both
  pub sixteen_bit_lem : (operation : ℕ) → operation < 32
      → decoded (0x60 + operation) ≡ operation_in operations Single operation
  pub thirty_two_bit_lem : (operation : ℕ) → operation < 32
      → decoded (0x20 + operation) ≡ operation_in operations Double operation
  -- PTO, POP and XCH have their number as floats too, and are what they are at 32 bits
  pub float_forms : (decoded 0x17 ≡ Known (Pto Double)) × (decoded 0x18 ≡ Known (Pop Double))
      × (decoded 0x19 ≡ Known (Xch Double))
  -- "if bit 5 = 0, bit 6 must be 0"
  pub no_format : (operation : ℕ) → operation < 32 → decoded (0x40 + operation) ≡ Unknown
