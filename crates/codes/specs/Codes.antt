-- What a command code stands for, read from Figure 8 of document 001 (Table 1 of 000 is the same), and what becomes of each kind. Definitions only.
-- Assumes nothing.
use Rattle.std.specs.Prelude.{ℕ, Bool, cond, List, [], ◌∷◌, ◌++◌, eqb, leb}
use Rattle.terms.specs.declared.Refusal.{Refusal}
use Rattle.terms.specs.declared.Refusal.TheVariants.{Done, UnknownCode, DerivedCode}
use Rattle.terms.specs.declared.Width.TheVariants.{Single, Double}
use Rattle.codes.specs.declared.FloatOp.TheVariants.{Add as FAdd, Sub as FSub, Mul as FMul, Div as FDiv}
use Rattle.codes.specs.Command.{Nop, Add, Sub, Mul, Muu, Div, Chs, Float, Chsf, Flt, Fix, Pto, Pop, Xch, Pupi, Sqrt}
use Rattle.codes.specs.Command.{Kind}
use Rattle.codes.specs.Command.{Known, Derived, Unknown}

-- bit 7 of a code: the service line after an accepted command
abbrev pub sr : ℕ → Bool
sr code = leb 128 code

-- a row of Figure 8: a code with sr = 0, and its kind
abbrev pub Row : Type 0
Row = ℕ × Kind

-- 16-bit fixed-point operations: SADD, SSUB, SMUL, SMUU, SDIV
abbrev pub sixteen_bit : List Row
sixteen_bit =
    (0x6c, Known (Add Single)) ∷ (0x6d, Known (Sub Single)) ∷ (0x6e, Known (Mul Single)) ∷ (0x76, Known (Muu Single))
    ∷ (0x6f, Known (Div Single)) ∷ []

-- 32-bit fixed-point operations: DADD, DSUB, DMUL, DMUU, DDIV
abbrev pub thirty_two_bit : List Row
thirty_two_bit =
    (0x2c, Known (Add Double)) ∷ (0x2d, Known (Sub Double)) ∷ (0x2e, Known (Mul Double)) ∷ (0x36, Known (Muu Double))
    ∷ (0x2f, Known (Div Double)) ∷ []

-- 32-bit floating-point primary operations: FADD, FSUB, FMUL, FDIV
abbrev pub primary : List Row
primary =
    (0x10, Known (Float FAdd)) ∷ (0x11, Known (Float FSub)) ∷ (0x12, Known (Float FMul)) ∷ (0x13, Known (Float FDiv))
    ∷ []

-- 32-bit floating-point derived operations: SQRT, which is carried; SIN, COS, TAN, ASIN, ACOS, ATAN, LOG, LN, EXP, PWR
abbrev pub derived : List Row
derived =
    (0x01, Known Sqrt) ∷ (0x02, Derived) ∷ (0x03, Derived) ∷ (0x04, Derived) ∷ (0x05, Derived) ∷ (0x06, Derived)
    ∷ (0x07, Derived) ∷ (0x08, Derived) ∷ (0x09, Derived) ∷ (0x0a, Derived) ∷ (0x0b, Derived) ∷ []

-- data and stack manipulation: NOP, FIXS, FIXD, FLTS, FLTD, CHSS, CHSD, CHSF, PTOS, PTOD, PTOF, POPS, POPD, POPF, XCHS, XCHD, XCHF, PUPI
abbrev pub manipulation : List Row
manipulation =
    (0x00, Known Nop) ∷ (0x1f, Known (Fix Single)) ∷ (0x1e, Known (Fix Double)) ∷ (0x1d, Known (Flt Single))
    ∷ (0x1c, Known (Flt Double)) ∷ (0x74, Known (Chs Single)) ∷ (0x34, Known (Chs Double)) ∷ (0x15, Known Chsf)
    ∷ (0x77, Known (Pto Single)) ∷ (0x37, Known (Pto Double)) ∷ (0x17, Known (Pto Double))
    ∷ (0x78, Known (Pop Single)) ∷ (0x38, Known (Pop Double)) ∷ (0x18, Known (Pop Double))
    ∷ (0x79, Known (Xch Single)) ∷ (0x39, Known (Xch Double)) ∷ (0x19, Known (Xch Double)) ∷ (0x1a, Known Pupi) ∷ []

-- Figure 8, row by row
abbrev pub figure8 : List Row
figure8 = sixteen_bit ++ thirty_two_bit ++ primary ++ derived ++ manipulation

-- what stands beside a code in a list of rows; unknown where it stands in none
abbrev pub find : ℕ → List Row → Kind
find code [] = Unknown
find code (row ∷ rows) = cond (eqb code row.0) row.1 (find code rows)

-- what a code without its bit 7 stands for
unfoldable pub decoded : ℕ → Kind
decoded code = find code figure8

-- the refusal of a code by its kind alone: a known command is none
abbrev pub refusal_of : Kind → Refusal
refusal_of (Known command) = Done
refusal_of Derived = DerivedCode
refusal_of Unknown = UnknownCode
