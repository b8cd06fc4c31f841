-- The names of commands: the rows of Figure 8 of document 001 with their codes, sr not counted. Definitions only. Assumes nothing.
use Rattle.std.specs.Prelude.{ℕ, cond, List, [], ◌∷◌, ◌++◌, eqb}
use Prim.Native.String.{String}
use Rattle.record_text.specs.Letters.{written}

-- a code and its name
abbrev pub Entry : Type 0
Entry = ℕ × String

-- 16-bit fixed-point operations
abbrev pub sixteen_bit : List Entry
sixteen_bit = (0x6c, "SADD") ∷ (0x6d, "SSUB") ∷ (0x6e, "SMUL") ∷ (0x76, "SMUU") ∷ (0x6f, "SDIV") ∷ []

-- 32-bit fixed-point operations
abbrev pub thirty_two_bit : List Entry
thirty_two_bit = (0x2c, "DADD") ∷ (0x2d, "DSUB") ∷ (0x2e, "DMUL") ∷ (0x36, "DMUU") ∷ (0x2f, "DDIV") ∷ []

-- 32-bit floating-point primary operations
abbrev pub primary : List Entry
primary = (0x10, "FADD") ∷ (0x11, "FSUB") ∷ (0x12, "FMUL") ∷ (0x13, "FDIV") ∷ []

-- 32-bit floating-point derived operations
abbrev pub derived : List Entry
derived =
    (0x01, "SQRT") ∷ (0x02, "SIN") ∷ (0x03, "COS") ∷ (0x04, "TAN") ∷ (0x05, "ASIN") ∷ (0x06, "ACOS")
    ∷ (0x07, "ATAN") ∷ (0x08, "LOG") ∷ (0x09, "LN") ∷ (0x0a, "EXP") ∷ (0x0b, "PWR") ∷ []

-- data and stack manipulation
abbrev pub manipulation : List Entry
manipulation =
    (0x00, "NOP") ∷ (0x1f, "FIXS") ∷ (0x1e, "FIXD") ∷ (0x1d, "FLTS") ∷ (0x1c, "FLTD") ∷ (0x74, "CHSS")
    ∷ (0x34, "CHSD") ∷ (0x15, "CHSF") ∷ (0x77, "PTOS") ∷ (0x37, "PTOD") ∷ (0x17, "PTOF") ∷ (0x78, "POPS")
    ∷ (0x38, "POPD") ∷ (0x18, "POPF") ∷ (0x79, "XCHS") ∷ (0x39, "XCHD") ∷ (0x19, "XCHF") ∷ (0x1a, "PUPI") ∷ []

abbrev pub figure8 : List Entry
figure8 = sixteen_bit ++ thirty_two_bit ++ primary ++ derived ++ manipulation

-- the name that stands beside a code; none where the code stands in no row
abbrev pub find : ℕ → List Entry → List ℕ
find code [] = []
find code (entry ∷ entries) = cond (eqb entry.0 code) (written entry.1) (find code entries)

unfoldable pub name_of : ℕ → List ℕ
name_of code = find code figure8
