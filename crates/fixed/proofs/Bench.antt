-- Rows of 01's bench table and of the conflict cases, on words. Assumes nothing.
use Rattle.std.proofs.Common.{◌≡◌, true, false, List, [], ◌∷◌, refl}
use Rattle.fixed.specs.declared.Fixed.{Fixed}
use Rattle.fixed.specs.Fixed.{half, outcome, low, add, sub, mul, muu, div, chs}

unfoldable pub rows : List Fixed
unfolding low add sub div chs
rows =
    add (half 16) 0x7FFF 0x0001 ∷ add (half 16) 0x8000 0x8000 ∷ sub (half 16) 0x0000 0x0001 ∷ div (half 16) 0xFFF9 0x0002
    ∷ div (half 16) 0x0007 0x0000 ∷ sub (half 16) 0x8000 0x8000 ∷ sub (half 16) 0xFFFF 0x8000 ∷ div (half 16) 0x8000 0x0002
    ∷ div (half 16) 0x8000 0x0000 ∷ chs (half 32) 0x80000000 ∷ []

pub bench : rows ≡ outcome 0x8000 1 false ∷ outcome 0x0000 1 true ∷ outcome 0xFFFF 0 true ∷ outcome 0xFFFD 0 false ∷ outcome 0x0007 8 false ∷ outcome 0x0000 1
    false ∷ outcome 0x7FFF 1 false ∷ outcome 0x8000 1 false ∷ outcome 0x8000 8 false ∷ outcome 0x80000000 1 false ∷ []
unfolding rows low add sub div chs
bench = refl

-- products
unfoldable pub product_rows : List Fixed
unfolding low mul muu
product_rows =
    mul (half 16) 0x0100 0x0100 ∷ mul (half 16) 0x8000 0x0000 ∷ mul (half 16) 0xFFFF 0x0001 ∷ mul (half 16) 0x0100 0x0080
    ∷ muu (half 16) 0xFFFF 0x0001 ∷ muu (half 32) 0x7FFFFFFF 0x7FFFFFFF ∷ []

pub product_bench : product_rows ≡ outcome 0x0000 1 false ∷ outcome 0x8000 1 false ∷ outcome 0xFFFF 0 false ∷ outcome 0x8000 1 false ∷ outcome 0xFFFF 0 false
    ∷ outcome 0x3FFFFFFF 0 false ∷ []
unfolding product_rows low mul muu
product_bench = refl
