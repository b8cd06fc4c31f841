-- Bytes with the high one first, as `numbers` writes them, are those of a word. Assumes nothing.
use mathlib.Core.Path.{◌≡◌, refl, sym, ap₂, ◌∙◌}
use mathlib.Core.List.{List, ◌++◌}
use Prim.Native.Nat.{ℕ, ◌/◌}
use native.Mathlib.Omega.{arith}
use Rattle.numbers.specs.Little.{high4, high8}
use Rattle.stack.specs.Stack.{bytes_of}
use Rattle.stack.specs.Words.{eight}
use Rattle.stack.proofs.Windows.{split}

pub high_4 : (w : ℕ) → high4 w ≡ bytes_of 4 w
high_4 w =
    let a : w / 256 / 256 ≡ w / 65536 = omega arith in
    let b : w / 65536 / 256 ≡ w / 16777216 = omega arith in
    sym (rw (a, b))

pub high_8 : (w : ℕ) → high8 w ≡ eight w
unfolding eight
high_8 w = ap₂ (λ (s t : List ℕ). s ++ t) (high_4 (w / 4294967296)) (high_4 w) ∙ sym (split 4 4 8 w refl)
