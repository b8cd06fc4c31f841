-- The book's numbers as text are the crates', digit by digit. Assumes nothing.
use mathlib.Core.Path.{◌≡◌, refl, ap}
use mathlib.Core.Bool.{cond}
use mathlib.Core.List.{List, [], ◌∷◌, ◌++◌}
use Prim.Native.Nat.{ℕ, zero, suc, ◌/◌, ◌%◌}
use lib.Dec.{ltb}
use Rattle.listing.specs.Text.{spelled as their-spelled, decimal as their-decimal}
use Rattle.listing.specs.Hex.{digits_to}
use Rattle.promises.specs.PrintedText.{digit, spelled, decimal, hex_of}

spelled_is : (most n : ℕ) → their-spelled most n ≡ spelled most n
unfolding their-spelled spelled
spelled_is zero n = refl
spelled_is (suc most) n = ap (λ (l : List ℕ). cond (ltb n 10) (digit n ∷ []) (l ++ (digit (n % 10) ∷ []))) (spelled_is most (n / 10))

pub decimal_is : (n : ℕ) → their-decimal n ≡ decimal n
decimal_is n = spelled_is 20 n

pub hex_is : (count n : ℕ) → digits_to 16 count n ≡ hex_of count n
unfolding digits_to hex_of
hex_is zero n = refl
hex_is (suc count) n = ap (λ (l : List ℕ). l ++ (digit (n % 16) ∷ [])) (hex_is count (n / 16))
