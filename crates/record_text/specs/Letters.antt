-- Texts letter by letter: the bytes of a text, and when two texts are the same. Definitions only. Assumes nothing.
use Rattle.std.specs.Prelude.{ℕ, Bool, true, false, cond, List, [], ◌∷◌, eqb}
use Prim.Native.Char.{code}
use Prim.Native.String.{String, [] as no_text, ◌∷◌ as ◌before◌}

-- the bytes of a text
abbrev pub written : String → List ℕ
written no_text = []
written (◌before◌ c s) = code c ∷ written s

-- letter by letter
abbrev pub same : List ℕ → List ℕ → Bool
same [] [] = true
same [] (y ∷ m) = false
same (x ∷ l) [] = false
same (x ∷ l) (y ∷ m) = cond (eqb x y) (same l m) false
