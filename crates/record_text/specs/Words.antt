-- The words of a line: blanks and tabs part them, and `#` starts a comment. Definitions only. Assumes nothing.
use Rattle.std.specs.Prelude.{ℕ, ◌+◌, ◌-◌, Bool, true, cond, List, [], ◌∷◌, ◌++◌, eqb, length, take, drop}

-- a word and its place in the line, counted from 0
pub record Word : Type 0 where
  pub at : ℕ
  pub text : List ℕ

abbrev pub word : ℕ → List ℕ → Word
word at text = record { at = at; text = text }

abbrev pub is_blank : ℕ → Bool
is_blank c = cond (eqb c 32) true (eqb c 9)

abbrev pub is_hash : ℕ → Bool
is_hash c = eqb c 35

-- the word that ends before a place, if there is one, before others
abbrev pub ended : ℕ → List ℕ → List Word → List Word
ended at [] ws = ws
ended at (c ∷ w) ws = word (at - length (c ∷ w)) (c ∷ w) ∷ ws

-- the words from a place on, with what was read of one so far
unfoldable pub words_from : ℕ → List ℕ → List ℕ → List Word
words_from at w [] = ended at w []
words_from at w (c ∷ cs) =
    cond (is_hash c) (ended at w [])
    (cond (is_blank c) (ended at w (words_from (at + 1) [] cs)) (words_from (at + 1) (w ++ (c ∷ [])) cs))

-- the words of a line from a place on
abbrev pub words_at : ℕ → List ℕ → List Word
words_at at line = words_from at [] (drop at line)

-- and of the whole line
abbrev pub words_of : List ℕ → List Word
words_of line = words_from 0 [] line

-- the characters of a line from one place to another
abbrev pub between : ℕ → ℕ → List ℕ → List ℕ
between from to line = take (to - from) (drop from line)
