-- The options of the listing programs: `--am9511` gives mode 1, `--nearest` rule 1. Definitions only. Assumes nothing.
use Rattle.std.specs.Prelude.{ℕ, Bool, true, false, ◌&&◌, cond, List, [], ◌∷◌, eqb}
use Rattle.listing.specs.Listing.{newline}
use Rattle.listing.specs.declared.options.Asked.{Asked}
use Rattle.listing.specs.declared.options.Asked.TheVariants.{Under, Nothing}

-- the same text, character by character
unfoldable pub same_text : List ℕ → List ℕ → Bool
same_text [] [] = true
same_text [] (y ∷ ys) = false
same_text (x ∷ xs) [] = false
same_text (x ∷ xs) (y ∷ ys) = eqb x y && same_text xs ys

-- `--am9511`
abbrev pub am9511_text : List ℕ
am9511_text = 45 ∷ 45 ∷ 97 ∷ 109 ∷ 57 ∷ 53 ∷ 49 ∷ 49 ∷ []

-- `nearest`, and `--nearest`
abbrev pub nearest_word : List ℕ
nearest_word = 110 ∷ 101 ∷ 97 ∷ 114 ∷ 101 ∷ 115 ∷ 116 ∷ []

abbrev pub nearest_text : List ℕ
nearest_text = 45 ∷ 45 ∷ nearest_word

-- one option: the older part's mode, or the rule that rounds to nearest
abbrev pub one_of : List ℕ → Asked
one_of word = cond (same_text word am9511_text) (Under 1 0) (cond (same_text word nearest_text) (Under 0 1) Nothing)

-- both, the mode's first
abbrev pub both_of : List ℕ → List ℕ → Asked
both_of first second = cond (same_text first am9511_text) (cond (same_text second nearest_text) (Under 1 1) Nothing) Nothing

-- a call of so many words, the program's name among them: without an option mode and rule are 0
unfoldable pub asked_of : ℕ → List ℕ → List ℕ → Asked
asked_of words first second =
    cond (eqb words 1) (Under 0 0)
    (cond (eqb words 2) (one_of first)
    (cond (eqb words 3) (both_of first second) Nothing))

-- the line `usage`
abbrev pub usage_text : List ℕ
usage_text = 117 ∷ 115 ∷ 97 ∷ 103 ∷ 101 ∷ newline ∷ []

-- what a program prints for a call, by its text under a mode and a rule: that line where the call asks for nothing that it does
abbrev pub text_for : (ℕ → ℕ → List ℕ → List ℕ) → Asked → List ℕ → List ℕ
text_for under (Under mode rule) input = under mode rule input
text_for under Nothing input = usage_text
