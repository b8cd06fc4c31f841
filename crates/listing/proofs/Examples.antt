-- 01's example, from the replies that it yields to the text, and replies of module sheets, computed from the definition. Assumes nothing.
use mathlib.Core.Path.{◌≡◌, refl}
use mathlib.Core.List.{List, [], ◌∷◌}
use Prim.Native.Nat.{ℕ}
use Rattle.terms.specs.Refusal.{number_of}
use Rattle.terms.specs.declared.Refusal.TheVariants.{Done}
use Rattle.listing.specs.Text.{spelled}
use Rattle.listing.specs.Listing.{has_reply, lines_up_to, listing_of}

-- the replies that 01's example yields
abbrev example_replies : List ℕ
example_replies =
    3 ∷ 0 ∷ 129 ∷ 0 ∷ 0
    ∷ 3 ∷ 0 ∷ 131 ∷ 0 ∷ 0
    ∷ 5 ∷ 0 ∷ 130 ∷ 0 ∷ 0 ∷ 0 ∷ 8
    ∷ 4 ∷ 0 ∷ 132 ∷ 0 ∷ 0 ∷ 0 ∷ []

-- the text that 01 prints, line by line
abbrev pub example_text : List ℕ
example_text =
    49 ∷ 32 ∷ 49 ∷ 32 ∷ 48 ∷ 10
    ∷ 50 ∷ 32 ∷ 51 ∷ 32 ∷ 48 ∷ 10
    ∷ 51 ∷ 32 ∷ 50 ∷ 32 ∷ 48 ∷ 32 ∷ 48 ∷ 48 ∷ 32 ∷ 48 ∷ 56 ∷ 10
    ∷ 52 ∷ 32 ∷ 52 ∷ 32 ∷ 48 ∷ 32 ∷ 48 ∷ 48 ∷ 10
    ∷ 101 ∷ 110 ∷ 100 ∷ 32 ∷ 48 ∷ 32 ∷ 50 ∷ 50 ∷ 10 ∷ []

pub example_of_01 : listing_of example_replies (number_of Done) 22 ≡ example_text
unfolding lines_up_to has_reply spelled
example_of_01 = refl

-- the replies of kinds 256 and 258, the second refused with 21: `1 256 0`, `2 258 21`, `end 0 12`
pub sheet_kinds : listing_of (3 ∷ 0 ∷ 0 ∷ 129 ∷ 0 ∷ 3 ∷ 0 ∷ 2 ∷ 129 ∷ 21 ∷ []) 0 12
    ≡ 49 ∷ 32 ∷ 50 ∷ 53 ∷ 54 ∷ 32 ∷ 48 ∷ 10
    ∷ 50 ∷ 32 ∷ 50 ∷ 53 ∷ 56 ∷ 32 ∷ 50 ∷ 49 ∷ 10
    ∷ 101 ∷ 110 ∷ 100 ∷ 32 ∷ 48 ∷ 32 ∷ 49 ∷ 50 ∷ 10 ∷ []
unfolding lines_up_to has_reply spelled
sheet_kinds = refl
