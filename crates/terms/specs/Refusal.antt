-- The number of each refusal, from document 01 and from 02's requests. Definitions only. Assumes nothing.
use Rattle.std.specs.Prelude.{ℕ}
use Rattle.terms.specs.declared.Refusal.{Refusal}
use Rattle.terms.specs.declared.Refusal.TheVariants.{Done, UnknownCode, DerivedCode, HalfWord, Improper, NoSuchKind, CutShort, BadLength, NoRoom}
use Rattle.terms.specs.declared.Refusal.TheVariants.{InputTooLong, NotFinite, TooLarge, TooSmall, BadState, BadReport, MinusZero, BadMode, BadRule}
use Rattle.terms.specs.declared.Refusal.TheVariants.{PartEntry}

-- the column 'no.' of 01's table of refusals, and the numbers that 02's requests add
abbrev pub number_of : Refusal → ℕ
number_of =
    elim [
      | Done ↦ 0
      | UnknownCode ↦ 1
      | DerivedCode ↦ 2
      | HalfWord ↦ 3
      | Improper ↦ 4
      | NoSuchKind ↦ 5
      | CutShort ↦ 6
      | BadLength ↦ 7
      | NoRoom ↦ 8
      | InputTooLong ↦ 9
      | NotFinite ↦ 10
      | TooLarge ↦ 11
      | TooSmall ↦ 12
      | BadState ↦ 13
      | BadReport ↦ 14
      | MinusZero ↦ 15
      | BadMode ↦ 16
      | BadRule ↦ 17
      | PartEntry ↦ 18
    ]
