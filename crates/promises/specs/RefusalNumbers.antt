-- 01, 'Refusal numbers': the column 'no.', and the numbers that 02's requests add. Definitions only. Assumes nothing.
use Rattle.std.specs.Prelude.{ℕ}
use Rattle.terms.specs.declared.Refusal.{Refusal}
use Rattle.terms.specs.declared.Refusal.TheVariants.{Done, UnknownCode, DerivedCode, HalfWord, Improper, NoSuchKind}
use Rattle.terms.specs.declared.Refusal.TheVariants.{CutShort, BadLength}
use Rattle.terms.specs.declared.Refusal.TheVariants.{NoRoom, InputTooLong, NotFinite, TooLarge, TooSmall, BadState}
use Rattle.terms.specs.declared.Refusal.TheVariants.{BadReport}
use Rattle.terms.specs.declared.Refusal.TheVariants.{MinusZero, BadMode, BadRule, PartEntry}

-- 1 unknown code, 2 derived function, 3 half word pending, 4 not proper, 5 kind, 6 file ends inside a record, 7 length,
-- 8 no room, 9 input too long,
-- 10 infinite or not a number, 11 too large, 12 too small, 13 no state, 14 no report; request 4: 15; request 6: 16;
-- request 9: 17; request 13: 18
abbrev pub number_of : Refusal → ℕ
number_of Done = 0
number_of UnknownCode = 1
number_of DerivedCode = 2
number_of HalfWord = 3
number_of Improper = 4
number_of NoSuchKind = 5
number_of CutShort = 6
number_of BadLength = 7
number_of NoRoom = 8
number_of InputTooLong = 9
number_of NotFinite = 10
number_of TooLarge = 11
number_of TooSmall = 12
number_of BadState = 13
number_of BadReport = 14
number_of MinusZero = 15
number_of BadMode = 16
number_of BadRule = 17
number_of PartEntry = 18
