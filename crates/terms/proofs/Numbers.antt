-- The number of a refusal, found at the arm that names it; each is 18 at most. Assumes nothing.
use mathlib.Core.Path.{◌≡◌, sym, ap}
use Prim.Native.Nat.{◌≤◌}
use lib.Dec.{lit≤}
use Rattle.terms.specs.declared.Refusal.{Refusal}
use Rattle.terms.specs.declared.Refusal.TheVariants.{Done, UnknownCode, DerivedCode, HalfWord, Improper, NoSuchKind, CutShort, BadLength, NoRoom}
use Rattle.terms.specs.declared.Refusal.TheVariants.{InputTooLong, NotFinite, TooLarge, TooSmall, BadState, BadReport, MinusZero, BadMode, BadRule}
use Rattle.terms.specs.declared.Refusal.TheVariants.{PartEntry}
use Rattle.terms.specs.Refusal.{number_of}

small : (r : Refusal) → number_of r ≤ 18
small Done = lit≤ tt
small UnknownCode = lit≤ tt
small DerivedCode = lit≤ tt
small HalfWord = lit≤ tt
small Improper = lit≤ tt
small NoSuchKind = lit≤ tt
small CutShort = lit≤ tt
small BadLength = lit≤ tt
small NoRoom = lit≤ tt
small InputTooLong = lit≤ tt
small NotFinite = lit≤ tt
small TooLarge = lit≤ tt
small TooSmall = lit≤ tt
small BadState = lit≤ tt
small BadReport = lit≤ tt
small MinusZero = lit≤ tt
small BadMode = lit≤ tt
small BadRule = lit≤ tt
small PartEntry = lit≤ tt

pub numbered : {r : Refusal} (d : Refusal) → r ≡ d → (number_of d ≡ number_of r) × (number_of d ≤ 18)
numbered d h = (sym (ap number_of h), small d)
