-- 02, ask 11: what happened, as the records of a file and their replies tell it, and the sheets that this makes;
-- nothing here looks at the `sheets` slice. Definitions only. Assumes nothing.
use Rattle.std.specs.Prelude.{ℕ, Bool, false, cond, List, [], ◌∷◌, ◌++◌, eqb, get_or}
use Rattle.sheet_promises.specs.Bytes.{zeros, part}
use Rattle.sheet_promises.specs.Records.{kind_of, joined, struck}
use Rattle.sheet_promises.specs.Runs.{is_pending, top_of}
use Rattle.sheet_promises.specs.Subjects.{core_call}

-- a record, the refusal in its reply, and of the stack before it the 32-bit TOS, lowest byte first, and whether a half
-- word was pending
pub record Entry : Type 0 where
  pub bytes : List ℕ
  pub refusal : ℕ
  pub top : List ℕ
  pub pending : Bool

-- ---- the history of a file: its records with their replies, latest first

-- the state that the core's own run of the records before leaves, kinds 256 to 258 struck out
abbrev pub state_after : ℕ → ℕ → List ℕ → ℕ → List (List ℕ) → List ℕ
state_after mode rule state room before = (core_call mode rule state (joined (struck before)) (zeros room) (zeros 9)).state

-- a record that finds this state, with the refusal in its reply
abbrev pub entry_at : List ℕ → List ℕ → ℕ → Entry
entry_at state bytes refusal =
    record { bytes = bytes; refusal = refusal; top = top_of state; pending = is_pending state }

-- records with their replies, put before what happened earlier
abbrev pub history_from : ℕ → ℕ → List ℕ → ℕ → List (List ℕ) → List (List ℕ) → List (List ℕ) → List Entry → List Entry
history_from mode rule state room before [] qs es = es
history_from mode rule state room before (r ∷ rs) [] es = es
history_from mode rule state room before (r ∷ rs) (q ∷ qs) es =
    history_from mode rule state room (before ++ (r ∷ [])) rs qs
    (entry_at (state_after mode rule state room before) r (get_or q 4 0) ∷ es)

-- ---- what a record did

-- a record of a kind that was answered 0
abbrev pub did : ℕ → Entry → Bool
did kind e = cond (eqb (kind_of e.bytes) kind) (eqb e.refusal 0) false

-- an opening that was answered 0
abbrev pub opens : Entry → Bool
opens e = did 256 e

-- a keep in a slot that was answered 0
abbrev pub keeps : ℕ → Entry → Bool
keeps slot e = cond (did 257 e) (eqb (get_or e.bytes 4 0) slot) false

-- a closing that was answered 0
abbrev pub closes : Entry → Bool
closes e = did 258 e

-- ---- the sheets, going back from a closing

-- the serial of the nearest opening
abbrev pub serial_of : List Entry → List ℕ
serial_of [] = []
serial_of (e ∷ es) = cond (opens e) (part e.bytes 4 4) (serial_of es)

-- the word that was last kept in a slot since that opening; no bytes if none was
abbrev pub kept_of : ℕ → List Entry → List ℕ
kept_of slot [] = []
kept_of slot (e ∷ es) = cond (opens e) [] (cond (keeps slot e) e.top (kept_of slot es))

-- the sheet that a closing finds: its serial, then "the four words last kept between its own opening and closing"
abbrev pub sheet_of : List Entry → List ℕ
sheet_of es = serial_of es ++ (kept_of 0 es ++ (kept_of 1 es ++ (kept_of 2 es ++ kept_of 3 es)))

-- the sheets of all closings, in order
abbrev pub sheets_in : List Entry → List (List ℕ)
sheets_in [] = []
sheets_in (e ∷ es) = cond (closes e) (sheets_in es ++ (sheet_of es ∷ [])) (sheets_in es)
