-- 02, ask 11: what kinds 256 to 258 answer, and what they leave in the `sheets` slice. Definitions only. Assumes nothing.
use Rattle.std.specs.Prelude.{ℕ, Bool, cond, List, eqb, ltb, get_or}
use Rattle.numbers.specs.Little.{le4}
use Rattle.sheet_bytes.specs.declared.Refusal.{Refusal}
use Rattle.sheet_bytes.specs.declared.Refusal.TheVariants.{Done, StillOpen, NoneOpen, NoSuchSlot, HalfPending, SlotEmpty, ListFull}
use Rattle.sheet_bytes.specs.Ledger.{most_sheets, closed_in, is_open, kept_bits, opened, kept_in, closed}

-- the number that 02 gives a refusal inside a reply
abbrev pub number_of : Refusal → ℕ
number_of = elim [ Done ↦ 0 | StillOpen ↦ 20 | NoneOpen ↦ 21 | NoSuchSlot ↦ 22 | HalfPending ↦ 23 | SlotEmpty ↦ 24 | ListFull ↦ 25 ]

-- ---- the kinds

abbrev pub open_kind : ℕ
open_kind = 256

abbrev pub keep_kind : ℕ
keep_kind = 257

abbrev pub close_kind : ℕ
close_kind = 258

-- the bytes of a payload: a serial, a slot, nothing
abbrev pub payload_for : ℕ → ℕ
payload_for kind = cond (eqb kind open_kind) 4 (cond (eqb kind keep_kind) 1 0)

-- ---- what they answer: the refusal in the reply, and the sheets after

pub record Entered : Type 0 where
  pub refusal : Refusal
  pub sheets : List ℕ

-- a refusal changes nothing
abbrev pub refuse : Refusal → List ℕ → Entered
refuse r sheets = record { refusal = r; sheets = sheets }

abbrev pub enter : List ℕ → Entered
enter sheets = record { refusal = Done; sheets = sheets }

-- 20 while one is open
abbrev pub open_of : List ℕ → List ℕ → Entered
open_of sheets serial = cond (is_open sheets) (refuse StillOpen sheets) (enter (opened sheets serial))

-- the 32-bit TOS in a slot: 21 with none open, 22 for a slot over 3, 23 with a half word pending
abbrev pub keep_of : List ℕ → ℕ → Bool → ℕ → Entered
keep_of sheets slot pending top =
    cond (is_open sheets)
    (cond (ltb 3 slot) (refuse NoSuchSlot sheets) (cond pending (refuse HalfPending sheets) (enter (kept_in sheets slot (le4 top)))))
    (refuse NoneOpen sheets)

-- 21 with none open, 24 with a slot not kept, 25 where the list is full
abbrev pub close_of : List ℕ → Entered
close_of sheets =
    cond (is_open sheets)
    (cond (ltb (kept_bits sheets) 15) (refuse SlotEmpty sheets)
    (cond (ltb (closed_in sheets) most_sheets) (enter (closed sheets)) (refuse ListFull sheets))) (refuse NoneOpen sheets)

-- by kind and payload, with the half word pending or not and the TOS as they stand
abbrev pub entered_of : List ℕ → ℕ → List ℕ → Bool → ℕ → Entered
entered_of sheets kind payload pending top =
    cond (eqb kind open_kind) (open_of sheets payload)
    (cond (eqb kind keep_kind) (keep_of sheets (get_or payload 0 0) pending top) (close_of sheets))
