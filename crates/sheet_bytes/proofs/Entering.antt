-- What a record of kind 256, 257 or 258 answers, by the tests that led there. Assumes nothing.
use mathlib.Core.Path.{◌≡◌, refl}
use mathlib.Core.Bool.{Bool, true, false}
use mathlib.Core.List.{List}
use Prim.Native.Nat.{ℕ, ◌≤◌, ◌<◌}
use borrow.Author.Tests.{lt-ltb, le-ltb}
use Rattle.numbers.specs.Little.{le4}
use Rattle.sheet_bytes.specs.declared.Refusal.{Refusal}
use Rattle.sheet_bytes.specs.declared.Refusal.TheVariants.{Done, StillOpen, NoneOpen, NoSuchSlot, HalfPending, SlotEmpty, ListFull}
use Rattle.sheet_bytes.specs.Ledger.{most_sheets, is_open, kept_bits, closed_in, opened, kept_in, closed}
use Rattle.sheet_bytes.specs.Entering.{Entered, open_of, keep_of, close_of}

-- what a call answered beside an entry
abbrev pub Enters : Entered → Refusal → List ℕ → Type 0
Enters e r sheets = (r ≡ e.refusal) × (sheets ≡ e.sheets)

module _ (l : List ℕ) where
  pub open_busy : (serial : List ℕ) → is_open l ≡ true → Enters (open_of l serial) StillOpen l
  open_busy serial h = rw h (refl, refl)

  pub open_done : (serial m : List ℕ) → is_open l ≡ false → m ≡ opened l serial → Enters (open_of l serial) Done m
  open_done serial m h e = rw h (refl, e)

  pub close_none : is_open l ≡ false → Enters (close_of l) NoneOpen l
  close_none h = rw h (refl, refl)

  pub close_lacks : is_open l ≡ true → kept_bits l < 15 → Enters (close_of l) SlotEmpty l
  close_lacks h a = rw (h, lt-ltb (kept_bits l) 15 a) (refl, refl)

  pub close_full : is_open l ≡ true → 15 ≤ kept_bits l → most_sheets ≤ closed_in l → Enters (close_of l) ListFull l
  close_full h a b = rw (h, le-ltb (kept_bits l) 15 a, le-ltb (closed_in l) most_sheets b) (refl, refl)

  pub close_done : (m : List ℕ) → is_open l ≡ true → 15 ≤ kept_bits l → closed_in l < most_sheets → m ≡ closed l → Enters (close_of l) Done m
  close_done m h a b e = rw (h, le-ltb (kept_bits l) 15 a, lt-ltb (closed_in l) most_sheets b) (refl, e)

module _ (l : List ℕ) (slot : ℕ) (pending : Bool) (top : ℕ) where
  pub keep_none : is_open l ≡ false → Enters (keep_of l slot pending top) NoneOpen l
  keep_none h = rw h (refl, refl)

  pub keep_over : is_open l ≡ true → 3 < slot → Enters (keep_of l slot pending top) NoSuchSlot l
  keep_over h a = rw (h, lt-ltb 3 slot a) (refl, refl)

  pub keep_half : is_open l ≡ true → slot ≤ 3 → pending ≡ true → Enters (keep_of l slot pending top) HalfPending l
  keep_half h a p = rw (h, le-ltb 3 slot a, p) (refl, refl)

  pub keep_done : (m : List ℕ) → is_open l ≡ true → slot ≤ 3 → pending ≡ false → m ≡ kept_in l slot (le4 top) → Enters (keep_of l slot pending top) Done m
  keep_done m h a p e = rw (h, le-ltb 3 slot a, p) (refl, e)
