-- What a record step must keep for the laws of a run, as the proofs have it and 01 does not. Definitions only. Assumes nothing.
use Rattle.std.specs.Prelude.{ℕ, ◌*◌, ◌≤◌, ◌<◌, ◌≡◌, List, length, take}
use Rattle.terms.specs.declared.Refusal.TheVariants.{NoSuchKind, CutShort, NoRoom}
use Rattle.terms.specs.Refusal.{number_of}
use Rattle.record_files.specs.Run.{RecordStep, ended}

-- the refusals that end a run, 5 to 8
abbrev pub Stopping : ℕ → Type 0
Stopping r = (number_of NoSuchKind ≤ r) × (r ≤ number_of NoRoom)

-- a step whose replies have at most so many bytes for each byte of their record
pub record Lawful {S : Type 0} (most : ℕ) (step : RecordStep S) : Type 0 where
  -- a record that stops stops with 5 to 8 and nothing done
  pub stops : (s : S) (l : List ℕ) (room : ℕ) → ((step s l room).refusal ≡ 0 → ⊥) → Stopping (step s l room).refusal
      × (step s l room ≡ ended (step s l room).refusal s)
  -- a record that is taken has a byte, stands in the file, and its reply fits the room and is short
  pub moves : (s : S) (l : List ℕ) (room : ℕ) → (step s l room).refusal ≡ 0 → 0 < (step s l room).taken
  pub within : (s : S) (l : List ℕ) (room : ℕ) → (step s l room).refusal ≡ 0 → (step s l room).taken ≤ length l
  pub fits : (s : S) (l : List ℕ) (room : ℕ) → (step s l room).refusal ≡ 0 → length (step s l room).written ≤ room
  pub few : (s : S) (l : List ℕ) (room : ℕ) → (step s l room).refusal ≡ 0 → length (step s l room).written ≤ most * (step s l room).taken
  -- it is taken alike before other bytes and in other room that its reply fits
  pub alike : (s : S) (l m : List ℕ) (room more : ℕ) → (step s l room).refusal ≡ 0 → take (step s l room).taken l ≡ take (step s l room).taken m
      → (step s l room).taken ≤ length m → length (step s l room).written ≤ more → step s m more ≡ step s l room
  -- and cut through it is 6
  pub cut_through : (s : S) (l : List ℕ) (room k : ℕ) → k ≤ length l → (step s l room).refusal ≡ 0 → k < (step s l room).taken
      → step s (take k l) room ≡ ended (number_of CutShort) s
