-- What a run leaves of the `sheets` slice, byte by byte of the old and the new. Definitions only. Assumes nothing.
use Rattle.std.specs.Prelude.{ℕ, ◌+◌, ◌*◌, ◌≤◌, ◌<◌, ◌≡◌, List, length, get_or}

-- the slice after a run: good again, no sheet gone from the list or changed, the places past the number as lent
pub record Grown (old new : List ℕ) : Type 0 where
  pub same_length : length new ≡ length old
  pub no_fewer : get_or old 0 0 ≤ get_or new 0 0
  pub no_more : get_or new 0 0 ≤ 64
  pub flag_is : get_or new 1281 0 ≤ 1
  pub bits_are : get_or new 1286 0 ≤ 15
  pub listed_stay : (i : ℕ) → 1 ≤ i → i < 1 + 20 * get_or old 0 0 → get_or new i 0 ≡ get_or old i 0
  pub places_stay : (i : ℕ) → 1 + 20 * get_or new 0 0 ≤ i → i < 1281 → get_or new i 0 ≡ get_or old i 0
