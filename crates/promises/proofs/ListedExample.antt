-- 01's example through run and listing: its 22 bytes print its five lines. Computed from the definitions. Assumes nothing.
use mathlib.Core.Path.{◌≡◌, refl}
use mathlib.Core.List.{List, [], ◌∷◌}
use Prim.Native.Nat.{ℕ}
use Rattle.codes.specs.Codes.{decoded}
use Rattle.fixed.specs.Fixed.{low, add}
use Rattle.chip.specs.Status.{status_of}
use Rattle.chip.specs.Commands.{keeps_a}
use Rattle.chip.specs.Step.{push_of, pop_of, read_of, carried, command_under}
use Rattle.record_files.specs.Run.{run, run_by}
use Rattle.record_runs.specs.Record.{frame_under, turn_under}
use Rattle.listing.specs.Text.{spelled}
use Rattle.listing.specs.Listing.{has_reply, lines_up_to}
use Rattle.listing.proofs.Examples.{example_text}
use Rattle.list_text.specs.Printout.{printout_of}

-- the input that 01 gives
abbrev example_input : List ℕ
example_input =
    6 ∷ 0 ∷ 1 ∷ 0 ∷ 3 ∷ 0 ∷ 5 ∷ 0 ∷ 3 ∷ 0 ∷ 3 ∷ 0 ∷ 108 ∷ 3 ∷ 0 ∷ 2 ∷ 0 ∷ 2 ∷ 2 ∷ 0 ∷ 4 ∷ 0 ∷ []

pub example_printed : printout_of example_input ≡ example_text
unfolding decoded low add status_of keeps_a push_of pop_of read_of carried command_under frame_under turn_under run run_by spelled has_reply lines_up_to
example_printed = refl
