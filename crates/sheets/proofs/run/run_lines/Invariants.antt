-- `sheets::run::run_lines` meets its contract: after each record the run stands where the definition's does. Assumes nothing.
use mathlib.Core.Path.{◌≡◌}
use Prim.Native.Nat.{◌-◌, ◌<◌}
use lib.ListN.{length}
use Rattle.chip.specs.Step.{given}
use Rattle.record_files.specs.Run.{Outcome}
use Rattle.record_runs.specs.Held.{at_start}
use Rattle.record_runs.proofs.Looping.{Going}
use Rattle.sheet_bytes.specs.Ledger.{sheets_bytes}
use Rattle.sheets.specs.Step.{Held, sheet_step}
use Rattle.sheets.specs.Held.{beside}
use Rattle.sheets.proofs.run.run_lines.Given as goal

abbrev pub invariant-loop-place : goal.invariant-loop-place
invariant-loop-place l =
    (length l.sheets ≡ sheets_bytes) × (l.card.chip.status < 128) × ((o : Outcome Held) × Going (beside (given l.mode l.rule) l.sheets) sheet_step
    (beside (given l.mode l.rule) l.initial.sheets l.initial.card) l.input (record {
      place = at_start (length l.input) (length l.initial.replies);
      card = l.initial.card;
      room = l.initial.replies;
      pass = record { card = l.card; refusal = 0; place = l.place };
      left = l.replies;
    }) o)

abbrev pub decreases-loop-place : goal.decreases-loop-place
decreases-loop-place l = length l.input - l.place.taken
