-- `record_runs::run::run_all` meets its contract: after each record the run stands where the definition's does. Assumes nothing.
use Prim.Native.Nat.{◌-◌, ◌<◌}
use lib.ListN.{length}
use Rattle.chip.specs.Step.{given}
use Rattle.error_memory.specs.Memory.{Card}
use Rattle.error_memory.specs.Held.{card_under}
use Rattle.record_files.specs.Run.{Outcome}
use Rattle.record_runs.specs.Record.{turn_of}
use Rattle.record_runs.specs.Held.{at_start}
use Rattle.record_runs.proofs.Looping.{Going}
use Rattle.record_runs.proofs.run.run_all.Given as goal

abbrev pub invariant-loop-place : goal.invariant-loop-place
invariant-loop-place l =
    (o : Outcome Card) × Going (card_under (given l.mode l.rule)) turn_of (card_under (given l.mode l.rule) l.initial.card) l.input (record {
      place = at_start (length l.input) (length l.initial.replies);
      card = l.initial.card;
      room = l.initial.replies;
      pass = record { card = l.card; refusal = 0; place = l.place };
      left = l.replies;
    }) o × (l.card.chip.status < 128)

abbrev pub decreases-loop-place : goal.decreases-loop-place
decreases-loop-place l = length l.input - l.place.taken
