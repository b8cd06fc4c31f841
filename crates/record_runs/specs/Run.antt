-- The run of a file of records: the run of `files` by the record step. Definitions only. Assumes nothing.
use Rattle.std.specs.Prelude.{ℕ, List}
use Rattle.error_memory.specs.Memory.{Card}
use Rattle.record_files.specs.Run as files
use Rattle.terms.specs.Limits.{most_payload}
use Rattle.record_runs.specs.Record.{turn_under}

-- what a run leaves: its refusal, the card, the bytes of whole records taken, the replies written
abbrev pub Outcome : Type 0
Outcome = files.Outcome Card

-- nothing more is done
abbrev pub ended : ℕ → Card → Outcome
ended r c = files.ended r c

-- a file of one record that is taken
abbrev pub took : Card → ℕ → List ℕ → Outcome
took c size reply = files.took c size reply

-- an outcome, with n bytes taken and replies written before it
abbrev pub after : ℕ → List ℕ → Outcome → Outcome
after n w o = files.after n w o

-- the run of a file whose records push or pop at most so many bytes, with so much room for the replies
abbrev pub run_under : ℕ → Card → List ℕ → ℕ → Outcome
run_under most c l room = files.run_by (turn_under most) c l room

-- under the limit of today
abbrev pub run_of : Card → List ℕ → ℕ → Outcome
run_of c l room = run_under most_payload c l room
