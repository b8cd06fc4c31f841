-- The run of a file by any record step: its records in turn. Definitions only. Assumes nothing.
use Rattle.std.specs.Prelude.{ℕ, zero, suc, ◌+◌, ◌-◌, List, [], ◌∷◌, ◌++◌, cond, eqb, length, drop}

-- what a record or a run leaves: the refusal that stops the run, or 0; the state; the bytes of whole records taken; the replies written
pub record Outcome (S : Type 0) : Type 0 where
  pub refusal : ℕ
  pub state : S
  pub taken : ℕ
  pub written : List ℕ

-- a record step: what becomes of the record at the front of a file, of a state, of what is left of the file, of the room for its reply
abbrev pub RecordStep : Type 0 → Type 0
RecordStep S = S → List ℕ → ℕ → Outcome S

-- nothing is done, or nothing more
abbrev pub ended : {S : Type 0} → ℕ → S → Outcome S
ended r s = record { refusal = r; state = s; taken = 0; written = [] }

-- a file of one record that is taken
abbrev pub took : {S : Type 0} → S → ℕ → List ℕ → Outcome S
took s size reply = record { refusal = 0; state = s; taken = size; written = reply }

-- an outcome, with n bytes taken and replies written before it
abbrev pub after : {S : Type 0} → ℕ → List ℕ → Outcome S → Outcome S
after n w o = record { refusal = o.refusal; state = o.state; taken = n + o.taken; written = w ++ o.written }

-- a record that is stopped ends the run; after any other the run goes on
abbrev pub next : {S : Type 0} → Outcome S → Outcome S → Outcome S
next t o = cond (eqb t.refusal 0) (after t.taken t.written o) (ended t.refusal t.state)

-- a run of at most so many records, with so much room for the replies
unfoldable pub run : {S : Type 0} → RecordStep S → ℕ → S → List ℕ → ℕ → Outcome S
run step zero s l room = ended 0 s
run step (suc f) s [] room = ended 0 s
run step (suc f) s (x ∷ l) room =
    next (step s (x ∷ l) room)
    (run step f (step s (x ∷ l) room).state (drop (step s (x ∷ l) room).taken (x ∷ l)) (room - length (step s (x ∷ l) room).written))

-- the run of a file by a step: no file has more records than bytes
unfoldable pub run_by : {S : Type 0} → RecordStep S → S → List ℕ → ℕ → Outcome S
run_by step s l room = run step (length l) s l room
