-- The record step of module sheets: the core's for its own kinds, the ledger's for kinds 256 to 258. Definitions only. Assumes nothing.
use Rattle.std.specs.Prelude.{ℕ, ◌+◌, Bool, true, false, not, cond, List, [], ◌∷◌, ◌++◌, eqb, ltb}
use Rattle.numbers.specs.Little.{word_at, le2}
use Rattle.record_files.specs.Run.{Outcome, RecordStep, ended, run_by}
use Rattle.terms.specs.Limits.{most_payload}
use Rattle.terms.specs.declared.Refusal.TheVariants.{BadLength, NoRoom}
use Rattle.terms.specs.Refusal.{number_of as coreNumber}
use Rattle.stack.specs.Stack.{tos}
use Rattle.error_memory.specs.Memory.{Card}
use Rattle.std.specs.Prelude.{Result, Ok, Err}
use Rattle.terms.specs.declared.Refusal.{Refusal}
use Rattle.record_runs.specs.Record.{frame_under, turn_of}
use Rattle.sheet_bytes.specs.Ledger.{bytes_at, dropped}
use Rattle.sheet_bytes.specs.Entering.{Entered, number_of, open_kind, close_kind, payload_for, entered_of}

-- the card and the bytes of the sheets
pub record Held : Type 0 where
  pub card : Card
  pub sheets : List ℕ

abbrev pub holding : Card → List ℕ → Held
holding card sheets = record { card = card; sheets = sheets }

-- ---- which record is this library's

-- kinds 256, 257 and 258
abbrev pub is_own_kind : ℕ → Bool
is_own_kind kind = cond (ltb kind open_kind) false (not (ltb close_kind kind))

-- a length in range, and all its bytes there
abbrev pub is_framed : Result ℕ Refusal → Bool
is_framed (Ok n) = true
is_framed (Err r) = false

-- the record at the front of a file: 6, 7 and 6 come before its kind
unfoldable pub is_own : List ℕ → Bool
is_own l = cond (is_own_kind (word_at l 2)) (is_framed (frame_under most_payload l)) false

-- ---- its turn

-- "these kinds' replies carry bit 15 of the kind instead of 128 added": length 3, the kind, the refusal
abbrev pub own_reply : ℕ → ℕ → List ℕ
own_reply kind refusal = le2 3 ++ (le2 (kind + 32768) ++ (refusal ∷ []))

-- answered: the card stays
abbrev pub answered : Held → ℕ → Entered → Outcome Held
answered h kind e = record {
  refusal = 0;
  state = holding h.card e.sheets;
  taken = 4 + payload_for kind;
  written = own_reply kind (number_of e.refusal);
}

-- the 32-bit word on top of the card's stack
abbrev pub top_of : Card → ℕ
top_of c = tos 4 c.chip.stack

-- what a record of this kind enters
abbrev pub entry_of : Held → ℕ → List ℕ → Entered
entry_of h kind payload = entered_of h.sheets kind payload h.card.chip.pending (top_of h.card)

-- 7 for another payload, 8 with no room for the reply, else answered
abbrev pub own_turn : Held → List ℕ → ℕ → Outcome Held
own_turn h l room =
    cond (eqb (word_at l 0) (2 + payload_for (word_at l 2)))
    (cond (ltb room 5) (ended (coreNumber NoRoom) h) (answered h (word_at l 2) (entry_of h (word_at l 2) (bytes_at l 4 (payload_for (word_at l 2))))))
    (ended (coreNumber BadLength) h)

-- ---- the core's turn

-- "reset drops the open sheet": one that is taken
abbrev pub sheets_after : List ℕ → ℕ → ℕ → List ℕ
sheets_after sheets kind refusal = cond (eqb refusal 0) (cond (eqb kind 5) (dropped sheets) sheets) sheets

abbrev pub core_by : Held → ℕ → Outcome Card → Outcome Held
core_by h kind t = record {
  refusal = t.refusal;
  state = holding t.state (sheets_after h.sheets kind t.refusal);
  taken = t.taken;
  written = t.written;
}

-- ---- the step and the run

unfoldable pub sheet_step : RecordStep Held
sheet_step h l room = cond (is_own l) (own_turn h l room) (core_by h (word_at l 2) (turn_of h.card l room))

abbrev pub run_of : Held → List ℕ → ℕ → Outcome Held
run_of h l room = run_by sheet_step h l room
