-- 02, ask 11, the run of a file with sheets, on 21 bytes of state: the core answers for every kind but 256 to 258.
-- Definitions only. Assumes nothing.
use Rattle.std.specs.Prelude.{ℕ, zero, suc, ◌+◌, ◌-◌, ◌%◌, Bool, true, false, not, cond, List, [], ◌∷◌, ◌++◌, eqb, ltb, length, get_or, take, drop}
use Rattle.sheet_promises.specs.Bytes.{zeros, part, two_at, four_at}
use Rattle.sheet_promises.specs.Sheets.{dropped}
use Rattle.sheet_promises.specs.Records.{framing, first_record, kind_of, is_own_kind, payload_of, reply_of}
use Rattle.sheet_promises.specs.Records.{Entered, enter}
use Rattle.sheet_promises.specs.Subjects.{CoreAnswer, core_call}

-- ---- the bytes of a state

-- pending and service 0 or 1, busy (status bit 7) clear
abbrev pub is_chip : List ℕ → Bool
is_chip l =
    cond (ltb 1 (get_or l 16 0)) false (cond (ltb 127 (get_or l 17 0)) false (cond (ltb 1 (get_or l 18 0)) false true))

-- no bits outside 4 to 1, no code without bits, no bits without a code
abbrev pub is_memory : ℕ → ℕ → Bool
is_memory bits code =
    cond (ltb 30 bits) false
    (cond (eqb (bits % 2) 1) false (cond (eqb bits 0) (eqb code 0) (not (eqb code 0))))

-- which bytes are a state: 19 of them; or 21, the last two the error memory's bits and code
abbrev pub is_state : List ℕ → Bool
is_state l =
    cond (eqb (length l) 19) (is_chip l)
    (cond (eqb (length l) 21) (cond (is_chip l) (is_memory (get_or l 19 0) (get_or l 20 0)) false) false)

-- "a 19-byte state is read with an empty memory": the 21 bytes that a run works on
abbrev pub lengthened : List ℕ → List ℕ
lengthened state = cond (eqb (length state) 19) (state ++ zeros 2) state

-- whether a half word is pending
abbrev pub is_pending : List ℕ → Bool
is_pending state = eqb (get_or state 16 0) 1

-- the 32-bit TOS, lowest byte first: on the stack its most significant byte is nearest the top
abbrev pub top_of : List ℕ → List ℕ
top_of state = get_or state 3 0 ∷ get_or state 2 0 ∷ get_or state 1 0 ∷ get_or state 0 0 ∷ []

-- ---- one record

-- the refusal that stops the run, or 0; state and sheets after; the bytes of whole records taken, and of replies
-- written
pub record Ran : Type 0 where
  pub refusal : ℕ
  pub state : List ℕ
  pub sheets : List ℕ
  pub taken : ℕ
  pub written : List ℕ

-- nothing is done
abbrev pub stopped : ℕ → List ℕ → List ℕ → Ran
stopped r state sheets = record { refusal = r; state = state; sheets = sheets; taken = 0; written = [] }

-- a record of kinds 256 to 258 answered: the state stays
abbrev pub answered : List ℕ → ℕ → Entered → Ran
answered state kind e = record {
  refusal = 0;
  state = state;
  sheets = e.sheets;
  taken = 4 + payload_of kind;
  written = reply_of kind e.refusal;
}

-- a record of kinds 256 to 258: 7 for another payload, 8 with no room for the reply, else answered
abbrev pub own_turn : List ℕ → List ℕ → List ℕ → ℕ → Ran
own_turn state sheets file room =
    cond (eqb (two_at file 0) (2 + payload_of (kind_of file)))
    (cond (ltb room 5) (stopped 8 state sheets)
    (answered state (kind_of file)
    (enter sheets (kind_of file) (part file 4 (payload_of (kind_of file))) (is_pending state) (top_of state))))
    (stopped 7 state sheets)

-- of the core's answer to a record: "reset drops the open sheet", one that is taken
abbrev pub from_core : List ℕ → ℕ → CoreAnswer → Ran
from_core sheets kind c = record {
  refusal = c.result;
  state = c.state;
  sheets = cond (eqb c.result 0) (cond (eqb kind 5) (dropped sheets) sheets) sheets;
  taken = four_at c.report 1;
  written = take (four_at c.report 5) c.replies;
}

-- any other record is the core's: its own run, on this state, of this record alone, in as much room
abbrev pub core_turn : ℕ → ℕ → List ℕ → List ℕ → List ℕ → ℕ → Ran
core_turn mode rule state sheets file room =
    from_core sheets (kind_of file) (core_call mode rule state (first_record file) (zeros room) (zeros 9))

-- the record at the front of a file: 6, 7, 6, then by its kind
abbrev pub turn : ℕ → ℕ → List ℕ → List ℕ → List ℕ → ℕ → Ran
turn mode rule state sheets file room =
    cond (eqb (framing file) 0)
    (cond (is_own_kind (kind_of file)) (own_turn state sheets file room) (core_turn mode rule state sheets file room))
    (stopped (framing file) state sheets)

-- ---- a file

-- what was done before, then what follows
abbrev pub onward : Ran → Ran → Ran
onward t o = record {
  refusal = o.refusal;
  state = o.state;
  sheets = o.sheets;
  taken = t.taken + o.taken;
  written = t.written ++ o.written;
}

-- a record that is stopped ends the run; after any other the run goes on
abbrev pub next : Ran → Ran → Ran
next t o = cond (eqb t.refusal 0) (onward t o) (stopped t.refusal t.state t.sheets)

-- at most so many records
unfoldable pub run_for : ℕ → ℕ → ℕ → List ℕ → List ℕ → List ℕ → ℕ → Ran
run_for mode rule zero state sheets file room = stopped 0 state sheets
run_for mode rule (suc n) state sheets [] room = stopped 0 state sheets
run_for mode rule (suc n) state sheets (x ∷ l) room =
    next (turn mode rule state sheets (x ∷ l) room)
    (run_for mode rule n (turn mode rule state sheets (x ∷ l) room).state
    (turn mode rule state sheets (x ∷ l) room).sheets
    (drop (turn mode rule state sheets (x ∷ l) room).taken (x ∷ l))
    (room - length (turn mode rule state sheets (x ∷ l) room).written))

-- the run of a file, in so much room for the replies: no file has more records than bytes
unfoldable pub ran : ℕ → ℕ → List ℕ → List ℕ → List ℕ → ℕ → Ran
ran mode rule state sheets file room = run_for mode rule (length file) state sheets file room
