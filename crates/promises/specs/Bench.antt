-- 01's bench values and the rows that decide where the documents disagree, in one table, through the whole step.
-- Definitions and the statement only: proofs/Bench.antt computes it. Assumes nothing.
use Rattle.std.specs.Prelude.{ℕ, ◌+◌, ◌-◌, ◌≡◌, List, [], ◌∷◌, ◌++◌, map}
use Rattle.terms.specs.declared.Mode.TheVariants.{Am9511A}
use Rattle.terms.specs.declared.Width.{Width}
use Rattle.terms.specs.declared.Width.TheVariants.{Single, Double}
use Rattle.terms.specs.declared.Rule.{Rule}
use Rattle.terms.specs.declared.Rule.TheVariants.{Cut}
use Rattle.promises.specs.Subjects.{command_under, Answer, ChipEvent as Event, Push, Command}
use Rattle.promises.specs.Stack.{size_of, bytes_of, zeros}
use Rattle.promises.specs.RefusalNumbers.{number_of}
use Rattle.promises.specs.BusEvents.{reset_state, given, after_events, pushes_of}

-- the events from reset, the code that follows them, and what it must give: the refusal, the whole stack, the status
pub record BenchRow : Type 0 where
  pub events : List Event
  pub code : ℕ
  pub refusal : ℕ
  pub stack : List ℕ
  pub status : ℕ

-- a command that is done
abbrev pub leaves : List Event → ℕ → List ℕ → ℕ → BenchRow
leaves events code stack status = record { events = events; code = code; refusal = 0; stack = stack; status = status }

-- B and A pushed, low byte first; R on top, and at the bottom the word that the command leaves there
abbrev pub two : ℕ → Width → ℕ → ℕ → ℕ → ℕ → ℕ → BenchRow
two code w b a r bottom status =
    leaves (pushes_of (size_of w) b ++ pushes_of (size_of w) a) code
    (bytes_of (size_of w) r ++ (zeros (16 - (size_of w + size_of w)) ++ bytes_of (size_of w) bottom)) status

-- FADD, FSUB, FMUL or FDIV
abbrev pub float : ℕ → ℕ → ℕ → ℕ → ℕ → BenchRow
float code b a r status = two code Double b a r 0 status

-- A pushed; R, of the second width, on top of zeros
abbrev pub one : ℕ → Width → ℕ → Width → ℕ → ℕ → BenchRow
one code w a v r status =
    leaves (pushes_of (size_of w) a) code (bytes_of (size_of v) r ++ zeros (16 - size_of v)) status

-- PUPI on an empty stack
abbrev pub pupi : ℕ → ℕ → BenchRow
pupi code word = leaves [] code (bytes_of 4 word ++ zeros 12) 0x00

-- no event since reset but bytes pushed, and a refusal: the bytes stay on top of zeros and the status 0
abbrev pub turned_away : ℕ → List ℕ → ℕ → BenchRow
turned_away code bytes refusal =
    record { events = map Push bytes; code = code; refusal = refusal; stack = bytes ++ zeros 15; status = 0 }

-- 01, 'Bench values', row by row
abbrev pub bench_values : List BenchRow
bench_values =
    two 0x6c Single 0x7fff 0x0001 0x8000 0x0001 0x42 ∷ two 0x6c Single 0x8000 0x8000 0x0000 0x8000 0x23
    ∷ two 0x6d Single 0x0000 0x0001 0xffff 0x0001 0x41 ∷ two 0x6e Single 0x0100 0x0100 0x0000 0 0x22
    ∷ two 0x6e Single 0x8000 0x0000 0x8000 0 0x42 ∷ two 0x6f Single 0xfff9 0x0002 0xfffd 0 0x40
    ∷ two 0x6f Single 0x0007 0x0000 0x0007 0 0x10 ∷ float 0x13 0x01800000 0x02c00000 0x7faaaaaa 0x00
    ∷ float 0x10 0x01800000 0xc0800000 0x00ffffff 0x00 ∷ float 0x12 0x3fffffff 0x3fffffff 0x7efffffe 0x02
    ∷ float 0x12 0x40800000 0x40800000 0x7f800000 0x04 ∷ one 0x1f Double 0x8ffffe00 Single 0x8001 0x40
    ∷ one 0x1f Double 0x90800000 Double 0x90800000 0x42 ∷ one 0x1c Double 0x7fffffff Double 0x1fffffff 0x00 ∷ []

-- SSUB with A least overflows for every B; SMUL overflows where the exact product does not fit; SDIV with A or B least,
-- and by zero
abbrev pub fixed_conflicts : List BenchRow
fixed_conflicts =
    two 0x6d Single 0x8000 0x8000 0x0000 0x8000 0x22 ∷ two 0x6d Single 0xffff 0x8000 0x7fff 0x8000 0x02
    ∷ two 0x6e Single 0xffff 0x0001 0xffff 0 0x40 ∷ two 0x6e Single 0x0100 0x0080 0x8000 0 0x42
    ∷ two 0x6e Single 0x00ff 0x00ff 0xfe01 0 0x42 ∷ two 0x6f Single 0x8000 0x0002 0x8000 0 0x42
    ∷ two 0x6f Single 0x8000 0x0000 0x8000 0 0x50 ∷ []

-- x - x, 0 x -y, 0 / -y and 0 / 0; magnitude under 1, 32767.5 and -0.5 made whole; the least numbers made floats
abbrev pub float_decisions : List BenchRow
float_decisions =
    float 0x11 0x01c00000 0x01c00000 0x00000000 0x20 ∷ float 0x12 0x00000000 0x81800000 0x00000000 0x20
    ∷ float 0x13 0x00000000 0x81800000 0x00000000 0x20 ∷ float 0x13 0x00000000 0x00000000 0x00000000 0x30
    ∷ one 0x1f Double 0x00ffffff Single 0x0000 0x20 ∷ one 0x1e Double 0x00ffffff Double 0x00000000 0x20
    ∷ one 0x1e Double 0x80800000 Double 0x00000000 0x20 ∷ one 0x1f Double 0x0fffff00 Single 0x7fff 0x00
    ∷ one 0x1d Single 0x8000 Double 0x90800000 0x40 ∷ one 0x1c Double 0x80000000 Double 0xa0800000 0x40 ∷ []

-- PUPI is 1A and 9A; 0C and 8C are unknown, 02 is derived; NOP with a half word pending is 3; POPS after an SADD with
-- carry clears bit 0
abbrev pub other_decisions : List BenchRow
other_decisions =
    pupi 0x1a 0x02c90fda ∷ pupi 0x9a 0x02c90fda
    ∷ turned_away 0x0c (0x55 ∷ []) 1 ∷ turned_away 0x8c (0x55 ∷ []) 1 ∷ turned_away 0x02 (0x55 ∷ []) 2
    ∷ turned_away 0x00 (0x55 ∷ []) 3
    ∷ leaves (pushes_of 2 0x8000 ++ (pushes_of 2 0x8001 ++ (Command 0x6c ∷ []))) 0x78
    (zeros 12 ++ (bytes_of 2 0x8001 ++ bytes_of 2 0x0001)) 0x20
    ∷ []

abbrev pub rows : List BenchRow
rows = bench_values ++ (fixed_conflicts ++ (float_decisions ++ other_decisions))

-- what the chip gives under a rule, and what the row says
abbrev pub answer_by : Rule → BenchRow → Answer
answer_by rule x = command_under rule (after_events (given Am9511A rule) reset_state x.events) x.code

abbrev pub shown_by : Rule → BenchRow → List ℕ
shown_by rule x =
    number_of (answer_by rule x).refusal ∷ (answer_by rule x).state.status ∷ (answer_by rule x).state.stack

abbrev pub expected : BenchRow → List ℕ
expected x = x.refusal ∷ x.status ∷ x.stack

-- every row of a table holds
abbrev pub RowsHold : Rule → List BenchRow → Type 0
RowsHold rule table = map (shown_by rule) table ≡ map expected table

-- ---- the statement
abbrev pub BenchRows : Type 0
BenchRows = RowsHold Cut rows
