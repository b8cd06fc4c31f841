-- 01's wrong cores for the second library: each a class of libraries of the two calls' types, none of which meets the
-- promises. Definitions and the statement only: proofs/WrongLibraries.antt proves it. Assumes nothing.
use Rattle.std.specs.Prelude.{ℕ, ◌+◌, ◌≡◌, List, [], ◌∷◌, ◌++◌, length, replicate}
use Rattle.sheet_promises.specs.Bytes.{Bytes, zeros, two_at, four_at}
use Rattle.sheet_promises.specs.Records.{framing}
use Rattle.sheet_promises.specs.SheetsCall.{sheets_answer}
use Rattle.sheet_promises.specs.Subjects.{SheetsAnswer, sheets_call, SheetsAllows, FiguresAnswer, figures_call}
use Rattle.sheet_promises.specs.Subjects.{FiguresAllows}

-- ---- libraries

-- any two functions of the calls' types: what a call returns and what it leaves in each slice, by what it was lent
pub record Library : Type 0 where
  pub run : ℕ → ℕ → List ℕ → List ℕ → List ℕ → List ℕ → List ℕ → SheetsAnswer
  pub figures : List ℕ → List ℕ → FiguresAnswer

-- bytes in every slice of a run
pub record AllBytes (state sheets input replies report : List ℕ) : Type 0 where
  pub state_bytes_lem : Bytes state
  pub sheets_bytes_lem : Bytes sheets
  pub input_bytes : Bytes input
  pub replies_bytes : Bytes replies
  pub report_bytes_lem : Bytes report

-- a library meets the promises where each call keeps its contract, for every slice of bytes that can be lent
pub record Meets (c : Library) : Type 0 where
  pub run : (mode rule : ℕ) (state sheets input replies report : List ℕ) → AllBytes state sheets input replies report
      → SheetsAllows (sheets_call mode rule state sheets input replies report)
      (c.run mode rule state sheets input replies report).result
      (c.run mode rule state sheets input replies report).state
      (c.run mode rule state sheets input replies report).sheets
      (c.run mode rule state sheets input replies report).replies
      (c.run mode rule state sheets input replies report).report
  pub figures : (sheets out : List ℕ) → Bytes sheets → Bytes out
      → FiguresAllows (figures_call sheets out) (c.figures sheets out).result (c.figures sheets out).out

-- the library that the contracts describe
abbrev pub described : Library
described = record { run = sheets_call; figures = figures_call }

-- no library of a class meets the promises
abbrev pub No : (Library → Type 0) → Type 0
No Class = (c : Library) → Meets c → Class c → ⊥

-- ---- the classes

-- what is said of a run on every input of bytes
abbrev pub EveryRun : (ℕ → ℕ → List ℕ → List ℕ → List ℕ → List ℕ → List ℕ → Type 0) → Type 0
EveryRun P =
    (mode rule : ℕ) (state sheets input replies report : List ℕ) → AllBytes state sheets input replies report
    → P mode rule state sheets input replies report

-- (a) refuses everything: one of its calls never answers 0
pub data RefusesEverything (c : Library) : Type 0 where
  never_run : EveryRun (λ m r s l i w p. (c.run m r s l i w p).result ≡ 0 → ⊥) → RefusesEverything c
  never_figures : ((sheets out : List ℕ) → Bytes sheets → Bytes out → (c.figures sheets out).result ≡ 0 → ⊥)
      → RefusesEverything c

-- (b) a single reply: one of its calls returns the same number on every input, or writes the same bytes
pub data SingleReply (c : Library) : Type 0 where
  same_run : (n : ℕ) → EveryRun (λ m r s l i w p. (c.run m r s l i w p).result ≡ n) → SingleReply c
  same_figures : (n : ℕ) → ((sheets out : List ℕ) → Bytes sheets → Bytes out → (c.figures sheets out).result ≡ n)
      → SingleReply c
  same_out : (o : List ℕ) → ((sheets out : List ℕ) → Bytes sheets → Bytes out → (c.figures sheets out).out ≡ o)
      → SingleReply c

-- a whole record and nothing else
pub record IsRecord (r : List ℕ) : Type 0 where
  pub whole : framing r ≡ 0
  pub size : length r ≡ 2 + two_at r 0

-- and a run that writes the same replies for every file of one record
abbrev pub SameReplies : Library → Type 0
SameReplies c =
    (mode rule : ℕ) (state sheets q r replies report : List ℕ) → IsRecord q → IsRecord r
    → AllBytes state sheets q replies report → AllBytes state sheets r replies report
    → (c.run mode rule state sheets q replies report).replies ≡ (c.run mode rule state sheets r replies report).replies

-- (c) does nothing: one of its slices always comes back as it was lent
pub data DoesNothing (c : Library) : Type 0 where
  back_state : EveryRun (λ m r s l i w p. (c.run m r s l i w p).state ≡ s) → DoesNothing c
  back_sheets : EveryRun (λ m r s l i w p. (c.run m r s l i w p).sheets ≡ l) → DoesNothing c
  back_replies : EveryRun (λ m r s l i w p. (c.run m r s l i w p).replies ≡ w) → DoesNothing c
  back_report : EveryRun (λ m r s l i w p. (c.run m r s l i w p).report ≡ p) → DoesNothing c
  back_out : ((sheets out : List ℕ) → Bytes sheets → Bytes out → (c.figures sheets out).out ≡ out) → DoesNothing c

-- what is said of every file and of its first record
abbrev pub EveryFile : Library → (SheetsAnswer → SheetsAnswer → Type 0) → Type 0
EveryFile c P =
    (mode rule : ℕ) (state sheets r rest replies report : List ℕ) → IsRecord r → AllBytes state sheets r replies report
    → Bytes rest
    → P (c.run mode rule state sheets (r ++ rest) replies report) (c.run mode rule state sheets r replies report)

-- (d) works only its first record: the state, the sheets, or the replies after a file are those of its first record
pub data FirstRecordOnly (c : Library) : Type 0 where
  first_state_lem : EveryFile c (λ a b. a.state ≡ b.state) → FirstRecordOnly c
  first_sheets : EveryFile c (λ a b. a.sheets ≡ b.sheets) → FirstRecordOnly c
  first_replies : EveryFile c (λ a b. a.replies ≡ b.replies) → FirstRecordOnly c

-- (e) invented byte counts: on some one input a count is not the book's, which is the sum of the sizes of the records
-- taken, or of their replies (Files: `counted_sums`), and 0 where the call is turned away
pub data InventedCounts (c : Library) : Type 0 where
  wrong_taken : (mode rule : ℕ) (state sheets input replies report : List ℕ)
      → AllBytes state sheets input replies report → length report ≡ 9
      → (four_at (c.run mode rule state sheets input replies report).report 1
      ≡ four_at (sheets_answer mode rule state sheets input replies report).report 1 → ⊥) → InventedCounts c
  wrong_written : (mode rule : ℕ) (state sheets input replies report : List ℕ)
      → AllBytes state sheets input replies report → length report ≡ 9
      → (four_at (c.run mode rule state sheets input replies report).report 5
      ≡ four_at (sheets_answer mode rule state sheets input replies report).report 5 → ⊥) → InventedCounts c

-- ---- the inputs that tell, and what every library that meets the promises does with them

-- a push of 55
abbrev pub first : List ℕ
first = 3 ∷ 0 ∷ 1 ∷ 0 ∷ 0x55 ∷ []

-- then a push of AA and an opening for serial 04030201
abbrev pub rest : List ℕ
rest = 3 ∷ 0 ∷ 1 ∷ 0 ∷ 0xaa ∷ 6 ∷ 0 ∷ 0 ∷ 1 ∷ 1 ∷ 2 ∷ 3 ∷ 4 ∷ []

-- a close
abbrev pub close : List ℕ
close = 2 ∷ 0 ∷ 2 ∷ 1 ∷ []

-- on the state of a reset and an empty list, with room for three replies
abbrev pub on_reset : Library → List ℕ → SheetsAnswer
on_reset c input = c.run 0 0 (zeros 19) (zeros 1303) input (zeros 15) (zeros 9)

-- each call answers 0 to one input and another number to another; one record, and three
pub record LibraryAnswers (c : Library) : Type 0 where
  pub run_0 : (on_reset c []).result ≡ 0
  pub run_14 : (c.run 0 0 (zeros 19) (zeros 1303) [] (zeros 15) []).result ≡ 14
  pub figures_0 : c.figures (zeros 1303) (zeros 53) ≡ record { result = 0; out = zeros 4 ++ (43 ∷ replicate 48 48) }
  pub figures_8 : c.figures (zeros 1303) [] ≡ record { result = 8; out = [] }
  pub one_state : (on_reset c first).state ≡ 0x55 ∷ (zeros 15 ++ (1 ∷ 0 ∷ 0 ∷ []))
  pub one_sheets : (on_reset c first).sheets ≡ zeros 1303
  pub one_replies : (on_reset c first).replies ≡ 3 ∷ 0 ∷ 129 ∷ 0 ∷ 0 ∷ zeros 10
  pub close_replies : (on_reset c close).replies ≡ 3 ∷ 0 ∷ 2 ∷ 129 ∷ 21 ∷ zeros 10
  pub all_state : (on_reset c (first ++ rest)).state ≡ 0xaa ∷ 0x55 ∷ zeros 17
  pub all_sheets : (on_reset c (first ++ rest)).sheets ≡ zeros 1281 ++ (1 ∷ 1 ∷ 2 ∷ 3 ∷ 4 ∷ zeros 17)
  pub all_replies : (on_reset c (first ++ rest)).replies ≡ 3 ∷ 0 ∷ 129 ∷ 0 ∷ 0 ∷ 3 ∷ 0 ∷ 129 ∷ 0 ∷ 0 ∷ 3 ∷ 0 ∷ 0 ∷ 129 ∷ 0
      ∷ []
  pub all_report : (on_reset c (first ++ rest)).report ≡ 0 ∷ 18 ∷ 0 ∷ 0 ∷ 0 ∷ 15 ∷ 0 ∷ 0 ∷ 0 ∷ []

-- ---- the statement
-- none of the classes holds a library that meets the promises
pub record WrongLibraries : Type 0 where
  -- the promises can be met
  pub met : Meets described
  -- every library that meets them does this with the inputs that tell
  pub tells : (c : Library) → Meets c → LibraryAnswers c
  -- so that none of these does
  pub refuses_everything : No RefusesEverything
  pub single_reply : No SingleReply
  pub same_replies : No SameReplies
  pub does_nothing : No DoesNothing
  pub first_record_only : No FirstRecordOnly
  pub invented_counts : No InventedCounts
