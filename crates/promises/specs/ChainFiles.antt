-- Demand 3 for files of any records: whatever blocks a chain's bytes are pushed in, the run call leaves the word of
-- demand 2, and the order is kept or turned
-- round; and two chains met through the calls, under nearest and in the older mode. Definitions and the statements
-- only: proofs/ChainFiles.antt proves them.
-- Assumes nothing.
use Rattle.std.specs.Prelude.{ℕ, ◌+◌, ◌%◌, ◌≤◌, ◌≡◌, Bool, true, false, List, [], ◌∷◌, ◌++◌, length, take, drop, get_or}
use Rattle.promises.specs.Stack.{Bytes, bytes_of, tos}
use Rattle.promises.specs.FloatWords.{Le}
use Rattle.promises.specs.StateBytes.{card_in}
use Rattle.promises.specs.Given.{Given, Chosen, settings_in}
use Rattle.promises.specs.Records.{joined, EachTaken}
use Rattle.promises.specs.Chains.{Step, Add, Subtract, Multiply, Divide, TakeFrom, Change, Constants, reversing}
use Rattle.promises.specs.Chains.{word_after}
use Rattle.promises.specs.Cores.{Core, Meets, described, driven_quietly, Begins, bus_run, word_left}
use Rattle.promises.specs.ErrorMemory.{events_of_records}
use Rattle.promises.specs.PrintedText.{bytes}

-- what is lent for records that carry a chain on a word: the events of the records, byte by byte, are the chain's; each
-- is a whole record with room for its reply
pub record Carries (g : Given) (state : List ℕ) (w : ℕ) (sr : ℕ → Bool) (ks : List Step) (rs : List (List ℕ))
    (replies report : List ℕ) : Type 0 where
  pub begins : Begins state w
  pub bytes_lent : Bytes (joined rs) × Bytes replies × Bytes report
  pub nine : length report ≡ 9
  pub short : length (joined rs) ≤ 12288
  pub each : EachTaken (card_in (settings_in g) state) rs (length replies)
  pub events_are : events_of_records rs ≡ bus_run w sr ks

-- a reply to each record that says 0 and hands out nothing: its length, the record's kind with 128 added, the refusal
abbrev pub all_answered : List (List ℕ) → List ℕ
all_answered [] = []
all_answered (r ∷ rs) = 3 ∷ 0 ∷ (get_or r 2 0 + 128) ∷ 0 ∷ 0 ∷ all_answered rs

-- the word on top after the file
abbrev pub word_at_end : Core → List ℕ → List (List ℕ) → List ℕ → List ℕ → ℕ
word_at_end c state rs replies report = tos 4 (c.run state (joined rs) replies report).state

pub record ChainRecords (g : Given) (c : Core) : Type 0 where
  -- the call returns 0
  pub done : (state : List ℕ) (w : ℕ) (sr : ℕ → Bool) (ks : List Step) (rs : List (List ℕ)) (replies report : List ℕ)
      → Carries g state w sr ks rs replies report → Constants ks → (c.run state (joined rs) replies report).result ≡ 0
  -- every record is answered 0, error bits or not; what lies behind the replies stays
  pub answers : (state : List ℕ) (w : ℕ) (sr : ℕ → Bool) (ks : List Step) (rs : List (List ℕ)) (replies report : List ℕ)
      → Carries g state w sr ks rs replies report → Constants ks
      → (c.run state (joined rs) replies report).replies
      ≡ all_answered rs ++ drop (length (all_answered rs)) replies
  -- the word of demand 2 lies on top, high byte first, a function of the word and the chain alone
  pub on_top : (state : List ℕ) (w : ℕ) (sr : ℕ → Bool) (ks : List Step) (rs : List (List ℕ)) (replies report : List ℕ)
      → Carries g state w sr ks rs replies report → Constants ks
      → take 4 (c.run state (joined rs) replies report).state ≡ bytes_of 4 (word_after (settings_in g).rule w ks)
  -- where the events of neither file leave an error bit, an even number of reversing steps keeps the order of the
  -- values, and an odd number turns it round
  pub even : (state state' : List ℕ) (v w : ℕ) (sr sr' : ℕ → Bool) (ks : List Step) (rs rs' : List (List ℕ))
      (replies replies' report report' : List ℕ)
      → Carries g state v sr ks rs replies report → Carries g state' w sr' ks rs' replies' report' → Constants ks
      → driven_quietly c state (bus_run v sr ks) ≡ true → driven_quietly c state' (bus_run w sr' ks) ≡ true → Le v w
      → reversing ks % 2 ≡ 0
      → Le (word_at_end c state rs replies report) (word_at_end c state' rs' replies' report')
  pub odd : (state state' : List ℕ) (v w : ℕ) (sr sr' : ℕ → Bool) (ks : List Step) (rs rs' : List (List ℕ))
      (replies replies' report report' : List ℕ)
      → Carries g state v sr ks rs replies report → Carries g state' w sr' ks rs' replies' report' → Constants ks
      → driven_quietly c state (bus_run v sr ks) ≡ true → driven_quietly c state' (bus_run w sr' ks) ≡ true → Le v w
      → reversing ks % 2 ≡ 1
      → Le (word_at_end c state' rs' replies' report') (word_at_end c state rs replies report)

abbrev pub Demand3Records : Type 0
Demand3Records = (g : Given) → Chosen g → (c : Core) → Meets g c → ChainRecords g c

-- ---- a chain met through the event call: times 01B6DB6D, from 05A5A5A5, sign changed, over 83955555, plus 01C3C3C3,
-- less 7FE1E1E1
abbrev pub met_chain : List Step
met_chain =
    Multiply 0x01b6db6d ∷ TakeFrom 0x05a5a5a5 ∷ Change ∷ Divide 0x83955555 ∷ Add 0x01c3c3c3 ∷ Subtract 0x7fe1e1e1 ∷ []

-- the older part under nearest; 21 bytes with a memory, and 19, whose status holds every error bit
abbrev pub older_nearest : Given
older_nearest = record { mode = 1; rule = 1 }

abbrev pub first_state : List ℕ
first_state = bytes "11 92 23 A4 35 B6 47 C8 59 DA 6B EC 7D FE 8F 01 00 41 01 12 6F"

abbrev pub second_state : List ℕ
second_state = bytes "FF FF FF FF FF FF FF FF FF FF FF FF FF FF FF FF 00 7F 01"

-- sr clear, and sr set, with every command
abbrev pub never : ℕ → Bool
never n = false

abbrev pub always : ℕ → Bool
always n = true

pub record ChainMet : Type 0 where
  -- every premise is met, on 02C9A7B5 and 03E1D2C3, which is greater
  pub begin : Begins first_state 0x02c9a7b5 × Begins second_state 0x03e1d2c3 × Constants met_chain
      × Le 0x02c9a7b5 0x03e1d2c3
  pub quiet : (driven_quietly (described older_nearest) first_state (bus_run 0x02c9a7b5 never met_chain) ≡ true)
      × (driven_quietly (described older_nearest) second_state (bus_run 0x03e1d2c3 always met_chain) ≡ true)
  -- three steps reverse, so the first result is the greater: these words
  pub reverses : reversing met_chain ≡ 3
  pub words : (word_left (described older_nearest) first_state (bus_run 0x02c9a7b5 never met_chain) ≡ 0x0391f0ee)
      × (word_left (described older_nearest) second_state (bus_run 0x03e1d2c3 always met_chain) ≡ 0x02d75ab2)
  pub turned : Le 0x02d75ab2 0x0391f0ee × (Le 0x0391f0ee 0x02d75ab2 → ⊥)
