-- Files and events are one: the records of events, run as a file, leave what the events leave given one at a time, and
-- their replies hold the answers;
-- with that demand 3 for files. Definitions and the statements only: proofs/EventFiles.antt proves them. Assumes
-- nothing.
use Rattle.std.specs.Prelude.{ℕ, ◌/◌, ◌%◌, ◌≤◌, ◌≡◌, Bool, true, List, [], ◌∷◌, ◌++◌, length, take, drop, get_or}
use Rattle.promises.specs.Subjects.{Push, Pop, Command, Status, Reset, Acknowledge, Event, Chip, Recall, Forget}
use Rattle.promises.specs.Subjects.{Called}
use Rattle.promises.specs.Stack.{Bytes, bytes_of, tos}
use Rattle.promises.specs.FloatWords.{Le}
use Rattle.promises.specs.StateBytes.{IsState}
use Rattle.promises.specs.Given.{Given, Chosen, settings_in}
use Rattle.promises.specs.Records.{count_at}
use Rattle.promises.specs.Chains.{Step, Constants, reversing, word_after}
use Rattle.promises.specs.Cores.{Core, Meets, kind_number, byte_of, Sendable, KeepsMemory, driven, returned}
use Rattle.promises.specs.Cores.{driven_quietly, Begins, bus_run}

-- the record of an event: its length, its kind, its payload
abbrev pub record_of : Event → List ℕ
record_of (Chip (Push byte)) = 3 ∷ 0 ∷ 1 ∷ 0 ∷ byte ∷ []
record_of (Chip Pop) = 3 ∷ 0 ∷ 2 ∷ 0 ∷ 1 ∷ []
record_of (Chip (Command code)) = 3 ∷ 0 ∷ 3 ∷ 0 ∷ code ∷ []
record_of (Chip Status) = 2 ∷ 0 ∷ 4 ∷ 0 ∷ []
record_of (Chip Reset) = 2 ∷ 0 ∷ 5 ∷ 0 ∷ []
record_of (Chip Acknowledge) = 2 ∷ 0 ∷ 6 ∷ 0 ∷ []
record_of Recall = 2 ∷ 0 ∷ 7 ∷ 0 ∷ []
record_of Forget = 2 ∷ 0 ∷ 8 ∷ 0 ∷ []

abbrev pub file_of : List Event → List ℕ
file_of [] = []
file_of (e ∷ es) = record_of e ++ file_of es

-- byte 20 of the state before each event: the memory's code where there is one
abbrev pub codes_before : Core → List ℕ → List Event → List ℕ
codes_before c state [] = []
codes_before c state (e ∷ es) = get_or state 20 0 ∷ codes_before c (c.event state (kind_number e) (byte_of e)).state es

-- the reply of an event for which the event call returns n: 256 times the refusal plus the byte read, which a pop, a
-- status read and the memory read have;
-- the memory read has the code behind it
abbrev pub reply_to : Event → ℕ → ℕ → List ℕ
reply_to (Chip (Push byte)) n code = 3 ∷ 0 ∷ 129 ∷ 0 ∷ n / 256 ∷ []
reply_to (Chip Pop) n code = 4 ∷ 0 ∷ 130 ∷ 0 ∷ n / 256 ∷ n % 256 ∷ []
reply_to (Chip (Command k)) n code = 3 ∷ 0 ∷ 131 ∷ 0 ∷ n / 256 ∷ []
reply_to (Chip Status) n code = 4 ∷ 0 ∷ 132 ∷ 0 ∷ n / 256 ∷ n % 256 ∷ []
reply_to (Chip Reset) n code = 3 ∷ 0 ∷ 133 ∷ 0 ∷ n / 256 ∷ []
reply_to (Chip Acknowledge) n code = 3 ∷ 0 ∷ 134 ∷ 0 ∷ n / 256 ∷ []
reply_to Recall n code = 5 ∷ 0 ∷ 135 ∷ 0 ∷ n / 256 ∷ n % 256 ∷ code ∷ []
reply_to Forget n code = 3 ∷ 0 ∷ 136 ∷ 0 ∷ n / 256 ∷ []

-- the replies of events in turn, by the numbers returned for them and the codes
abbrev pub replies_to : List Event → List ℕ → List ℕ → List ℕ
replies_to [] ns ks = []
replies_to (e ∷ es) ns ks = reply_to e (get_or ns 0 0) (get_or ks 0 0) ++ replies_to es (drop 1 ns) (drop 1 ks)

-- a call on the file of events beside the events: the state and the numbers that these leave and return, and the codes
pub record FileOfEvents (c : Called) (es : List Event) (state numbers codes replies : List ℕ) : Type 0 where
  pub result : c.result ≡ 0
  pub state_is : c.state ≡ state
  pub replies_are : c.replies ≡ replies_to es numbers codes ++ drop (length (replies_to es numbers codes)) replies
  pub all_taken : count_at c.report 1 ≡ length (file_of es)
  pub all_written : count_at c.report 5 ≡ length (replies_to es numbers codes)

-- what is lent for the file of some events: a good state, a report of nine bytes, room for the replies, and no more
-- than 12,288 bytes of records
pub record FileLent (c : Core) (state : List ℕ) (es : List Event) (replies report : List ℕ) : Type 0 where
  pub bytes : Bytes state × Bytes replies × Bytes report
  pub good : IsState state
  pub told : KeepsMemory state es
  pub nine : length report ≡ 9
  pub short : length (file_of es) ≤ 12288
  pub room : length (replies_to es (returned c state es) (codes_before c state es)) ≤ length replies

-- ---- of any core that meets the promises, any events
abbrev pub EventFiles : Type 0
EventFiles =
    (g : Given) → Chosen g → (c : Core) → Meets g c → (state : List ℕ) (es : List Event) (replies report : List ℕ)
    → Sendable es → FileLent c state es replies report
    → FileOfEvents (c.run state (file_of es) replies report) es (driven c state es) (returned c state es)
    (codes_before c state es) replies

-- ---- demand 3 for files: the file of a chain's events
abbrev pub chain_file : ℕ → (ℕ → Bool) → List Step → List ℕ
chain_file w sr ks = file_of (bus_run w sr ks)

-- no reply of the file holds another refusal than 0: its byte 4 is what a call that returns 0 for each event gives
abbrev pub zeros_for : List Event → List ℕ
zeros_for [] = []
zeros_for (e ∷ es) = 0 ∷ zeros_for es

pub record ChainFiles (g : Given) (c : Core) : Type 0 where
  -- every record is answered 0, error bits or not, and the call returns 0
  pub answers : (state : List ℕ) (w : ℕ) (sr : ℕ → Bool) (ks : List Step) (replies report : List ℕ) → Begins state w
      → Constants ks → FileLent c state (bus_run w sr ks) replies report
      → ((c.run state (chain_file w sr ks) replies report).result ≡ 0)
      × ((c.run state (chain_file w sr ks) replies report).replies
      ≡ replies_to (bus_run w sr ks) (zeros_for (bus_run w sr ks)) (zeros_for (bus_run w sr ks))
      ++ drop (length (replies_to (bus_run w sr ks) (zeros_for (bus_run w sr ks)) (zeros_for (bus_run w sr ks)))) replies)
  -- the word of demand 2 lies on top, high byte first, a function of the word and the chain alone
  pub bytes : (state : List ℕ) (w : ℕ) (sr : ℕ → Bool) (ks : List Step) (replies report : List ℕ) → Begins state w
      → Constants ks → FileLent c state (bus_run w sr ks) replies report
      → take 4 (c.run state (chain_file w sr ks) replies report).state
      ≡ bytes_of 4 (word_after (settings_in g).rule w ks)
  -- where the events of neither file leave an error bit, an even number of reversing steps keeps the order of the
  -- values, and an odd number turns it round
  pub even : (state state' : List ℕ) (v w : ℕ) (sr sr' : ℕ → Bool) (ks : List Step)
      (replies replies' report report' : List ℕ) → Begins state v → Begins state' w → Constants ks
      → FileLent c state (bus_run v sr ks) replies report → FileLent c state' (bus_run w sr' ks) replies' report'
      → driven_quietly c state (bus_run v sr ks) ≡ true → driven_quietly c state' (bus_run w sr' ks) ≡ true
      → Le v w → reversing ks % 2 ≡ 0
      → Le (tos 4 (c.run state (chain_file v sr ks) replies report).state)
      (tos 4 (c.run state' (chain_file w sr' ks) replies' report').state)
  pub odd : (state state' : List ℕ) (v w : ℕ) (sr sr' : ℕ → Bool) (ks : List Step)
      (replies replies' report report' : List ℕ) → Begins state v → Begins state' w → Constants ks
      → FileLent c state (bus_run v sr ks) replies report → FileLent c state' (bus_run w sr' ks) replies' report'
      → driven_quietly c state (bus_run v sr ks) ≡ true → driven_quietly c state' (bus_run w sr' ks) ≡ true
      → Le v w → reversing ks % 2 ≡ 1
      → Le (tos 4 (c.run state' (chain_file w sr' ks) replies' report').state)
      (tos 4 (c.run state (chain_file v sr ks) replies report).state)

abbrev pub Demand3Files : Type 0
Demand3Files = (g : Given) → Chosen g → (c : Core) → Meets g c → ChainFiles g c
