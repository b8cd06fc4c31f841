-- The wrong cores of 01's section 'What the proofs have to say', each as a class of cores of the four calls' types,
-- none of which meets the promises.
-- Definitions and the statement only: proofs/WrongCores.antt proves it. Assumes nothing.
use Rattle.std.specs.Prelude.{ℕ, ◌^◌, ◌≤◌, ◌<◌, ◌≡◌, ◌⊎◌, Bool, false, List, [], ◌∷◌, ◌++◌, length, take}
use Rattle.promises.specs.Subjects.{run_of as fileRun}
use Rattle.promises.specs.Stack.{Bytes, zeros}
use Rattle.promises.specs.StateBytes.{IsState, card_in}
use Rattle.promises.specs.Given.{Given, Chosen, settings_in}
use Rattle.promises.specs.Cores.{Core, Meets, described, driven, Begins, bus_run}
use Rattle.promises.specs.Chains.{Step, Change, Constants}
use Rattle.promises.specs.RecordFiles.{IsRecord}
use Rattle.promises.specs.Records.{Split, total, lengths, replies_of, count_at}

-- no core of a class meets the promises
abbrev pub No : Given → (Core → Type 0) → Type 0
No g Class = (c : Core) → Meets g c → Class c → ⊥

-- ---- (a) refuses everything: one of its calls never answers 0 (a single event answers 0 where it returns less than
-- 256)
pub data RefusesEverything (c : Core) : Type 0 where
  never_run : ((state input replies report : List ℕ) → Bytes state → Bytes input → Bytes replies → Bytes report
      → (c.run state input replies report).result ≡ 0 → ⊥) → RefusesEverything c
  never_event : ((state : List ℕ) (kind byte : ℕ) → Bytes state → kind < 2 ^ 32 → byte < 256
      → (c.event state kind byte).result < 256 → ⊥) → RefusesEverything c
  never_float : ((word : ℕ) (out : List ℕ) → word < 2 ^ 32 → Bytes out → (c.word_to_f32 word out).result ≡ 0 → ⊥)
      → RefusesEverything c
  never_word : ((bits : ℕ) (out : List ℕ) → bits < 2 ^ 32 → Bytes out → (c.f32_to_word bits out).result ≡ 0 → ⊥)
      → RefusesEverything c

-- ---- (b) a single reply: one of its calls returns the same number on every input
pub data SingleReply (c : Core) : Type 0 where
  same_run : (n : ℕ) → ((state input replies report : List ℕ) → Bytes state → Bytes input → Bytes replies → Bytes report
      → (c.run state input replies report).result ≡ n) → SingleReply c
  same_event : (n : ℕ) → ((state : List ℕ) (kind byte : ℕ) → Bytes state → kind < 2 ^ 32 → byte < 256
      → (c.event state kind byte).result ≡ n) → SingleReply c
  same_float : (n : ℕ) → ((word : ℕ) (out : List ℕ) → word < 2 ^ 32 → Bytes out → (c.word_to_f32 word out).result ≡ n)
      → SingleReply c
  same_word : (n : ℕ) → ((bits : ℕ) (out : List ℕ) → bits < 2 ^ 32 → Bytes out → (c.f32_to_word bits out).result ≡ n)
      → SingleReply c

-- and a run that writes the same replies for every file of one record
abbrev pub SameReplies : Core → Type 0
SameReplies c =
    (state r r' replies report : List ℕ) → IsRecord r → IsRecord r' → Bytes state → Bytes r → Bytes r' → Bytes replies
    → Bytes report
    → (c.run state r replies report).replies ≡ (c.run state r' replies report).replies

-- ---- (c) does nothing: one of its slices always comes back as it was lent
pub data DoesNothing (c : Core) : Type 0 where
  back_state : ((state input replies report : List ℕ) → Bytes state → Bytes input → Bytes replies → Bytes report
      → (c.run state input replies report).state ≡ state) → DoesNothing c
  back_replies : ((state input replies report : List ℕ) → Bytes state → Bytes input → Bytes replies → Bytes report
      → (c.run state input replies report).replies ≡ replies) → DoesNothing c
  back_report : ((state input replies report : List ℕ) → Bytes state → Bytes input → Bytes replies → Bytes report
      → (c.run state input replies report).report ≡ report) → DoesNothing c
  back_event : ((state : List ℕ) (kind byte : ℕ) → Bytes state → kind < 2 ^ 32 → byte < 256
      → (c.event state kind byte).state ≡ state) → DoesNothing c
  back_float : ((word : ℕ) (out : List ℕ) → word < 2 ^ 32 → Bytes out → (c.word_to_f32 word out).out ≡ out)
      → DoesNothing c
  back_word : ((bits : ℕ) (out : List ℕ) → bits < 2 ^ 32 → Bytes out → (c.f32_to_word bits out).out ≡ out)
      → DoesNothing c

-- ---- (d) works only its first record: the state, or the replies, after a file are those of its first record
pub data FirstRecordOnly (c : Core) : Type 0 where
  first_state_lem : ((state r rest replies report : List ℕ) → IsRecord r → Bytes state → Bytes r → Bytes rest
      → Bytes replies → Bytes report
      → (c.run state (r ++ rest) replies report).state ≡ (c.run state r replies report).state) → FirstRecordOnly c
  first_replies : ((state r rest replies report : List ℕ) → IsRecord r → Bytes state → Bytes r → Bytes rest
      → Bytes replies → Bytes report
      → (c.run state (r ++ rest) replies report).replies
      ≡ (c.run state r replies report).replies) → FirstRecordOnly c

-- ---- (e) invented byte counts: on some one input a count is not the summed sizes of the records taken, those refused
-- with 1 to 4 among them, or of their
-- replies (Records: every file splits so); or it is not 0 where the call is turned away with 13 or 9
pub data InventedCounts (g : Given) (c : Core) : Type 0 where
  wrong_taken : (state input replies report : List ℕ) → Bytes state → Bytes input → Bytes replies → Bytes report
      → length report ≡ 9 → IsState state → length input ≤ 12288
      → (split : Split (card_in (settings_in g) state) input (length replies)
      (fileRun (card_in (settings_in g) state) input (length replies)))
      → (count_at (c.run state input replies report).report 1 ≡ total (lengths split.records) → ⊥)
      → InventedCounts g c
  wrong_written : (state input replies report : List ℕ) → Bytes state → Bytes input → Bytes replies → Bytes report
      → length report ≡ 9 → IsState state → length input ≤ 12288
      → (split : Split (card_in (settings_in g) state) input (length replies)
      (fileRun (card_in (settings_in g) state) input (length replies)))
      → (count_at (c.run state input replies report).report 5
      ≡ total (lengths (replies_of (card_in (settings_in g) state) split.records (length replies))) → ⊥)
      → InventedCounts g c
  wrong_away : (state input replies report : List ℕ) → Bytes state → Bytes input → Bytes replies → Bytes report
      → length report ≡ 9 → (IsState state → ⊥) ⊎ (12288 < length input)
      → ((count_at (c.run state input replies report).report 1 ≡ 0)
      × (count_at (c.run state input replies report).report 5 ≡ 0) → ⊥) → InventedCounts g c

-- ---- (f) answers every chain with zero
-- after every chain of one or more steps, from any state with nothing pending, on any proper word, the zero word lies
-- on top
abbrev pub ZeroChains : Core → Type 0
ZeroChains c =
    (state : List ℕ) (w : ℕ) (sr : ℕ → Bool) (k : Step) (ks : List Step) → Begins state w → Constants (k ∷ ks)
    → take 4 (driven c state (bus_run w sr (k ∷ ks))) ≡ zeros 4

-- ---- the inputs that tell
-- the 19 bytes of a state after reset, a report's nine bytes, and a file of two records that push 55 and AA
abbrev pub reset_bytes : List ℕ
reset_bytes = zeros 19

abbrev pub nine : List ℕ
nine = zeros 9

abbrev pub first_push : List ℕ
first_push = 3 ∷ 0 ∷ 1 ∷ 0 ∷ 0x55 ∷ []

abbrev pub second_push : List ℕ
second_push = 3 ∷ 0 ∷ 1 ∷ 0 ∷ 0xaa ∷ []

-- a record that resets
abbrev pub reset_record : List ℕ
reset_record = 2 ∷ 0 ∷ 5 ∷ 0 ∷ []

-- what every core that meets the promises does with them
pub record CoreAnswers (c : Core) : Type 0 where
  -- (a), (b): each call answers 0 to one input and another number to another
  pub run_0 : (c.run reset_bytes [] [] nine).result ≡ 0
  pub run_14 : (c.run reset_bytes [] [] []).result ≡ 14
  pub event_0 : (c.event reset_bytes 5 0).result ≡ 0
  pub event_5 : (c.event reset_bytes 0 0).result ≡ 1280
  pub float_0 : (c.word_to_f32 0 (zeros 4)).result ≡ 0
  pub float_4 : (c.word_to_f32 1 (zeros 4)).result ≡ 4
  pub word_0 : (c.f32_to_word 0 (zeros 4)).result ≡ 0
  pub word_10 : (c.f32_to_word 0x7f800000 (zeros 4)).result ≡ 10
  -- (c), (d), (e): one record, and two
  pub one_state : (c.run reset_bytes first_push (zeros 10) nine).state ≡ 0x55 ∷ zeros 15 ++ (1 ∷ 0 ∷ 0 ∷ [])
  pub one_replies : (c.run reset_bytes first_push (zeros 10) nine).replies ≡ 3 ∷ 0 ∷ 129 ∷ 0 ∷ 0 ∷ zeros 5
  pub one_report : (c.run reset_bytes first_push (zeros 10) nine).report ≡ 0 ∷ 5 ∷ 0 ∷ 0 ∷ 0 ∷ 5 ∷ 0 ∷ 0 ∷ 0 ∷ []
  pub reset_replies : (c.run reset_bytes reset_record (zeros 10) nine).replies ≡ 3 ∷ 0 ∷ 133 ∷ 0 ∷ 0 ∷ zeros 5
  pub two_state : (c.run reset_bytes (first_push ++ second_push) (zeros 10) nine).state
      ≡ 0xaa ∷ 0x55 ∷ zeros 14 ++ (0 ∷ 0 ∷ 0 ∷ [])
  pub two_replies : (c.run reset_bytes (first_push ++ second_push) (zeros 10) nine).replies
      ≡ 3 ∷ 0 ∷ 129 ∷ 0 ∷ 0 ∷ 3 ∷ 0 ∷ 129 ∷ 0 ∷ 0 ∷ []
  pub two_report : (c.run reset_bytes (first_push ++ second_push) (zeros 10) nine).report
      ≡ 0 ∷ 10 ∷ 0 ∷ 0 ∷ 0 ∷ 10 ∷ 0 ∷ 0 ∷ 0 ∷ []
  pub event_state : (c.event reset_bytes 1 0x55).state ≡ 0x55 ∷ zeros 15 ++ (1 ∷ 0 ∷ 0 ∷ [])
  pub float_out : (c.word_to_f32 0x01800000 (zeros 4)).out ≡ 0 ∷ 0 ∷ 0x80 ∷ 0x3f ∷ []
  pub word_out : (c.f32_to_word 0x3f800000 (zeros 4)).out ≡ 0 ∷ 0 ∷ 0x80 ∷ 1 ∷ []
  -- (f): the sign of 1 changed is -1
  pub chain : take 4 (driven c reset_bytes (bus_run 0x01800000 (λ (n : ℕ). false) (Change ∷ [])))
      ≡ 0x81 ∷ 0x80 ∷ 0 ∷ 0 ∷ []

-- ---- the statement, under any numbers that are not turned away
pub record WrongCoresUnder (g : Given) : Type 0 where
  -- the promises can be met
  pub met : Meets g (described g)
  -- every core that meets them does this with the inputs that tell
  pub tells : (c : Core) → Meets g c → CoreAnswers c
  -- so that none of these does
  pub refuses_everything : No g RefusesEverything
  pub single_reply : No g SingleReply
  pub same_replies : No g SameReplies
  pub does_nothing : No g DoesNothing
  pub first_record_only : No g FirstRecordOnly
  pub invented_counts : No g (InventedCounts g)
  pub zero_chains : No g ZeroChains

abbrev pub WrongCores : Type 0
WrongCores = (g : Given) → Chosen g → WrongCoresUnder g
