-- Demand 1: every call gets a fixed reply. Two results and exits that a call's contract allows coincide. Statements
-- only: proofs/Determined.antt proves
-- them. Assumes nothing.
use Rattle.std.specs.Prelude.{ℕ, ◌≡◌, List}
use Rattle.promises.specs.Subjects.{host_of, taken_of, host_reply, taken_reply, Calls, Signals, sent_of, Sends, Called}
use Rattle.promises.specs.Subjects.{Signal, Sent, Wrote, Writes, Turn, Turns}
use Rattle.promises.specs.Given.{Given, run_call, event_call}

-- pundaliket_run: the refusal, and every byte of state, replies and report
abbrev pub RunDetermined : Type 0
RunDetermined =
    (g : Given) (state input replies report : List ℕ) (r q : ℕ) (s t w v p o : List ℕ)
    → Calls (run_call g state input replies report) r s w p → Calls (run_call g state input replies report) q t v o
    → (r ≡ q) × (s ≡ t) × (w ≡ v) × (p ≡ o)

-- pundaliket_event: the number, and every byte of the state
abbrev pub EventDetermined : Type 0
EventDetermined =
    (g : Given) (state : List ℕ) (kind byte r q : ℕ) (s t : List ℕ) → Signals (event_call g state kind byte) r s
    → Signals (event_call g state kind byte) q t
    → (r ≡ q) × (s ≡ t)

-- pundaliket_word_to_f32: the refusal, and every byte of the slice
abbrev pub WordToF32Determined : Type 0
WordToF32Determined =
    (word : ℕ) (out : List ℕ) (r q : ℕ) (s t : List ℕ) → Sends (sent_of (host_reply (host_of word)) out) r s
    → Sends (sent_of (host_reply (host_of word)) out) q t
    → (r ≡ q) × (s ≡ t)

-- pundaliket_f32_to_word: the refusal, and every byte of the slice
abbrev pub F32ToWordDetermined : Type 0
F32ToWordDetermined =
    (bits : ℕ) (out : List ℕ) (r q : ℕ) (s t : List ℕ) → Sends (sent_of (taken_reply (taken_of bits)) out) r s
    → Sends (sent_of (taken_reply (taken_of bits)) out) q t
    → (r ≡ q) × (s ≡ t)

-- what the relations of the contracts say: the number returned is the definition's, and so is every byte of every slice
pub record ContractsSay : Type 0 where
  pub run : (c : Called) (result : ℕ) (state replies report : List ℕ) → Calls c result state replies report
      → (result ≡ c.result) × (state ≡ c.state) × (replies ≡ c.replies) × (report ≡ c.report)
  pub event : (c : Signal) (result : ℕ) (state : List ℕ) → Signals c result state
      → (result ≡ c.result) × (state ≡ c.state)
  pub conversion : (c : Sent) (result : ℕ) (out : List ℕ) → Sends c result out → (result ≡ c.result) × (out ≡ c.out)
  pub formula : (c : Wrote) (result : ℕ) (file : List ℕ) → Writes c result file
      → (result ≡ c.result) × (file ≡ c.file)
  pub buffer : (c : Turn) (result number : ℕ) (out : List ℕ) → Turns c result number out
      → (result ≡ c.result) × (number ≡ c.number) × (out ≡ c.out)
