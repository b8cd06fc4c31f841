-- 01, 'Record files', with request 2's limits and request 3's kinds: whole records, and what a run leaves. Definitions
-- only. Assumes nothing.
use Rattle.std.specs.Prelude.{ℕ, ◌+◌, ◌≤◌, ◌≡◌, List, [], ◌∷◌, ◌++◌, length}
use Rattle.promises.specs.Subjects.{Card, Outcome}

-- a whole record: "Length first: two bytes little-endian, counting what follows; then a two-byte little-endian kind;
-- then the payload"
pub data IsRecord (r : List ℕ) : Type 0 where
  push : (payload : List ℕ) → 1 ≤ length payload → length payload ≤ 240 → r ≡ (2 + length payload) ∷ 0 ∷ 1 ∷ 0 ∷ payload
      → IsRecord r
  pop : (n : ℕ) → 1 ≤ n → n ≤ 240 → r ≡ 3 ∷ 0 ∷ 2 ∷ 0 ∷ n ∷ [] → IsRecord r
  command : (code : ℕ) → r ≡ 3 ∷ 0 ∷ 3 ∷ 0 ∷ code ∷ [] → IsRecord r
  status : r ≡ 2 ∷ 0 ∷ 4 ∷ 0 ∷ [] → IsRecord r
  reset : r ≡ 2 ∷ 0 ∷ 5 ∷ 0 ∷ [] → IsRecord r
  acknowledge : r ≡ 2 ∷ 0 ∷ 6 ∷ 0 ∷ [] → IsRecord r
  recall : r ≡ 2 ∷ 0 ∷ 7 ∷ 0 ∷ [] → IsRecord r
  forget : r ≡ 2 ∷ 0 ∷ 8 ∷ 0 ∷ [] → IsRecord r

-- the column 'data in the reply': how many bytes
abbrev pub data_in : {r : List ℕ} → IsRecord r → ℕ
data_in (push payload a b e) = 0
data_in (pop n a b e) = n
data_in (command code e) = 0
data_in (status e) = 1
data_in (reset e) = 0
data_in (acknowledge e) = 0
data_in (recall e) = 2
data_in (forget e) = 0

-- ---- what a run leaves
-- nothing more is done
abbrev pub ended : ℕ → Card → Outcome
ended r c = record { refusal = r; state = c; taken = 0; written = [] }

-- a file of one record that is taken: its bytes, its reply
abbrev pub took : Card → ℕ → List ℕ → Outcome
took c size reply = record { refusal = 0; state = c; taken = size; written = reply }

-- an outcome, with n bytes taken and replies written before it
abbrev pub after : ℕ → List ℕ → Outcome → Outcome
after n w o = record { refusal = o.refusal; state = o.state; taken = n + o.taken; written = w ++ o.written }
