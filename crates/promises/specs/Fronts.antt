-- 01, 'Record files' and 'Refusal numbers': the number of a bad record from its bytes, in 01's order, and that nothing
-- of it is done. Definitions and the
-- statement only: proofs/Fronts.antt proves it. Assumes nothing.
use Rattle.std.specs.Prelude.{ℕ, ◌+◌, ◌*◌, ◌≤◌, ◌<◌, ◌≡◌, ◌⊎◌, List, [], ◌∷◌, length}
use Rattle.promises.specs.Subjects.{Card, run_of}

-- a file ends at once with this number: the card as before, no byte taken, no reply
abbrev pub Stops : Card → List ℕ → ℕ → ℕ → Type 0
Stops s file room n = run_of s file room ≡ record { refusal = n; state = s; taken = 0; written = [] }

-- ---- the statement, of any card, in any room; `rest` is whatever follows the bytes that are written out
pub record Fronts : Type 0 where
  -- fewer than two bytes: 6
  pub one_byte : (s : Card) (room a : ℕ) → Stops s (a ∷ []) room 6
  -- length under 2 or over 242: 7, before the bytes are missed
  pub bad_length : (s : Card) (room a b : ℕ) (rest : List ℕ) → (a + b * 256 < 2) ⊎ (242 < a + b * 256)
      → Stops s (a ∷ b ∷ rest) room 7
  -- bytes missing: 6, whatever the kind
  pub bytes_missing : (s : Card) (room a b : ℕ) (rest : List ℕ) → 2 ≤ a + b * 256 → a + b * 256 ≤ 242
      → length rest < a + b * 256 → Stops s (a ∷ b ∷ rest) room 6
  -- a kind that is not 1 to 8, both bytes of it looked at: 5, whatever the payload of n bytes
  pub bad_kind : (s : Card) (room n c d : ℕ) (rest : List ℕ) → n ≤ 240 → n ≤ length rest
      → (c + d * 256 ≡ 0) ⊎ (8 < c + d * 256) → Stops s ((2 + n) ∷ 0 ∷ c ∷ d ∷ rest) room 5
  -- a payload that is wrong for its kind: 7, whatever the room. A push of no bytes
  pub push_none : (s : Card) (room : ℕ) (rest : List ℕ) → Stops s (2 ∷ 0 ∷ 1 ∷ 0 ∷ rest) room 7
  -- a pop of a payload that is not one byte, or of a count that is not 1 to 240
  pub pop_payload : (s : Card) (room n : ℕ) (rest : List ℕ) → n ≤ 240 → n ≤ length rest → (n ≡ 1 → ⊥)
      → Stops s ((2 + n) ∷ 0 ∷ 2 ∷ 0 ∷ rest) room 7
  pub pop_count : (s : Card) (room n : ℕ) (rest : List ℕ) → (n ≡ 0) ⊎ (240 < n)
      → Stops s (3 ∷ 0 ∷ 2 ∷ 0 ∷ n ∷ rest) room 7
  -- a command of a payload that is not one byte
  pub command_payload : (s : Card) (room n : ℕ) (rest : List ℕ) → n ≤ 240 → n ≤ length rest → (n ≡ 1 → ⊥)
      → Stops s ((2 + n) ∷ 0 ∷ 3 ∷ 0 ∷ rest) room 7
  -- a status read, a reset, an acknowledge, the memory read and cleared, of any payload
  pub bare_payload : (s : Card) (room n k : ℕ) (rest : List ℕ) → 1 ≤ n → n ≤ 240 → n ≤ length rest → 4 ≤ k → k ≤ 8
      → Stops s ((2 + n) ∷ 0 ∷ k ∷ 0 ∷ rest) room 7
  -- a reply of 5 bytes and the data that has no room: 8, before 1 to 4
  pub push_room : (s : Card) (room n : ℕ) (rest : List ℕ) → 1 ≤ n → n ≤ 240 → n ≤ length rest → room < 5
      → Stops s ((2 + n) ∷ 0 ∷ 1 ∷ 0 ∷ rest) room 8
  pub pop_room : (s : Card) (room n : ℕ) (rest : List ℕ) → 1 ≤ n → n ≤ 240 → room < 5 + n
      → Stops s (3 ∷ 0 ∷ 2 ∷ 0 ∷ n ∷ rest) room 8
  pub command_room : (s : Card) (room code : ℕ) (rest : List ℕ) → room < 5
      → Stops s (3 ∷ 0 ∷ 3 ∷ 0 ∷ code ∷ rest) room 8
  pub status_room : (s : Card) (room : ℕ) (rest : List ℕ) → room < 6 → Stops s (2 ∷ 0 ∷ 4 ∷ 0 ∷ rest) room 8
  pub reset_room : (s : Card) (room : ℕ) (rest : List ℕ) → room < 5 → Stops s (2 ∷ 0 ∷ 5 ∷ 0 ∷ rest) room 8
  pub acknowledge_room : (s : Card) (room : ℕ) (rest : List ℕ) → room < 5 → Stops s (2 ∷ 0 ∷ 6 ∷ 0 ∷ rest) room 8
  pub recall_room : (s : Card) (room : ℕ) (rest : List ℕ) → room < 7 → Stops s (2 ∷ 0 ∷ 7 ∷ 0 ∷ rest) room 8
  pub forget_room : (s : Card) (room : ℕ) (rest : List ℕ) → room < 5 → Stops s (2 ∷ 0 ∷ 8 ∷ 0 ∷ rest) room 8
