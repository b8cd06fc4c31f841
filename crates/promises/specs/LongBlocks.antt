-- 02, ask 2: "Push and pop payload limits go to 240 bytes. Both still work as single bytes would." The longest records,
-- written out. Definitions and the
-- statement only: proofs/LongBlocks.antt proves it. Assumes nothing.
use Rattle.std.specs.Prelude.{ℕ, zero, suc, ◌%◌, ◌≤◌, ◌<◌, ◌≡◌, false, List, [], ◌∷◌, ◌++◌, reverse, length, get_or, drop}
use Rattle.promises.specs.Subjects.{Settings, State, pop_of, Memory, run_of}
use Rattle.promises.specs.BusEvents.{busy, after_pops, bytes_popped}
use Rattle.promises.specs.Remembered.{card_with}
use Rattle.promises.specs.RecordFiles.{took}

-- a list so many times over
abbrev pub times_over : ℕ → List ℕ → List ℕ
times_over zero l = []
times_over (suc n) l = l ++ times_over n l

-- ---- the statement, of every state that 13 does not turn away, beside any memory
pub record LongBlocks : Type 0 where
  -- one whole push of 240 leaves its last 16 bytes, the last of them on top, and its reply has no data
  pub push_240 : (on : Settings) (s : State) (m : Memory) (payload : List ℕ) (room : ℕ) → busy s ≡ false
      → length s.stack ≡ 16 → length payload ≡ 240 → 5 ≤ room
      → run_of (card_with on s m) (242 ∷ 0 ∷ 1 ∷ 0 ∷ payload) room
      ≡ took (card_with on (record {
        stack = reverse (drop 224 payload);
        pending = s.pending;
        status = s.status;
        service = s.service;
      }) m) 244 (3 ∷ 0 ∷ 129 ∷ 0 ∷ 0 ∷ [])
  -- one whole pop of 240 hands out the 16 bytes fifteen times over and leaves the state as it was; its reply says 243
  -- bytes
  pub pop_240 : (on : Settings) (s : State) (m : Memory) (room : ℕ) → busy s ≡ false → length s.stack ≡ 16
      → 245 ≤ room
      → run_of (card_with on s m) (3 ∷ 0 ∷ 2 ∷ 0 ∷ 240 ∷ []) room
      ≡ took (card_with on s m) 5 (243 ∷ 0 ∷ 130 ∷ 0 ∷ 0 ∷ times_over 15 s.stack)
  -- byte i of a pop of n is the one that the single pop after i others hands out: the byte i of the stack, counted
  -- round its 16
  pub in_turn_lem : (s : State) (n i : ℕ) → i < n → get_or (bytes_popped n s) i 0 ≡ (pop_of (after_pops i s)).byte
  pub round : (s : State) (n i : ℕ) → busy s ≡ false → length s.stack ≡ 16 → i < n
      → get_or (bytes_popped n s) i 0 ≡ get_or s.stack (i % 16) 0
