-- 01, 'Record files': the exported event and the two exported conversions, number by number and byte by byte.
-- Definitions and the statements only:
-- proofs/SmallCalls.antt proves them. Assumes nothing.
use Rattle.std.specs.Prelude.{ℕ, ◌-◌, ◌/◌, ◌%◌, ◌≤◌, ◌<◌, ◌≡◌, ◌⊎◌, List, [], ◌∷◌, ◌++◌, length, take, get_or}
use Rattle.promises.specs.Subjects.{Reply, Signal, sent_of}
use Rattle.promises.specs.Stack.{zeros}
use Rattle.promises.specs.StateBytes.{IsState}
use Rattle.promises.specs.Host.{number, outward, inward}
use Rattle.promises.specs.Given.{Given, Chosen, event_call}
use Rattle.promises.specs.Remembered.{Remembers}

-- ---- a single event

-- the number returned, and the bytes of the state after
abbrev pub signalled : ℕ → List ℕ → Signal
signalled result state = record { result = result; state = state }

-- what may stand behind the service byte: nothing, or an error memory's bits and code
pub data Tail : List ℕ → Type 0 where
  none : Tail []
  two : (bits code : ℕ) → Remembers bits code → Tail (bits ∷ code ∷ [])

-- 19 or 21 bytes that are a state: the stack, pending, status, service, and what follows
pub record Parts (stack : List ℕ) (p u v : ℕ) (t : List ℕ) : Type 0 where
  pub sixteen : length stack ≡ 16
  pub pending : p ≤ 1
  pub ready : u < 128
  pub service : v ≤ 1
  pub tail : Tail t

pub record EventCallUnder (g : Given) : Type 0 where
  -- a bad state: 256 times 13, before the kind is looked at; nothing is written
  pub bad_state_lem : (state : List ℕ) (kind byte : ℕ) → (IsState state → ⊥)
      → event_call g state kind byte ≡ signalled 3328 state
  -- a kind that is not 1 to 8, all of its bits looked at: 256 times 5, whatever the byte
  pub bad_kind : (state : List ℕ) (kind byte : ℕ) → IsState state → (kind ≡ 0) ⊎ (8 < kind)
      → event_call g state kind byte ≡ signalled 1280 state
  -- the byte is ignored but for a push and a command
  pub byte_ignored : (state : List ℕ) (kind byte other : ℕ) → (kind ≡ 1 → ⊥) → (kind ≡ 3 → ⊥)
      → event_call g state kind byte ≡ event_call g state kind other
  -- 1 push, 2 pop, 4 status, 5 reset, 6 acknowledge: 0 and the byte read, and all bytes after; a reset empties the
  -- memory too
  pub push_call : (b : ℕ) (l : List ℕ) (p u v : ℕ) (t : List ℕ) → Parts l p u v t
      → event_call g (l ++ (p ∷ u ∷ v ∷ t)) 1 b ≡ signalled 0 ((b ∷ take 15 l) ++ ((1 - p) ∷ u ∷ v ∷ t))
  pub pop_call : (b byte : ℕ) (l : List ℕ) (p u v : ℕ) (t : List ℕ) → Parts (b ∷ l) p u v t
      → event_call g ((b ∷ l) ++ (p ∷ u ∷ v ∷ t)) 2 byte ≡ signalled b ((l ++ (b ∷ [])) ++ ((1 - p) ∷ u ∷ v ∷ t))
  pub status_call : (byte : ℕ) (l : List ℕ) (p u v : ℕ) (t : List ℕ) → Parts l p u v t
      → event_call g (l ++ (p ∷ u ∷ v ∷ t)) 4 byte ≡ signalled u (l ++ (p ∷ u ∷ v ∷ t))
  pub reset_call : g.mode ≡ 0 → (byte : ℕ) (l : List ℕ) (p u v : ℕ) (t : List ℕ) → Parts l p u v t
      → event_call g (l ++ (p ∷ u ∷ v ∷ t)) 5 byte ≡ signalled 0 (zeros 16 ++ (0 ∷ 0 ∷ 0 ∷ zeros (length t)))
  -- in the older mode the stack stays, or with half a word pending its top byte goes and its bottom two become zero
  pub older_reset_call : g.mode ≡ 1 → (byte : ℕ) (l : List ℕ) (u v : ℕ) (t : List ℕ) → Parts l 0 u v t
      → event_call g (l ++ (0 ∷ u ∷ v ∷ t)) 5 byte ≡ signalled 0 (l ++ (0 ∷ 0 ∷ 0 ∷ zeros (length t)))
  pub realigned_call : g.mode ≡ 1 → (b byte : ℕ) (l : List ℕ) (u v : ℕ) (t : List ℕ) → Parts (b ∷ l) 1 u v t
      → event_call g ((b ∷ l) ++ (1 ∷ u ∷ v ∷ t)) 5 byte
      ≡ signalled 0 ((take 14 l ++ (0 ∷ 0 ∷ [])) ++ (0 ∷ 0 ∷ 0 ∷ zeros (length t)))
  pub acknowledge_call : (byte : ℕ) (l : List ℕ) (p u v : ℕ) (t : List ℕ) → Parts l p u v t
      → event_call g (l ++ (p ∷ u ∷ v ∷ t)) 6 byte ≡ signalled 0 (l ++ (p ∷ u ∷ 0 ∷ t))
  -- 7 the memory read, its bits alone, which are 0 on 19 bytes, and 8 the memory cleared; neither touches anything else
  pub recall_call : (byte : ℕ) (l : List ℕ) (p u v : ℕ) (t : List ℕ) → Parts l p u v t
      → event_call g (l ++ (p ∷ u ∷ v ∷ t)) 7 byte ≡ signalled (get_or t 0 0) (l ++ (p ∷ u ∷ v ∷ t))
  pub forget_call : (byte : ℕ) (l : List ℕ) (p u v : ℕ) (t : List ℕ) → Parts l p u v t
      → event_call g (l ++ (p ∷ u ∷ v ∷ t)) 8 byte ≡ signalled 0 (l ++ (p ∷ u ∷ v ∷ zeros (length t)))

abbrev pub EventCall : Type 0
EventCall = (g : Given) → Chosen g → EventCallUnder g

-- ---- a conversion, outward and inward

pub record ConversionCall (reply : Reply) : Type 0 where
  -- a slice that is not four bytes: 8 before all else, and it is unwritten
  pub other_length : (out : List ℕ) → (length out ≡ 4 → ⊥) → sent_of reply out ≡ record { result = 8; out = out }
  -- else the refusal of the word or of the f32, and the slice is unwritten
  pub refused : (out : List ℕ) → length out ≡ 4 → (number reply ≡ 0 → ⊥)
      → sent_of reply out ≡ record { result = number reply; out = out }
  -- and on 0 the 32 bits as four bytes, little-endian
  pub done : (out : List ℕ) → length out ≡ 4 → number reply ≡ 0
      → sent_of reply out ≡ record {
        result = 0;
        out = reply.bits % 256 ∷ reply.bits / 256 % 256 ∷ reply.bits / 65536 % 256 ∷ reply.bits / 16777216 % 256
            ∷ [];
      }

pub record ConversionCalls : Type 0 where
  pub word_to_f32 : (word : ℕ) → ConversionCall (outward word)
  pub f32_to_word : (bits : ℕ) → ConversionCall (inward bits)
