-- 02, ask 6: racks that count on the older reset. The mode turned away, what the older reset leaves, and that the modes
-- differ there alone. Definitions
-- and the statements only: proofs/Modes.antt proves them. Assumes nothing.
use Rattle.std.specs.Prelude.{ℕ, suc, ◌+◌, ◌*◌, ◌<◌, ◌≡◌, true, false, List, [], ◌∷◌, length, drop, get_or}
use Rattle.terms.specs.declared.Mode.TheVariants.{Am9511}
use Rattle.promises.specs.Subjects.{Settings, State, Push, Pop, Reset, Memory, Outcome, run_of}
use Rattle.promises.specs.Stack.{tos}
use Rattle.promises.specs.BusEvents.{busy, after_events}
use Rattle.promises.specs.Remembered.{card_with}
use Rattle.promises.specs.StateBytes.{card_in}
use Rattle.promises.specs.Given.{Given, Chosen, settings_in, run_call, event_call}
use Rattle.promises.specs.Records.{Split}

-- ---- "Refusals: 16 for a mode number that is neither 0 nor 1, after 14 and before 13"
pub record NoMode : Type 0 where
  -- a run: whatever the state and the input, the report alone is written, both counts 0
  pub run : (g : Given) (state input replies report : List ℕ) → 1 < g.mode → length report ≡ 9
      → run_call g state input replies report
      ≡ record { result = 16; state = state; replies = replies; report = 16 ∷ 0 ∷ 0 ∷ 0 ∷ 0 ∷ 0 ∷ 0 ∷ 0 ∷ 0 ∷ [] }
  -- an event: 256 times 16, whatever the state and the kind; nothing is written
  pub event : (g : Given) (state : List ℕ) (kind byte : ℕ) → 1 < g.mode
      → event_call g state kind byte ≡ record { result = 4096; state = state }

-- ---- "In the older mode reset keeps all 16 bytes if no half word is pending. If one is, the top byte goes to the
-- bottom and the bottom two bytes become
-- zero, so the words below stand aligned again."
-- a 16-bit word of a stack, 0 for A to 7 for H
abbrev pub word_of : ℕ → List ℕ → ℕ
word_of i s = tos 2 (drop (2 * i) s)

-- a state that 13 does not turn away, of 16 bytes
pub record Stood (s : State) : Type 0 where
  pub sixteen : length s.stack ≡ 16
  pub calm : busy s ≡ false

pub record OlderReset (on : Settings) : Type 0 where
  -- as lists of bytes
  pub keeps : (s0 s1 s2 s3 s4 s5 s6 s7 s8 s9 s10 s11 s12 s13 s14 s15 : ℕ) (s : State)
      → s.stack ≡ s0 ∷ s1 ∷ s2 ∷ s3 ∷ s4 ∷ s5 ∷ s6 ∷ s7 ∷ s8 ∷ s9 ∷ s10 ∷ s11 ∷ s12 ∷ s13 ∷ s14 ∷ s15 ∷ []
      → busy s ≡ false → s.pending ≡ false
      → (after_events on s (Reset ∷ [])).stack
      ≡ s0 ∷ s1 ∷ s2 ∷ s3 ∷ s4 ∷ s5 ∷ s6 ∷ s7 ∷ s8 ∷ s9 ∷ s10 ∷ s11 ∷ s12 ∷ s13 ∷ s14 ∷ s15 ∷ []
  pub realigns : (s0 s1 s2 s3 s4 s5 s6 s7 s8 s9 s10 s11 s12 s13 s14 s15 : ℕ) (s : State)
      → s.stack ≡ s0 ∷ s1 ∷ s2 ∷ s3 ∷ s4 ∷ s5 ∷ s6 ∷ s7 ∷ s8 ∷ s9 ∷ s10 ∷ s11 ∷ s12 ∷ s13 ∷ s14 ∷ s15 ∷ []
      → busy s ≡ false → s.pending ≡ true
      → (after_events on s (Reset ∷ [])).stack
      ≡ s1 ∷ s2 ∷ s3 ∷ s4 ∷ s5 ∷ s6 ∷ s7 ∷ s8 ∷ s9 ∷ s10 ∷ s11 ∷ s12 ∷ s13 ∷ s14 ∷ 0 ∷ 0 ∷ []
  -- in words: with nothing pending every word stays
  pub words_stay : (s : State) (i : ℕ) → Stood s → s.pending ≡ false
      → word_of i (after_events on s (Reset ∷ [])).stack ≡ word_of i s.stack
  -- with half a word pending the seven that lie below the top byte stand at A to G, and H is zero
  pub words_below : (s : State) (i : ℕ) → Stood s → s.pending ≡ true → i < 7
      → word_of i (after_events on s (Reset ∷ [])).stack ≡ tos 2 (drop (1 + 2 * i) s.stack)
  pub last_zero : (s : State) → Stood s → s.pending ≡ true → word_of 7 (after_events on s (Reset ∷ [])).stack ≡ 0
  -- after one byte pushed on an aligned stack these are its words A to G
  pub after_push : (s : State) (b i : ℕ) → Stood s → s.pending ≡ false → i < 7
      → word_of i (after_events on s (Push b ∷ Reset ∷ [])).stack ≡ word_of i s.stack
  -- after one byte popped its words B to H
  pub after_pop : (s : State) (i : ℕ) → Stood s → s.pending ≡ false → i < 7
      → word_of i (after_events on s (Pop ∷ Reset ∷ [])).stack ≡ word_of (suc i) s.stack

abbrev pub OlderResets : Type 0
OlderResets = (on : Settings) → on.mode ≡ Am9511 → OlderReset on

-- ---- "Mode touches reset alone"
-- no record is a reset
abbrev pub NoReset : List (List ℕ) → Type 0
NoReset [] = Unit
NoReset (r ∷ rs) = (get_or r 2 0 ≡ 5 → ⊥) × NoReset rs

-- two runs that differ in nothing but the settings that their cards stand under
pub record SameRun (o p : Outcome) : Type 0 where
  pub refusal : o.refusal ≡ p.refusal
  pub chip : o.state.chip ≡ p.state.chip
  pub memory : o.state.memory ≡ p.state.memory
  pub taken : o.taken ≡ p.taken
  pub written : o.written ≡ p.written

pub record ModesAlike : Type 0 where
  -- two runs of one file from one state, none of whose records that are taken is a reset
  pub runs : (on by : Settings) (s : State) (m : Memory) (file : List ℕ) (room : ℕ) → on.rule ≡ by.rule
      → (split : Split (card_with on s m) file room (run_of (card_with on s m) file room)) → NoReset split.records
      → SameRun (run_of (card_with on s m) file room) (run_of (card_with by s m) file room)
  -- so the calls: the same number, and every byte of every slice
  pub calls : (g h : Given) → Chosen g → Chosen h → g.rule ≡ h.rule → (state input replies report : List ℕ)
      → (split : Split (card_in (settings_in g) state) input (length replies)
      (run_of (card_in (settings_in g) state) input (length replies))) → NoReset split.records
      → run_call g state input replies report ≡ run_call h state input replies report
  -- and an event of any other kind
  pub events : (g h : Given) → Chosen g → Chosen h → g.rule ≡ h.rule → (state : List ℕ) (kind byte : ℕ)
      → (kind ≡ 5 → ⊥) → event_call g state kind byte ≡ event_call h state kind byte
