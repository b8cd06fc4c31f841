-- 02, ask 8: for every list of POPS, POPD, POPF, XCHS, XCHD and XCHF a list of the same commands that restores all 16
-- bytes, and the rule that makes it.
-- Definitions and the statements only: proofs/Undo.antt proves them. Assumes nothing.
use Rattle.std.specs.Prelude.{ℕ, suc, ◌≡◌, Bool, true, false, List, [], ◌∷◌, ◌++◌, take, drop, get_or, replicate}
use Rattle.terms.specs.declared.Mode.TheVariants.{Am9511A}
use Rattle.terms.specs.declared.Width.TheVariants.{Single, Double}
use Rattle.codes.specs.Command.{Command}
use Rattle.codes.specs.Command.{Pop, Xch}
use Rattle.codes.specs.Command.{Known}
use Rattle.codes.specs.Codes.{decoded}
use Rattle.promises.specs.Subjects.{Settings, State, ChipEvent as Event, answer_to}
use Rattle.promises.specs.Stack.{Bytes, IsStack}
use Rattle.promises.specs.BusEvents.{under, after_events, answered, AtRest, after_pops}
use Rattle.promises.specs.StateBytes.{IsState}
use Rattle.promises.specs.Given.{Given, Chosen}
use Rattle.promises.specs.Chains.{command_event}
use Rattle.promises.specs.Cores.{Core, Meets, on_bus, driven, returned, all_zero}

-- ---- the six commands
pub data Shuffle : Type 0 where
  POPS POPD POPF XCHS XCHD XCHF : Shuffle

-- the code in Figure 8 of 001, without bit 7; what it does: A goes to the bottom, or A and B change places, "The D and F
-- forms .. do the same"; what undoes it: "each exchange once, POPS seven times, POPD or POPF three times"
abbrev pub row_of : Shuffle → ℕ × Command × List Shuffle
row_of POPS = (0x78, Pop Single, replicate 7 POPS)
row_of POPD = (0x38, Pop Double, replicate 3 POPD)
row_of POPF = (0x18, Pop Double, replicate 3 POPF)
row_of XCHS = (0x79, Xch Single, XCHS ∷ [])
row_of XCHD = (0x39, Xch Double, XCHD ∷ [])
row_of XCHF = (0x19, Xch Double, XCHF ∷ [])

abbrev pub code_of : Shuffle → ℕ
code_of k = (row_of k).0

abbrev pub command_of : Shuffle → Command
command_of k = (row_of k).1

-- ---- the rule
abbrev pub undo_one : Shuffle → List Shuffle
undo_one k = (row_of k).2

-- "backwards": what undoes the first command comes last
abbrev pub undo : List Shuffle → List Shuffle
undo [] = []
undo (k ∷ ks) = undo ks ++ undo_one k

-- "eight POPS and four POPD", and so four POPF
abbrev pub eight_pops : List Shuffle
eight_pops = replicate 8 POPS

abbrev pub four_popd : List Shuffle
four_popd = replicate 4 POPD

abbrev pub four_popf : List Shuffle
four_popf = replicate 4 POPF

-- ---- a list that changes no byte
-- its commands in turn, given by code; sr gives each its bit 7, counted from 0
abbrev pub shuffled : (ℕ → Bool) → List Shuffle → List Event
shuffled sr [] = []
shuffled sr (k ∷ ks) = command_event (sr 0) (code_of k) ∷ shuffled (λ (n : ℕ). sr (suc n)) ks

-- at the chip, from any state that 13 does not turn away, with nothing pending: every command is answered 0, all 16
-- bytes are as at first, and nothing is
-- pending again
pub record AtChip (on : Settings) (ks : List Shuffle) : Type 0 where
  pub every_answered : (s : State) (sr : ℕ → Bool) → AtRest s → answered on s (shuffled sr ks) ≡ true
  pub all_bytes : (s : State) (sr : ℕ → Bool) → AtRest s → IsStack s.stack
      → (after_events on s (shuffled sr ks)).stack ≡ s.stack
  pub ready_again : (s : State) (sr : ℕ → Bool) → AtRest s → AtRest (after_events on s (shuffled sr ks))

-- the bytes of a state that 13 does not turn away, 19 or 21, with nothing pending
pub record BytesAtRest (state : List ℕ) : Type 0 where
  pub bytes : Bytes state
  pub good : IsState state
  pub whole : get_or state 16 0 ≡ 0

-- through the event call: every call returns 0, and of the bytes lent all come back but 17 and 18, the status and the
-- service line
pub record AtCalls (c : Core) (ks : List Shuffle) : Type 0 where
  pub all_return_0 : (state : List ℕ) (sr : ℕ → Bool) → BytesAtRest state
      → all_zero (returned c state (on_bus (shuffled sr ks))) ≡ true
  pub bytes_0_to_15 : (state : List ℕ) (sr : ℕ → Bool) → BytesAtRest state
      → take 16 (driven c state (on_bus (shuffled sr ks))) ≡ take 16 state
  pub byte_16 : (state : List ℕ) (sr : ℕ → Bool) → BytesAtRest state
      → get_or (driven c state (on_bus (shuffled sr ks))) 16 0 ≡ 0
  pub bytes_19_and_20 : (state : List ℕ) (sr : ℕ → Bool) → BytesAtRest state
      → drop 19 (driven c state (on_bus (shuffled sr ks))) ≡ drop 19 state

-- under every setting, and of every core that meets the promises under numbers that are not turned away
pub record ChangesNoByte (ks : List Shuffle) : Type 0 where
  pub chip : (on : Settings) → AtChip on ks
  pub calls : (g : Given) → Chosen g → (c : Core) → Meets g c → AtCalls c ks

-- after the one list the other restores all 16 bytes
abbrev pub Restores : List Shuffle → List Shuffle → Type 0
Restores ks back = ChangesNoByte (ks ++ back)

-- ---- the statements
-- every list is undone by the rule
abbrev pub Undone : Type 0
Undone = (ks : List Shuffle) → Restores ks (undo ks)

-- "such lists compose"
pub record Composes : Type 0 where
  -- the undo of a joined list is the undos joined the other way round
  pub joined : (ks ls : List Shuffle) → undo (ks ++ ls) ≡ undo ls ++ undo ks
  -- and so do any lists restore, made by the rule or not
  pub restoring : (ks ls back again : List Shuffle) → Restores ks back → Restores ls again
      → Restores (ks ++ ls) (again ++ back)
  -- what changes no byte may be left out of a list that restores, wherever it stands
  pub left_out : (ks back ms again : List Shuffle) → ChangesNoByte ms → Restores ks (back ++ (ms ++ again))
      → Restores ks (back ++ again)

-- "eight POPS and four POPD change no byte"
pub record FullTurns : Type 0 where
  pub eight_pops_lem : ChangesNoByte eight_pops
  pub four_popd_lem : ChangesNoByte four_popd
  pub four_popf_lem : ChangesNoByte four_popf

-- ---- a look at an entry
-- an entry of 16 bits read byte by byte moves the stack as POPS does, one of 32 bits as POPD; all 16 bytes read change
-- nothing
pub record Looks : Type 0 where
  pub two_bytes : (on : Settings) (s : State) (sr : ℕ → Bool) → AtRest s → IsStack s.stack
      → (after_pops 2 s).stack ≡ (after_events on s (shuffled sr (POPS ∷ []))).stack
  pub four_bytes_lem : (on : Settings) (s : State) (sr : ℕ → Bool) → AtRest s → IsStack s.stack
      → (after_pops 4 s).stack ≡ (after_events on s (shuffled sr (POPD ∷ []))).stack
  pub sixteen_bytes : (s : State) → AtRest s → IsStack s.stack → after_pops 16 s ≡ s

-- ---- the same said a second time
-- the codes are the commands' own
abbrev pub SixCodes : Type 0
SixCodes = (k : Shuffle) → decoded (code_of k) ≡ Known (command_of k)

-- the stacks that events leave, one after the other
abbrev pub stacks_after : Settings → State → List Event → List (List ℕ)
stacks_after on s [] = []
stacks_after on s (e ∷ es) = (answer_to on s e).state.stack ∷ stacks_after on (answer_to on s e).state es

-- 16 different bytes, and a state with every error bit and the carry in its status, the service line high
abbrev pub example_bytes : List ℕ
example_bytes =
    0x01 ∷ 0x02 ∷ 0x03 ∷ 0x04 ∷ 0x05 ∷ 0x06 ∷ 0x07 ∷ 0x08 ∷ 0x09 ∷ 0x0a ∷ 0x0b ∷ 0x0c ∷ 0x0d ∷ 0x0e ∷ 0x0f ∷ 0x10 ∷ []

abbrev pub example_state : State
example_state = record { stack = example_bytes; pending = false; status = 0x7f; service = true }

-- each of the six once, and what undoes them, written out
abbrev pub example_list : List Shuffle
example_list = XCHS ∷ POPD ∷ XCHF ∷ POPS ∷ XCHD ∷ POPF ∷ []

abbrev pub example_undo : List Shuffle
example_undo =
    POPF ∷ POPF ∷ POPF ∷ XCHD ∷ POPS ∷ POPS ∷ POPS ∷ POPS ∷ POPS ∷ POPS ∷ POPS ∷ XCHF ∷ POPD ∷ POPD ∷ POPD ∷ XCHS ∷ []

-- with sr 0, on the Am9511A
pub record UndoExample : Type 0 where
  pub by_rule : undo example_list ≡ example_undo
  -- the stack after each of the six
  pub stacks : stacks_after (under Am9511A) example_state (shuffled (λ (n : ℕ). false) example_list)
      ≡ (0x03 ∷ 0x04 ∷ 0x01 ∷ 0x02 ∷ 0x05 ∷ 0x06 ∷ 0x07 ∷ 0x08
      ∷ 0x09 ∷ 0x0a ∷ 0x0b ∷ 0x0c ∷ 0x0d ∷ 0x0e ∷ 0x0f ∷ 0x10 ∷ [])
      ∷ (0x05 ∷ 0x06 ∷ 0x07 ∷ 0x08 ∷ 0x09 ∷ 0x0a ∷ 0x0b ∷ 0x0c
      ∷ 0x0d ∷ 0x0e ∷ 0x0f ∷ 0x10 ∷ 0x03 ∷ 0x04 ∷ 0x01 ∷ 0x02 ∷ [])
      ∷ (0x09 ∷ 0x0a ∷ 0x0b ∷ 0x0c ∷ 0x05 ∷ 0x06 ∷ 0x07 ∷ 0x08
      ∷ 0x0d ∷ 0x0e ∷ 0x0f ∷ 0x10 ∷ 0x03 ∷ 0x04 ∷ 0x01 ∷ 0x02 ∷ [])
      ∷ (0x0b ∷ 0x0c ∷ 0x05 ∷ 0x06 ∷ 0x07 ∷ 0x08 ∷ 0x0d ∷ 0x0e
      ∷ 0x0f ∷ 0x10 ∷ 0x03 ∷ 0x04 ∷ 0x01 ∷ 0x02 ∷ 0x09 ∷ 0x0a ∷ [])
      ∷ (0x07 ∷ 0x08 ∷ 0x0d ∷ 0x0e ∷ 0x0b ∷ 0x0c ∷ 0x05 ∷ 0x06
      ∷ 0x0f ∷ 0x10 ∷ 0x03 ∷ 0x04 ∷ 0x01 ∷ 0x02 ∷ 0x09 ∷ 0x0a ∷ [])
      ∷ (0x0b ∷ 0x0c ∷ 0x05 ∷ 0x06 ∷ 0x0f ∷ 0x10 ∷ 0x03 ∷ 0x04
      ∷ 0x01 ∷ 0x02 ∷ 0x09 ∷ 0x0a ∷ 0x07 ∷ 0x08 ∷ 0x0d ∷ 0x0e ∷ [])
      ∷ []
  -- and the whole state at the end: "Status and service line are not restored"
  pub at_the_end : after_events (under Am9511A) example_state (shuffled (λ (n : ℕ). false) (example_list ++ example_undo))
      ≡ record { stack = example_bytes; pending = false; status = 0x00; service = false }
