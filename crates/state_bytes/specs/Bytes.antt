-- The state as 19 bytes, or 21 with its error memory, and the report as 9. Definitions only. Assumes nothing.
use Rattle.std.specs.Prelude.{ℕ, ◌≡◌, ◌⊎◌, Bool, true, false, cond, List, [], ◌∷◌, ◌++◌, eqb, ltb, length, take, get_or}
use Rattle.numbers.specs.Little.{le4}
use Rattle.terms.specs.Limits.{stack_bytes, state_bytes, long_state_bytes}
use Rattle.terms.specs.declared.Refusal.{Refusal}
use Rattle.terms.specs.declared.Refusal.TheVariants.{Done, BadState, BadMode, BadRule}
use Rattle.terms.specs.declared.Settings.{Settings}
use Rattle.terms.specs.Settings.{is_mode, is_rule}
use Rattle.chip.specs.State.{State}
use Rattle.error_memory.specs.declared.Memory.{Memory}
use Rattle.error_memory.specs.Memory.{Card, empty_memory, is_memory}

-- as many bytes as a state has: 19, or 21
abbrev pub Sized : List ℕ → Type 0
Sized l = (length l ≡ state_bytes) ⊎ (length l ≡ long_state_bytes)

-- pending and service 0 or 1, busy (status bit 7) clear
abbrev pub is_chip : List ℕ → Bool
is_chip l = cond (ltb 1 (get_or l 16 0)) false (cond (ltb 127 (get_or l 17 0)) false (cond (ltb 1 (get_or l 18 0)) false true))

-- whether bytes stand for a state: 19 of them; or 21, the last two the error memory's bits and code
unfoldable pub is_state : List ℕ → Bool
is_state l =
    cond (eqb (length l) state_bytes) (is_chip l)
    (cond (eqb (length l) long_state_bytes) (cond (is_chip l) (is_memory (get_or l 19 0) (get_or l 20 0)) false) false)

-- the chip of a state: stack top first, pending, status, service
abbrev pub state_of : List ℕ → State
state_of l = record {
  stack = take stack_bytes l;
  pending = eqb (get_or l 16 0) 1;
  status = get_or l 17 0;
  service = eqb (get_or l 18 0) 1;
}

-- "a 19-byte state is read with an empty memory"
abbrev pub memory_in : List ℕ → Memory
memory_in l = cond (eqb (length l) state_bytes) empty_memory (record { bits = get_or l 19 0; code = get_or l 20 0 })

-- with the settings that the call was given
abbrev pub card_in : Settings → List ℕ → Card
card_in on l = record { on = on; chip = state_of l; memory = memory_in l }

-- the door: 16, 17, 13, or 0 where mode, rule and the state's bytes are admitted
abbrev pub door_of : ℕ → ℕ → List ℕ → Refusal
door_of mode rule state = cond (is_mode mode) (cond (is_rule rule) (cond (is_state state) Done BadState) BadRule) BadMode

-- a flag as a byte
abbrev pub flag_of : Bool → ℕ
flag_of set = cond set 1 0

-- the 19 bytes of a chip
abbrev pub state_bytes_of : State → List ℕ
state_bytes_of s = s.stack ++ (flag_of s.pending ∷ s.status ∷ flag_of s.service ∷ [])

-- those of a memory behind them, of which with them so many were lent: none of 19
abbrev pub memory_bytes_of : ℕ → Memory → List ℕ
memory_bytes_of n m = cond (eqb n state_bytes) [] (m.bits ∷ m.code ∷ [])

-- both, of which so many were lent: "written back as 19 bytes, memory dropped"
abbrev pub laid : ℕ → State → Memory → List ℕ
laid n s m = state_bytes_of s ++ memory_bytes_of n m

-- the bytes of a state with another memory
abbrev pub with_memory : List ℕ → Memory → List ℕ
with_memory l m = take state_bytes l ++ memory_bytes_of (length l) m

-- those of a card; the settings are "not among the state's bytes"
abbrev pub laid_out : ℕ → Card → List ℕ
laid_out n c = laid n c.chip c.memory

-- the report: refusal, bytes of whole records taken, bytes of replies written
abbrev pub report_of : ℕ → ℕ → ℕ → List ℕ
report_of refusal taken written = refusal ∷ (le4 taken ++ le4 written)
