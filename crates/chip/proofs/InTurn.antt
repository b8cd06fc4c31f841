-- Bytes pushed and popped in turn on a state that is not busy: each is answered 0 and turns pending, and pops hand out the top bytes. Assumes nothing.
use mathlib.Core.Path.{◌≡◌, refl, ap, ◌∙◌}
use mathlib.Core.Bool.{Bool, not}
use mathlib.Core.List.{List, ◌∷◌}
use Prim.Native.Nat.{ℕ, zero, suc, ◌<◌}
use borrow.Author.Tests.{lt-leb}
use Rattle.stack.specs.Stack.{top_byte, pushed, popped, handed_out}
use Rattle.chip.specs.State.{State, Answer, moved}
use Rattle.chip.specs.Step.{done, push_of, pop_of}
use Rattle.chip.specs.InTurn.{bytes_popped}

-- ---- one byte
pub push_done : (s : State) (b : ℕ) → s.status < 128 → push_of s b ≡ done 0 (moved s (pushed s.stack b))
unfolding push_of
push_done s b h = rw (lt-leb 128 s.status h)

pub pop_done : (s : State) → s.status < 128 → pop_of s ≡ done (top_byte s.stack) (moved s (popped s.stack))
unfolding pop_of
pop_done s h = rw (lt-leb 128 s.status h)

-- ---- several
-- a flag turned k times
abbrev pub turned : ℕ → Bool → Bool
turned zero p = p
turned (suc k) p = turned k (not p)

-- a state with another stack, and pending turned k times
abbrev pub restacked : State → List ℕ → ℕ → State
restacked s l k = record { stack = l; pending = turned k s.pending; status = s.status; service = s.service }

pub pops_bytes : (k : ℕ) (s : State) → s.status < 128 → bytes_popped k s ≡ handed_out k s.stack
pops_bytes zero s h = refl
pops_bytes (suc k) s h =
    ap (λ (a : Answer). a.byte ∷ bytes_popped k a.state) (pop_done s h)
    ∙ ap (λ (l : List ℕ). top_byte s.stack ∷ l) (pops_bytes k (moved s (popped s.stack)) h)
