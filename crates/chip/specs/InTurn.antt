-- Several bytes popped in turn, each by an event of its own. Definitions only. Assumes nothing.
use Rattle.std.specs.Prelude.{ℕ, zero, suc, List, [], ◌∷◌}
use Rattle.chip.specs.State.{State}
use Rattle.chip.specs.Step.{pop_of}

-- the bytes that k pops hand out
abbrev pub bytes_popped : ℕ → State → List ℕ
bytes_popped zero s = []
bytes_popped (suc k) s = (pop_of s).byte ∷ bytes_popped k (pop_of s).state
