-- The ways of a record step: it stops with 5 to 8 and nothing done, or works the event that the record holds. Assumes nothing.
use mathlib.Core.Path.{◌≡◌}
use mathlib.Core.List.{List}
use Prim.Native.Nat.{ℕ, ◌+◌, ◌≤◌, ◌<◌}
use native.Mathlib.Omega.{arith}
use lib.Dec.{lit≤}
use lib.ListN.{take, drop}
use Rattle.terms.specs.declared.Refusal.{Refusal}
use Rattle.terms.specs.declared.Refusal.TheVariants.{NoRoom}
use Rattle.terms.specs.Refusal.{number_of}
use Rattle.error_memory.specs.Memory.{Card}
use Rattle.record_files.proofs.Tests.{either_lt}
use Rattle.record_runs.specs.Record.{Event}
use Rattle.record_runs.specs.Record.{payload_of, answered_of, answer_of, Holds, Turned, stopped, worked, turn_by, turn_under}
use Rattle.record_runs.proofs.Heads.{heads}

-- what holds of a record that stops and of one that is worked holds of the step
pub steps : {most : ℕ} (P : Turned → Type 0) (s : Card) (l : List ℕ) (room : ℕ)
    → ((r : Refusal) → 5 ≤ number_of r → number_of r ≤ 8 → P (stopped r s))
    → ((e : Event) → Holds most l e → 5 + answered_of e ≤ room → P (worked s e (answer_of s (take (payload_of e) (drop 4 l)) e)))
    → P (turn_under most s l room)
unfolding turn_under
steps P s l room stop work =
    heads (λ h. P (turn_by s l room h)) (λ r g. stop r g.0 (omega (arith, g.1))) l
    (λ e h. either_lt P room (5 + answered_of e) _ _ (λ g. stop NoRoom (lit≤ tt) (lit≤ tt)) (λ g. work e h g))

abbrev Moves : Turned → Type 0
Moves t = t.refusal ≡ 0 → 0 < t.taken

-- a record that is taken has at least one byte
pub moves : (most : ℕ) (s : Card) (l : List ℕ) (room : ℕ) → Moves (turn_under most s l room)
moves most s l room = steps {most = most} Moves s l room (λ r a b z. omega arith) (λ e h g z. omega arith)
