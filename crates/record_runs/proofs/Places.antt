-- A run's place: what is behind it, and that a step that stops leaves it. Room is counted up to what no file's replies reach. Assumes nothing.
use mathlib.Core.Path.{◌≡◌, sym, ap, ◌∙◌}
use Prim.Native.Nat.{ℕ, ◌+◌, ◌*◌, ◌-◌, ◌≤◌, ◌<◌}
use native.Mathlib.Omega.{arith}
use native.Mathlib.Nat.{add-zero}
use lib.ListN.{length}
use Rattle.terms.specs.Limits.{most_payload, most_input}
use Rattle.record_files.specs.Run.{Outcome, ended}
use Rattle.record_files.proofs.Tests.{either_lt}
use Rattle.record_runs.specs.declared.step.Place.{Place}
use Rattle.record_runs.specs.Held.{most_replies, counted_in, further, Stands}

-- no byte more
pub at_rest : (p : Place) → p ≡ further p 0 0
at_rest p = rw (add-zero p.taken, add-zero p.written)

-- a place before the end of a file, whose replies so far have no more than 245 bytes for each byte taken
module _ (p : Place) (size room : ℕ) (in_all : p.most ≡ counted_in room) (few : p.written ≤ 245 * p.taken) (more : p.taken < size)
    (small : size ≤ most_input) (within : p.written ≤ room) where
  none_left : (k : ℕ) → k ≤ 5 + most_payload → p.most < p.written + k → room - p.written < k
  none_left k h =
      rw in_all
      (either_lt (λ (n : ℕ). n < p.written + k → room - p.written < k) room most_replies room most_replies (λ a b. omega arith) (λ a b. omega arith))

  some_left : (k : ℕ) → k ≤ 5 + most_payload → p.written + k ≤ p.most → k ≤ room - p.written
  some_left k h =
      rw in_all
      (either_lt (λ (n : ℕ). p.written + k ≤ n → k ≤ room - p.written) room most_replies room most_replies (λ a b. omega arith) (λ a b. omega arith))

  pub standing : Stands p (room - p.written)
  standing = record {
    early = omega arith;
    low = omega arith;
    none = none_left;
    some = some_left;
  }

-- a step that stops leaves the place
pub stays_there : {S : Type 0} (p q : Place) (t : Outcome S) (r : ℕ) (s : S) → q ≡ further p t.taken (length t.written) → t ≡ ended r s → q ≡ p
stays_there {S = S} p q t r s e h = e ∙ ap (λ (u : Outcome S). further p u.taken (length u.written)) h ∙ sym (at_rest p)
