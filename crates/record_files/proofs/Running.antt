-- A run by any lawful step is its first record and the run of what follows it. Assumes nothing.
use mathlib.Core.Path.{◌≡◌, refl, ap}
use mathlib.Core.List.{List, [], ◌∷◌, ◌++◌, append_assoc}
use mathlib.Core.Bool.{Bool, true, false, cond}
use Prim.Native.Nat.{ℕ, zero, suc, ◌+◌, ◌-◌, ◌≤◌, ◌<◌}
use native.Mathlib.Omega.{arith}
use native.Mathlib.Nat.{not-suc-le-zero, zero-add, add_assoc}
use lib.Dec.{eqb}
use lib.ListN.{length, drop, length-drop}
use borrow.Author.Tests.{eqb-true}
use Rattle.record_files.specs.Run.{RecordStep, Outcome, ended, after, next, run, run_by}
use Rattle.record_files.specs.Lawful.{Lawful}

-- the run of what follows a record, in the room that its reply left
abbrev pub beyond : {S : Type 0} → RecordStep S → Outcome S → List ℕ → ℕ → Outcome S
beyond step t l room = run_by step t.state (drop t.taken l) (room - length t.written)

-- next looks at what follows only where the record is not refused
same_next : {S : Type 0} (t : Outcome S) (o p : Outcome S) → (t.refusal ≡ 0 → o ≡ p) → next t o ≡ next t p
same_next t o p h = pick (eqb t.refusal 0) refl
  where
    pick : (b : Bool) → eqb t.refusal 0 ≡ b → cond b (after t.taken t.written o) (ended t.refusal t.state) ≡ cond b
        (after t.taken t.written p)
        (ended t.refusal t.state)
    pick true e = ap (after t.taken t.written) (h (eqb-true _ _ e))
    pick false e = refl

-- an outcome after nothing, and after two records
pub after_none : {S : Type 0} (o : Outcome S) → after 0 [] o ≡ o
after_none o = rw (zero-add o.taken)

pub after_after : {S : Type 0} (m n : ℕ) (v w : List ℕ) (o : Outcome S) → after m v (after n w o) ≡ after (m + n) (v ++ w) o
after_after m n v w o = rw (add_assoc m n o.taken, append_assoc v w o.written)

module _ {S : Type 0} {most : ℕ} {step : RecordStep S} (ok : Lawful most step) where
  -- more steps than bytes make no difference
  enough : (f g : ℕ) (s : S) (l : List ℕ) (room : ℕ) → length l ≤ f → length l ≤ g → run step f s l room ≡ run step g s l room
  unfolding run
  enough zero zero s l room a b = refl
  enough zero (suc g) s [] room a b = refl
  enough zero (suc g) s (x ∷ l) room a b = absurd (not-suc-le-zero a)
  enough (suc f) zero s [] room a b = refl
  enough (suc f) zero s (x ∷ l) room a b = absurd (not-suc-le-zero b)
  enough (suc f) (suc g) s [] room a b = refl
  enough (suc f) (suc g) s (x ∷ l) room a b =
      let t = step s (x ∷ l) room in
      same_next t _ _ (λ e.
      let m : 0 < t.taken = ok.moves s (x ∷ l) room e in
      let d = length-drop t.taken (x ∷ l) in
      enough f g t.state (drop t.taken (x ∷ l)) (room - length t.written) (omega arith) (omega arith))

  -- the first record, and the run of what follows it
  pub unroll : (s : S) (l : List ℕ) (room : ℕ) → 0 < length l
      → run_by step s l room ≡ next (step s l room) (beyond step (step s l room) l room)
  unfolding run run_by
  unroll s [] room h = absurd (not-suc-le-zero h)
  unroll s (x ∷ l) room h =
      let t = step s (x ∷ l) room in
      same_next t _ _ (λ e.
      let m : 0 < t.taken = ok.moves s (x ∷ l) room e in
      let d = length-drop t.taken (x ∷ l) in
      enough (length l) (length (drop t.taken (x ∷ l))) t.state (drop t.taken (x ∷ l)) (room - length t.written) (omega arith) (omega arith))
