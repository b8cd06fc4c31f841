-- A file that ends with 0, cut after any byte, leaves what its whole records leave: the cut goes before, through or behind the first record. Assumes nothing.
use mathlib.Core.Path.{◌≡◌, refl, subst}
use mathlib.Core.List.{List, []}
use Prim.Native.Nat.{ℕ, ◌+◌, ◌-◌, ◌≤◌, ◌<◌, zero-le}
use native.Mathlib.Omega.{arith}
use lib.ListN.{length, take, drop, length-drop}
use lib.Seq.{length-take-le}
use Rattle.terms.specs.declared.Refusal.TheVariants.{CutShort}
use Rattle.terms.specs.Refusal.{number_of}
use Rattle.record_files.specs.Run.{RecordStep, Outcome, ended, after, run_by}
use Rattle.record_files.specs.Lawful.{Lawful}
use Rattle.record_files.proofs.Tests.{either_lt}
use Rattle.record_files.proofs.Running.{beyond}
use Rattle.record_files.proofs.Append.{nothing, first_stops}
use Rattle.record_files.proofs.Through.{through, behind_first}

-- p, what a cut after k bytes leaves, beside o, what the first n bytes leave, which are whole records
pub record CutOf {S : Type 0} (p o : Outcome S) (k n : ℕ) : Type 0 where
  pub upto : n ≤ k
  pub whole_done : o.refusal ≡ 0
  pub whole_taken : o.taken ≡ n
  pub state_is : p.state ≡ o.state
  pub taken_is : p.taken ≡ n
  pub written_is : p.written ≡ o.written
  pub at_end : k ≡ n → p.refusal ≡ 0
  pub in_one : n < k → p.refusal ≡ number_of CutShort

abbrev pub CutAt : {S : Type 0} → RecordStep S → S → List ℕ → ℕ → ℕ → ℕ → Type 0
CutAt step s l room k n = CutOf (run_by step s (take k l) room) (run_by step s (take n l) room) k n

-- where the run ends with o, every cut has its whole records
abbrev Cuts : {S : Type 0} → RecordStep S → S → List ℕ → ℕ → Outcome S → Type 0
Cuts step s l room o = o.refusal ≡ 0 → (k : ℕ) → k ≤ length l → (n : ℕ) × CutAt step s l room k n

zero_of : (k : ℕ) → k ≤ 0 → 0 ≡ k
zero_of k h = omega arith

module _ {S : Type 0} {most : ℕ} {step : RecordStep S} (ok : Lawful most step) where
  -- a cut of which nothing is taken: before the first byte, or through the first record
  cut_early : (s : S) (l : List ℕ) (room k r : ℕ) → run_by step s (take k l) room ≡ ended r s → (k ≡ 0 → r ≡ 0) → (0 < k → r ≡ number_of CutShort)
      → CutAt step s l room k 0
  cut_early s l room k r e at_end in_one = rw (e, nothing ok s room) record {
    upto = zero-le;
    whole_done = refl;
    whole_taken = refl;
    state_is = refl;
    taken_is = refl;
    written_is = refl;
    at_end = at_end;
    in_one = in_one;
  }

  cut_none : (s : S) (l : List ℕ) (room : ℕ) → CutAt step s l room 0 0
  cut_none s l room = cut_early s l room 0 0 (nothing ok s room) (λ x. refl) (λ x. omega arith)

  cut_first : (s : S) (l : List ℕ) (room k : ℕ) → (step s l room).refusal ≡ 0 → 0 < k → k < (step s l room).taken → k ≤ length l → CutAt step s l room k 0
  cut_first s l room k z p h there =
      let g = length-take-le k l there in
      cut_early s l room k _ (first_stops ok s (take k l) room _ (ok.cut_through s l room k there z h) (omega arith) (λ y. omega arith)) (λ x. omega arith)
      (λ x. refl)

  -- a cut behind the first record
  cut_behind : (s : S) (l : List ℕ) (room k n : ℕ) → 0 < length l → (step s l room).refusal ≡ 0 → (step s l room).taken + k ≤ length l
      → CutAt step (step s l room).state (drop (step s l room).taken l) (room - length (step s l room).written) k n
      → CutAt step s l room ((step s l room).taken + k) ((step s l room).taken + n)
  cut_behind s l room k n p z there c =
      rw (behind_first ok s l room k p z there, behind_first ok s l room n p z (omega (arith, c.upto))) record {
        upto = omega (arith, c.upto);
        whole_done = c.whole_done;
        whole_taken = rw c.whole_taken;
        state_is = c.state_is;
        taken_is = rw c.taken_is;
        written_is = rw c.written_is;
        at_end = λ x. c.at_end (omega arith);
        in_one = λ x. c.in_one (omega arith);
      }

  -- a cut of a file whose first record is taken
  cut_taken : (s : S) (l : List ℕ) (room : ℕ) → 0 < length l → (step s l room).refusal ≡ 0
      → Cuts step (step s l room).state (drop (step s l room).taken l) (room - length (step s l room).written) (beyond step (step s l room) l room)
      → Cuts step s l room (after (step s l room).taken (step s l room).written (beyond step (step s l room) l room))
  cut_taken s l room p z h e k there =
      let t = step s l room in
      let d = length-drop t.taken l in
      either_lt (λ (i : ℕ). (n : ℕ) × CutAt step s l room k n) 0 k 0 0
      (λ some.
      either_lt (λ (i : ℕ). (n : ℕ) × CutAt step s l room k n) k t.taken 0 0
      (λ i. (0, cut_first s l room k z some i there))
      (λ i.
      let j : t.taken + (k - t.taken) ≡ k = omega arith in
      let r = h e (k - t.taken) (omega arith) in
      subst (λ (i : ℕ). (n : ℕ) × CutAt step s l room i n) j (t.taken + r.0, cut_behind s l room (k - t.taken) r.0 p z (omega arith) r.1)))
      (λ none. (0, subst (λ (i : ℕ). CutAt step s l room i 0) (zero_of k none) (cut_none s l room)))

  pub cut_anywhere : (s : S) (l : List ℕ) (room : ℕ) → Cuts step s l room (run_by step s l room)
  cut_anywhere =
      through ok (Cuts step)
      (λ s room e k there. (0, subst (λ (i : ℕ). CutAt step s [] room i 0) (zero_of k there) (cut_none s [] room)))
      (λ s l room p z e. absurd (z e))
      cut_taken
