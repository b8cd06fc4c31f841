-- A run goes on from where a run of the first bytes ended: the first record and the rest, and by induction the append law. Assumes nothing.
use mathlib.Core.Path.{◌≡◌, refl, sym, ap, subst, ◌∙◌}
use mathlib.Core.List.{List, [], ◌∷◌, ◌++◌, append-nil}
use Prim.Native.Nat.{ℕ, zero, suc, ◌+◌, ◌-◌, ◌≤◌, ◌<◌}
use native.Mathlib.Omega.{arith}
use native.Mathlib.Nat.{not-suc-le-zero, add-zero, sub-zero}
use lib.ListN.{length, take, drop, length-drop, length-append}
use lib.Seq.{take-append-le, drop-append-le, length-take-le, take-take, drop-length}
use borrow.Author.Tests.{eq-eqb, ne_eqb}
use Rattle.record_files.specs.Run.{RecordStep, Outcome, ended, took, after, run, run_by}
use Rattle.record_files.specs.Lawful.{Lawful}
use Rattle.record_files.proofs.Tests.{either_eq}
use Rattle.record_files.proofs.Running.{beyond, unroll, after_none, after_after}

-- what is left of the room after one reply and another
pub room_after_lem : (room : ℕ) (v w : List ℕ) → room - length (v ++ w) ≡ room - length v - length w
room_after_lem room v w = let g = length-append v w in omega arith

-- the run that goes on after an outcome, in the room that it left
abbrev pub onward : {S : Type 0} → RecordStep S → Outcome S → List ℕ → ℕ → Outcome S
onward step o rest room = after o.taken o.written (run_by step o.state rest (room - length o.written))

module _ {S : Type 0} {most : ℕ} {step : RecordStep S} (ok : Lawful most step) where
  -- a file of no bytes
  pub nothing : (s : S) (room : ℕ) → run_by step s [] room ≡ ended 0 s
  unfolding run_by run
  nothing s room = refl

  -- a file whose first record stops, and one whose first record is taken
  module _ (s : S) (l : List ℕ) (room : ℕ) (t : Outcome S) (is : step s l room ≡ t) (some : 0 < length l) where
    pub first_stops : (t.refusal ≡ 0 → ⊥) → run_by step s l room ≡ ended t.refusal s
    first_stops e =
        let i = (ok.stops s l room (λ z. e (sym (ap (λ (u : Outcome S). u.refusal) is) ∙ z))).1 in
        unroll ok s l room some
        ∙ rw (is, ne_eqb t.refusal 0 e) (ap (ended t.refusal) (sym (ap (λ (u : Outcome S). u.state) is) ∙ ap (λ (u : Outcome S). u.state) i))

    pub first_taken : t.refusal ≡ 0 → run_by step s l room ≡ after t.taken t.written (beyond step t l room)
    first_taken e = unroll ok s l room some ∙ rw (is, eq-eqb t.refusal 0 e)

    -- a run that ends with 0 stops at no record
    pub not_stopped : (run_by step s l room).refusal ≡ 0 → t.refusal ≡ 0
    not_stopped e =
        either_eq (λ (o : Outcome S). o.refusal ≡ 0 → t.refusal ≡ 0) t.refusal 0
        (after t.taken t.written (beyond step t l room)) (ended t.refusal t.state)
        (λ a b. a) (λ a b. b) (rw (unroll ok s l room some, is) at e)

    -- the same record before other bytes is taken alike
    again : (m : List ℕ) → t.refusal ≡ 0 → take t.taken l ≡ take t.taken m → t.taken ≤ length m → step s m room ≡ t
    again = subst (λ (u : Outcome S). (m : List ℕ) → u.refusal ≡ 0 → take u.taken l ≡ take u.taken m → u.taken ≤ length m → step s m room ≡ u) is
        (λ m e same fits. ok.alike s l m room room e same fits (ok.fits s l room e))

    -- and is the first of their run
    pub taken_in : (m : List ℕ) → t.refusal ≡ 0 → take t.taken l ≡ take t.taken m → t.taken ≤ length m → 0 < length m
        → run_by step s m room ≡ after t.taken t.written (beyond step t m room)
    taken_in m e same fits more =
        let k : step s m room ≡ t = again m e same fits in
        unroll ok s m room more ∙ rw (k, eq-eqb t.refusal 0 e)

  -- the bytes of a first record that is taken, as a file of their own
  pub alone : (s : S) (l : List ℕ) (room : ℕ) → 0 < length l → (step s l room).refusal ≡ 0
      → run_by step s (take (step s l room).taken l) room ≡ took (step s l room).state (step s l room).taken (step s l room).written
  alone s l room p z =
      let t = step s l room in
      let r = take t.taken l in
      let m : 0 < t.taken = ok.moves s l room z in
      let n : length r ≡ t.taken = length-take-le t.taken l (ok.within s l room z) in
      let d : drop t.taken r ≡ [] = ap (λ (k : ℕ). drop k r) (sym n) ∙ drop-length r in
      taken_in s l room t refl p r z (sym (take-take t.taken t.taken l (omega arith))) (omega arith) (omega arith)
      ∙ rw (d, nothing t.state (room - length t.written), add-zero t.taken, append-nil t.written)

  -- an outcome after a record, gone on from
  on_after : (n : ℕ) (w : List ℕ) (o : Outcome S) (rest : List ℕ) (room : ℕ) → after n w (onward step o rest (room - length w)) ≡ onward step (after n w o) rest
      room
  on_after n w o rest room =
      after_after n o.taken w o.written (run_by step o.state rest (room - length w - length o.written))
      ∙ ap (λ (k : ℕ). after (n + o.taken) (w ++ o.written) (run_by step o.state rest k)) (sym (room_after_lem room w o.written))

  -- the append law of a file of no bytes
  no_bytes_lem : (s : S) (rest : List ℕ) (room : ℕ) → run_by step s rest room ≡ onward step (run_by step s [] room) rest room
  no_bytes_lem s rest room = rw (nothing s room, sub-zero room) (sym (after_none (run_by step s rest room)))

  -- the append law, by the bytes of the first file
  going : (f : ℕ) (s : S) (l rest : List ℕ) (room : ℕ) → length l ≤ f → (run_by step s l room).refusal ≡ 0
      → run_by step s (l ++ rest) room ≡ onward step (run_by step s l room) rest room
  going zero s [] rest room a e = no_bytes_lem s rest room
  going (suc f) s [] rest room a e = no_bytes_lem s rest room
  going zero s (x ∷ l) rest room a e = absurd (not-suc-le-zero a)
  going (suc f) s (x ∷ l) rest room a e =
      let file = x ∷ l in
      let t = step s file room in
      let p : 0 < length file = omega arith in
      let z : t.refusal ≡ 0 = not_stopped s file room t refl p e in
      let w : t.taken ≤ length file = ok.within s file room z in
      let m : 0 < t.taken = ok.moves s file room z in
      let d = length-drop t.taken file in
      let g = length-append file rest in
      let one = first_taken s file room t refl p z in
      let both = taken_in s file room t refl p (file ++ rest) z (sym (take-append-le t.taken file rest w)) (omega arith) (omega arith) in
      let left : List ℕ = drop t.taken file in
      let more = going f t.state left rest (room - length t.written) (omega arith) (rw one at e) in
      both
      ∙ ap (λ (k : List ℕ). after t.taken t.written (run_by step t.state k (room - length t.written))) (drop-append-le t.taken file rest w)
      ∙ ap (after t.taken t.written) more
      ∙ on_after t.taken t.written (run_by step t.state left (room - length t.written)) rest room
      ∙ ap (λ (o : Outcome S). onward step o rest room) (sym one)

  -- the append law: whatever follows a file that ends with 0
  pub appended : (s : S) (l rest : List ℕ) (room : ℕ) → (run_by step s l room).refusal ≡ 0 → run_by step s (l ++ rest) room ≡ onward step (run_by step s l room)
      rest room
  appended s l rest room e = going (length l) s l rest room (omega arith) e
