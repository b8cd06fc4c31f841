-- What holds of an empty file and of one whose first record stops, and goes on over a record that is taken, holds of every run: the counts, the file up to the
-- stop. Assumes nothing.
use mathlib.Core.Path.{◌≡◌, refl, sym, ap, subst, ◌∙◌}
use mathlib.Core.List.{List, [], ◌∷◌}
use Prim.Native.Nat.{ℕ, zero, suc, ◌+◌, ◌*◌, ◌-◌, ◌≤◌, ◌<◌, zero-le}
use native.Mathlib.Omega.{arith}
use native.Mathlib.Nat.{not-suc-le-zero, zero-add, suc-add, sub-zero, mul-add, add-le-add}
use lib.ListN.{length, take, drop, length-drop, length-append}
use lib.Seq.{length-take-le, take-take, take-nil, drop-drop}
use Rattle.record_files.specs.Run.{RecordStep, Outcome, ended, after, run_by}
use Rattle.record_files.specs.Lawful.{Stopping, Lawful}
use Rattle.record_files.proofs.Tests.{either_eq}
use Rattle.record_files.proofs.Running.{beyond}
use Rattle.record_files.proofs.Append.{room_after_lem, nothing, first_stops, first_taken, taken_in}

-- what is taken stands in the file, and all of it where the run ends with 0; the replies fit the room and are few; a stop is 5 to 8
pub record Tally {S : Type 0} (most : ℕ) (l : List ℕ) (room : ℕ) (o : Outcome S) : Type 0 where
  pub in_file : o.taken ≤ length l
  pub all : o.refusal ≡ 0 → o.taken ≡ length l
  pub in_room : length o.written ≤ room
  pub few : length o.written ≤ most * o.taken
  pub range : (o.refusal ≡ 0 → ⊥) → Stopping o.refusal

-- an outcome, had it ended with 0
abbrev pub ended_well : {S : Type 0} → Outcome S → Outcome S
ended_well o = record { refusal = 0; state = o.state; taken = o.taken; written = o.written }

-- the bytes between two places
pub drop_take : (m k : ℕ) (l : List ℕ) → drop m (take (m + k) l) ≡ take k (drop m l)
drop_take zero k l = rw (zero-add k)
drop_take (suc m) k [] = rw (suc-add m k) (sym (take-nil k))
drop_take (suc m) k (x ∷ l) = rw (suc-add m k) (drop_take m k l)

module _ {S : Type 0} {most : ℕ} {step : RecordStep S} (ok : Lawful most step) where
  -- by the bytes of the file
  module _ (P : S → List ℕ → ℕ → Outcome S → Type 0)
      (none : (s : S) (room : ℕ) → P s [] room (ended 0 s))
      (stop : (s : S) (l : List ℕ) (room : ℕ) → 0 < length l → ((step s l room).refusal ≡ 0 → ⊥) → P s l room (ended (step s l room).refusal s))
      (on : (s : S) (l : List ℕ) (room : ℕ) → 0 < length l → (step s l room).refusal ≡ 0
      → P (step s l room).state (drop (step s l room).taken l) (room - length (step s l room).written) (beyond step (step s l room) l room)
      → P s l room (after (step s l room).taken (step s l room).written (beyond step (step s l room) l room))) where
    by : (f : ℕ) (s : S) (l : List ℕ) (room : ℕ) → length l ≤ f → P s l room (run_by step s l room)
    by zero s [] room a = subst (P s [] room) (sym (nothing ok s room)) (none s room)
    by (suc f) s [] room a = subst (P s [] room) (sym (nothing ok s room)) (none s room)
    by zero s (x ∷ l) room a = absurd (not-suc-le-zero a)
    by (suc f) s (x ∷ l) room a =
        let t = step s (x ∷ l) room in
        let p : 0 < length (x ∷ l) = omega arith in
        either_eq (λ (n : ℕ). P s (x ∷ l) room (run_by step s (x ∷ l) room)) t.refusal 0 0 0
        (λ z.
        let m : 0 < t.taken = ok.moves s (x ∷ l) room z in
        let d = length-drop t.taken (x ∷ l) in
        subst (P s (x ∷ l) room) (sym (first_taken ok s (x ∷ l) room t refl p z))
        (on s (x ∷ l) room p z (by f t.state (drop t.taken (x ∷ l)) (room - length t.written) (omega arith))))
        (λ z. subst (P s (x ∷ l) room) (sym (first_stops ok s (x ∷ l) room t refl p z)) (stop s (x ∷ l) room p z))

    pub through : (s : S) (l : List ℕ) (room : ℕ) → P s l room (run_by step s l room)
    through s l room = by (length l) s l room (omega arith)

  -- ---- the counts

  pub tally : (s : S) (l : List ℕ) (room : ℕ) → Tally most l room (run_by step s l room)
  tally =
      through (λ s l room o. Tally most l room o)
      (λ s room. record { in_file = zero-le; all = λ z. refl; in_room = zero-le; few = zero-le; range = λ z. absurd (z refl) })
      (λ s l room p z. record { in_file = zero-le; all = λ y. absurd (z y); in_room = zero-le; few = zero-le; range = λ y. (ok.stops s l room z).0 })
      (λ s l room p z h.
      let t = step s l room in
      let o = beyond step t l room in
      let w = ok.within s l room z in
      let f = ok.fits s l room z in
      let d = length-drop t.taken l in
      let g = length-append t.written o.written in
      record {
        in_file = omega (arith, h.in_file);
        all = λ y. let k = h.all y in omega arith;
        in_room = rw g (omega (arith, h.in_room));
        few = rw (g, mul-add most t.taken o.taken) (add-le-add (ok.few s l room z) h.few);
        range = h.range;
      })

  -- ---- the file up to the stop

  -- the run of the first bytes of a file, up to a place behind its first record
  pub behind_first : (s : S) (l : List ℕ) (room k : ℕ) → 0 < length l → (step s l room).refusal ≡ 0 → (step s l room).taken + k ≤ length l
      → run_by step s (take ((step s l room).taken + k) l) room
      ≡ after (step s l room).taken (step s l room).written (run_by step (step s l room).state (take k (drop (step s l room).taken l))
      (room - length (step s l room).written))
  behind_first s l room k p z there =
      let t = step s l room in
      let m : 0 < t.taken = ok.moves s l room z in
      let g : length (take (t.taken + k) l) ≡ t.taken + k = length-take-le (t.taken + k) l there in
      taken_in ok s l room t refl p (take (t.taken + k) l) z (sym (take-take t.taken (t.taken + k) l (omega arith))) (omega arith) (omega arith)
      ∙ ap (λ (i : List ℕ). after t.taken t.written (run_by step t.state i (room - length t.written))) (drop_take t.taken k l)

  -- the whole records before the stop, as a file of their own, leave all that the run left
  pub up_to_stop : (s : S) (l : List ℕ) (room : ℕ) → run_by step s (take (run_by step s l room).taken l) room ≡ ended_well (run_by step s l room)
  up_to_stop =
      through (λ s l room o. run_by step s (take o.taken l) room ≡ ended_well o)
      (λ s room. nothing ok s room)
      (λ s l room p z. nothing ok s room)
      (λ s l room p z h.
      let t = step s l room in
      let w = ok.within s l room z in
      let d = length-drop t.taken l in
      let f = (tally t.state (drop t.taken l) (room - length t.written)).in_file in
      behind_first s l room (beyond step t l room).taken p z (omega arith) ∙ ap (after t.taken t.written) h)

  -- and the record that stands there stops with the run's refusal
  pub stops_there : (s : S) (l : List ℕ) (room : ℕ) → ((run_by step s l room).refusal ≡ 0 → ⊥)
      → (step (run_by step s l room).state (drop (run_by step s l room).taken l) (room - length (run_by step s l room).written)).refusal ≡ (run_by step s l room
      ).refusal
  stops_there =
      through (λ s l room o. (o.refusal ≡ 0 → ⊥) → (step o.state (drop o.taken l) (room - length o.written)).refusal ≡ o.refusal)
      (λ s room z. absurd (z refl))
      (λ s l room p z y. ap (λ (k : ℕ). (step s l k).refusal) (sub-zero room))
      (λ s l room p z h y.
      let t = step s l room in
      let o = beyond step t l room in
      rw (← drop-drop o.taken t.taken l, room_after_lem room t.written o.written) (h y))
