-- A run of a file by any lawful step, a record at a time: where it stands, that a record more keeps it so, and what it has done where it ends. Assumes nothing.
use mathlib.Core.Path.{◌≡◌, refl, sym, ap, ap₂, subst, ◌∙◌}
use mathlib.Core.List.{List, ◌++◌, append_assoc, append-nil}
use Prim.Native.Nat.{ℕ, ◌+◌, ◌*◌, ◌-◌, ◌≤◌, ◌<◌, zero-le}
use native.Mathlib.Omega.{arith}
use native.Mathlib.Nat.{add-zero, add_assoc, sub-zero}
use lib.ListN.{length, take, drop, length-drop, length-append, drop_of_length-le}
use lib.Seq.{drop-drop, drop_at, take_at}
use Rattle.terms.specs.Limits.{most_payload, most_input}
use Rattle.error_memory.specs.declared.Card.{Card}
use Rattle.record_files.specs.Run.{RecordStep, Outcome, ended, after, run_by}
use Rattle.record_files.specs.Lawful.{Lawful}
use Rattle.record_files.proofs.Running.{after_none, after_after}
use Rattle.record_files.proofs.Append.{onward, room_after_lem, nothing, first_stops, first_taken}
use Rattle.record_runs.specs.declared.step.Pass.{Pass}
use Rattle.record_runs.specs.declared.step.Place.{Place}
use Rattle.record_runs.specs.Held.{at_start, further, Begins, Stands, Work, Passed}
use Rattle.record_runs.proofs.Writes.{all_rest, back}
use Rattle.record_runs.proofs.Places.{at_rest, standing}

-- the room has as many bytes after it as before
pub same_room : {S : Type 0} {read : Card → S} {t : Outcome S} {w : Work} → Passed read t w → length w.left ≡ length w.room
same_room {t = t} {w} p =
    ap length p.left_is ∙ length-append t.written (drop (length t.written) w.room)
    ∙ omega (arith, length-drop (length t.written) w.room, p.fits)

-- from the start of a run on, its place has the outcome's counts
pub counts : {S : Type 0} {read : Card → S} {o : Outcome S} {w : Work} → Passed read o w → w.place.taken ≡ 0 → w.place.written ≡ 0
    → (w.pass.place.taken ≡ o.taken) × (w.pass.place.written ≡ length o.written)
counts p a b = (omega (arith, ap (λ (q : Place). q.taken) p.place_is, a), omega (arith, ap (λ (q : Place). q.written) p.place_is, b))

-- a list from a place on, as the code lends it, and the list once the part is back
abbrev pub rest : List ℕ → ℕ → List ℕ
rest l at = take (length l - at) (drop at l)

abbrev pub joined : List ℕ → ℕ → List ℕ → List ℕ
joined l at left = take at l ++ (left ++ drop (length l - at) (drop at l))

-- two replies, one behind the other
both_written : (v w room : List ℕ) → v ++ (w ++ drop (length w) (drop (length v) room)) ≡ (v ++ w) ++ drop (length (v ++ w)) room
both_written v w room = rw (length-append v w, drop-drop (length w) (length v) room, append_assoc v w (drop (length v + length w) room))

-- where a run of a file stands: what the records so far leave is done, and the run goes on from there
pub record Going {S : Type 0} (read : Card → S) (step : RecordStep S) (s : S) (input : List ℕ) (w : Work) (so_far : Outcome S) : Type 0 where
  pub begun : w.place ≡ at_start (length input) (length w.room)
  pub done : Passed read so_far w
  pub in_file : so_far.taken ≤ length input
  pub few : length so_far.written ≤ (5 + most_payload) * so_far.taken
  pub goes : run_by step s input (length w.room) ≡ onward step so_far (drop so_far.taken input) (length w.room)

module _ {S : Type 0} {step : RecordStep S} (ok : Lawful (5 + most_payload) step) {s : S} {input : List ℕ} where
  -- before the first record
  pub starts : {read : Card → S} {c : Card} {room : List ℕ} {p : Place} → s ≡ read c → p ≡ at_start (length input) (length room)
      → Going read step s input (record {
        place = at_start (length input) (length room);
        card = c;
        room = room;
        pass = record { card = c; refusal = 0; place = p };
        left = room;
      }) (ended 0 s)
  starts {room = room} es ep = record {
    begun = refl;
    done = record { place_is = ep ∙ at_rest _; refusal_is = refl; state_is = sym es; left_is = refl; fits = zero-le };
    in_file = zero-le;
    few = zero-le;
    goes = sym (after_none (run_by step s input (length room - 0)) ∙ rw (sub-zero (length room)));
  }

  module _ {read : Card → S} {w : Work} {o : Outcome S} (g : Going read step s input w o) where
    abbrev p : Place
    p = w.pass.place

    -- the place
    counted : (p.taken ≡ o.taken) × (p.written ≡ length o.written)
    counted = counts g.done (ap (λ (q : Place). q.taken) g.begun) (ap (λ (q : Place). q.written) g.begun)

    pub size_is : p.size ≡ length input
    size_is = ap (λ (q : Place). q.size) g.done.place_is ∙ ap (λ (q : Place). q.size) g.begun

    pub in_input : p.taken ≤ length input
    in_input = omega (arith, counted.0, g.in_file)

    pub in_replies_lem : p.written ≤ length w.left
    in_replies_lem = omega (arith, counted.1, g.done.fits, same_room g.done)

    -- no byte is left
    pub ends : p.size ≤ p.taken → w.pass.refusal ≡ 0 → Passed read (run_by step s input (length w.room)) w
    ends h z =
        let e = drop_of_length-le input {i = o.taken} (omega (arith, h, counted.0, size_is)) in
        subst (λ (q : Outcome S). Passed read q w)
        (sym (g.goes ∙ rw (
          e,
          nothing ok o.state (length w.room - length o.written),
          add-zero o.taken,
          append-nil o.written,
          ← g.done.refusal_is,
          z,
        ))) g.done

    -- a record more
    module _ (small : length input ≤ most_input) (more : p.taken < p.size) where
      pub begins : Begins p (length (rest input p.taken))
      begins = (omega (arith, ap length (all_rest input p.taken), length-drop p.taken input, size_is, in_input), omega (arith, size_is, small))

      -- the room behind the place
      room_is : length (rest w.left p.written) ≡ length w.room - p.written
      room_is =
          ap length (all_rest w.left p.written) ∙ length-drop p.written w.left ∙ ap (λ (n : ℕ). n - p.written) (same_room g.done)

      pub stands : Stands p (length (rest w.left p.written))
      stands =
          subst (Stands p) (sym room_is)
          (standing p (length input) (length w.room) (ap (λ (q : Place). q.most) g.done.place_is ∙ ap (λ (q : Place). q.most) g.begun)
          (rw (counted.1, counted.0) g.few) (omega (arith, more, size_is)) small (omega (arith, in_replies_lem, same_room g.done)))

      -- as the code takes it, with a card read as it is read then
      module _ {later : Card → S} {r : Pass} {left : List ℕ}
          (t : Passed later (step (read w.pass.card) (rest input p.taken) (length (rest w.left p.written)))
          (record { place = p; card = w.pass.card; room = rest w.left p.written; pass = r; left = left })) where
        abbrev T : Outcome S
        T = step (read w.pass.card) (rest input p.taken) (length (rest w.left p.written))

        turn_is : step o.state (drop o.taken input) (length w.room - length o.written) ≡ T
        turn_is = rw (g.done.state_is, all_rest input p.taken, room_is, counted.0, counted.1)

        a_byte : 0 < length (drop o.taken input)
        a_byte = simp length-drop (omega (arith, more, size_is, counted.0))

        written_so : joined w.left p.written left ≡ (o.written ++ T.written) ++ drop (length (o.written ++ T.written)) w.room
        written_so =
            let front = ap (take p.written) g.done.left_is ∙ take_at o.written _ p.written (sym counted.1) in
            let behind = all_rest w.left p.written ∙ ap (drop p.written) g.done.left_is ∙ drop_at o.written _ p.written (sym counted.1) in
            back w.left p.written left
            ∙ ap₂ (λ (x y : List ℕ). x ++ y) front (t.left_is ∙ ap (λ (x : List ℕ). T.written ++ drop (length T.written) x) behind)
            ∙ both_written o.written T.written w.room

        turned : Passed later (after o.taken o.written T)
            (record { place = w.place; card = w.card; room = w.room; pass = r; left = joined w.left p.written left })
        turned = record {
          place_is =
              t.place_is ∙ ap (λ (q : Place). further q T.taken (length T.written)) g.done.place_is
              ∙ rw (length-append o.written T.written, add_assoc, add_assoc);
          refusal_is = t.refusal_is;
          state_is = t.state_is;
          left_is = written_so;
          fits = omega (arith, length-append o.written T.written, t.fits, room_is, counted.1, g.done.fits);
        }

        pub same_length : length (joined w.left p.written left) ≡ length w.room
        same_length = same_room turned

        -- the run ends at a record that stops, which leaves the place
        pub stops : (r.refusal ≡ 0 → ⊥) → (q : Place) → (r.place ≡ p → q ≡ r.place)
            → Passed later (run_by step s input (length w.room)) (record {
              place = w.place;
              card = w.card;
              room = w.room;
              pass = record { card = r.card; refusal = r.refusal; place = q };
              left = joined w.left p.written left;
            })
        stops z q at =
            let y : T.refusal ≡ 0 → ⊥ = λ x. z (t.refusal_is ∙ x) in
            let i = (ok.stops (read w.pass.card) (rest input p.taken) (length (rest w.left p.written)) y).1 in
            let e = g.goes ∙ ap (after o.taken o.written) (first_stops ok o.state (drop o.taken input) (length w.room - length o.written) T
            turn_is a_byte y ∙ ap (ended T.refusal) (sym g.done.state_is) ∙ sym i) in
            rw (e, at (t.place_is ∙ ap (λ (u : Outcome S). further p u.taken (length u.written)) i ∙ sym (at_rest p))) turned

        -- it goes on after a record that is taken
        module _ (z : r.refusal ≡ 0) where
          y : T.refusal ≡ 0
          y = sym t.refusal_is ∙ z

          pub less : length input - r.place.taken < length input - p.taken
          less =
              let m = ok.moves (read w.pass.card) (rest input p.taken) (length (rest w.left p.written)) y in
              omega (arith, m, ap (λ (q : Place). q.taken) t.place_is, more, size_is)

          pub goes_on : Going later step s input (record {
            place = w.place;
            card = w.card;
            room = w.room;
            pass = record { card = r.card; refusal = 0; place = r.place };
            left = joined w.left p.written left;
          }) (after o.taken o.written T)
          goes_on =
              let file = rest input p.taken in
              let room = length (rest w.left p.written) in
              let within = ok.within (read w.pass.card) file room y in
              let few = ok.few (read w.pass.card) file room y in
              record {
                begun = g.begun;
                done = rw (← z) turned;
                in_file = omega (arith, within, ap length (all_rest input p.taken), length-drop p.taken input, counted.0, in_input);
                few = omega (arith, few, g.few, length-append o.written T.written);
                goes =
                    g.goes
                    ∙ ap (after o.taken o.written) (first_taken ok o.state (drop o.taken input) (length w.room - length o.written) T turn_is
                    a_byte y)
                    ∙ after_after o.taken T.taken o.written T.written _
                    ∙ rw (drop-drop T.taken o.taken input, room_after_lem (length w.room) o.written T.written);
              }
