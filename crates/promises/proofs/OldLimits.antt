-- A record under the old limit that is not 7 is the same under the new one, so that two runs part only where the old one stops with 7. Assumes nothing.
use mathlib.Core.Path.{◌≡◌, refl, sym, ap, ◌∙◌}
use mathlib.Core.Bool.{Bool, true, false, cond}
use mathlib.Core.List.{List, [], ◌∷◌}
use Prim.Native.Nat.{ℕ, ◌+◌, ◌-◌, ◌≤◌, ◌<◌}
use native.Mathlib.Omega.{arith}
use borrow.Author.Tests.{lt-ltb, le-ltb}
use lib.Dec.{ltb, lit≤}
use lib.ListN.{length, take, drop, get_or}
use lib.Seq.{take_all}
use Rattle.terms.specs.declared.Refusal.TheVariants.{BadLength, NoRoom}
use Rattle.error_memory.specs.Memory.{Card}
use Rattle.record_files.proofs.Append.{nothing, first_stops, alone, appended}
use Rattle.record_runs.specs.Record.{Event}
use Rattle.record_runs.specs.Record.{Stop}
use Rattle.record_runs.specs.Record.{payload_of, answered_of, answer_of, head_in, head_under, Carried, Holds, Turned, stopped, worked, turn_under}
use Rattle.record_runs.specs.Run.{Outcome, ended, after, run_under}
use Rattle.record_runs.proofs.Heads.{high, whole, head_is}
use Rattle.record_runs.proofs.Prefix.{lawful_under}
use Rattle.promises.proofs.Wider.{same_run, same_up_to}
use Rattle.state_bytes.specs.Bytes.{card_in}
use Rattle.state_bytes.specs.Calls.{ran_of}
use Rattle.state_bytes.proofs.Calling.{good}
use Rattle.promises.specs.Given.{settings_in}
use Rattle.promises.proofs.Measures.{theirs_state}
use Rattle.promises.specs.RecordFiles.{IsRecord, push, pop, command, status, reset, acknowledge, recall, forget}
use Rattle.promises.specs.Records.{joined, EachTaken}
use Rattle.promises.proofs.RecordFiles.{theirs_record}
use Rattle.promises.specs.OldLimits.{WithinOld, AllOld, OldLimits}

-- a head that is 7 ends a run at once
seven_turn : (s : Card) (l : List ℕ) (room : ℕ) → head_under 16 l ≡ Stop BadLength → turn_under 16 s l room ≡ stopped BadLength s
unfolding turn_under
seven_turn s l room e = rw e

seven : (s : Card) (l : List ℕ) (room : ℕ) → head_under 16 l ≡ Stop BadLength → 0 < length l → run_under 16 s l room ≡ ended 7 s
seven s l room e some = first_stops (lawful_under 16 (lit≤ tt)) s l room (stopped BadLength s) (seven_turn s l room e) some (λ z. omega arith)

long_pop : (n : ℕ) (rest : List ℕ) → 16 < n → head_under 16 (3 ∷ 0 ∷ 2 ∷ 0 ∷ n ∷ rest) ≡ Stop BadLength
long_pop n rest h =
    let l : List ℕ = 3 ∷ 0 ∷ 2 ∷ 0 ∷ n ∷ rest in
    ap (head_in 16 l) (whole 16 l (omega arith) (omega arith) (omega arith) (omega arith)) ∙ rw (le-ltb n 1 (omega arith), lt-ltb 16 n h)

-- a record within the old limits is held under both
held_under_old : {r : List ℕ} (one : IsRecord r) → WithinOld one → Holds 16 r (theirs_record one).event
held_under_old {r} one w =
    let h = (theirs_record one).held in
    record { length-is = h.length-is; kind_is = h.kind_is; there = h.there; small = fewer one w; carried = carries one w }
  where
    fewer : {l : List ℕ} (one : IsRecord l) → WithinOld one → payload_of (theirs_record one).event ≤ 16
    fewer (push payload a b e) w = w
    fewer (pop n a b e) w = lit≤ tt
    fewer (command code e) w = lit≤ tt
    fewer (status e) w = lit≤ tt
    fewer (reset e) w = lit≤ tt
    fewer (acknowledge e) w = lit≤ tt
    fewer (recall e) w = lit≤ tt
    fewer (forget e) w = lit≤ tt

    carries : {l : List ℕ} (one : IsRecord l) → WithinOld one → Carried 16 (get_or l 4 0) (theirs_record one).event
    carries (push payload a b e) w = a
    carries (pop n a b e) w = (sym (ap (λ (l : List ℕ). get_or l 4 0) e), a, w)
    carries (command code e) w = sym (ap (λ (l : List ℕ). get_or l 4 0) e)
    carries (status e) w = tt
    carries (reset e) w = tt
    carries (acknowledge e) w = tt
    carries (recall e) w = tt
    carries (forget e) w = tt

-- so the old step does not stop with 7 there
module _ (s : Card) (r : List ℕ) (room : ℕ) (one : IsRecord r) (w : WithinOld one) where
  abbrev event : Event
  event = (theirs_record one).event

  turn_is : turn_under 16 s r room ≡ cond (ltb room (5 + answered_of event)) (stopped NoRoom s) (worked s event (answer_of s (take (payload_of event) (drop 4 r))
      event))
  unfolding turn_under
  turn_is = rw (head_is {most = 16} r event (held_under_old one w))

  some : 0 < length r
  some = omega (arith, (theirs_record one).size)

  no_seven : (run_under 16 s r room).refusal ≡ 7 → ⊥
  no_seven = by (ltb room (5 + answered_of event)) refl
    where
      by : (x : Bool) → ltb room (5 + answered_of event) ≡ x → (run_under 16 s r room).refusal ≡ 7 → ⊥
      by true e z =
          let o = first_stops (lawful_under 16 (lit≤ tt)) s r room (stopped NoRoom s) (turn_is ∙ rw e) some (λ y. omega (arith, y)) in
          omega (arith, sym (ap (λ (x : Outcome). x.refusal) o) ∙ z)
      by false e z =
          let t : turn_under 16 s r room ≡ worked s event (answer_of s (take (payload_of event) (drop 4 r)) event) = turn_is ∙ rw e in
          let o = alone (lawful_under 16 (lit≤ tt)) s r room some (ap (λ (u : Turned). u.refusal) t) in
          let n : (turn_under 16 s r room).taken ≡ length r = ap (λ (u : Turned). u.taken) t ∙ sym (theirs_record one).size in
          let all : take (turn_under 16 s r room).taken r ≡ r = ap (λ (k : ℕ). take k r) n ∙ take_all (length r) r (omega arith) in
          omega (
            arith,
            sym (ap (λ (l : List ℕ). (run_under 16 s l room).refusal) all) ∙ sym (ap (λ (x : Outcome). x.refusal) (sym o))
                ∙ refl,
            ap (λ (l : List ℕ). (run_under 16 s l room).refusal) all,
            ap (λ (x : Outcome). x.refusal) o,
            z,
          )

  old_record : run_under 16 s r room ≡ run_under 240 s r room
  old_record = sym (same_run 16 240 (lit≤ tt) (lit≤ tt) s r room no_seven)

old_records : (rs : List (List ℕ)) (s : Card) (room : ℕ) → EachTaken s rs room → AllOld rs → run_under 16 s (joined rs) room ≡ run_under 240 s (joined rs) room
old_records [] s room h w = nothing (lawful_under 16 (lit≤ tt)) s room ∙ sym (nothing (lawful_under 240 (lit≤ tt)) s room)
old_records (r ∷ rs) s room h w =
    let o = run_under 240 s r room in
    let e : run_under 16 s r room ≡ o = old_record s r room w.0.0 w.0.1 in
    appended (lawful_under 16 (lit≤ tt)) s r (joined rs) room (ap (λ (x : Outcome). x.refusal) e ∙ h.1)
    ∙ ap (λ (x : Outcome). after x.taken x.written (run_under 16 x.state (joined rs) (room - length x.written))) e
    ∙ ap (after o.taken o.written) (old_records rs o.state (room - length o.written) h.2 w.1)
    ∙ sym (appended (lawful_under 240 (lit≤ tt)) s r (joined rs) room h.1)

pub old_limits : OldLimits
old_limits = record {
  old_length = λ s room a b rest h.
      let l : List ℕ = a ∷ b ∷ rest in
      seven s l room (ap (head_in 16 l) (high 16 l (omega arith) (omega arith) (omega arith))) (omega arith);
  old_count = λ s room n rest h. seven s (3 ∷ 0 ∷ 2 ∷ 0 ∷ n ∷ rest) room (long_pop n rest h) (omega arith);
  old_record = old_record;
  old_records = λ s rs room h w. old_records rs s room h w;
  same = same_run 16 240 (lit≤ tt) (lit≤ tt);
  up_to = same_up_to 16 240 (lit≤ tt) (lit≤ tt);
  call = λ g C state input replies report a b d no.
      good g.mode g.rule state input replies report a C.mode C.rule (theirs_state b) d ∙ ap (λ (o : Outcome). ran_of (length state) o replies)
      (same_run 16 240 (lit≤ tt) (lit≤ tt) (card_in (settings_in g) state) input (length replies) no);
}
