-- The exported run is the run of the file, laid out: a good call's definition, and the rest of a split file, which stops at once. Assumes nothing.
use mathlib.Core.Path.{◌≡◌, refl, sym, ap, ap₂, subst, ◌∙◌}
use mathlib.Core.Logic.{⊎_elim}
use mathlib.Core.Bool.{Bool, true, false, cond}
use mathlib.Core.List.{List, [], ◌∷◌, ◌++◌, append_assoc}
use Prim.Native.Nat.{ℕ, ◌+◌, ◌-◌, ◌<◌}
use native.Mathlib.Omega.{arith}
use borrow.Author.Tests.{eq-eqb}
use lib.Dec.{ltb}
use lib.ListN.{length, take, drop, get_or, length-drop}
use lib.Seq.{drop-append-add}
use Rattle.terms.specs.declared.Refusal.TheVariants.{NoRoom, InputTooLong, BadState, BadMode, BadRule}
use Rattle.terms.specs.declared.Settings.{Settings}
use Rattle.terms.specs.Settings.{is_mode, is_rule}
use Rattle.error_memory.specs.Memory.{Card, card_with}
use Rattle.error_memory.proofs.Good.{ReadyCard}
use Rattle.record_runs.specs.Record.{Head}
use Rattle.record_runs.specs.Record.{Whole, Stop}
use Rattle.record_runs.specs.Record.{payload_of, answered_of, answer_of, worked, head_of, turn_by, turn_under, turn_of, stopped}
use Rattle.record_runs.specs.Run.{Outcome, ended, run_of}
use Rattle.record_files.proofs.Append.{nothing, first_stops}
use Rattle.record_files.proofs.Through.{tally, stops_there}
use Rattle.state_bytes.specs.Bytes.{is_state, card_in, laid_out}
use Rattle.state_bytes.proofs.Cards.{laid_is, card_returns, card_ready, card_short, card_long, laid_state}
use Rattle.state_bytes.specs.Calls.{Called, ran_of, away, call_of}
use Rattle.state_bytes.proofs.Calling.{good}
use Rattle.promises.proofs.Measures.{ours_state, theirs_state}
use Rattle.promises.specs.Given.{settings_in, run_call}
use Rattle.promises.specs.Records.{joined, total, lengths}
use Rattle.promises.specs.RunCall.{Laid, StandsFor, Reports, RunCall, ReportsResult, StopsAgain}
use Rattle.promises.proofs.Records.{counted, counts_exact}
use Rattle.record_runs.proofs.Ready.{run_ready}
use Rattle.record_runs.proofs.Prefix.{lawful}

-- the card that good bytes stand for is the one that is read
stands_read : (state : List ℕ) (c : Card) → is_state state ≡ true → StandsFor state c → card_in c.on state ≡ c
stands_read state c g f =
    let n = f.laid.sixteen in
    ⊎_elim
    (λ a. ap (card_in c.on) (f.laid.short a ∙ sym (laid_is 19 c)) ∙ card_short c n ∙ ap (card_with c.on c.chip) (sym (f.empty a)))
    (λ b. ap (card_in c.on) (f.laid.long b ∙ sym (laid_is 21 c)) ∙ card_long c n)
    (ours_state g).size

-- the bytes that a card is laid out in
laid_so : (n : ℕ) (c : Card) → length c.chip.stack ≡ 16 → Laid n (laid_out n c) c
laid_so n c h = record { sixteen = h; short = λ a. ap (λ (m : ℕ). laid_out m c) a ∙ laid_is 19 c; long = λ b. ap (λ (m : ℕ). laid_out m c) b ∙ laid_is 21 c }

pub run_call_lem : RunCall
run_call_lem g C c set state input replies report B I H f n d =
    let h = theirs_state H in
    let o = run_of c input (length replies) in
    let is : card_in (settings_in g) state ≡ c = ap (λ (on : Settings). card_in on state) (sym set) ∙ stands_read state c h f in
    let r = run_ready c input (length replies) (subst ReadyCard is (card_ready (settings_in g) state B h)) I in
    let e : run_call g state input replies report ≡ ran_of (length state) o replies =
    good g.mode g.rule state input replies report n C.mode C.rule h d ∙ ap (λ (x : Card). ran_of (length state) (run_of x input (length replies))
    replies) is in
    subst (λ (x : Called). Reports (length state) x o replies) (sym e) (record {
      result = refl;
      state = laid_so (length state) o.state r.chip.stack.sixteen;
      replies_are = refl;
      report = refl;
    })

-- every way but 14
pub reports_result : ReportsResult
unfolding call_of
reports_result g state input replies report n = rw (eq-eqb (length report) 9 n) (by (is_mode g.mode) (is_rule g.rule) (is_state state)
    (ltb 12288 (length input)))
  where
    Says : Called → Type 0
    Says c = get_or c.report 0 0 ≡ c.result

    by : (k q x y : Bool)
        → Says (cond k (cond q (cond x (cond y (away InputTooLong state replies) (ran_of (length state) (run_of (card_in (settings_in g) state) input
        (length replies)) replies)) (away BadState state replies)) (away BadRule state replies)) (away BadMode state replies))
    by true true true true = refl
    by true true true false = refl
    by true true false y = refl
    by true false x y = refl
    by false q x y = refl

-- what follows the records of a split file
pub after_joined : (rs : List (List ℕ)) (rest : List ℕ) → drop (total (lengths rs)) (joined rs ++ rest) ≡ rest
after_joined [] rest = refl
after_joined (r ∷ rs) rest =
    ap (drop (length r + total (lengths rs))) (append_assoc r (joined rs) rest) ∙ drop-append-add r (joined rs ++ rest) (total (lengths rs))
    ∙ after_joined rs rest

-- what stops a record stops it whatever stands on the card
other_card : (c d : Card) (l : List ℕ) (room : ℕ) (h : Head) → ((turn_by c l room h).refusal ≡ 0 → ⊥) → turn_by d l room h ≡ ended (turn_by c l room h).refusal d
other_card c d l room (Stop r) z = refl
other_card c d l room (Whole e) z = by (worked c e (answer_of c (take (payload_of e) (drop 4 l)) e)) (worked d e (answer_of d (take (payload_of e) (drop 4 l)) e))
    (ltb room (5 + answered_of e)) refl z
  where
    by : (p q : Outcome) (x : Bool) → p.refusal ≡ 0 → ((cond {A = Outcome} x (stopped NoRoom c) p).refusal ≡ 0 → ⊥) → cond x (stopped NoRoom d)
        q ≡ ended (cond x (stopped NoRoom c) p).refusal d
    by p q true w y = refl
    by p q false w y = absurd (y w)

stops_too : (c d : Card) (l : List ℕ) (room : ℕ) → ((turn_of c l room).refusal ≡ 0 → ⊥) → turn_of d l room ≡ ended (turn_of c l room).refusal d
unfolding turn_under
stops_too c d l room z = other_card c d l room (head_of l) z

-- the bytes after those taken stop at once, on any card
module _ (s : Card) (l : List ℕ) (room : ℕ) (z : (run_of s l room).refusal ≡ 0 → ⊥) where
  abbrev left : List ℕ
  left = drop (run_of s l room).taken l

  abbrev room_left : ℕ
  room_left = room - length (run_of s l room).written

  rest_stops : run_of (run_of s l room).state left room_left ≡ ended (run_of s l room).refusal (run_of s l room).state
  rest_stops =
      let o = run_of s l room in
      let p = counted s l room in
      let rest_is : drop o.taken l ≡ p.rest = ap₂ (λ (n : ℕ) (k : List ℕ). drop n k) p.taken p.parts ∙ after_joined p.records p.rest in
      ap (λ (k : List ℕ). run_of o.state k (room - length o.written)) rest_is ∙ p.stopped z

  some_left : 0 < length left
  some_left = by left (λ y. z (sym (ap (λ (o : Outcome). o.refusal) rest_stops) ∙ y))
    where
      by : (k : List ℕ) → ((run_of (run_of s l room).state k room_left).refusal ≡ 0 → ⊥) → 0 < length k
      by [] y = absurd (y (ap (λ (o : Outcome). o.refusal) (nothing lawful (run_of s l room).state room_left)))
      by (x ∷ k) y = omega arith

  pub stops_on : (d : Card) → run_of d left room_left ≡ ended (run_of s l room).refusal d
  stops_on d =
      let q : (turn_of (run_of s l room).state left room_left).refusal ≡ (run_of s l room).refusal = stops_there lawful s l room z in
      let t : turn_of d left room_left ≡ ended (run_of s l room).refusal d = stops_too (run_of s l room).state d left room_left (λ y. z (sym q ∙ y))
      ∙ ap (λ (r : ℕ). ended r d) q in
      first_stops lawful d left room_left (ended (run_of s l room).refusal d) t some_left z

pub stops_again : StopsAgain
stops_again g C state input replies report B I H n d z =
    let h = theirs_state H in
    let s = card_in (settings_in g) state in
    let size = H.size in
    let o = run_of s input (length replies) in
    let e = good g.mode g.rule state input replies report n C.mode C.rule h d in
    let c = counts_exact g C state input replies report n H d in
    let y : o.refusal ≡ 0 → ⊥ = λ x. z (ap (λ (q : Called). q.result) e ∙ x) in
    let r = (tally lawful s input (length replies)).range y in
    let G = run_ready s input (length replies) (card_ready (settings_in g) state B h) I in
    let m = length-drop o.taken input in
    let bytes = laid_out (length state) o.state in
    let stand = laid_state o.state G (length state) size in
    let k = card_in (settings_in g) bytes in
    let room = drop (length o.written) replies in
    let again : run_call g bytes (drop o.taken input) room report ≡ record {
      result = o.refusal;
      state = bytes;
      replies = room;
      report = o.refusal
          ∷ 0 ∷ 0 ∷ 0 ∷ 0 ∷ 0 ∷ 0 ∷ 0 ∷ 0 ∷ [];
    } =
    good g.mode g.rule bytes (drop o.taken input) room report n C.mode C.rule stand (omega arith)
    ∙ ap (λ (x : ℕ). ran_of (length bytes) (run_of k (drop o.taken input) x) room) (length-drop (length o.written) replies)
    ∙ ap (λ (p : Outcome). ran_of (length bytes) p room) (stops_on s input (length replies) y k)
    ∙ ap (λ (l : List ℕ). record { result = o.refusal; state = l; replies = room; report = o.refusal ∷ 0 ∷ 0 ∷ 0 ∷ 0 ∷ 0 ∷ 0 ∷ 0 ∷ 0 ∷ [] })
    (card_returns (settings_in g) bytes stand) in
    rw (c.0, c.1, e) (r.0, r.1, again)
