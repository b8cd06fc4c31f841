-- A record step beside its definition: one that stops leaves all as it was, one that works leaves the reply at the front of the room. Assumes nothing.
use mathlib.Core.Path.{◌≡◌, refl, sym, ap, subst, ◌∙◌}
use mathlib.Core.List.{List, [], ◌∷◌, ◌++◌, append_assoc}
use mathlib.Core.Logic.{⊎_elim}
use mathlib.Core.Bool.{Bool, true, false, ◌&&◌, false≢true}
use Prim.Native.Nat.{ℕ, zero, suc, ◌+◌, ◌≤◌, ◌<◌, zero-le}
use native.Mathlib.Omega.{arith}
use borrow.Author.Tests.{lt-ltb, le-ltb, lt-leb, leb-true, leb-false, eq-eqb, ne_eqb}
use lib.Dec.{leb, eqb}
use lib.ListN.{length, take, drop, get_or, length-drop, length-append}
use lib.Seq.{length-take-le, drop-drop, drop_at, sets, sets-eq, get_or-take, get_or-drop}
use Rattle.terms.specs.declared.Refusal.{Refusal}
use Rattle.terms.specs.declared.Refusal.TheVariants.{Done, NoRoom, BadLength}
use Rattle.terms.specs.Refusal.{number_of}
use Rattle.terms.specs.Limits.{most_payload, most_input}
use Rattle.terms.specs.declared.Settings.{Settings}
use Rattle.chip.specs.declared.State.{State}
use Rattle.chip.specs.Event.{Command as CommandEvent}
use Rattle.chip.specs.Step.{read_of}
use Rattle.error_memory.specs.declared.Memory.{Memory}
use Rattle.error_memory.specs.declared.Card.{Card as Held}
use Rattle.error_memory.specs.Memory.{Card, CardAnswer, remembered, kept_by}
use Rattle.error_memory.specs.Held.{card_under}
use Rattle.record_files.specs.Run.{ended}
use Rattle.record_files.proofs.Tests.{either_lt, both, not_both}
use Rattle.terms.specs.declared.EventKind.{EventKind}
use Rattle.terms.specs.declared.EventKind.TheVariants.{Push as PushKind, Pop as PopKind, Command as CommandKind, Status as StatusKind}
use Rattle.terms.specs.declared.EventKind.TheVariants.{Reset as ResetKind, Acknowledge as AcknowledgeKind, Recall as RecallKind}
use Rattle.terms.specs.declared.EventKind.TheVariants.{Forget as ForgetKind, Unknown as UnknownKind}
use Rattle.terms.specs.Kind.{kind_named}
use Rattle.std.specs.Prelude.{Result, Ok, Err}
use Rattle.record_runs.specs.declared.step.Pass.{Pass}
use Rattle.record_runs.specs.declared.step.Place.{Place}
use Rattle.record_runs.specs.Record.{Event, Push, Pop, Command, Status, Reset, Acknowledge, Recall, Forget, Head, Whole, Stop}
use Rattle.record_runs.specs.Record.{word_at, le2, exactly, pop_row, row_by, kind_of, payload_of, answered_of, frame_under, head_in}
use Rattle.record_runs.specs.Record.{answer_of, data_of, reply_of, turn_under, turn_of}
use Rattle.record_runs.specs.Held.{most_replies, Stands, ready_at, further, unchanged, finished, Work, Passed, PassesHead, Passes, Leaves}
use Rattle.record_runs.proofs.Blocks.{length-popped}
use Rattle.record_runs.proofs.Places.{at_rest}

-- the data of a reply are as many as its event says
pub length-data_of : (c : Card) (e : Event) → length (data_of c e) ≡ answered_of e
length-data_of c (Push n) = refl
length-data_of c (Pop n) = length-popped n c.chip
length-data_of c (Command code) = refl
length-data_of c Status = refl
length-data_of c Reset = refl
length-data_of c Acknowledge = refl
length-data_of c Recall = refl
length-data_of c Forget = refl

-- a reply that is written, and the room after it
closed : (kind r n : ℕ) (bytes room : List ℕ) → length bytes ≡ n
    → le2 (3 + n) ++ (le2 (kind + 128) ++ (r ∷ (bytes ++ drop (5 + n) room))) ≡ reply_of kind r bytes ++ drop (length (reply_of kind r bytes)) room
closed kind r n bytes room h =
    let k : 5 + n ≡ length (reply_of kind r bytes) = omega arith in
    ap (λ (i : ℕ). le2 (3 + n) ++ (le2 (kind + 128) ++ (r ∷ (bytes ++ drop i room)))) k
    ∙ ap (λ (i : ℕ). le2 (3 + i) ++ (le2 (kind + 128) ++ (r ∷ (bytes ++ drop (length (reply_of kind r bytes)) room)))) (sym h)

-- the count of a pop, and one that is none
pub a_count : (count : ℕ) → leb 1 count && leb count most_payload ≡ true → (1 ≤ count) × (count ≤ most_payload)
a_count count e = let k = both (leb 1 count) (leb count most_payload) e in (leb-true 1 count k.0, leb-true count most_payload k.1)

pub pop_counts : (most n count : ℕ) → n ≡ 1 → 1 ≤ count → count ≤ most → pop_row most n count ≡ Whole (Pop count)
pop_counts most n count one some few = rw (eq-eqb n 1 one, le-ltb count 1 some, le-ltb most count few)

no_count : (n count : ℕ) → n ≡ 1 → leb 1 count && leb count most_payload ≡ false → pop_row most_payload n count ≡ Stop BadLength
no_count n count one e =
    ⊎_elim (λ x. rw (eq-eqb n 1 one, lt-ltb count 1 (leb-false 1 count x)))
    (λ y. let h = leb-false count most_payload y in rw (eq-eqb n 1 one, le-ltb count 1 (omega arith), lt-ltb most_payload count h))
    (not_both (leb 1 count) (leb count most_payload) e)

-- a record that is not held up: its payload is right, and its reply has room
pub cleared : {right : Bool} {p : Place} {m room n : ℕ} {q : Refusal} → Stands p room → (right ≡ true → m ≤ 5 + most_payload) → q ≡ ready_at right p m
    → n ≡ number_of q → n ≡ 0 → (right ≡ true) × (m ≤ room)
cleared {right = false} s few eq en z = let y : ⊥ = omega (arith, ap number_of eq, en, z) in absurd y
cleared {right = true} {p} {m} {q = q} s few eq en z =
    let fits : p.written + m ≤ p.most = either_lt (λ (x : Refusal). q ≡ x → p.written + m ≤ p.most) p.most (p.written + m) NoRoom Done
    (λ less is. let y : ⊥ = omega (arith, ap number_of is, en, z) in absurd y) (λ h is. h) eq in
    (refl, s.some m (few refl) fits)

pub clears : {right : Bool} {p : Place} {m room n : ℕ} {q : Refusal} → Stands p room → m ≤ 5 + most_payload → q ≡ ready_at right p m → n ≡ number_of q → n ≡ 0
    → (right ≡ true) × (m ≤ room)
clears s few = cleared s (λ right. few)

-- a record that stops, read as any state
pub stays : {S : Type 0} {read : Held → S} {w : Work} (q : Refusal) → w.pass ≡ unchanged q w.card w.place → w.left ≡ w.room
    → Passed read (ended (number_of q) (read w.card)) w
stays {read = read} {w} q e l = record {
  place_is = ap (λ (x : Pass). x.place) e ∙ at_rest w.place;
  refusal_is = ap (λ (x : Pass). x.refusal) e;
  state_is = ap (λ (x : Pass). read x.card) e;
  left_is = l;
  fits = zero-le;
}

module _ {on : Settings} {w : Work} (file : List ℕ) where
  -- a record that is held up: its payload is not right, or its reply has no room
  pub held_up : (right : Bool) (e : Event) (h : Head) → (right ≡ true → h ≡ Whole e) → (right ≡ false → h ≡ Stop BadLength) → Stands w.place
      (length w.room)
      → answered_of e ≤ most_payload → {q : Refusal} {n : ℕ} → q ≡ ready_at right w.place (5 + answered_of e) → n ≡ number_of q → (n ≡ 0 → ⊥)
      → w.pass ≡ unchanged q w.card w.place → w.left ≡ w.room → PassesHead on file h w
  held_up false e h is_whole is-bad s few eq en some er el =
      rw (is-bad refl) (stays BadLength (er ∙ ap (λ (x : Refusal). unchanged x w.card w.place) eq) el)
  held_up true e h is_whole is-bad s few {q} eq en some er el =
      rw (is_whole refl)
      (either_lt (λ (x : Refusal). q ≡ x → PassesHead on file (Whole e) w) w.place.most (w.place.written + (5 + answered_of e)) NoRoom Done
      (λ less is. rw (lt-ltb (length w.room) (5 + answered_of e) (s.none (5 + answered_of e) (omega arith) less))
      (stays NoRoom (er ∙ ap (λ (x : Refusal). unchanged x w.card w.place) is) el))
      (λ fits is. absurd (some (en ∙ ap number_of is))) eq)

  -- one that asks a payload of so many bytes
  pub exactly_held_up : (wanted n : ℕ) (e : Event) → Stands w.place (length w.room) → answered_of e ≤ most_payload → {q : Refusal} {k : ℕ}
      → q ≡ ready_at (eqb n wanted) w.place (5 + answered_of e) → k ≡ number_of q → (k ≡ 0 → ⊥) → w.pass ≡ unchanged q w.card w.place → w.left ≡ w.room
      → PassesHead on file (exactly wanted n e) w
  exactly_held_up wanted n e = held_up (eqb n wanted) e (exactly wanted n e) (λ z. rw z) (λ z. rw z)

  -- a pop: a count out of range is no payload
  pub pop_held_up : (n count : ℕ) → n ≡ 1 → Stands w.place (length w.room) → {q : Refusal} {k : ℕ}
      → q ≡ ready_at (leb 1 count && leb count most_payload) w.place (5 + count) → k ≡ number_of q → (k ≡ 0 → ⊥) → w.pass ≡ unchanged q w.card w.place
      → w.left ≡ w.room → PassesHead on file (pop_row most_payload n count) w
  pop_held_up n count one s {q} eq en some er el = by (leb 1 count && leb count most_payload) refl
    where
      by : (right : Bool) → leb 1 count && leb count most_payload ≡ right → PassesHead on file (pop_row most_payload n count) w
      by true is =
          let k = a_count count is in
          held_up true (Pop count) (pop_row most_payload n count) (λ z. pop_counts most_payload n count one k.0 k.1)
          (λ z. absurd (false≢true (sym z))) s k.1
          (eq ∙ ap (λ (x : Bool). ready_at x w.place (5 + count)) is) en some er el
      by false is =
          rw (no_count n count one is)
          (stays BadLength (er ∙ ap (λ (x : Refusal). unchanged x w.card w.place) (eq ∙ ap (λ (x : Bool). ready_at x w.place (5 + count)) is)) el)

  -- a record that is worked: the answer found to be its event's, the data behind the reply's first five bytes
  pub took : (e : Event) (a : CardAnswer) {s : State} {m : Memory} {refusal : ℕ} {bytes : List ℕ}
      → w.pass ≡ finished s m (further w.place (4 + payload_of e) (5 + answered_of e))
      → a ≡ answer_of (card_under on w.card) (take (payload_of e) (drop 4 file)) e
      → card_under on (record { chip = s; memory = m }) ≡ a.card → refusal ≡ number_of a.refusal
      → bytes ≡ data_of (card_under on w.card) e ++ drop (answered_of e) (drop 5 w.room)
      → w.left ≡ le2 (3 + answered_of e) ++ (le2 (kind_of e + 128) ++ (refusal ∷ bytes))
      → 5 + answered_of e ≤ length w.room → PassesHead on file (Whole e) w
  took e a ep ea ek er eb el has =
      let k = card_under on w.card in
      let d = length-data_of k e in
      let n = number_of (answer_of k (take (payload_of e) (drop 4 file)) e).refusal in
      let long : 5 + answered_of e ≡ length (reply_of (kind_of e) n (data_of k e)) = omega (arith, d) in
      rw (le-ltb (length w.room) (5 + answered_of e) has) record {
        place_is = ap (λ (x : Pass). x.place) ep ∙ ap (further w.place (4 + payload_of e)) long;
        refusal_is = ap (λ (x : Pass). x.refusal) ep;
        state_is = ap (λ (x : Pass). card_under on x.card) ep ∙ ek ∙ ap (λ (x : CardAnswer). x.card) ea;
        left_is = el ∙ rw (eb, drop-drop (answered_of e) 5 w.room, er, ea) (closed (kind_of e) n (answered_of e) (data_of k e) w.room d);
        fits = omega (arith, long);
      }

  -- a record of an event that asks no payload and answers no data
  module _ (after : Held) {kind : ℕ} (e : Event) (h : Leaves (card_under on w.card) (card_under on after) kind e) where
    pub bare_held_up : (n : ℕ) → Stands w.place (length w.room) → {q : Refusal} {k : ℕ} → q ≡ ready_at (eqb n 0) w.place 5 → k ≡ number_of q
        → (k ≡ 0 → ⊥) → w.pass ≡ unchanged q w.card w.place → w.left ≡ w.room → PassesHead on file (exactly 0 n e) w
    bare_held_up n s eq en some er el =
        let none = h.no_data.0 in
        exactly_held_up 0 n e s (omega (arith, none)) (eq ∙ ap (λ (i : ℕ). ready_at (eqb n 0) w.place (5 + i)) (sym none)) en some er el

    pub bare : w.pass ≡ finished after.chip after.memory (further w.place 4 5) → w.left ≡ le2 3 ++ (le2 kind ++ (0 ∷ drop 5 w.room))
        → 5 ≤ length w.room → PassesHead on file (Whole e) w
    bare er el has =
        let q = take (payload_of e) (drop 4 file) in
        took e (answer_of (card_under on w.card) q e) {bytes = drop 5 w.room} (rw (h.no_payload, h.no_data.0) er) refl (h.card_is q) (h.done_is q)
        (rw (h.no_data.1, h.no_data.0)) (rw (h.no_data.0, ← h.kind_is) el) (omega (arith, h.no_data.0))

-- where a worker stands, its record may be finished
pub may_finish : {p : Place} {room n m : ℕ} → Stands p room → n ≤ 300 → m ≤ 300 → (p.taken ≤ most_input) × (p.written ≤ most_replies) × (n ≤ 300) × (m ≤ 300)
may_finish s a b = (s.early, s.low, a, b)

-- ---- what is remembered after a command and after a reset, by the number of the refusal
module _ (m : Memory) (code n status : ℕ) where
  pub refused_keeps : (n ≡ 0 → ⊥) → m ≡ kept_by m (CommandEvent code) n status
  refused_keeps h = rw (ne_eqb n 0 h)

  pub done_keeps : {x : Memory} → n ≡ 0 → x ≡ remembered m code status → x ≡ kept_by m (CommandEvent code) n status
  done_keeps h e = e ∙ rw (eq-eqb n 0 h)

-- ---- what a worker lays behind the first five bytes
pub behind : (room left : List ℕ) → 5 ≤ length room → drop 5 (take 5 room ++ left) ≡ left
behind room left h = drop_at (take 5 room) left 5 (length-take-le 5 room h)

stored : (room bytes : List ℕ) → 5 + length bytes ≤ length room → drop 5 (sets room 5 bytes) ≡ bytes ++ drop (length bytes) (drop 5 room)
stored room bytes h =
    ap (drop 5) (sets-eq bytes room 5 (omega arith) ∙ append_assoc (take 5 room) bytes (drop (5 + length bytes) room))
    ∙ behind room (bytes ++ drop (5 + length bytes) room) (omega arith)
    ∙ ap (λ (l : List ℕ). bytes ++ l) (sym (drop-drop (length bytes) 5 room))

-- the room with a reply in it has as many bytes as it had
pub same_stored : {a b d e x : ℕ} {left : List ℕ} (room bytes : List ℕ) → 5 + length bytes ≤ length room
    → left ≡ a ∷ b ∷ d ∷ e ∷ x ∷ drop 5 (sets room 5 bytes) → length left ≡ length room
same_stored room bytes h is =
    ap length is ∙ omega (
      arith,
      ap length (stored room bytes h),
      length-append bytes (drop (length bytes) (drop 5 room)),
      length-drop (length bytes) (drop 5 room),
      length-drop 5 room,
    )

-- the status byte as the data of a reply, and the memory's two bytes
pub status_data : (c : Card) (room : List ℕ) (b : ℕ) → b ≡ (read_of c.chip).byte → 6 ≤ length room → drop 5 (sets room 5 (b ∷ [])) ≡ data_of c Status
    ++ drop 1 (drop 5 room)
status_data c room b e h = stored room (b ∷ []) h ∙ ap (λ (x : ℕ). x ∷ drop 1 (drop 5 room)) e

pub recall_data : (c : Card) (room : List ℕ) → c.chip.status < 128 → 7 ≤ length room
    → drop 5 (sets room 5 (c.memory.bits ∷ c.memory.code ∷ [])) ≡ data_of c Recall ++ drop 2 (drop 5 room)
recall_data c room ready h = stored room (c.memory.bits ∷ c.memory.code ∷ []) h ∙ rw (lt-leb 128 c.chip.status ready)

-- ---- a frame, and the kind and the payload in it
-- a payload of no byte has no first one
no_first : (kind : EventKind) (x y : ℕ) → row_by most_payload kind 0 x ≡ row_by most_payload kind 0 y
no_first PushKind x y = refl
no_first PopKind x y = refl
no_first CommandKind x y = refl
no_first StatusKind x y = refl
no_first ResetKind x y = refl
no_first AcknowledgeKind x y = refl
no_first RecallKind x y = refl
no_first ForgetKind x y = refl
no_first UnknownKind x y = refl

same_first : (kind : EventKind) (n : ℕ) (l : List ℕ) → row_by most_payload kind n (get_or (take n (drop 4 l)) 0 0) ≡ row_by most_payload kind n (get_or l 4 0)
same_first kind zero l = no_first kind (get_or (take 0 (drop 4 l)) 0 0) (get_or l 4 0)
same_first kind (suc n) l = ap (row_by most_payload kind (suc n)) (get_or-take (suc n) (drop 4 l) 0 0 (omega arith) ∙ get_or-drop 4 l 0 0)

pub framed : {on : Settings} {w : Work} (l : List ℕ) (n : ℕ) (kind : EventKind) → 4 + n ≤ length l → kind ≡ kind_named (word_at l 2)
    → frame_under most_payload l ≡ Ok n → Passes on kind (take n (drop 4 l)) w
    → Passed (card_under on) (turn_of (card_under on w.card) l (length w.room)) w
unfolding turn_under
framed {on} {w} l n kind there ek ef passes =
    let q = take n (drop 4 l) in
    let e : length q ≡ n = length-take-le n (drop 4 l) (omega (arith, length-drop 4 l)) in
    let row =
    ap (λ (k : ℕ). row_by most_payload kind k (get_or q 0 0)) e ∙ same_first kind n l ∙ ap (λ (k : EventKind). row_by most_payload k n (get_or l 4 0)) ek
    ∙ ap (head_in most_payload l) (sym ef) in
    subst (λ (h : Head). PassesHead on l h w) row (passes l (ap (λ (k : ℕ). take k (drop 4 l)) e))

pub broken : {on : Settings} {w : Work} (l : List ℕ) (q : Refusal) → frame_under most_payload l ≡ Err q → w.pass ≡ unchanged q w.card w.place
    → w.left ≡ w.room → Passed (card_under on) (turn_of (card_under on w.card) l (length w.room)) w
unfolding turn_under
broken l q ef er el = rw ef (stays q er el)
