-- The error memory is what the history says: a call's history is that of the card that its bytes stand for, a record's events are the record, and 19 bytes are
-- 21 with an
-- empty memory. Assumes nothing.
use mathlib.Core.Path.{◌≡◌, refl, sym, ap, ap₂, ◌∙◌}
use mathlib.Core.Logic.{inr}
use mathlib.Core.Bool.{Bool, true, false, cond}
use mathlib.Core.List.{List, [], ◌∷◌, ◌++◌, append_assoc, append-nil, map}
use Prim.Native.Nat.{ℕ, zero, suc, ◌+◌, ◌*◌, ◌-◌, ◌≤◌, ◌<◌}
use native.Mathlib.Omega.{arith}
use borrow.Author.Tests.{lt-leb, lt-ltb, le-ltb, eq-eqb, ne_eqb}
use lib.Dec.{eqb, ltb, lit<}
use lib.ListN.{length, take, drop, get_or, replicate, length-append, get_or-append}
use lib.Seq.{take_at, drop-append_seam, take-append-le, get_or-append-add}
use Rattle.terms.specs.declared.Settings.{Settings}
use Rattle.terms.specs.declared.Refusal.{Refusal}
use Rattle.terms.specs.declared.Refusal.TheVariants.{InputTooLong, BadState}
use Rattle.terms.specs.Refusal.{number_of}
use Rattle.stack.specs.Stack.{Bytes}
use Rattle.stack.proofs.Words.{bytes_append}
use Rattle.chip.specs.State.{Answer}
use Rattle.chip.specs.Event.{Push, Pop, Command, Status, Reset, Acknowledge}
use Rattle.chip.specs.Step.{push_of, pop_of, reset_of, command_under}
use Rattle.error_memory.specs.declared.Memory.{Memory}
use Rattle.error_memory.specs.Event.{Event}
use Rattle.error_memory.specs.Event.{Chip, Recall, Forget}
use Rattle.error_memory.specs.Memory.{empty_memory, is_memory, Card, card_with, CardAnswer, event_in}
use Rattle.error_memory.proofs.Good.{ReadyCard}
use Rattle.record_files.proofs.Tests.{either_eq}
use Rattle.record_files.proofs.Append.{nothing}
use Rattle.record_runs.specs.Record.{Event as RecordEvent}
use Rattle.record_runs.specs.Record.{Push as PushRecord, Pop as PopRecord, Command as CommandRecord, Status as StatusRecord, Reset as ResetRecord}
use Rattle.record_runs.specs.Record.{Acknowledge as AcknowledgeRecord, Recall as RecallRecord, Forget as ForgetRecord}
use Rattle.record_runs.specs.Record.{kind_of, Carried, Holds, before, push_all, pop_all, answer_of}
use Rattle.record_runs.specs.Run.{Outcome, run_of}
use Rattle.record_runs.proofs.Prefix.{lawful}
use Rattle.record_runs.proofs.Ready.{run_ready}
use Rattle.promises.proofs.Single.{reset_is}
use Rattle.terms.specs.Limits.{most_payload}
use Rattle.state_bytes.specs.Bytes.{is_chip, is_state, state_of, memory_in, card_in, state_bytes_of, laid_out}
use Rattle.state_bytes.proofs.States.{short_state, long_state, long_bad, short_memory, long_memory}
use Rattle.state_bytes.proofs.Cards.{card_returns, card_ready, laid_at_lem}
use Rattle.state_bytes.specs.Calls.{Called, Signal, Calls, Signals, ran_of, away, call_under, signal_by, signal_under, answer_to_kind, joined_of}
use Rattle.state_bytes.proofs.Calling.{run_chosen, event_chosen, good}
use Rattle.promises.specs.StateBytes.{IsState}
use Rattle.promises.specs.Remembered.{History, memory_of, from, told, tells, after_all, history_of}
use Rattle.promises.proofs.Measures.{theirs_state}
use Rattle.promises.proofs.Remembered.{memory_is_history}
use Rattle.promises.specs.Given.{Given, Chosen, settings_in}
use Rattle.promises.specs.RecordFiles.{IsRecord}
use Rattle.promises.proofs.RecordFiles.{theirs_record}
use Rattle.promises.specs.Records.{joined, EachTaken, replies_of, in_turn}
use Rattle.promises.specs.Cores.{Core, Meets, kind_number, byte_of, Sendable, driven}
use Rattle.promises.specs.ErrorMemory.{noted, call_history, memory_at, record_events, events_of_records, remembered_after, RecordsLent, ErrorMemory}
use Rattle.promises.specs.ErrorMemory.{RecordsAreEvents}
use Rattle.promises.specs.ErrorMemory.{lengthened, ShortStates}
use Rattle.promises.proofs.Records.{in_turn_lem, record_run, recall_record, bytes_parts}
use Rattle.promises.proofs.Kept.{command_byte, event_ready}
use Rattle.promises.proofs.Cores.{all_good, Serves, still_serves, state_told, number_long, cores}

-- ---- through the event call
-- a number is below 256 where the refusal is 0 and no byte is read
below : (r b : ℕ) → b ≡ 0 → ltb (joined_of r b) 256 ≡ eqb r 0
below r b z =
    either_eq (λ (x : ℕ). ltb (joined_of r b) 256 ≡ eqb r 0) r 0 0 0
    (λ e. lt-ltb (joined_of r b) 256 (omega arith) ∙ sym (eq-eqb r 0 e))
    (λ n. le-ltb (joined_of r b) 256 (omega arith) ∙ sym (ne_eqb r 0 n))

-- what a call notes is what the card tells
noted_told : (k : Card) → ReadyCard k → (e : Event) (h : History)
    → noted e (joined_of (number_of (event_in k e).refusal) (event_in k e).byte) (event_in k e).card.chip.status h ≡ tells k e h
noted_told k r (Chip (Push b)) h = refl
noted_told k r (Chip Pop) h = refl
noted_told k r (Chip (Command code)) h =
    let a = command_under k.on.rule k.chip code in
    ap (λ (x : Bool). cond x (told h code a.state.status) h) (below (number_of a.refusal) a.byte (command_byte k.on.rule k.chip code))
noted_told k r (Chip Status) h = refl
noted_told k r (Chip Reset) h =
    let a = reset_of k.on.mode k.chip in
    ap (λ (x : Bool). cond x (from empty_memory) h) (below (number_of a.refusal) a.byte (ap (λ (y : Answer). y.byte) (reset_is k.on.mode k.chip
    (lt-leb 128 k.chip.status r.chip.ready))))
noted_told k r (Chip Acknowledge) h = refl
noted_told k r Recall h = refl
noted_told k r Forget h = rw (lt-leb 128 k.chip.status r.chip.ready)

-- the two bytes of a card's 21
two_bytes : (k : Card) → length k.chip.stack ≡ 16 → memory_at (laid_out 21 k) ≡ k.memory
two_bytes k n = ap₂ (λ (b i : ℕ). record { bits = b; code = i }) (laid_at_lem k n 21 3) (laid_at_lem k n 21 4)

module _ (g : Given) (C : Chosen g) (c : Core) (M : Meets g c) where
  told_alike : (k : Card) → Serves g k → (es : List Event) (h : History) → Sendable es → call_history c (laid_out 21 k) es h ≡ history_of k es h
  told_alike k r [] h S = refl
  told_alike k r (e ∷ es) h S =
      let a = event_in k e in
      let left = still_serves g k e r S.0 in
      let s = state_told g C c M 21 (inr refl) k e r S.0 in
      let status : get_or (c.event (laid_out 21 k) (kind_number e) (byte_of e)).state 17 0 ≡ a.card.chip.status = ap (λ (l : List ℕ). get_or l 17 0) s
      ∙ laid_at_lem a.card left.good.chip.stack.sixteen 21 1 in
      ap₂ (λ (l : List ℕ) (x : History). call_history c l es x) s
      (ap₂ (λ (n u : ℕ). noted e n u h) (number_long g C c M k e r S.0) status ∙ noted_told k r.good e h)
      ∙ told_alike a.card left es (tells k e h) S.1

  -- on the bytes of a good state
  events_say : (state : List ℕ) (es : List Event) → Bytes state → IsState state → length state ≡ 21 → Sendable es
      → memory_at (driven c state es) ≡ memory_of (call_history c state es (from (memory_at state)))
  events_say state es B I n S =
      let i = theirs_state I in
      let k = card_in (settings_in g) state in
      let r = card_ready (settings_in g) state B i in
      let back : laid_out 21 k ≡ state = ap (λ (m : ℕ). laid_out m k) (sym n) ∙ card_returns (settings_in g) state i in
      let after = all_good es k r S in
      ap memory_at ((cores g C c M).states state es B I S ∙ ap (λ (m : ℕ). laid_out m (after_all k es)) n)
      ∙ two_bytes (after_all k es) after.chip.stack.sixteen
      ∙ memory_is_history k es
      ∙ ap memory_of (sym (told_alike k (record { good = r; set = refl }) es (from k.memory) S))
      ∙ ap₂ (λ (l : List ℕ) (m : Memory). memory_of (call_history c l es (from m))) back (long_memory state n)

-- ---- through files
-- events after events
after_joined : (k : Card) (xs ys : List Event) → after_all k (xs ++ ys) ≡ after_all (after_all k xs) ys
after_joined k [] ys = refl
after_joined k (x ∷ xs) ys = after_joined (event_in k x).card xs ys

-- a block is its single bytes
pushes_are : (on : Settings) (p : List ℕ) (a : Answer) (m : Memory) → card_with on (push_all a p).state m ≡ after_all (card_with on a.state m)
    (map (λ (b : ℕ). Chip (Push b)) p)
pushes_are on [] a m = refl
pushes_are on (b ∷ p) a m = pushes_are on p (push_of a.state b) m

pops_are : (on : Settings) (n : ℕ) (a : Answer) (m : Memory) → card_with on (pop_all n a).state m ≡ after_all (card_with on a.state m) (replicate n (Chip Pop))
pops_are on zero a m = refl
pops_are on (suc n) a m = pops_are on n (pop_of a.state) m

-- a record is its events
record_is : (k : Card) (r : List ℕ) (e : RecordEvent) → Holds most_payload r e → (answer_of k (drop 4 r) e).card ≡ after_all k (record_events r)
record_is k r e h = by e h.kind_is h.carried
  where
    kind : (n : ℕ) → n < 256 → get_or r 2 0 + get_or r 3 0 * 256 ≡ n → get_or r 2 0 ≡ n
    kind n a b = omega arith

    by : (x : RecordEvent) → get_or r 2 0 + get_or r 3 0 * 256 ≡ kind_of x → Carried most_payload (get_or r 4 0) x → (answer_of k (drop 4 r) x).card ≡ after_all k
        (record_events r)
    by (PushRecord n) i c = rw (kind 1 (lit< tt) i) (pushes_are k.on (drop 4 r) (before k.chip) k.memory)
    by (PopRecord n) i c = rw (kind 2 (lit< tt) i, ← c.0) (pops_are k.on n (before k.chip) k.memory)
    by (CommandRecord code) i c = rw (kind 3 (lit< tt) i, c)
    by StatusRecord i c = rw (kind 4 (lit< tt) i)
    by ResetRecord i c = rw (kind 5 (lit< tt) i)
    by AcknowledgeRecord i c = rw (kind 6 (lit< tt) i)
    by RecallRecord i c = rw (kind 7 (lit< tt) i)
    by ForgetRecord i c = rw (kind 8 (lit< tt) i)

one_record : (k : Card) (r : List ℕ) (room : ℕ) (one : IsRecord r) → (run_of k r room).refusal ≡ 0 → (run_of k r room).state ≡ after_all k (record_events r)
one_record k r room one z = ap (λ (o : Outcome). o.state) (record_run k r room one z) ∙ record_is k r (theirs_record one).event (theirs_record one).held

-- records in turn, and then others
in_order : (k : Card) (rs : List (List ℕ)) (room : ℕ) → EachTaken k rs room → (in_turn k rs [] room).state ≡ after_all k (events_of_records rs)
in_order k [] room h = ap (λ (o : Outcome). o.state) (nothing lawful k room)
in_order k (r ∷ rs) room h =
    in_order (run_of k r room).state rs (room - length (run_of k r room).written) h.2
    ∙ ap (λ (x : Card). after_all x (events_of_records rs)) (one_record k r room h.0 h.1)
    ∙ sym (after_joined k (record_events r) (events_of_records rs))

pub records_are_events : RecordsAreEvents
records_are_events k rs room h =
    ap (λ (l : List ℕ). (run_of k l room).state) (sym (append-nil (joined rs))) ∙ ap (λ (o : Outcome). o.state) (in_turn_lem k rs [] room h) ∙ in_order k rs room h

-- the record of kind 7, and its reply
abbrev recall : List ℕ
recall = 2 ∷ 0 ∷ 7 ∷ 0 ∷ []

abbrev reply_with : Memory → List ℕ
reply_with m = 5 ∷ 0 ∷ 135 ∷ 0 ∷ 0 ∷ m.bits ∷ m.code ∷ []

recall_behind : (k : Card) (rs : List (List ℕ)) (room : ℕ) → ReadyCard k → Bytes (joined rs) → EachTaken k rs room → length (joined (replies_of k rs room))
    + 7 ≤ room
    → (run_of k (joined rs ++ recall) room).written ≡ joined (replies_of k rs room) ++ reply_with (after_all k (events_of_records rs)).memory
recall_behind k [] room r B h fits = ap (λ (o : Outcome). o.written) (recall_record k.on k.chip k.memory room (lt-leb 128 k.chip.status
    r.chip.ready) (omega arith))
recall_behind k (x ∷ rs) room r B h fits =
    let o = run_of k x room in
    let left = room - length o.written in
    let parts = bytes_parts x (joined rs) B in
    let n = length-append o.written (joined (replies_of o.state rs left)) in
    let e : after_all o.state (events_of_records rs) ≡ after_all k (events_of_records (x ∷ rs)) =
    ap (λ (y : Card). after_all y (events_of_records rs)) (one_record k x room h.0 h.1) ∙ sym (after_joined k (record_events x) (events_of_records rs)) in
    ap (λ (p : Outcome). p.written) (in_turn_lem k (x ∷ rs) recall room h)
    ∙ ap (λ (p : Outcome). o.written ++ p.written) (sym (in_turn_lem o.state rs recall left h.2))
    ∙ ap (λ (l : List ℕ). o.written ++ l) (recall_behind o.state rs left (run_ready k x room r parts.0) parts.1 h.2 (omega arith))
    ∙ sym (append_assoc o.written (joined (replies_of o.state rs left)) (reply_with (after_all o.state (events_of_records rs)).memory))
    ∙ ap (λ (y : Card). (o.written ++ joined (replies_of o.state rs left)) ++ reply_with y.memory) e

module _ (g : Given) (C : Chosen g) (c : Core) (M : Meets g c) (state : List ℕ) (rs : List (List ℕ)) (replies report : List ℕ)
    (L : RecordsLent g state rs replies
    report) where
  abbrev start : Card
  start = card_in (settings_in g) state

  ready : ReadyCard start
  ready = card_ready (settings_in g) state L.bytes.0 (theirs_state L.good)

  files_say : length state ≡ 21 → memory_at (c.run state (joined rs) replies report).state ≡ remembered_after start (events_of_records rs)
  files_say n =
      let s = L.short in
      let o = run_of start (joined rs) (length replies) in
      let after = run_ready start (joined rs) (length replies) ready L.bytes.1 in
      ap memory_at ((M.run state (joined rs) replies report L.bytes.0 L.bytes.1 L.bytes.2 L.bytes.3).state_is
      ∙ ap (λ (x : Called). x.state) (good g.mode g.rule state (joined rs) replies report L.nine C.mode C.rule (theirs_state L.good)
      (omega arith))
      ∙ ap (λ (m : ℕ). laid_out m o.state) n)
      ∙ two_bytes o.state after.chip.stack.sixteen
      ∙ ap (λ (k : Card). k.memory) (records_are_events start rs (length replies) L.each)
      ∙ memory_is_history start (events_of_records rs)

  recall_says : take 7 (drop (length (joined (replies_of start rs (length replies)))) (c.run state (joined rs ++ recall) replies report).replies)
      ≡ reply_with (remembered_after start (events_of_records rs))
  recall_says =
      let ws = joined (replies_of start rs (length replies)) in
      let m = length-append (joined rs) recall in
      let s = L.short in
      let w = recall_behind start rs (length replies) ready L.bytes.1 L.each L.room
      ∙ ap (λ (x : Memory). ws ++ reply_with x) (memory_is_history start (events_of_records rs)) in
      let reply = reply_with (remembered_after start (events_of_records rs)) in
      let rest = drop (length (run_of start (joined rs ++ recall) (length replies)).written) replies in
      ap (λ (l : List ℕ). take 7 (drop (length ws) l))
      ((M.run state (joined rs ++ recall) replies report L.bytes.0 (bytes_append (joined rs) recall L.bytes.1
      (lit< tt, (lit< tt, (lit< tt, (lit< tt, tt))))) L.bytes.2 L.bytes.3).replies_is
      ∙ ap (λ (x : Called). x.replies) (good g.mode g.rule state (joined rs ++ recall) replies report L.nine C.mode C.rule
      (theirs_state L.good) (omega arith))
      ∙ ap (λ (l : List ℕ). l ++ rest) w
      ∙ append_assoc ws reply rest)
      ∙ ap (take 7) (drop-append_seam ws (reply ++ rest))

pub error_memory : ErrorMemory
error_memory g C c M = record {
  events = λ state es B i n S. events_say g C c M state es B i n S;
  files = λ state rs replies report L n. files_say g C c M state rs replies report L n;
  recalled = λ state rs replies report L. recall_says g C c M state rs replies report L;
}

-- ---- a state of 19 bytes
module _ (l : List ℕ) (n : length l ≡ 19) where
  longer : length (lengthened l) ≡ 21
  longer = length-append l (0 ∷ 0 ∷ []) ∙ omega arith

  -- the bytes of the 19 stand where they stood
  at : (i : ℕ) → i < 19 → get_or (lengthened l) i 0 ≡ get_or l i 0
  at i h = get_or-append l (0 ∷ 0 ∷ []) 0 i (omega arith)

  two_zeros : memory_in (lengthened l) ≡ empty_memory
  two_zeros =
      long_memory (lengthened l) longer
      ∙ ap₂ (λ (b k : ℕ). record { bits = b; code = k }) (ap (λ (k : ℕ). get_or (lengthened l) k 0) (sym (omega arith)) ∙ get_or-append-add l (0 ∷ 0 ∷ []) 0 0)
      (ap (λ (k : ℕ). get_or (lengthened l) k 0) (sym (omega arith)) ∙ get_or-append-add l (0 ∷ 0 ∷ []) 1 0)

  same_card : (on : Settings) → card_in on (lengthened l) ≡ card_in on l
  same_card on =
      let s : state_of (lengthened l) ≡ state_of l = λ i. record {
        stack = take-append-le 16 l (0 ∷ 0 ∷ []) (omega arith) i;
        pending = eqb (at 16 (lit< tt) i) 1;
        status = at 17 (lit< tt) i;
        service = eqb (at 18 (lit< tt) i) 1;
      } in
      ap₂ (card_with on) s (two_zeros ∙ sym (short_memory l n))

  same_chip : is_chip (lengthened l) ≡ is_chip l
  same_chip = rw (at 16 (lit< tt), at 17 (lit< tt), at 18 (lit< tt))

  same_good : is_state (lengthened l) ≡ is_state l
  same_good = by (is_chip (lengthened l)) refl
    where
      zeros_good : is_memory (get_or (lengthened l) 19 0) (get_or (lengthened l) 20 0) ≡ true
      zeros_good = ap (λ (m : Memory). is_memory m.bits m.code) (sym (long_memory (lengthened l) longer) ∙ two_zeros)

      by : (x : Bool) → is_chip (lengthened l) ≡ x → is_state (lengthened l) ≡ is_state l
      by true e = long_state (lengthened l) longer e ∙ zeros_good ∙ sym (short_state l n ∙ sym same_chip ∙ e)
      by false e = long_bad (lengthened l) longer e ∙ sym (short_state l n ∙ sym same_chip ∙ e)

-- the first 19 of a card's 21 bytes are its 19
first_19 : (k : Card) → length k.chip.stack ≡ 16 → laid_out 19 k ≡ take 19 (laid_out 21 k)
first_19 k n =
    append-nil (state_bytes_of k.chip) ∙ sym (take_at (state_bytes_of k.chip) (k.memory.bits ∷ k.memory.code ∷ []) 19 (length-append k.chip.stack
    (_ ∷ _ ∷ _ ∷ []) ∙ omega arith))

-- a call's slices, one by one
called_as : (x : Called) (d : Called) → Calls d x.result x.state x.replies x.report → x ≡ d
called_as x d h = λ i. record { result = h.result_is i; state = h.state_is i; replies = h.replies_is i; report = h.report_is i }

signalled_as : (x : Signal) (d : Signal) → Signals d x.result x.state → x ≡ d
signalled_as x d h = λ i. record { result = h.result_is i; state = h.state_is i }

-- what a call leaves in 21 bytes, of which 19 are lent
abbrev short_call : Called → Called
short_call x = record { result = x.result; state = take 19 x.state; replies = x.replies; report = x.report }

abbrev short_signal : Signal → Signal
short_signal x = record { result = x.result; state = take 19 x.state }

module _ (on : Settings) (l : List ℕ) (n : length l ≡ 19) where
  front : l ≡ take 19 (lengthened l)
  front = sym (take_at l (0 ∷ 0 ∷ []) 19 n)

  -- each way through the run
  module _ (input replies report : List ℕ) where
    abbrev outcome : Outcome
    outcome = run_of (card_in on l) input (length replies)

    abbrev way : Bool → Bool → Bool → List ℕ → ℕ → Called
    way x y z state size =
        cond x (cond y (cond z (away InputTooLong state replies) (ran_of size outcome replies)) (away BadState state replies))
        (record { result = 14; state = state; replies = replies; report = report })

    away_alike : (r : Refusal) → away r l replies ≡ short_call (away r (lengthened l) replies)
    away_alike r = ap (λ (s : List ℕ). record { result = number_of r; state = s; replies = replies; report = number_of r ∷ 0 ∷ 0 ∷ 0 ∷ 0 ∷ 0 ∷ 0 ∷ 0 ∷ 0 ∷ [] })
        front

    ways : (x y z : Bool) → (y ≡ true → length outcome.state.chip.stack ≡ 16) → way x y z l 19 ≡ short_call (way x y z (lengthened l) 21)
    ways true true true h = away_alike InputTooLong
    ways true true false h = ap (λ (s : List ℕ). record {
      result = outcome.refusal;
      state = s;
      replies = (ran_of 19 outcome replies).replies;
      report = (ran_of 19
          outcome replies).report;
    }) (first_19 outcome.state (h refl))
    ways true false z h = away_alike BadState
    ways false y z h = ap (λ (s : List ℕ). record { result = 14; state = s; replies = replies; report = report }) front

    short_call_lem : Bytes l → Bytes input → cond (eqb (length report) 9) (call_under on l input replies)
        (record { result = 14; state = l; replies = replies; report = report })
        ≡ short_call (cond (eqb (length report) 9) (call_under on (lengthened l) input replies)
        (record { result = 14; state = lengthened l; replies = replies; report = report }))
    short_call_lem B I =
        let x = eqb (length report) 9 in
        let z = ltb 12288 (length input) in
        ap (λ (m : ℕ). way x (is_state l) z l m) n
        ∙ ways x (is_state l) z (λ g. (run_ready (card_in on l) input (length replies) (card_ready on l B g) I).chip.stack.sixteen)
        ∙ sym (ap (λ (c : Called). short_call c) (
        ap (λ (y : Bool). cond x (cond y (cond z (away InputTooLong (lengthened l) replies) (ran_of (length (lengthened l)) (run_of (card_in on (lengthened l))
        input (length replies)) replies)) (away BadState (lengthened l) replies))
        (record { result = 14; state = lengthened l; replies = replies; report = report })) (same_good l n)
        ∙ ap₂ (λ (m : ℕ) (k : Card). cond x (cond (is_state l) (cond z (away InputTooLong (lengthened l) replies) (ran_of m (run_of k input (length replies))
        replies)) (away BadState (lengthened l) replies)) (record { result = 14; state = lengthened l; replies = replies; report = report })) (longer l n)
        (same_card l n on)))

  -- and through the event
  module _ (kind byte : ℕ) where
    abbrev answer : CardAnswer
    answer = answer_to_kind (card_in on l) kind byte

    abbrev turn : Bool → Bool → List ℕ → ℕ → Signal
    turn y z state size = cond y (record { result = joined_of (number_of answer.refusal) answer.byte; state = cond z (laid_out size answer.card) state })
        (record { result = joined_of 13 0; state = state })

    turns : (y z : Bool) → (y ≡ true → length answer.card.chip.stack ≡ 16) → turn y z l 19 ≡ short_signal (turn y z (lengthened l) 21)
    turns true true h = ap (λ (s : List ℕ). record { result = joined_of (number_of answer.refusal) answer.byte; state = s })
        (first_19 answer.card (h refl))
    turns true false h = ap (λ (s : List ℕ). record { result = joined_of (number_of answer.refusal) answer.byte; state = s }) front
    turns false z h = ap (λ (s : List ℕ). record { result = joined_of 13 0; state = s }) front

    short_signal_lem : Bytes l → byte < 256 → signal_under on l kind byte ≡ short_signal (signal_under on (lengthened l) kind byte)
    short_signal_lem B b =
        let z = eqb (number_of answer.refusal) 0 in
        ap (λ (m : ℕ). turn (is_state l) z l m) n
        ∙ turns (is_state l) z (λ g. (event_ready (card_in on l) kind byte b (card_ready on l B g)).chip.stack.sixteen)
        ∙ sym (ap (λ (x : Signal). short_signal x) (
        ap (λ (y : Bool). cond y (signal_by (lengthened l) (answer_to_kind (card_in on (lengthened l)) kind byte))
        (record { result = joined_of 13 0; state = lengthened l })) (same_good l n)
        ∙ ap (λ (k : Card). cond (is_state l) (signal_by (lengthened l) (answer_to_kind k kind byte)) (record { result = joined_of 13 0; state = lengthened l }))
        (same_card l n on)
        ∙ ap (λ (m : ℕ). turn (is_state l) z (lengthened l) m) (longer l n)))

-- the longer bytes are bytes
longer_bytes : (l : List ℕ) → Bytes l → Bytes (lengthened l)
longer_bytes l B = bytes_append l (0 ∷ 0 ∷ []) B (lit< tt, (lit< tt, tt))

pub short_states : ShortStates
short_states g C c M = record {
  run = λ state input replies report n B I W P.
      called_as (c.run state input replies report) _ (M.run state input replies report B I W P)
      ∙ run_chosen g.mode g.rule state input replies report C.mode C.rule
      ∙ short_call_lem (settings_in g) state n input replies report B I
      ∙ ap (λ (x : Called). short_call x) (sym (run_chosen g.mode g.rule (lengthened state) input replies report C.mode C.rule)
      ∙ sym (called_as (c.run (lengthened state) input replies report) _ (M.run (lengthened state) input replies report (longer_bytes state B) I W P)));
  event = λ state kind byte n B k b.
      signalled_as (c.event state kind byte) _ (M.event state kind byte B k b)
      ∙ event_chosen g.mode g.rule state kind byte C.mode C.rule
      ∙ short_signal_lem (settings_in g) state n kind byte B b
      ∙ ap (λ (x : Signal). short_signal x) (sym (event_chosen g.mode g.rule (lengthened state) kind byte C.mode C.rule)
      ∙ sym (signalled_as (c.event (lengthened state) kind byte) _ (M.event (lengthened state) kind byte (longer_bytes state B) k b)));
}
