-- What a call that is turned away leaves, by the way through its definition; what a bad or cut file leaves, by the runs of its whole records; and what a front
-- of
-- a file takes that ends with 0 the longer front takes too, by the append law. Assumes nothing.
use mathlib.Core.Path.{◌≡◌, refl, sym, ap, ◌∙◌}
use mathlib.Core.Logic.{◌⊎◌}
use mathlib.Core.Bool.{Bool, true, false, cond}
use mathlib.Core.List.{List, [], ◌∷◌, ◌++◌}
use Prim.Native.Nat.{ℕ, ◌+◌, ◌-◌, ◌%◌, ◌≤◌, ◌<◌}
use native.Mathlib.Omega.{arith}
use lib.Dec.{eqb, lit<}
use lib.ListN.{length, take, drop, get_or, length-append, length-drop, take-append-drop}
use lib.Seq.{length-take-le, get_or-drop, get_or-append-add, take-take}
use borrow.Author.Tests.{ne_eqb, leb-true, le-leb, lt-leb}
use Rattle.numbers.proofs.Exact.{le4_exact}
use Rattle.terms.specs.Refusal.{number_of}
use Rattle.terms.specs.declared.Rule.{Rule}
use Rattle.terms.specs.Settings.{is_mode, is_rule}
use Rattle.chip.specs.State.{State}
use Rattle.chip.specs.State.{Answer}
use Rattle.chip.specs.State.{busy}
use Rattle.chip.specs.Commands.{proper_operands}
use Rattle.chip.specs.Step.{refused, unless_busy, push_of, pop_of, read_of, reset_of, acknowledge_of, carried, answer_by_kind, command_under}
use Rattle.chip.specs.Event.{Push, Pop, Command, Status, Reset, Acknowledge}
use Rattle.chip.proofs.Ready.{picked}
use Rattle.error_memory.specs.Event.{Chip, Recall, Forget}
use Rattle.error_memory.specs.declared.Memory.{Memory}
use Rattle.error_memory.specs.Memory.{empty_memory, Card, CardAnswer, unless_busy as unlessCardBusy}
use Rattle.error_memory.proofs.Good.{ReadyCard, event_fair}
use Rattle.terms.specs.declared.Refusal.TheVariants.{BadState, BadMode, BadRule}
use Rattle.stack.specs.Stack.{Bytes, top_byte}
use Rattle.stack.proofs.Words.{bytes_take, byte_at}
use Rattle.codes.specs.Command.{Kind}
use Rattle.codes.specs.Command.{Known, Derived, Unknown}
use Rattle.codes.specs.Codes.{sr, decoded}
use Rattle.record_files.proofs.Tests.{either_lt, either_eq}
use Rattle.record_files.proofs.Append.{nothing, appended}
use Rattle.record_files.proofs.Through.{tally, up_to_stop}
use Rattle.record_files.proofs.Cut.{cut_anywhere}
use Rattle.record_runs.specs.Run.{Outcome, run_of}
use Rattle.record_runs.proofs.Prefix.{lawful}
use Rattle.record_runs.proofs.Ready.{run_ready}
use Rattle.state_bytes.specs.Bytes.{is_state, memory_in, card_in, laid_out}
use Rattle.state_bytes.proofs.Cards.{card_returns, card_ready, laid_length, laid_state}
use Rattle.terms.specs.declared.EventKind.{EventKind}
use Rattle.state_bytes.specs.Calls.{Called, ran_of, call_of, Signal, signal_of, signal_by, unsent, answer_to_kind, answered_by}
use Rattle.pundaliket.specs.Calls.{Sent, sent_of}
use Rattle.state_bytes.proofs.Calling.{bad_state_lem, too_long_lem, good}
use Rattle.promises.specs.Given.{Given, Chosen, settings_in, run_call, event_call}
use Rattle.promises.specs.StateBytes.{IsState}
use Rattle.promises.specs.Records.{count_at}
use Rattle.promises.specs.Kept.{NoReport, NoState, LongInput, GoodStates, StateReturns, EmptyInput, EventKept, OutKept, StateStays, StateStaysEvent}
use Rattle.promises.specs.Kept.{RepliesStay, StopsThere, BadFile, CutCall, CutFile, LastEnd}
use Rattle.promises.proofs.Measures.{ours_state, theirs_state, no_state_is}
use Rattle.promises.proofs.Records.{counts_exact}
use Rattle.promises.proofs.RunCall.{stops_on}

-- ---- a call that is turned away

pub no_report_lem : NoReport
unfolding call_of
no_report_lem g state input replies report a = rw (ne_eqb (length report) 9 a)

pub no_state : NoState
no_state g C state input replies report a b = bad_state_lem g.mode g.rule state input replies report a C.mode C.rule (no_state_is state b)

pub long_input : LongInput
long_input g C state input replies report a b d = too_long_lem g.mode g.rule state input replies report a C.mode C.rule (theirs_state b) d

pub state_returns : StateReturns
state_returns on l S = card_returns on l (theirs_state S)

pub empty_input : EmptyInput
empty_input g C state replies report a b =
    good g.mode g.rule state [] replies report a C.mode C.rule (theirs_state b) (omega arith)
    ∙ rw (nothing lawful (card_in (settings_in g) state) (length replies), state_returns (settings_in g) state b)

pub out_kept : OutKept
unfolding sent_of
out_kept reply out =
    either_eq (λ (t : Sent). (t.result ≡ 0 → ⊥) → t.out ≡ out) (length out) 4 _ _
    (λ n z. rw (ne_eqb (number_of reply.refusal) 0 z)) (λ n z. refl)

-- ---- what is known of a call

-- either it is turned away with a refusal and leaves state and replies, or it is a run
module _ (g : Given) (state input replies report : List ℕ) where
  abbrev pub Away : Called → Type 0
  Away c = (0 < c.result) × (c.state ≡ state) × (c.replies ≡ replies)

  pub calls : (P : Called → Type 0) → ((c : Called) → Away c → P c)
      → (length report ≡ 9 → Chosen g → is_state state ≡ true → length input ≤ 12288 → P (ran_of (length state) (run_of (card_in (settings_in g) state) input
      (length replies)) replies))
      → P (run_call g state input replies report)
  unfolding call_of
  calls P away ran =
      either_eq P (length report) 9 _ _
      (λ n. either P (is_mode g.mode) (λ k. either P (is_rule g.rule) (λ q. either P (is_state state) (λ b. either_lt P 12288 (length input) _ _
      (λ d. away _ (omega arith, refl, refl))
      (λ d. ran n (record { mode = leb-true g.mode 1 k; rule = leb-true g.rule 1 q }) b d)) (λ b. away _ (omega arith, refl, refl)))
      (λ q. away _ (omega arith, refl, refl))) (λ k. away _ (omega arith, refl, refl)))
      (λ n. away _ (omega arith, refl, refl))
    where
      either : {x y : Called} (P : Called → Type 0) (b : Bool) → (b ≡ true → P x) → (b ≡ false → P y) → P (cond b x y)
      either P true p q = p refl
      either P false p q = q refl

-- ---- replies

pub replies_stay : RepliesStay
replies_stay g state input replies report =
    calls g state input replies report
    (λ c. (length c.replies ≡ length replies) × ((i : ℕ) → count_at c.report 5 ≤ i → get_or c.replies i 0 ≡ get_or replies i 0))
    (λ c a. (ap length a.2, λ i h. ap (λ (l : List ℕ). get_or l i 0) a.2))
    (λ n C b d.
    let o = run_of (card_in (settings_in g) state) input (length replies) in
    let t = tally lawful (card_in (settings_in g) state) input (length replies) in
    let w = o.written in
    let f = t.in_file in
    let few = t.few in
    let fits = t.in_room in
    let len = length-append w (drop (length w) replies) in
    let left = length-drop (length w) replies in
    let exact = le4_exact (length w) (omega arith) in (
      omega arith,
      λ i h.
          let j : i ≡ length w + (i - length w) = omega arith in
          ap (λ (k : ℕ). get_or (w ++ drop (length w) replies) k 0) j
          ∙ get_or-append-add w (drop (length w) replies) (i - length w) 0
          ∙ get_or-drop (length w) replies (i - length w) 0
          ∙ ap (λ (k : ℕ). get_or replies k 0) (sym j),
    ))

-- ---- a bad file

pub stops_at : StopsThere
stops_at s l room z =
    let r = (tally lawful s l room).range z in
    (r.0, r.1, stops_on s l room z (run_of s l room).state)

pub bad_file : BadFile
bad_file g C state input replies report a S d =
    let b = theirs_state S in
    let s = card_in (settings_in g) state in
    let room = length replies in
    let o = run_of s input room in
    let t = tally lawful s input room in
    let f = t.in_file in
    let n = length-take-le o.taken input f in
    let exact = le4_exact o.taken (omega arith) in
    rw (good g.mode g.rule state input replies report a C.mode C.rule b d, exact)
    (good g.mode g.rule state (take o.taken input) replies report a C.mode C.rule b (omega arith)
    ∙ ap (λ (p : Outcome). ran_of (length state) p replies) (up_to_stop lawful s input room))

-- ---- a file cut after any byte

pub cut_file : CutFile
cut_file g state input replies report =
    calls g state input replies report
    (λ c. c.result ≡ 0 → (k : ℕ) → k ≤ length input → (n : ℕ) × CutCall (run_call g state (take k input) replies report) (run_call g state (take n input) replies
    report) k n)
    (λ c a z. let y : ⊥ = omega (arith, a.0) in absurd y)
    (λ a C b d z k most.
    let s = card_in (settings_in g) state in
    let room = length replies in
    let r = cut_anywhere lawful s input room z k most in
    let n = r.0 in
    let c = r.1 in
    let up = c.upto in
    let lk = length-take-le k input most in
    let ln = length-take-le n input (omega arith) in
    let exact = le4_exact (run_of s (take n input) room).taken (omega (arith, c.whole_taken)) in (
      n,
      rw (
        good g.mode g.rule state (take k input) replies report a C.mode C.rule b (omega arith),
        good g.mode g.rule state (take n input)
            replies report a C.mode C.rule b (omega arith),
      ) record {
        upto = up;
        whole_done = c.whole_done;
        whole_taken = exact ∙ c.whole_taken;
        state_is = ap (laid_out (length state)) c.state_is;
        replies_is = rw c.written_is;
        counts_are = rw (c.taken_is ∙ sym c.whole_taken, c.written_is);
        at_end = c.at_end;
        in_one = c.in_one;
      },
    ))

-- a file takes at least what a front of it takes that ends with 0
takes_more : (s : Card) (l : List ℕ) (room m : ℕ) → m ≤ length l → (run_of s (take m l) room).refusal ≡ 0 → m ≤ (run_of s l room).taken
takes_more s l room m h z =
    let o = run_of s (take m l) room in
    let n : length (take m l) ≡ m = length-take-le m l h in
    let all : o.taken ≡ length (take m l) = (tally lawful s (take m l) room).all z in
    let more = run_of o.state (drop m l) (room - length o.written) in
    let e : (run_of s l room).taken ≡ o.taken + more.taken =
    ap (λ (k : List ℕ). (run_of s k room).taken) (sym (take-append-drop m l)) ∙ ap (λ (p : Outcome). p.taken) (appended lawful s (take m l) (drop m l) room z) in
    omega arith

-- a report's first count, without its first byte
count_after : (l : List ℕ) → count_at l 1 ≡ count_at (drop 1 l) 0
count_after [] = refl
count_after (x ∷ l) = refl

pub last_end : LastEnd
last_end g state input replies report z k n most c m up w =
    let s = card_in (settings_in g) state in
    let room = length replies in
    let is = calls g state input replies report (λ (x : Called). x.result ≡ 0 → (length report ≡ 9) × (is_state state ≡ true) × (length input ≤ 12288)
    × Chosen g)
    (λ x a y. let q : ⊥ = omega (arith, a.0) in absurd q) (λ a C b d y. (a, b, d, C)) z in
    let long = is.2 in
    let lk = length-take-le k input most in
    let lm = length-take-le m input (omega arith) in
    let taken : count_at (run_call g state (take k input) replies report).report 1 ≡ (run_of s (take k input) room).taken =
    (counts_exact g is.3 state (take k input) replies report is.0 (ours_state is.1) (omega arith)).0 in
    let ends : count_at (run_call g state (take k input) replies report).report 1 ≡ n =
    count_after (run_call g state (take k input) replies report).report ∙ ap (λ (l : List ℕ). count_at l 0) c.counts_are
    ∙ sym (count_after (run_call g state (take n input) replies report).report) ∙ c.whole_taken in
    let done : (run_of s (take m input) room).refusal ≡ 0 =
    sym (ap (λ (x : Called). x.result) (good g.mode g.rule state (take m input) replies report is.0 is.3.mode is.3.rule is.1
    (omega arith))) ∙ w in
    let front = takes_more s (take k input) room m (omega arith) (ap (λ (l : List ℕ). (run_of s l room).refusal) (take-take m k input up) ∙ done) in
    omega arith

-- ---- a single event

-- a command hands out no byte
pub command_byte : (rule : Rule) (s : State) (code : ℕ) → (command_under rule s code).byte ≡ 0
unfolding command_under carried
command_byte rule s code =
    picked (λ (a : Answer). a.byte ≡ 0) (busy s) _ _ refl (by_kind (decoded (code % 128)))
  where
    by_kind : (k : Kind) → (answer_by_kind rule s (sr code) k).byte ≡ 0
    by_kind (Known c) = picked (λ (a : Answer). a.byte ≡ 0) s.pending _ _ refl (picked (λ (a : Answer). a.byte ≡ 0) (proper_operands c s.stack) _ _ refl
        refl)
    by_kind Derived = refl
    by_kind Unknown = refl

-- what an event hands out is a byte where the top, the status and the memory's bits are bytes
event_byte : (c : Card) (kind byte : ℕ) → top_byte c.chip.stack < 256 → c.chip.status < 256 → c.memory.bits < 256 → (answer_to_kind c kind byte).byte < 256
unfolding push_of pop_of read_of reset_of acknowledge_of
event_byte c kind byte top status bits =
    either_eq (λ (k : EventKind). Small (answered_by c byte k)) kind 1 _ _ (λ e. ready _ (omega arith)) (λ a.
    either_eq (λ (k : EventKind). Small (answered_by c byte k)) kind 2 _ _ (λ e. ready _ top) (λ b.
    either_eq (λ (k : EventKind). Small (answered_by c byte k)) kind 3 _ _ (λ e. let z = command_byte c.on.rule c.chip byte in omega arith) (λ d.
    either_eq (λ (k : EventKind). Small (answered_by c byte k)) kind 4 _ _ (λ e. ready _ status) (λ f.
    either_eq (λ (k : EventKind). Small (answered_by c byte k)) kind 5 _ _ (λ e. ready _ (omega arith)) (λ g.
    either_eq (λ (k : EventKind). Small (answered_by c byte k)) kind 6 _ _ (λ e. ready _ (omega arith)) (λ h.
    either_eq (λ (k : EventKind). Small (answered_by c byte k)) kind 7 _ _ (λ e. ready_card _ bits) (λ i.
    either_eq (λ (k : EventKind). Small (answered_by c byte k)) kind 8 _ _ (λ e. ready_card _ (omega arith)) (λ j. omega arith))))))))
  where
    Small : CardAnswer → Type 0
    Small a = a.byte < 256

    ready : (a : Answer) → a.byte < 256 → (unless_busy c.chip a).byte < 256
    ready a h = pick (busy c.chip)
      where
        pick : (b : Bool) → (cond b (refused BadState c.chip) a).byte < 256
        pick true = omega arith
        pick false = h

    ready_card : (a : CardAnswer) → a.byte < 256 → (unlessCardBusy c a).byte < 256
    ready_card a h = pick (busy c.chip)
      where
        pick : (b : Bool) → (cond {A = CardAnswer} b (record { refusal = BadState; byte = 0; card = c }) a).byte < 256
        pick true = omega arith
        pick false = h

-- the bits that bytes are read as
bits_byte : (l : List ℕ) → Bytes l → (memory_in l).bits < 256
bits_byte l h = by (eqb (length l) 19)
  where
    by : (x : Bool) → (cond {A = Memory} x empty_memory (record { bits = get_or l 19 0; code = get_or l 20 0 })).bits < 256
    by true = lit< tt
    by false = byte_at l h 19

pub event_kept : EventKept
unfolding signal_of
event_kept g state kind byte bytes = by (is_mode g.mode) (is_rule g.rule) (is_state state)
  where
    a : CardAnswer
    a = answer_to_kind (card_in (settings_in g) state) kind byte

    small : a.byte < 256
    small = event_byte (card_in (settings_in g) state) kind byte (byte_at (take 16 state) (bytes_take 16 state bytes) 0) (byte_at state bytes 17)
        (bits_byte state bytes)

    by : (k q b : Bool) → 256 ≤ (cond k (cond q (cond b (signal_by state a) (unsent BadState state)) (unsent BadRule state)) (unsent BadMode state)).result
        → (cond k (cond q (cond b (signal_by state a) (unsent BadState state)) (unsent BadRule state)) (unsent BadMode state)).state ≡ state
    by true true true h =
        either_eq (λ (l : List ℕ). l ≡ state) (number_of a.refusal) 0 (laid_out (length state) a.card) state
        (λ z. let y : ⊥ = omega (arith, small) in absurd y) (λ z. refl)
    by true true false h = refl
    by true false b h = refl
    by false q b h = refl

-- ---- a state stays a state

pub state_stays : StateStays
state_stays g state input replies report h i S =
    let b = theirs_state S in
    let stays = calls g state input replies report (λ c. (is_state c.state ≡ true) × (length c.state ≡ length state))
    (λ c a. (ap is_state a.1 ∙ b, ap length a.1))
    (λ n C d m.
    let k = (run_of (card_in (settings_in g) state) input (length replies)).state in
    let r = run_ready (card_in (settings_in g) state) input (length replies) (card_ready (settings_in g) state h b) i in
    let z = S.size in
    (laid_state k r (length state) z, laid_length k r.chip.stack.sixteen (length state) z)) in
    (ours_state stays.0, stays.1)

-- a single event
pub event_ready : (c : Card) (kind byte : ℕ) → byte < 256 → ReadyCard c → ReadyCard (answer_to_kind c kind byte).card
event_ready c kind byte h r =
    either_eq (λ (k : EventKind). ReadyAfter (answered_by c byte k)) kind 1 _ _ (λ e. (event_fair c (Chip (Push byte)) r h).left) (λ a.
    either_eq (λ (k : EventKind). ReadyAfter (answered_by c byte k)) kind 2 _ _ (λ e. (event_fair c (Chip Pop) r tt).left) (λ b.
    either_eq (λ (k : EventKind). ReadyAfter (answered_by c byte k)) kind 3 _ _ (λ e. (event_fair c (Chip (Command byte)) r tt).left) (λ d.
    either_eq (λ (k : EventKind). ReadyAfter (answered_by c byte k)) kind 4 _ _ (λ e. (event_fair c (Chip Status) r tt).left) (λ f.
    either_eq (λ (k : EventKind). ReadyAfter (answered_by c byte k)) kind 5 _ _ (λ e. (event_fair c (Chip Reset) r tt).left) (λ g.
    either_eq (λ (k : EventKind). ReadyAfter (answered_by c byte k)) kind 6 _ _ (λ e. (event_fair c (Chip Acknowledge) r tt).left) (λ i.
    either_eq (λ (k : EventKind). ReadyAfter (answered_by c byte k)) kind 7 _ _ (λ e. (event_fair c Recall r tt).left) (λ j.
    either_eq (λ (k : EventKind). ReadyAfter (answered_by c byte k)) kind 8 _ _ (λ e. (event_fair c Forget r tt).left) (λ k. r))))))))
  where
    ReadyAfter : CardAnswer → Type 0
    ReadyAfter a = ReadyCard a.card

event_stays : (g : Given) (state : List ℕ) (kind byte : ℕ) → Bytes state → byte < 256 → is_state state ≡ true → (length state ≡ 19) ⊎ (length state ≡ 21)
    → (is_state (event_call g state kind byte).state ≡ true) × (length (event_call g state kind byte).state ≡ length state)
unfolding signal_of
event_stays g state kind byte h i b z =
    let a = answer_to_kind (card_in (settings_in g) state) kind byte in
    let r = event_ready (card_in (settings_in g) state) kind byte i (card_ready (settings_in g) state h b) in
    rw b (by (is_mode g.mode) (is_rule g.rule) _ (either_eq (λ (l : List ℕ). (is_state l ≡ true) × (length l ≡ length state)) (number_of a.refusal) 0
    (laid_out (length state) a.card) state
    (λ y. (laid_state a.card r (length state) z, laid_length a.card r.chip.stack.sixteen (length state) z)) (λ y. (b, refl))))
  where
    by : (x y : Bool) (t : Signal) → (is_state t.state ≡ true) × (length t.state ≡ length state)
        → (is_state (cond x (cond y t (unsent BadRule state)) (unsent BadMode state)).state ≡ true)
        × (length (cond x (cond y t (unsent BadRule state)) (unsent BadMode state)).state ≡ length state)
    by true true t q = q
    by true false t q = (b, refl)
    by false y t q = (b, refl)

pub state_stays_event : StateStaysEvent
state_stays_event g state kind byte h i S =
    let stays = event_stays g state kind byte h i (theirs_state S) S.size in
    (ours_state stays.0, stays.1)

-- ---- which bytes are taken
-- an acknowledge of a state that is taken
acknowledged : (g : Given) → Chosen g → (state : List ℕ) → IsState state → (event_call g state 6 0).result ≡ 0
unfolding signal_of acknowledge_of
acknowledged g C state S =
    rw (le-leb g.mode 1 C.mode, le-leb g.rule 1 C.rule, theirs_state S, lt-leb 128 (get_or state 17 0) S.ready)

-- and of any other
unacknowledged : (g : Given) → Chosen g → (state : List ℕ) → (IsState state → ⊥) → (event_call g state 6 0).result ≡ 3328
unfolding signal_of
unacknowledged g C state n = rw (le-leb g.mode 1 C.mode, le-leb g.rule 1 C.rule, no_state_is state n)

pub good_states : GoodStates
good_states g C state replies report n = (
  λ S. ap (λ (c : Called). c.result) (empty_input g C state replies report n S),
  λ N. ap (λ (c : Called). c.result) (no_state g C state [] replies report n N),
  acknowledged g C state,
  unacknowledged g C state,
)
