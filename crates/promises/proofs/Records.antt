-- The append law over a list of records, every file split at its whole records, the counts, and one record of each kind. Assumes nothing.
use mathlib.Core.Path.{◌≡◌, refl, sym, ap, ◌∙◌, subst}
use mathlib.Core.List.{List, [], ◌∷◌, ◌++◌, append_assoc}
use Prim.Native.Nat.{ℕ, ◌+◌, ◌-◌, ◌≤◌, ◌<◌}
use native.Mathlib.Omega.{arith}
use native.Mathlib.Nat.{sub-zero}
use lib.ListN.{length, take, drop, length-append, take-append-drop}
use lib.Seq.{length-take-le, take-take}
use borrow.Author.Tests.{leb-false}
use Rattle.numbers.proofs.Exact.{le4_exact}
use Rattle.terms.specs.Refusal.{number_of}
use Rattle.stack.specs.Stack.{Bytes}
use Rattle.stack.proofs.Words.{bytes_drop}
use Rattle.error_memory.specs.Memory.{Card}
use Rattle.error_memory.proofs.Good.{ReadyCard}
use Rattle.record_files.proofs.Tests.{either_lt}
use Rattle.record_files.proofs.Append.{room_after_lem, first_stops, alone, appended}
use Rattle.record_files.proofs.Through.{through, tally}
use Rattle.record_runs.specs.Record.{Event}
use Rattle.record_runs.specs.Record.{Head}
use Rattle.record_runs.specs.Record.{kind_of, payload_of, answered_of, head_of, answer_of, data_of, reply_of, stopped, turn_of}
use Rattle.record_runs.specs.Run.{Outcome, ended, took, after, run_of}
use Rattle.terms.specs.Limits.{most_payload}
use Rattle.record_runs.proofs.Heads.{heads}
use Rattle.record_runs.proofs.Steps.{steps}
use Rattle.record_runs.proofs.Prefix.{holds_too, within, lawful}
use Rattle.promises.proofs.Single.{one_turn, no_turn, stopped_by, command_alone, status_alone, reset_alone, acknowledge_alone}
use Rattle.promises.proofs.Single.{recall_alone, forget_alone}
use Rattle.promises.proofs.InTurn.{push_alone, pop_alone}
use Rattle.record_runs.proofs.Ready.{event_fair, run_ready}
use Rattle.state_bytes.specs.Bytes.{card_in}
use Rattle.state_bytes.proofs.Calling.{good}
use Rattle.promises.specs.Given.{settings_in}
use Rattle.promises.proofs.Measures.{theirs_stack, theirs_memory, theirs_state}
use Rattle.promises.specs.RecordFiles.{IsRecord}
use Rattle.promises.proofs.RecordFiles.{Whole as Record, theirs_record, data_is, ours_record}
use Rattle.promises.specs.Records.{joined, EachTaken, replies_of, InTurn, EachSmall, InReply, Split, Counted, CountsExact, PushRecord, PopRecord}
use Rattle.promises.specs.Records.{CommandRecord, StatusRecord, ResetRecord, AcknowledgeRecord, RecallRecord, ForgetRecord, NoRoomRecord, BadHead}

-- ---- records in turn

pub in_turn_lem : InTurn
in_turn_lem s [] rest room h = refl
in_turn_lem s (r ∷ rs) rest room h =
    let o = run_of s r room in
    let left = room - length o.written in
    ap (λ (l : List ℕ). run_of s l room) (append_assoc r (joined rs) rest)
    ∙ appended lawful s r (joined rs ++ rest) room h.1
    ∙ ap (λ (n : ℕ). after n o.written (run_of o.state (joined rs ++ rest) left)) ((tally lawful s r room).all h.1)
    ∙ ap (after (length r) o.written) (in_turn_lem o.state rs rest left h.2)

-- ---- every file is split

-- the bytes of a record that is taken are a record
is_record : (s : Card) (l : List ℕ) (room : ℕ) → (turn_of s l room).refusal ≡ 0 → Record (take (turn_of s l room).taken l)
is_record s l room =
    steps (λ t. t.refusal ≡ 0 → Record (take t.taken l)) s l room (λ r a b z. let y : ⊥ = omega arith in absurd y)
    (λ e h g z.
    let n = length-take-le (4 + payload_of e) l h.there in
    record {
      event = e;
      held = holds_too e l (take (4 + payload_of e) l) (sym (take-take (4 + payload_of e) (4 + payload_of e) l (omega arith))) (omega arith) h;
      size = n;
    })

-- a run that ends at once, with this refusal
none_taken : (s : Card) (l : List ℕ) (room refusal : ℕ) → (refusal ≡ 0 → l ≡ [])
    → ((refusal ≡ 0 → ⊥) → run_of s l (room - 0) ≡ ended refusal s) → Split s l room (ended refusal s)
none_taken s l room refusal c g =
    record { records = []; rest = l; parts = refl; each = tt; replies = refl; taken = refl; written = refl; complete = c; stopped = g }

pub counted : Counted
counted =
    through lawful Split
    (λ s room. none_taken s [] room 0 (λ z. refl) (λ z. absurd (z refl)))
    (λ s l room p z. none_taken s l room (turn_of s l room).refusal (λ y. absurd (z y)) (λ y. rw (sub-zero room) (first_stops lawful s l room _ refl p z)))
    (λ s l room p z h.
    let t = turn_of s l room in
    let r = take t.taken l in
    let o = run_of t.state (drop t.taken l) (room - length t.written) in
    let one = alone lawful s l room p z in
    let n = length-take-le t.taken l (within most_payload s l room z) in
    let g = length-append t.written o.written in
    record {
      records = r ∷ h.records;
      rest = h.rest;
      parts = sym (take-append-drop t.taken l) ∙ ap (λ (k : List ℕ). r ++ k) h.parts ∙ sym (append_assoc r (joined h.records) h.rest);
      each = (ours_record (is_record s l room z), rw one, rw one h.each);
      replies = rw one (ap (λ (k : List ℕ). t.written ++ k) h.replies);
      taken = omega (arith, n, h.taken);
      written = rw (g, one) (omega (arith, h.written));
      complete = h.complete;
      stopped = λ y. rw (room_after_lem room t.written o.written) (h.stopped y);
    })

-- ---- the report's counts

pub counts_exact : CountsExact
counts_exact g C state input replies report a S d =
    let b = theirs_state S in
    let o = run_of (card_in (settings_in g) state) input (length replies) in
    let t = tally lawful (card_in (settings_in g) state) input (length replies) in
    let i = t.in_file in
    let f = t.few in
    rw (good g.mode g.rule state input replies report a C.mode C.rule b d) (
      le4_exact o.taken (omega arith),
      le4_exact (length o.written)
          (omega arith),
    )

-- ---- one whole record

pub no_room_record : NoRoomRecord
no_room_record s r room one g =
    let w = theirs_record one in
    no_turn s r room w.event w.held w.size (subst (λ (n : ℕ). room < 5 + n) (sym (data_is one)) g)

pub bad_head : BadHead
bad_head s l room some without = heads {most = most_payload} (λ (h : Head). head_of l ≡ h → (n : ℕ) × (5 ≤ n) × (n ≤ 7) × (run_of s l room ≡ ended n s))
    (λ r g e. (number_of r, g.0, g.1, first_stops lawful s l room (stopped r s) (stopped_by s l room r e) some (λ z. let y = g.0 in absurd (omega arith))))
    l
    (λ e h i.
    let n = length-take-le (4 + payload_of e) l h.there in
    absurd (without (take (4 + payload_of e) l) (drop (4 + payload_of e) l) (ours_record (record {
      event = e;
      held = holds_too e l (take (4 + payload_of e) l) (sym (take-take (4 + payload_of e) (4 + payload_of e) l (omega arith))) (omega arith) h;
      size = n;
    })) (sym (take-append-drop (4 + payload_of e) l))))
    refl

-- ---- one record of each kind

pub push_record_lem : PushRecord
push_record_lem = push_alone

pub pop_record : PopRecord
pop_record = pop_alone

pub command_record_lem : CommandRecord
command_record_lem = command_alone

pub status_record : StatusRecord
status_record on s m room calm h = status_alone on s m room calm h

pub reset_record_lem : ResetRecord
reset_record_lem on s m room calm h = reset_alone on s m room calm h

pub acknowledge_record : AcknowledgeRecord
acknowledge_record on s m room calm h = acknowledge_alone on s m room calm h

pub recall_record : RecallRecord
recall_record on s m room calm h = recall_alone on s m room calm h

pub forget_record : ForgetRecord
forget_record on s m room calm h = forget_alone on s m room calm h

-- ---- refusals in replies

-- what a record of an event leaves, taken alone
abbrev pub recorded : Card → List ℕ → Event → Outcome
recorded s r e =
    took (answer_of s (drop 4 r) e).card (4 + payload_of e) (reply_of (kind_of e) (number_of (answer_of s (drop 4 r) e).refusal) (data_of s e))

-- a record that one card takes every card takes, since the room alone decides
pub record_runs : (s t : Card) (r : List ℕ) (room : ℕ) (one : IsRecord r) → (run_of s r room).refusal ≡ 0 → run_of t r room ≡ recorded t r
    (theirs_record one).event
record_runs s t r room one z =
    either_lt (λ (n : ℕ). run_of t r room ≡ recorded t r (theirs_record one).event) room (5 + answered_of (theirs_record one).event) 0 0
    (λ g.
    let y : 8 ≡ 0 = sym (ap (λ (o : Outcome). o.refusal) (no_turn s r room (theirs_record one).event (theirs_record one).held (theirs_record one).size g))
    ∙ z in
    let x : ⊥ = omega arith in
    absurd x)
    (λ g. one_turn t r room (theirs_record one).event (theirs_record one).held (theirs_record one).size g)

pub record_run : (s : Card) (r : List ℕ) (room : ℕ) (one : IsRecord r) → (run_of s r room).refusal ≡ 0 → run_of s r room ≡ recorded s r (theirs_record one).event
record_run s = record_runs s s

pub bytes_parts : (k l : List ℕ) → Bytes (k ++ l) → Bytes k × Bytes l
bytes_parts [] l h = (tt, h)
bytes_parts (x ∷ k) l h = let p = bytes_parts k l h.1 in ((h.0, p.0), p.1)

each_small : (s : Card) (rs : List (List ℕ)) (room : ℕ) → ReadyCard s → Bytes (joined rs) → EachTaken s rs room → EachSmall (replies_of s rs room)
each_small s [] room a h e = tt
each_small s (r ∷ rs) room a h e =
    let b = bytes_parts r (joined rs) h in
    let one = e.0 in
    let f = event_fair s (drop 4 r) (theirs_record one).event a (bytes_drop 4 r b.0) in (
      rw (record_run s r room one e.1) f.small,
      each_small (run_of s r room).state rs (room - length (run_of s r room).written)
          (run_ready s r room a b.0) b.1 e.2,
    )

pub in_reply : InReply
in_reply s rs room a h e =
    each_small s rs room (record {
      chip = record { stack = theirs_stack a.stack; ready = leb-false 128 s.chip.status a.calm };
      memory = record { stands = theirs_memory s.memory.bits s.memory.code a.memory; code_byte = a.code };
    }) h e
