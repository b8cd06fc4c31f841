-- The mode: what a reset leaves, spelled in bytes and words; a record that is no reset leaves the same whatever the mode, so records in turn do, and what
-- stops a run stops it on any card. Assumes nothing.
use mathlib.Core.Path.{◌≡◌, refl, sym, ap, ap₂, subst, ◌∙◌}
use mathlib.Core.Bool.{Bool, true, false, cond, not}
use mathlib.Core.List.{List, [], ◌∷◌}
use Prim.Native.Nat.{ℕ, zero, suc, ◌+◌, ◌*◌, ◌-◌, ◌<◌}
use native.Mathlib.Nat.{sub-zero}
use native.Mathlib.Omega.{arith}
use lib.Dec.{eqb, ltb}
use lib.ListN.{length, drop, get_or}
use borrow.Author.Tests.{leb-false}
use Rattle.terms.specs.declared.Mode.{Mode}
use Rattle.terms.specs.declared.Mode.TheVariants.{Am9511}
use Rattle.terms.specs.declared.Refusal.TheVariants.{InputTooLong, BadState}
use Rattle.terms.specs.declared.Rule.{Rule}
use Rattle.terms.specs.Refusal.{number_of}
use Rattle.terms.specs.declared.Settings.{Settings}
use Rattle.terms.specs.Settings.{rule_of}
use Rattle.stack.specs.Stack.{tos, pushed, popped}
use Rattle.stack.proofs.Elems.{spelled}
use Rattle.chip.specs.State.{State}
use Rattle.chip.specs.State.{Answer}
use Rattle.chip.specs.Event.{Command as CommandEvent, Reset as ResetEvent}
use Rattle.chip.specs.State.{busy, moved, kept_stack, after_reset}
use Rattle.chip.specs.Step.{command_under}
use Rattle.promises.specs.BusEvents.{after_events}
use Rattle.chip.proofs.InTurn.{push_done, pop_done}
use Rattle.error_memory.specs.Memory.{Card, CardAnswer, card_with, answer_with}
use Rattle.error_memory.proofs.Kept.{settings_stay}
use Rattle.error_memory.specs.Event.{Recall as RecallEvent, Forget as ForgetEvent}
use Rattle.record_files.proofs.Append.{nothing, room_after_lem}
use Rattle.record_files.proofs.Tests.{either_eq}
use Rattle.record_runs.specs.Record.{Event}
use Rattle.record_runs.specs.Record.{Push, Pop, Command, Status, Reset, Acknowledge, Recall, Forget}
use Rattle.record_runs.specs.Record.{kind_of, answer_of, reply_of}
use Rattle.record_runs.specs.Run.{Outcome, took, after, run_of}
use Rattle.record_runs.proofs.Prefix.{lawful}
use Rattle.promises.proofs.Single.{reset_is}
use Rattle.state_bytes.specs.Bytes.{is_state, card_in}
use Rattle.terms.specs.declared.EventKind.{EventKind}
use Rattle.state_bytes.specs.Calls.{ran_of, away, signal_by, unsent, answer_to_kind, answered_by}
use Rattle.state_bytes.proofs.Calling.{run_chosen, event_chosen, bad_mode, no_mode}
use Rattle.promises.specs.Given.{Given, Chosen, settings_in, run_call, event_call}
use Rattle.promises.specs.RecordFiles.{IsRecord}
use Rattle.promises.proofs.RecordFiles.{theirs_record}
use Rattle.promises.specs.Records.{joined, EachTaken, replies_of, in_turn, Split}
use Rattle.promises.specs.Modes.{NoMode, word_of, OlderReset, OlderResets, NoReset, ModesAlike}
use Rattle.promises.proofs.Records.{in_turn_lem, recorded, record_run, record_runs}
use Rattle.promises.proofs.RunCall.{after_joined, stops_on}

-- ---- turned away
pub no_such_mode : NoMode
no_such_mode = record {
  run = λ g state input replies report k n. bad_mode g.mode g.rule state input replies report n k;
  event = λ g state kind byte k. let s = no_mode g.mode g.rule state kind byte k 16 4096 refl refl
      in λ i. record { result = sym s.result_is i; state = sym s.state_is i };
}

-- ---- the older reset
-- seven words, one by one
seven : (P : ℕ → Type 0) → P 0 → P 1 → P 2 → P 3 → P 4 → P 5 → P 6 → (i : ℕ) → i < 7 → P i
seven P a b c d e f g zero h = a
seven P a b c d e f g (suc zero) h = b
seven P a b c d e f g (suc (suc zero)) h = c
seven P a b c d e f g (suc (suc (suc zero))) h = d
seven P a b c d e f g (suc (suc (suc (suc zero)))) h = e
seven P a b c d e f g (suc (suc (suc (suc (suc zero))))) h = f
seven P a b c d e f g (suc (suc (suc (suc (suc (suc zero)))))) h = g
seven P a b c d e f g (suc (suc (suc (suc (suc (suc (suc n))))))) h = absurd (let y : ⊥ = omega arith in y)

-- of a stack realigned: as it lay, and after a byte pushed or popped
below : (s : List ℕ) → length s ≡ 16 → (i : ℕ) → i < 7 → word_of i (kept_stack true s) ≡ tos 2 (drop (1 + 2 * i) s)
below s h = spelled (λ (l : List ℕ). (i : ℕ) → i < 7 → word_of i (kept_stack true l) ≡ tos 2 (drop (1 + 2 * i) l)) s h (seven _ refl refl refl refl refl refl
    refl)

last : (s : List ℕ) → length s ≡ 16 → word_of 7 (kept_stack true s) ≡ 0
last s h = spelled (λ (l : List ℕ). word_of 7 (kept_stack true l) ≡ 0) s h refl

under_push : (s : List ℕ) (b : ℕ) → length s ≡ 16 → (i : ℕ) → i < 7 → word_of i (kept_stack true (pushed s b)) ≡ word_of i s
under_push s b h = spelled (λ (l : List ℕ). (i : ℕ) → i < 7 → word_of i (kept_stack true (pushed l b)) ≡ word_of i l) s h (seven _ refl refl refl refl refl refl
    refl)

under_pop : (s : List ℕ) → length s ≡ 16 → (i : ℕ) → i < 7 → word_of i (kept_stack true (popped s)) ≡ word_of (suc i) s
under_pop s h = spelled (λ (l : List ℕ). (i : ℕ) → i < 7 → word_of i (kept_stack true (popped l)) ≡ word_of (suc i) l) s h (seven _ refl refl refl refl refl refl
    refl)

module _ (on : Settings) (m : on.mode ≡ Am9511) where
  left : (s : State) → busy s ≡ false → (after_events on s (ResetEvent ∷ [])).stack ≡ kept_stack s.pending s.stack
  left s h = ap (λ (a : Answer). a.state.stack) (reset_is on.mode s h) ∙ ap (λ (x : Mode). (after_reset x s).stack) m

  left_as : (s : State) (p : Bool) → busy s ≡ false → s.pending ≡ p → (after_events on s (ResetEvent ∷ [])).stack ≡ kept_stack p s.stack
  left_as s p h e = left s h ∙ ap (λ (x : Bool). kept_stack x s.stack) e

  -- a byte moved before it
  left_after_lem : (s : State) (stack : List ℕ) → busy s ≡ false → s.pending ≡ false → (after_events on (moved s stack) (ResetEvent ∷ [])).stack ≡ kept_stack true
      stack
  left_after_lem s stack h e = left_as (moved s stack) true h (ap not e)

  older : OlderReset on
  older = record {
    keeps = λ s0 s1 s2 s3 s4 s5 s6 s7 s8 s9 s10 s11 s12 s13 s14 s15 s e h p. left_as s false h p ∙ e;
    realigns = λ s0 s1 s2 s3 s4 s5 s6 s7 s8 s9 s10 s11 s12 s13 s14 s15 s e h p. left_as s true h p ∙ ap (kept_stack true) e;
    words_stay = λ s i h p. ap (word_of i) (left_as s false h.calm p);
    words_below = λ s i h p l. ap (word_of i) (left_as s true h.calm p) ∙ below s.stack h.sixteen i l;
    last_zero = λ s h p. ap (word_of 7) (left_as s true h.calm p) ∙ last s.stack h.sixteen;
    after_push = λ s b i h p l.
        ap (λ (a : Answer). word_of i (after_events on a.state (ResetEvent ∷ [])).stack) (push_done s b (leb-false 128 s.status h.calm))
        ∙ ap (word_of i) (left_after_lem s (pushed s.stack b) h.calm p) ∙ under_push s.stack b h.sixteen i l;
    after_pop = λ s i h p l.
        ap (λ (a : Answer). word_of i (after_events on a.state (ResetEvent ∷ [])).stack) (pop_done s (leb-false 128 s.status h.calm))
        ∙ ap (word_of i) (left_after_lem s (popped s.stack) h.calm p) ∙ under_pop s.stack h.sixteen i l;
  }

pub older_reset : OlderResets
older_reset on m = older on m

-- ---- the modes differ at a reset alone
-- a card, and what a run or an event leaves, under other settings
module _ (by : Settings) where
  abbrev over : Card → Card
  over c = card_with by c.chip c.memory

  abbrev retold : Outcome → Outcome
  retold o = record { refusal = o.refusal; state = over o.state; taken = o.taken; written = o.written }

  abbrev reread : CardAnswer → CardAnswer
  reread a = record { refusal = a.refusal; byte = a.byte; card = over a.card }

  -- one record that is no reset
  told : (c : Card) (r : List ℕ) (e : Event) → c.on.rule ≡ by.rule → (kind_of e ≡ 5 → ⊥) → recorded (over c) r e ≡ retold (recorded c r e)
  told c r (Push n) q z = refl
  told c r (Pop n) q z = refl
  told c r (Command code) q z =
      ap (λ (x : Rule). let a = answer_with by c.memory (CommandEvent code) (command_under x c.chip code)
      in took a.card 5 (reply_of 3 (number_of a.refusal) [])) (sym q)
  told c r Status q z = refl
  told c r Reset q z = absurd (z refl)
  told c r Acknowledge q z = refl
  told c r Recall q z = go (busy c.chip) refl
    where
      go : (x : Bool) → busy c.chip ≡ x → recorded (over c) r Recall ≡ retold (recorded c r Recall)
      go true e = rw e
      go false e = rw e
  told c r Forget q z = go (busy c.chip) refl
    where
      go : (x : Bool) → busy c.chip ≡ x → recorded (over c) r Forget ≡ retold (recorded c r Forget)
      go true e = rw e
      go false e = rw e

  -- its kind, by the byte that says it
  other_kind : (r : List ℕ) (one : IsRecord r) → (get_or r 2 0 ≡ 5 → ⊥) → kind_of (theirs_record one).event ≡ 5 → ⊥
  other_kind r one z e = let k = (theirs_record one).held.kind_is in z (omega arith)

  one_told : (c : Card) (r : List ℕ) (room : ℕ) (one : IsRecord r) → c.on.rule ≡ by.rule → (get_or r 2 0 ≡ 5 → ⊥) → (run_of c r room).refusal ≡ 0
      → run_of (over c) r room ≡ retold (run_of c r room)
  one_told c r room one q z t =
      record_runs c (over c) r room one t ∙ told c r (theirs_record one).event q (other_kind r one z) ∙ sym (ap retold (record_run c r room one t))

  -- it leaves the settings
  same_settings : (c : Card) (p : List ℕ) (e : Event) → (answer_of c p e).card.on ≡ c.on
  same_settings c p (Push n) = refl
  same_settings c p (Pop n) = refl
  same_settings c p (Command code) = refl
  same_settings c p Status = refl
  same_settings c p Reset = refl
  same_settings c p Acknowledge = refl
  same_settings c p Recall = settings_stay c RecallEvent
  same_settings c p Forget = settings_stay c ForgetEvent

  same_rule : (c : Card) (r : List ℕ) (room : ℕ) (one : IsRecord r) → c.on.rule ≡ by.rule → (run_of c r room).refusal ≡ 0 → (run_of c r room).state.on.rule
      ≡ by.rule
  same_rule c r room one q t =
      ap (λ (o : Outcome). o.state.on.rule) (record_run c r room one t) ∙ ap (λ (x : Settings). x.rule)
      (same_settings c (drop 4 r) (theirs_record one).event) ∙ q

  -- the room that records in turn leave
  abbrev room_after : Card → List (List ℕ) → ℕ → ℕ
  room_after c [] room = room
  room_after c (r ∷ rs) room = room_after (run_of c r room).state rs (room - length (run_of c r room).written)

  room_left : (c : Card) (rs : List (List ℕ)) (room : ℕ) → room_after c rs room ≡ room - length (joined (replies_of c rs room))
  room_left c [] room = sym (sub-zero room)
  room_left c (r ∷ rs) room =
      let o = run_of c r room in
      room_left o.state rs (room - length o.written) ∙ sym (room_after_lem room o.written (joined (replies_of o.state rs (room - length o.written))))

  -- each is taken under the other settings too
  each_told : (c : Card) (rs : List (List ℕ)) (room : ℕ) → c.on.rule ≡ by.rule → NoReset rs → EachTaken c rs room → EachTaken (over c) rs room
  each_told c [] room q z t = tt
  each_told c (r ∷ rs) room q z t =
      let o = run_of c r room in
      let e = one_told c r room t.0 q z.0 t.1 in (
        t.0,
        ap (λ (p : Outcome). p.refusal) e ∙ t.1,
        subst (λ (p : Outcome). EachTaken p.state rs (room - length p.written)) (sym e) (each_told o.state rs (room - length o.written)
            (same_rule c r room t.0 q t.1) z.1 t.2),
      )

  -- records in turn, and a rest that goes alike on every card
  turns : (c : Card) (rs : List (List ℕ)) (rest : List ℕ) (room : ℕ) → c.on.rule ≡ by.rule → NoReset rs → EachTaken c rs room
      → ((k : Card) → run_of (over k) rest (room_after c rs room) ≡ retold (run_of k rest (room_after c rs room)))
      → in_turn (over c) rs rest room ≡ retold (in_turn c rs rest room)
  turns c [] rest room q z t f = f c
  turns c (r ∷ rs) rest room q z t f =
      let o = run_of c r room in
      ap (λ (p : Outcome). after (length r) p.written (in_turn p.state rs rest (room - length p.written))) (one_told c r room t.0 q z.0 t.1)
      ∙ ap (after (length r) o.written) (turns o.state rs rest (room - length o.written) (same_rule c r room t.0 q t.1) z.1 t.2 f)

  -- what is left of a split file stops at once, or is nothing
  rest_told : (c : Card) (l : List ℕ) (room : ℕ) (split : Split c l room (run_of c l room)) (k : Card)
      → run_of (over k) split.rest (room_after c split.records room) ≡ retold (run_of k split.rest (room_after c split.records room))
  rest_told c l room split k =
      let o = run_of c l room in
      let n : room_after c split.records room ≡ room - length o.written = room_left c split.records room ∙ ap (λ (w : List ℕ). room - length w)
      (sym split.replies) in
      either_eq (λ (x : ℕ). run_of (over k) split.rest (room_after c split.records room) ≡ retold (run_of k split.rest (room_after c split.records
      room))) o.refusal 0 0 0
      (λ e.
      subst (λ (r : List ℕ). run_of (over k) r (room_after c split.records room) ≡ retold (run_of k r (room_after c split.records room)))
      (sym (split.complete e))
      (nothing lawful (over k) (room_after c split.records room) ∙ sym (ap retold (nothing lawful k (room_after c split.records room)))))
      (λ e.
      let r : drop o.taken l ≡ split.rest = ap₂ (λ (i : ℕ) (x : List ℕ). drop i x) split.taken split.parts ∙ after_joined split.records
      split.rest in
      let there : (d : Card) → run_of d split.rest (room_after c split.records room) ≡ record { refusal = o.refusal; state = d; taken = 0; written = [] } =
      λ d. ap₂ (λ (x : List ℕ) (i : ℕ). run_of d x i) (sym r) n ∙ stops_on c l room e d in
      there (over k) ∙ sym (ap retold (there k)))

  run_told : (c : Card) (l : List ℕ) (room : ℕ) → c.on.rule ≡ by.rule → (split : Split c l room (run_of c l room)) → NoReset split.records
      → run_of (over c) l room ≡ retold (run_of c l room)
  run_told c l room q split z =
      let rs = split.records in
      let rest = split.rest in
      ap (λ (x : List ℕ). run_of (over c) x room) split.parts
      ∙ in_turn_lem (over c) rs rest room (each_told c rs room q z split.each)
      ∙ turns c rs rest room q z split.each (rest_told c l room split)
      ∙ sym (ap retold (ap (λ (x : List ℕ). run_of c x room) split.parts ∙ in_turn_lem c rs rest room split.each))

  -- an answer, whichever way a test goes
  record Rereads (a b : CardAnswer) : Type 0 where
    is : a ≡ reread b

  pick : (x : Bool) {a b c d : CardAnswer} → Rereads a b → Rereads c d → Rereads (cond x a c) (cond x b d)
  pick true p q = p
  pick false p q = q

  event_told : (c : Card) (kind byte : ℕ) → c.on.rule ≡ by.rule → (kind ≡ 5 → ⊥) → Rereads (answer_to_kind (over c) kind byte) (answer_to_kind c kind byte)
  event_told c kind byte q z =
      either_eq T kind 1 _ _ (λ e. record { is = refl }) (λ a.
      either_eq T kind 2 _ _ (λ e. record { is = refl }) (λ b.
      either_eq T kind 3 _ _ (λ e. record { is = ap (λ (x : Rule). answer_with by c.memory (CommandEvent byte) (command_under x c.chip byte)) (sym q) })
      (λ d.
      either_eq T kind 4 _ _ (λ e. record { is = refl }) (λ f.
      either_eq T kind 5 _ _ (λ e. absurd (z e)) (λ g.
      either_eq T kind 6 _ _ (λ e. record { is = refl }) (λ h.
      either_eq T kind 7 _ _ (λ e. pick (busy c.chip) (record { is = refl }) (record { is = refl })) (λ i.
      either_eq T kind 8 _ _ (λ e. pick (busy c.chip) (record { is = refl }) (record { is = refl })) (λ j. record { is = refl }))))))))
    where
      T : EventKind → Type 0
      T k = Rereads (answered_by (over c) byte k) (answered_by c byte k)

-- ---- the calls
module _ (g h : Given) (C : Chosen g) (D : Chosen h) (same : g.rule ≡ h.rule) where
  rules : (settings_in g).rule ≡ (settings_in h).rule
  rules = ap rule_of same

  calls_alike : (state input replies report : List ℕ) (split : Split (card_in (settings_in g) state) input (length replies) (run_of (card_in (settings_in g) state)
      input (length replies)))
      → NoReset split.records → run_call g state input replies report ≡ run_call h state input replies report
  calls_alike state input replies report split z =
      let e = run_told (settings_in h) (card_in (settings_in g) state) input (length replies) rules split z in
      run_chosen g.mode g.rule state input replies report C.mode C.rule
      ∙ ap (λ (o : Outcome). cond (eqb (length report) 9) (cond (is_state state) (cond (ltb 12288 (length input)) (away InputTooLong state replies)
      (ran_of (length state) o replies)) (away BadState state replies)) (record { result = 14; state = state; replies = replies; report = report })) (sym e)
      ∙ sym (run_chosen h.mode h.rule state input replies report D.mode D.rule)

  events_alike : (state : List ℕ) (kind byte : ℕ) → (kind ≡ 5 → ⊥) → event_call g state kind byte ≡ event_call h state kind byte
  events_alike state kind byte z =
      event_chosen g.mode g.rule state kind byte C.mode C.rule
      ∙ ap (λ (a : CardAnswer). cond (is_state state) (signal_by state a) (unsent BadState state)) (sym (event_told (settings_in h) (card_in (settings_in g) state)
      kind byte rules z).is)
      ∙ sym (event_chosen h.mode h.rule state kind byte D.mode D.rule)

pub modes_differ_at_reset_alone : ModesAlike
modes_differ_at_reset_alone = record {
  runs = λ on by s m file room q split z.
      let e = run_told by (card_with on s m) file room q split z in
      record {
        refusal = sym (ap (λ (o : Outcome). o.refusal) e);
        chip = sym (ap (λ (o : Outcome). o.state.chip) e);
        memory = sym (ap (λ (o : Outcome). o.state.memory) e);
        taken = sym (ap (λ (o : Outcome). o.taken) e);
        written = sym (ap (λ (o : Outcome). o.written) e);
      };
  calls = λ g h C D e state input replies report split z. calls_alike g h C D e state input replies report split z;
  events = λ g h C D e state kind byte z. events_alike g h C D e state kind byte z;
}
