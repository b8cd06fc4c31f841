-- Undoing a shuffle: each command is answered 0 and moves the bytes of the stack alone; with 16 bytes spelled out, a command and what undoes it leave each in
-- its place;
-- a list that changes none may stand between two that change none together, and so every list is undone. Assumes nothing.
use mathlib.Core.Path.{◌≡◌, refl, sym, ap, ap₂, subst, ◌∙◌}
use mathlib.Core.Logic.{inr}
use mathlib.Core.Bool.{Bool, true, false, ◌&&◌}
use mathlib.Core.List.{List, [], ◌∷◌, ◌++◌, append_assoc, append-nil}
use Prim.Native.Nat.{ℕ, suc, ◌+◌, ◌%◌, ◌<◌}
use borrow.Author.Tests.{lt-leb}
use lib.Dec.{eqb, lit<, lit≤}
use lib.ListN.{length, take, drop, get_or, length-append}
use lib.Seq.{take_at, drop_at}
use Rattle.terms.specs.declared.Width.{Width}
use Rattle.terms.specs.declared.Width.TheVariants.{Single, Double}
use Rattle.terms.specs.Width.{size_of}
use Rattle.terms.specs.Refusal.{number_of}
use Rattle.terms.specs.declared.Settings.{Settings}
use Rattle.stack.specs.Stack.{IsStack, rotated, popped_all, exchanged}
use Rattle.stack.proofs.Elems.{elems, spelled}
use Rattle.stack.proofs.Several.{pops_block}
use Rattle.promises.proofs.Round.{once_round}
use Rattle.codes.specs.Command.{Command}
use Rattle.codes.specs.Command.{Pop, Xch}
use Rattle.codes.specs.Command.{Known}
use Rattle.codes.specs.Codes.{sr, decoded}
use Rattle.chip.specs.State.{State}
use Rattle.chip.specs.State.{Answer}
use Rattle.chip.specs.Event.{Event}
use Rattle.chip.specs.Event.{Command as CommandEvent}
use Rattle.chip.specs.State.{settled}
use Rattle.chip.specs.Status.{status_of, error_of}
use Rattle.chip.specs.Commands.{outcome_of, proper_operands}
use Rattle.chip.specs.Step.{done, carried, command_under, answer_to}
use Rattle.promises.specs.BusEvents.{after_events, answered, AtRest, after_pops}
use Rattle.chip.proofs.Outcomes.{status_lt, status_error, outcome_fair}
use Rattle.chip.proofs.Accepted.{accepts}
use Rattle.chip.proofs.InTurn.{turned as passed}
use Rattle.promises.proofs.InTurn.{pops_state}
use Rattle.promises.proofs.OnTop.{idle}
use Rattle.promises.proofs.Events.{at_rest_lt, at_rest}
use Rattle.error_memory.specs.Event.{Event as CardEvent}
use Rattle.error_memory.specs.Event.{Chip}
use Rattle.error_memory.specs.Memory.{Card, event_in, kept_after}
use Rattle.promises.specs.Remembered.{after_all}
use Rattle.error_memory.proofs.Kept.{none_left}
use Rattle.promises.proofs.Remembered.{chip_alone}
use Rattle.state_bytes.specs.Bytes.{state_of, card_in, state_bytes_of, memory_bytes_of, flag_of, laid_out}
use Rattle.state_bytes.proofs.Cards.{behind, laid_is, laid_at_lem, card_returns, card_ready}
use Rattle.state_bytes.specs.Calls.{joined_of}
use Rattle.promises.proofs.Measures.{theirs_stack, ours_stack, theirs_state}
use Rattle.promises.specs.Chains.{command_event}
use Rattle.promises.specs.Given.{Given, Chosen, settings_in}
use Rattle.promises.specs.Cores.{Core, Meets, on_bus, driven, returned, answers_of, Sendable, all_zero}
use Rattle.promises.specs.Undo.{Shuffle, POPS, POPD, POPF, XCHS, XCHD, XCHF, code_of, command_of, undo_one, undo, eight_pops, four_popd, four_popf, shuffled}
use Rattle.promises.specs.Undo.{AtChip, BytesAtRest, ChangesNoByte, Undone, Composes, FullTurns, Looks, SixCodes, UndoExample}
use Rattle.promises.proofs.Chains.{coded, coded_is}
use Rattle.promises.proofs.Cores.{code_sendable, bus_told, cores}

-- ---- the rule
-- what holds of each holds of all
each : (P : Shuffle → Type 0) → P POPS → P POPD → P POPF → P XCHS → P XCHD → P XCHF → (k : Shuffle) → P k
each P a b c d e f POPS = a
each P a b c d e f POPD = b
each P a b c d e f POPF = c
each P a b c d e f XCHS = d
each P a b c d e f XCHD = e
each P a b c d e f XCHF = f

pub six_codes : SixCodes
unfolding decoded
six_codes = each (λ k. decoded (code_of k) ≡ Known (command_of k)) refl refl refl refl refl refl

undo_joined : (ks ls : List Shuffle) → undo (ks ++ ls) ≡ undo ls ++ undo ks
undo_joined [] ls = sym (append-nil (undo ls))
undo_joined (k ∷ ks) ls = ap (λ (x : List Shuffle). x ++ undo_one k) (undo_joined ks ls) ∙ append_assoc (undo ls) (undo ks) (undo_one k)

-- ---- one command
-- its code is below 128 and stands for it
short_code : (k : Shuffle) → (code_of k < 128) × (decoded (code_of k % 128) ≡ Known (command_of k))
short_code =
    each (λ k. (code_of k < 128) × (decoded (code_of k % 128) ≡ Known (command_of k))) (lit< tt, six_codes POPS) (lit< tt, six_codes POPD)
    (lit< tt, six_codes POPF) (lit< tt, six_codes XCHS) (lit< tt, six_codes XCHD) (lit< tt, six_codes XCHF)

-- what holds of POP and XCH at each width holds of the six
of_six : (P : Command → Type 0) → ((w : Width) → P (Pop w)) → ((w : Width) → P (Xch w)) → (k : Shuffle) → P (command_of k)
of_six P pop xch = each (λ k. P (command_of k)) (pop Single) (pop Double) (pop Double) (xch Single) (xch Double) (xch Double)

any_operands : (k : Shuffle) (l : List ℕ) → proper_operands (command_of k) l ≡ true
any_operands k l = of_six (λ (c : Command). proper_operands c l ≡ true) (λ w. refl) (λ w. refl) k

module _ (on : Settings) where
  -- what it leaves: the bytes, and a status that is not busy and has no error bit
  abbrev turned : Shuffle → List ℕ → List ℕ
  turned k l = (outcome_of on.rule (command_of k) l).stack

  abbrev status_after : Shuffle → List ℕ → ℕ
  status_after k l = (outcome_of on.rule (command_of k) l).status

  moved_clear : (w : Width) (l : List ℕ) → (status_of w l 0 false < 128) × (error_of (status_of w l 0 false) ≡ 0)
  moved_clear w l = (status_lt w l 0 false (lit< tt), status_error w l 0 false (lit< tt))

  clear : (k : Shuffle) (l : List ℕ) → (status_after k l < 128) × (error_of (status_after k l) ≡ 0)
  clear k l =
      of_six (λ (c : Command). ((outcome_of on.rule c l).status < 128) × (error_of (outcome_of on.rule c l).status ≡ 0))
      (λ w. moved_clear w (rotated (size_of w) l)) (λ w. moved_clear w (exchanged (size_of w) l)) k

  turned_stack : (k : Shuffle) (l : List ℕ) → IsStack l → IsStack (turned k l)
  turned_stack k l S = (outcome_fair l S on.rule (command_of k) (any_operands k l)).stack

  -- the state after it
  abbrev after : Shuffle → Bool → State → State
  after k b s = settled s (sr (coded b (code_of k))) (outcome_of on.rule (command_of k) s.stack)

  obeyed : (k : Shuffle) (b : Bool) (s : State) → AtRest s → answer_to on s (command_event b (code_of k)) ≡ done 0 (after k b s)
  obeyed k b s R = accepts on.rule s (coded b (code_of k)) (command_of k) (at_rest_lt R) R.whole (coded_is b (code_of k) (short_code k).1)
      (any_operands k s.stack)

  rests : (k : Shuffle) (b : Bool) (s : State) → AtRest s → AtRest (after k b s)
  rests k b s R = record { taken = lt-leb 128 (status_after k s.stack) (clear k s.stack).0; whole = R.whole }

  -- ---- a list
  abbrev left_by : List Shuffle → List ℕ → List ℕ
  left_by [] l = l
  left_by (k ∷ ks) l = left_by ks (turned k l)

  -- what events do: each is answered 0, the stack at the end is l, and nothing is pending
  record Did (s : State) (es : List Event) (l : List ℕ) : Type 0 where
    all_answered_lem : answered on s es ≡ true
    stack_is : (after_events on s es).stack ≡ l
    at_end : AtRest (after_events on s es)

  worked : (ks : List Shuffle) (bit : ℕ → Bool) (s : State) → AtRest s → Did s (shuffled bit ks) (left_by ks s.stack)
  worked [] bit s R = record { all_answered_lem = refl; stack_is = refl; at_end = R }
  worked (k ∷ ks) bit s R =
      let e = obeyed k (bit 0) s R in
      let es = shuffled (λ (n : ℕ). bit (suc n)) ks in
      let d = worked ks (λ (n : ℕ). bit (suc n)) (after k (bit 0) s) (rests k (bit 0) s R) in
      record {
        all_answered_lem = subst (λ (a : Answer). (eqb (number_of a.refusal) 0 && answered on a.state es) ≡ true) (sym e) d.all_answered_lem;
        stack_is = subst (λ (a : Answer). (after_events on a.state es).stack ≡ left_by (k ∷ ks) s.stack) (sym e) d.stack_is;
        at_end = subst (λ (a : Answer). AtRest (after_events on a.state es)) (sym e) d.at_end;
      }

  -- a list that leaves every stack as it was, which is to say that it changes no byte at the chip
  abbrev Stays : List Shuffle → Type 0
  Stays ks = (l : List ℕ) → IsStack l → left_by ks l ≡ l

  at_chip : (ks : List Shuffle) → Stays ks → AtChip on ks
  at_chip ks h = record {
    every_answered = λ s bit R. (worked ks bit s R).all_answered_lem;
    all_bytes = λ s bit R S. (worked ks bit s R).stack_is ∙ h s.stack (theirs_stack S);
    ready_again = λ s bit R. (worked ks bit s R).at_end;
  }

  stays : (ks : List Shuffle) → AtChip on ks → Stays ks
  stays ks c l S =
      let R = at_rest l 0 false (lit< tt) in
      sym (worked ks (λ (n : ℕ). false) (idle l 0 false) R).stack_is ∙ c.all_bytes (idle l 0 false) (λ (n : ℕ). false) R (ours_stack S)

  -- ---- lists joined
  left_append : (ks ls : List Shuffle) (l : List ℕ) → left_by (ks ++ ls) l ≡ left_by ls (left_by ks l)
  left_append [] ls l = refl
  left_append (k ∷ ks) ls l = left_append ks ls (turned k l)

  left_stack : (ks : List Shuffle) (l : List ℕ) → IsStack l → IsStack (left_by ks l)
  left_stack [] l S = S
  left_stack (k ∷ ks) l S = left_stack ks (turned k l) (turned_stack k l S)

  -- a list that stays does nothing between two others
  as_without : (ks ms ls : List Shuffle) → Stays ms → (l : List ℕ) → IsStack l → left_by (ks ++ (ms ++ ls)) l ≡ left_by (ks ++ ls) l
  as_without ks ms ls m l S =
      left_append ks (ms ++ ls) l ∙ left_append ms ls (left_by ks l)
      ∙ ap (left_by ls) (m (left_by ks l) (left_stack ks l S)) ∙ sym (left_append ks ls l)

  between : (ks ms ls : List Shuffle) → Stays (ks ++ ls) → Stays ms → Stays (ks ++ (ms ++ ls))
  between ks ms ls h m l S = as_without ks ms ls m l S ∙ h l S

  without : (ks back ms again : List Shuffle) → Stays ms → Stays (ks ++ (back ++ (ms ++ again))) → Stays (ks ++ (back ++ again))
  without ks back ms again m h l S =
      left_append ks (back ++ again) l ∙ sym (as_without back ms again m (left_by ks l) (left_stack ks l S))
      ∙ sym (left_append ks (back ++ (ms ++ again)) l) ∙ h l S

  both_restored : (ks ls back again : List Shuffle) → Stays (ks ++ back) → Stays (ls ++ again) → Stays ((ks ++ ls) ++ (again ++ back))
  both_restored ks ls back again h g =
      subst Stays (ap (λ (x : List Shuffle). ks ++ x) (append_assoc ls again back) ∙ sym (append_assoc ks ls (again ++ back)))
      (between ks (ls ++ again) back h g)

  -- ---- on 16 bytes that are spelled out
  stay : (ks : List Shuffle) → ((l : List ℕ) → left_by ks (elems l 0 16) ≡ elems l 0 16) → Stays ks
  stay ks h l S = spelled (λ (x : List ℕ). left_by ks x ≡ x) l S.sixteen (h l)

  record OneUndone : Type 0 where
    pops : Stays (POPS ∷ undo_one POPS)
    popd : Stays (POPD ∷ undo_one POPD)
    popf : Stays (POPF ∷ undo_one POPF)
    xchs : Stays (XCHS ∷ undo_one XCHS)
    xchd : Stays (XCHD ∷ undo_one XCHD)
    xchf : Stays (XCHF ∷ undo_one XCHF)

  each_undone : OneUndone
  each_undone = record {
    pops = stay (POPS ∷ undo_one POPS) (λ l. refl);
    popd = stay (POPD ∷ undo_one POPD) (λ l. refl);
    popf = stay (POPF ∷ undo_one POPF) (λ l. refl);
    xchs = stay (XCHS ∷ undo_one XCHS) (λ l. refl);
    xchd = stay (XCHD ∷ undo_one XCHD) (λ l. refl);
    xchf = stay (XCHF ∷ undo_one XCHF) (λ l. refl);
  }

  eight_stay : Stays eight_pops
  eight_stay = stay eight_pops (λ l. refl)

  four_stay : Stays four_popd
  four_stay = stay four_popd (λ l. refl)

  four_float_stay : Stays four_popf
  four_float_stay = stay four_popf (λ l. refl)

  one_undone : (k : Shuffle) → Stays (k ∷ undo_one k)
  one_undone =
      let u = each_undone in each (λ k. Stays (k ∷ undo_one k)) u.pops u.popd u.popf u.xchs u.xchd u.xchf

  list_undone : (ks : List Shuffle) → Stays (ks ++ undo ks)
  list_undone [] = λ l S. refl
  list_undone (k ∷ ks) =
      subst Stays (ap (λ (x : List Shuffle). k ∷ x) (append_assoc ks (undo ks) (undo_one k)))
      (between (k ∷ []) (ks ++ undo ks) (undo_one k) (one_undone k) (list_undone ks))

-- ---- through the event call
shuffle_sendable : (ks : List Shuffle) (bit : ℕ → Bool) → Sendable (on_bus (shuffled bit ks))
shuffle_sendable [] bit = tt
shuffle_sendable (k ∷ ks) bit = (code_sendable (bit 0) (code_of k) (short_code k).0, shuffle_sendable ks (λ (n : ℕ). bit (suc n)))

-- the card after a command: its chip is at rest, and its memory what it was
card_rests : (x : Card) (k : Shuffle) (b : Bool) → AtRest x.chip → AtRest (event_in x (Chip (command_event b (code_of k)))).card.chip
card_rests x k b R = subst (λ (a : Answer). AtRest a.state) (sym (obeyed x.on k b x.chip R)) (rests x.on k b x.chip R)

memory_stays : (x : Card) (k : Shuffle) (b : Bool) → AtRest x.chip → (event_in x (Chip (command_event b (code_of k)))).card.memory ≡ x.memory
memory_stays x k b R =
    ap (kept_after x.memory (CommandEvent (coded b (code_of k)))) (obeyed x.on k b x.chip R)
    ∙ sym (none_left x.memory (coded b (code_of k)) (status_after x.on k x.chip.stack) (clear x.on k x.chip.stack).1)

memory_kept : (ks : List Shuffle) (bit : ℕ → Bool) (x : Card) → AtRest x.chip → (after_all x (on_bus (shuffled bit ks))).memory ≡ x.memory
memory_kept [] bit x R = refl
memory_kept (k ∷ ks) bit x R =
    memory_kept ks (λ (n : ℕ). bit (suc n)) (event_in x (Chip (command_event (bit 0) (code_of k)))).card (card_rests x k (bit 0) R) ∙ memory_stays x k (bit 0) R

zero_answers : (ks : List Shuffle) (bit : ℕ → Bool) (x : Card) → AtRest x.chip → all_zero (answers_of x (on_bus (shuffled bit ks))) ≡ true
zero_answers [] bit x R = refl
zero_answers (k ∷ ks) bit x R =
    ap₂ ◌&&◌ (ap (λ (a : Answer). eqb (joined_of (number_of a.refusal) a.byte) 0) (obeyed x.on k (bit 0) x.chip R))
    (zero_answers ks (λ (n : ℕ). bit (suc n)) (event_in x (Chip (command_event (bit 0) (code_of k)))).card (card_rests x k (bit 0) R))

-- where the bytes of a card lie
module _ (x : Card) (sixteen : length x.chip.stack ≡ 16) (n : ℕ) where
  stack_laid : take 16 (laid_out n x) ≡ x.chip.stack
  stack_laid = ap (take 16) (laid_is n x) ∙ take_at x.chip.stack (behind n x) 16 sixteen

  memory_laid : drop 19 (laid_out n x) ≡ memory_bytes_of n x.memory
  memory_laid =
      drop_at (state_bytes_of x.chip) (memory_bytes_of n x.memory) 19
      (length-append x.chip.stack (flag_of x.chip.pending ∷ x.chip.status ∷ flag_of x.chip.service ∷ []) ∙ ap (λ (m : ℕ). m + 3) sixteen)

module _ (g : Given) (C : Chosen g) (ks : List Shuffle) (h : AtChip (settings_in g) ks) (c : Core) (M : Meets g c) (state : List ℕ) (bit : ℕ
    → Bool) (B : BytesAtRest state) where
  abbrev calls : List CardEvent
  calls = on_bus (shuffled bit ks)

  abbrev last : Card
  last = after_all (card_in (settings_in g) state) calls

  is_stack : IsStack (take 16 state)
  is_stack = (card_ready (settings_in g) state B.bytes (theirs_state B.good)).chip.stack

  chip_at_rest : AtRest (state_of state)
  chip_at_rest = record {
    taken = lt-leb 128 (get_or state 17 0) (card_ready (settings_in g) state B.bytes (theirs_state B.good)).chip.ready;
    whole = ap (λ (n : ℕ). eqb n 1) B.whole;
  }

  left_told : driven c state calls ≡ laid_out (length state) last
  left_told = (cores g C c M).states state calls B.bytes B.good (shuffle_sendable ks bit)

  stack_back : last.chip.stack ≡ take 16 state
  stack_back = ap (λ (s : State). s.stack) (chip_alone (card_in (settings_in g) state) (shuffled bit ks)) ∙ h.all_bytes (state_of state) bit
      chip_at_rest (ours_stack is_stack)

  nothing_pending : last.chip.pending ≡ false
  nothing_pending = ap (λ (s : State). s.pending) (chip_alone (card_in (settings_in g) state) (shuffled bit ks)) ∙ (h.ready_again (state_of state) bit
      chip_at_rest).whole

  sixteen_again : length last.chip.stack ≡ 16
  sixteen_again = ap length stack_back ∙ is_stack.sixteen

  returns_told : all_zero (returned c state calls) ≡ true
  returns_told =
      ap all_zero ((cores g C c M).returns state calls B.bytes B.good (shuffle_sendable ks bit) (inr (bus_told (shuffled bit ks))))
      ∙ zero_answers ks bit (card_in (settings_in g) state) chip_at_rest

  stack_told : take 16 (driven c state calls) ≡ take 16 state
  stack_told = ap (take 16) left_told ∙ stack_laid last sixteen_again (length state) ∙ stack_back

  pending_told : get_or (driven c state calls) 16 0 ≡ 0
  pending_told = ap (λ (l : List ℕ). get_or l 16 0) left_told ∙ laid_at_lem last sixteen_again (length state) 0 ∙ ap flag_of nothing_pending

  memory_told : drop 19 (driven c state calls) ≡ drop 19 state
  memory_told =
      ap (drop 19) left_told ∙ memory_laid last sixteen_again (length state)
      ∙ ap (memory_bytes_of (length state)) (memory_kept ks bit (card_in (settings_in g) state) chip_at_rest)
      ∙ sym (memory_laid (card_in (settings_in g) state) is_stack.sixteen (length state))
      ∙ ap (drop 19) (card_returns (settings_in g) state (theirs_state B.good))

-- ---- the statements
-- a list that stays under every setting changes no byte
changes_none : (ks : List Shuffle) → ((on : Settings) → Stays on ks) → ChangesNoByte ks
changes_none ks h =
    record {
      chip = λ on. at_chip on ks (h on);
      calls = λ g C c M.
          let at = at_chip (settings_in g) ks (h (settings_in g)) in
          record {
            all_return_0 = λ state bit B. returns_told g C ks at c M state bit B;
            bytes_0_to_15 = λ state bit B. stack_told g C ks at c M state bit B;
            byte_16 = λ state bit B. pending_told g C ks at c M state bit B;
            bytes_19_and_20 = λ state bit B. memory_told g C ks at c M state bit B;
          };
    }

pub undone : Undone
undone ks = changes_none (ks ++ undo ks) (λ on. list_undone on ks)

pub composes : Composes
composes = record {
  joined = undo_joined;
  restoring = λ ks ls back again h g.
      changes_none ((ks ++ ls) ++ (again ++ back)) (λ on. both_restored on ks ls back again (stays on (ks ++ back) (h.chip on))
      (stays on (ls ++ again) (g.chip on)));
  left_out = λ ks back ms again m h.
      changes_none (ks ++ (back ++ again)) (λ on. without on ks back ms again (stays on ms (m.chip on))
      (stays on (ks ++ (back ++ (ms ++ again))) (h.chip on)));
}

pub full_turns : FullTurns
full_turns = record {
  eight_pops_lem = changes_none eight_pops eight_stay;
  four_popd_lem = changes_none four_popd four_stay;
  four_popf_lem = changes_none four_popf four_float_stay;
}

-- ---- looks
stack_read : (n : ℕ) (s : State) → AtRest s → (after_pops n s).stack ≡ popped_all n s.stack
stack_read n s R = ap (λ (x : State). x.stack) (pops_state n s (at_rest_lt R))

even_pops : (p : Bool) → passed 16 p ≡ p
even_pops true = refl
even_pops false = refl

pub looks : Looks
looks = record {
  two_bytes = λ on s bit R S. stack_read 2 s R ∙ sym (pops_block 2 s.stack S.sixteen (lit≤ tt))
      ∙ sym (worked on (POPS ∷ []) bit s R).stack_is;
  four_bytes_lem = λ on s bit R S. stack_read 4 s R ∙ sym (pops_block 4 s.stack S.sixteen (lit≤ tt))
      ∙ sym (worked on (POPD ∷ []) bit s R).stack_is;
  sixteen_bytes = λ s R S.
      pops_state 16 s (at_rest_lt R)
      ∙ ap₂ (λ (l : List ℕ) (p : Bool). record { stack = l; pending = p; status = s.status; service = s.service }) (once_round 0 s.stack S.sixteen).1
      (even_pops s.pending);
}

-- ---- the example
pub undo_example : UndoExample
unfolding command_under carried decoded status_of
undo_example = record { by_rule = refl; stacks = refl; at_the_end = refl }
