-- Demand 3 for files of any records: the records leave what their events leave, and these are the chain's; the chain that is met is computed. Assumes nothing.
use mathlib.Core.Path.{◌≡◌, refl, sym, ap, ap₂, ◌∙◌, subst, subst₂}
use mathlib.Core.Bool.{Bool, true, ◌&&◌}
use mathlib.Core.Logic.{inr}
use mathlib.Core.List.{List, [], ◌∷◌, ◌++◌, map, append-nil}
use Prim.Native.Nat.{ℕ, zero, suc, ◌+◌, ◌*◌, ◌-◌, ◌≤◌}
use native.Mathlib.Omega.{arith}
use borrow.Author.Tests.{eqb-true}
use lib.Dec.{lit<, eqb}
use lib.Ieee.{size}
use lib.ListN.{length, take, drop, get_or, replicate}
use lib.Signed.{le_z_yes}
use Rattle.float.specs.Word.{value}
use Rattle.float.specs.Float.{add, sub, mul, div}
use Rattle.float.specs.Convert.{chsf}
use Rattle.codes.specs.Codes.{decoded}
use Rattle.chip.specs.Status.{status_of}
use Rattle.chip.specs.Commands.{floats}
use Rattle.chip.specs.State.{Answer}
use Rattle.chip.specs.Event.{Push, Pop, Command, Status, Reset, Acknowledge}
use Rattle.chip.specs.Step.{push_of, carried, command_under}
use Rattle.record_files.proofs.Append.{nothing}
use Rattle.terms.specs.declared.Settings.{Settings}
use Rattle.terms.specs.Refusal.{number_of}
use Rattle.record_runs.specs.Record.{push_all, before, reply_of}
use Rattle.record_runs.specs.Run.{Outcome, run_of}
use Rattle.record_runs.proofs.Prefix.{lawful}
use Rattle.promises.specs.Remembered.{after_all}
use Rattle.error_memory.specs.declared.Memory.{Memory}
use Rattle.error_memory.specs.Event.{Event}
use Rattle.error_memory.specs.Event.{Chip, Recall, Forget}
use Rattle.error_memory.specs.Memory.{Card, card_with, event_in}
use Rattle.state_bytes.specs.Bytes.{is_state, card_in, laid_out}
use Rattle.state_bytes.specs.Calls.{Called, ran_of, signal_of}
use Rattle.state_bytes.proofs.Calling.{good}
use Rattle.promises.specs.Stack.{tos}
use Rattle.promises.specs.FloatWords.{Le}
use Rattle.promises.specs.Given.{Given, Chosen, settings_in, run_call}
use Rattle.promises.specs.RecordFiles.{IsRecord, push, pop, command, status, reset, acknowledge, recall, forget}
use Rattle.promises.specs.Records.{joined, EachTaken, replies_of, in_turn}
use Rattle.promises.specs.Chains.{Step, Add, Subtract, Multiply, Divide, TakeFrom, Change, Constants, commands_in, chain_of, run_events}
use Rattle.promises.specs.Cores.{Core, Meets, driven, answers_of, all_zero, on_bus, bus_run, word_left}
use Rattle.promises.specs.ErrorMemory.{record_events, events_of_records}
use Rattle.promises.specs.ChainFiles.{Carries, all_answered, word_at_end, Demand3Records, ChainMet}
use Rattle.promises.proofs.Measures.{ours_state, theirs_state}
use Rattle.chip.proofs.Rows.{both_of_lem}
use Rattle.promises.proofs.Records.{in_turn_lem, record_run}
use Rattle.promises.proofs.Cores.{cores, sent, bus_told}
use Rattle.promises.proofs.ErrorMemory.{records_are_events}

-- records in turn that are each taken end with 0
taken_end : (rs : List (List ℕ)) (s : Card) (room : ℕ) → EachTaken s rs room → (in_turn s rs [] room).refusal ≡ 0
taken_end [] s room h = ap (λ (o : Outcome). o.refusal) (nothing lawful s room)
taken_end (r ∷ rs) s room h = taken_end rs _ _ h.2

-- ---- every record of a chain is answered 0
-- pushes and commands: none of them reads a byte
abbrev Silent : List Event → Type 0
Silent [] = Unit
Silent (Chip (Push b) ∷ es) = Silent es
Silent (Chip (Command code) ∷ es) = Silent es
Silent (Chip Pop ∷ es) = ⊥
Silent (Chip Status ∷ es) = ⊥
Silent (Chip Reset ∷ es) = ⊥
Silent (Chip Acknowledge ∷ es) = ⊥
Silent (Recall ∷ es) = ⊥
Silent (Forget ∷ es) = ⊥

chain_silent : (sr : ℕ → Bool) (ks : List Step) → Silent (on_bus (chain_of sr ks))
chain_silent sr [] = tt
chain_silent sr (Add c ∷ ks) = chain_silent (λ (x : ℕ). sr (commands_in (Add c) + x)) ks
chain_silent sr (Subtract c ∷ ks) = chain_silent (λ (x : ℕ). sr (commands_in (Subtract c) + x)) ks
chain_silent sr (Multiply c ∷ ks) = chain_silent (λ (x : ℕ). sr (commands_in (Multiply c) + x)) ks
chain_silent sr (Divide c ∷ ks) = chain_silent (λ (x : ℕ). sr (commands_in (Divide c) + x)) ks
chain_silent sr (TakeFrom c ∷ ks) = chain_silent (λ (x : ℕ). sr (commands_in (TakeFrom c) + x)) ks
chain_silent sr (Change ∷ ks) = chain_silent (λ (x : ℕ). sr (commands_in Change + x)) ks

-- the first of some answers is 0, and so are the others
first_zero : (refusal byte : ℕ) (rest : Bool) → (eqb (256 * refusal + byte) 0 && rest) ≡ true → (refusal ≡ 0) × (rest ≡ true)
first_zero refusal byte rest h =
    let t = both_of_lem (eqb (256 * refusal + byte) 0) rest h in
    let z : 256 * refusal + byte ≡ 0 = eqb-true (256 * refusal + byte) 0 t.0 in
    (omega arith, t.1)

-- a record with its events: what is left of the events, and the reply
abbrev Zero : Card → List ℕ → ℕ → List Event → Type 0
Zero k r room es =
    ((run_of k r room).written ≡ 3 ∷ 0 ∷ (get_or r 2 0 + 128) ∷ 0 ∷ 0 ∷ []) × Silent es × (all_zero (answers_of (run_of k r room).state es) ≡ true)

-- where a record is taken, and its events and those behind it are answered 0
abbrev TakenSilently : Card → ℕ → List Event → List ℕ → Type 0
TakenSilently k room es r =
    (run_of k r room).refusal ≡ 0 → Silent (record_events r ++ es) → all_zero (answers_of k (record_events r ++ es)) ≡ true → Zero k r room es

abbrev pushes : List ℕ → List Event
pushes p = map (λ (b : ℕ). Chip (Push b)) p

silent_pushes : (p : List ℕ) (es : List Event) → Silent (pushes p ++ es) → Silent es
silent_pushes [] es h = h
silent_pushes (b ∷ p) es h = silent_pushes p es h

zero_pushes : (on : Settings) (m : Memory) (p : List ℕ) (a : Answer) (es : List Event) → number_of a.refusal ≡ 0
    → all_zero (answers_of (card_with on a.state m) (pushes p ++ es)) ≡ true
    → (number_of (push_all a p).refusal ≡ 0) × (all_zero (answers_of (card_with on (push_all a p).state m) es) ≡ true)
zero_pushes on m [] a es n h = (n, h)
zero_pushes on m (b ∷ p) a es n h = let f = first_zero _ _ _ h in zero_pushes on m p (push_of a.state b) es f.0 f.1

no_pops : (n : ℕ) (es : List Event) → 1 ≤ n → Silent (replicate n (Chip Pop) ++ es) → ⊥
no_pops zero es l h = omega arith
no_pops (suc n) es l h = h

push_zero : (k : Card) (p : List ℕ) (room : ℕ) (es : List Event) → 1 ≤ length p → length p ≤ 240 → TakenSilently k room es ((2 + length p) ∷ 0 ∷ 1 ∷ 0 ∷ p)
push_zero k p room es a b z s h =
    let o = record_run k ((2 + length p) ∷ 0 ∷ 1 ∷ 0 ∷ p) room (push p a b refl) z in
    let f = zero_pushes k.on k.memory p (before k.chip) es refl h in (
      ap (λ (x : Outcome). x.written) o ∙ ap (λ (n : ℕ). reply_of 1 n []) f.0,
      silent_pushes p es s,
      ap (λ (x : Outcome). all_zero (answers_of x.state es)) o ∙ f.1,
    )

command_zero : (k : Card) (code room : ℕ) (es : List Event) → TakenSilently k room es (3 ∷ 0 ∷ 3 ∷ 0 ∷ code ∷ [])
command_zero k code room es z s h =
    let o = record_run k (3 ∷ 0 ∷ 3 ∷ 0 ∷ code ∷ []) room (command code refl) z in
    let f = first_zero (number_of (event_in k (Chip (Command code))).refusal) _ _ h in (
      ap (λ (x : Outcome). x.written) o ∙ ap (λ (n : ℕ). reply_of 3 n []) f.0,
      s,
      ap (λ (x : Outcome). all_zero (answers_of x.state es)) o ∙ f.1,
    )

one_zero : (k : Card) (r : List ℕ) (room : ℕ) (es : List Event) → IsRecord r → TakenSilently k room es r
one_zero k r room es (push p a b e) = subst (TakenSilently k room es) (sym e) (push_zero k p room es a b)
one_zero k r room es (command code e) = subst (TakenSilently k room es) (sym e) (command_zero k code room es)
one_zero k r room es (pop n a b e) = λ z s h. absurd (no_pops n es a (subst (λ (x : List ℕ). Silent (record_events x ++ es)) e s))
one_zero k r room es (status e) = λ z s h. absurd (subst (λ (x : List ℕ). Silent (record_events x ++ es)) e s)
one_zero k r room es (reset e) = λ z s h. absurd (subst (λ (x : List ℕ). Silent (record_events x ++ es)) e s)
one_zero k r room es (acknowledge e) = λ z s h. absurd (subst (λ (x : List ℕ). Silent (record_events x ++ es)) e s)
one_zero k r room es (recall e) = λ z s h. absurd (subst (λ (x : List ℕ). Silent (record_events x ++ es)) e s)
one_zero k r room es (forget e) = λ z s h. absurd (subst (λ (x : List ℕ). Silent (record_events x ++ es)) e s)

all_zero_lem : (rs : List (List ℕ)) (k : Card) (room : ℕ) → EachTaken k rs room → Silent (events_of_records rs) → all_zero (answers_of k (events_of_records rs)) ≡ true
    → joined (replies_of k rs room) ≡ all_answered rs
all_zero_lem [] k room t s h = refl
all_zero_lem (r ∷ rs) k room t s h =
    let o = one_zero k r room (events_of_records rs) t.0 t.1 s h in
    ap₂ (λ (x y : List ℕ). x ++ y) o.0 (all_zero_lem rs (run_of k r room).state (room - length (run_of k r room).written) t.2 o.1 o.2)

module _ (g : Given) (C : Chosen g) (c : Core) (M : Meets g c) (state : List ℕ) (w : ℕ) (sr : ℕ → Bool) (ks : List Step) (rs : List (List ℕ))
    (replies report : List ℕ)
    (K : Carries g state w sr ks rs replies report) where
  abbrev card : Card
  card = card_in (settings_in g) state

  abbrev ran : Outcome
  ran = run_of card (joined rs) (length replies)

  call_is : run_call g state (joined rs) replies report ≡ ran_of (length state) ran replies
  call_is = good g.mode g.rule state (joined rs) replies report K.nine C.mode C.rule (theirs_state K.begins.good) K.short

  result_is : (c.run state (joined rs) replies report).result ≡ 0
  result_is =
      (M.run state (joined rs) replies report K.begins.bytes K.bytes_lent.0 K.bytes_lent.1 K.bytes_lent.2).result_is
      ∙ ap (λ (x : Called). x.result) call_is
      ∙ ap (λ (l : List ℕ). (run_of card l (length replies)).refusal) (sym (append-nil (joined rs)))
      ∙ ap (λ (o : Outcome). o.refusal) (in_turn_lem card rs [] (length replies) K.each) ∙ taken_end rs card (length replies) K.each

  state_is : (c.run state (joined rs) replies report).state ≡ driven c state (bus_run w sr ks)
  state_is =
      (M.run state (joined rs) replies report K.begins.bytes K.bytes_lent.0 K.bytes_lent.1 K.bytes_lent.2).state_is
      ∙ ap (λ (x : Called). x.state) call_is
      ∙ ap (laid_out (length state)) (records_are_events card rs (length replies) K.each ∙ ap (after_all card) K.events_are)
      ∙ sym ((cores g C c M).states state (bus_run w sr ks) K.begins.bytes K.begins.good (sent w sr ks))

  -- the run writes the replies of its records
  written_is : (ls : List (List ℕ)) (k : Card) (room : ℕ) → EachTaken k ls room → (in_turn k ls [] room).written ≡ joined (replies_of k ls room)
  written_is [] k room h = ap (λ (o : Outcome). o.written) (nothing lawful k room)
  written_is (r ∷ ls) k room h = ap (λ (l : List ℕ). (run_of k r room).written ++ l) (written_is ls _ _ h.2)

  replies_zero : Constants ks → ran.written ≡ all_answered rs
  replies_zero T =
      let events = bus_run w sr ks in
      let back = (cores g C c M).returns state events K.begins.bytes K.begins.good (sent w sr ks) (inr (bus_told (run_events w sr ks))) in
      let zero = sym (ap all_zero back) ∙ (cores g C c M).chain_answers state w sr ks K.begins T in
      ap (λ (l : List ℕ). (run_of card l (length replies)).written) (sym (append-nil (joined rs)))
      ∙ ap (λ (o : Outcome). o.written) (in_turn_lem card rs [] (length replies) K.each)
      ∙ written_is rs card (length replies) K.each
      ∙ all_zero_lem rs card (length replies) K.each (subst Silent (sym K.events_are) (chain_silent sr ks))
      (subst (λ (es : List Event). all_zero (answers_of card es) ≡ true) (sym K.events_are) zero)

  replies_are : Constants ks → (c.run state (joined rs) replies report).replies ≡ all_answered rs ++ drop (length (all_answered rs)) replies
  replies_are T =
      (M.run state (joined rs) replies report K.begins.bytes K.bytes_lent.0 K.bytes_lent.1 K.bytes_lent.2).replies_is
      ∙ ap (λ (x : Called). x.replies) call_is
      ∙ ap (λ (l : List ℕ). l ++ drop (length l) replies) (replies_zero T)

  word_is : word_at_end c state rs replies report ≡ word_left c state (bus_run w sr ks)
  word_is = ap (tos 4) state_is

pub demand_3_records : Demand3Records
demand_3_records g C c M = record {
  done = λ state w sr ks rs replies report K T. result_is g C c M state w sr ks rs replies report K;
  answers = λ state w sr ks rs replies report K T. replies_are g C c M state w sr ks rs replies report K T;
  on_top = λ state w sr ks rs replies report K T.
      ap (take 4) (state_is g C c M state w sr ks rs replies report K) ∙ (cores g C c M).chain_bytes state w sr ks K.begins T;
  even = λ state state' v w sr sr' ks rs rs' replies replies' report report' K L T q q' l e.
      subst₂ Le (sym (word_is g C c M state v sr ks rs replies report K)) (sym (word_is g C c M state' w sr' ks rs' replies' report' L))
      ((cores g C c M).chain_even state state' v w sr sr' ks K.begins L.begins T q q' l e);
  odd = λ state state' v w sr sr' ks rs rs' replies replies' report report' K L T q q' l e.
      subst₂ Le (sym (word_is g C c M state' w sr' ks rs' replies' report' L)) (sym (word_is g C c M state v sr ks rs replies report K))
      ((cores g C c M).chain_odd state state' v w sr sr' ks K.begins L.begins T q q' l e);
}

pub chain_met : ChainMet
unfolding signal_of is_state push_of carried command_under floats decoded status_of add sub mul div chsf size value
chain_met = record {
  begin = (
    record { bytes = omega arith; good = ours_state refl; whole = refl; proper = record { fits = lit< tt; is_proper = refl } },
    record { bytes = omega arith; good = ours_state refl; whole = refl; proper = record { fits = lit< tt; is_proper = refl } },
    (
      record { fits = lit< tt; is_proper = refl },
      (
        record { fits = lit< tt; is_proper = refl },
        (
          tt,
          (
            record { fits = lit< tt; is_proper = refl },
            (
              record { fits = lit< tt; is_proper = refl },
              (record { fits = lit< tt; is_proper = refl }, tt),
            ),
          ),
        ),
      ),
    ),
    le_z_yes tt,
  );
  quiet = (refl, refl);
  reverses = refl;
  words = (refl, refl);
  turned = (le_z_yes tt, λ (h : Le 0x0391f0ee 0x02d75ab2). h.le);
}
