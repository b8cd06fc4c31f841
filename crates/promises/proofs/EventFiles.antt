-- The file of events leaves what the events leave: each record does what its event does, the append law joins them, and the event call's contract gives the
-- same states and answers. Assumes nothing.
use mathlib.Core.Path.{◌≡◌, refl, sym, ap, ap₂, subst, subst₂, ◌∙◌}
use mathlib.Core.Logic.{inr, ⊎_elim}
use mathlib.Core.Bool.{Bool, true, false}
use mathlib.Core.List.{List, [], ◌∷◌, ◌++◌}
use Prim.Native.Nat.{ℕ, ◌-◌, ◌/◌, ◌%◌, ◌≤◌, ◌<◌}
use native.Mathlib.Omega.{arith}
use borrow.Author.Tests.{lt-leb, eqb-true}
use lib.Dec.{eqb, lit<}
use lib.ListN.{length, take, drop, get_or, length-append}
use Rattle.terms.specs.Refusal.{number_of}
use Rattle.promises.specs.FloatWords.{Le}
use Rattle.stack.specs.Stack.{Bytes, tos}
use Rattle.stack.proofs.Words.{byte_at, bytes_append}
use Rattle.chip.specs.State.{State}
use Rattle.terms.specs.declared.Settings.{Settings}
use Rattle.chip.specs.State.{Answer}
use Rattle.chip.specs.Event.{Event as ChipEvent}
use Rattle.chip.specs.Event.{Push, Pop, Command, Status, Reset, Acknowledge}
use Rattle.chip.specs.State.{busy}
use Rattle.chip.specs.Step.{push_of, pop_of, read_of, acknowledge_of, command_under}
use Rattle.chip.proofs.InTurn.{pop_done}
use Rattle.chip.proofs.Rows.{both_of_lem}
use Rattle.error_memory.specs.declared.Memory.{Memory}
use Rattle.error_memory.specs.Event.{Event}
use Rattle.error_memory.specs.Event.{Chip, Recall, Forget}
use Rattle.error_memory.specs.Memory.{Card, card_with, kept_after, answer_with, event_in}
use Rattle.promises.specs.Remembered.{after_all}
use Rattle.error_memory.proofs.Good.{memory_cases, ReadyCard}
use Rattle.record_runs.specs.Record.{turn_of}
use Rattle.record_runs.specs.Run.{Outcome, took, after as joinedTo, run_of as fileRun}
use Rattle.record_files.proofs.Append.{nothing, onward, appended}
use Rattle.record_runs.proofs.Prefix.{lawful}
use Rattle.promises.proofs.Single.{reset_is}
use Rattle.state_bytes.specs.Bytes.{card_in, laid_out}
use Rattle.state_bytes.proofs.Cards.{card_returns, card_ready, laid_at_lem}
use Rattle.state_bytes.specs.Calls.{Called, ran_of, joined_of}
use Rattle.state_bytes.proofs.Calling.{good}
use Rattle.promises.proofs.Measures.{theirs_state}
use Rattle.promises.specs.StateBytes.{IsState}
use Rattle.promises.specs.Given.{Given, Chosen, settings_in, run_call}
use Rattle.promises.specs.Records.{count_at}
use Rattle.promises.specs.Chains.{Step, run_events}
use Rattle.promises.specs.Cores.{Core, Meets, byte_of, Sendable, NoRecall, KeepsMemory, returned, answers_of, all_zero, kind_number, bus_run, word_left}
use Rattle.promises.specs.EventFiles.{record_of, file_of, codes_before, reply_to, replies_to, FileLent, EventFiles, chain_file, zeros_for}
use Rattle.promises.specs.EventFiles.{Demand3Files}
use Rattle.promises.proofs.Records.{counts_exact, push_record_lem, pop_record, command_record_lem, status_record, reset_record_lem, acknowledge_record}
use Rattle.promises.proofs.Records.{recall_record, forget_record}
use Rattle.promises.proofs.Refusals.{refusals}
use Rattle.promises.proofs.Kept.{command_byte}
use Rattle.promises.proofs.Pending.{bus_events}
use Rattle.promises.proofs.Cores.{leaves_good, push_byte, Serves, still_serves, state_told, bus_told, sent, cores}

-- ---- one event
-- what its answer is joined to, by parts
refusal_in : (r b : ℕ) → b < 256 → joined_of r b / 256 ≡ r
refusal_in r b h = omega arith

byte_in : (r b : ℕ) → b < 256 → joined_of r b % 256 ≡ b
byte_in r b h = omega arith

abbrev number_for : Card → Event → ℕ
number_for k e = joined_of (number_of (event_in k e).refusal) (event_in k e).byte

-- its record, run alone
abbrev Alike : Card → Event → ℕ → Type 0
Alike k e room = fileRun k (record_of e) room ≡ took (event_in k e).card (length (record_of e)) (reply_to e (number_for k e) k.memory.code)

module _ (on : Settings) (s : State) (m : Memory) (G : ReadyCard (card_with on s m)) (room : ℕ) where
  calm : busy s ≡ false
  calm = lt-leb 128 s.status G.chip.ready

  pushes : (b : ℕ) → 5 ≤ room → Alike (card_with on s m) (Chip (Push b)) room
  pushes b h =
      let z = (refusals on).push_done s b calm in
      let y = push_byte s b in
      push_record_lem on s m (b ∷ []) room calm (omega arith) (omega arith) h
      ∙ ap (λ (n : ℕ). took (card_with on (push_of s b).state m) 5 (3 ∷ 0 ∷ 129 ∷ 0 ∷ n ∷ [])) (sym (refusal_in (number_of (push_of s b).refusal)
      (push_of s b).byte (omega arith) ∙ z))

  commands : (code : ℕ) → 5 ≤ room → Alike (card_with on s m) (Chip (Command code)) room
  commands code h =
      let y = command_byte on.rule s code in
      command_record_lem on s m code room h
      ∙ ap (λ (n : ℕ). took (card_with on (command_under on.rule s code).state (kept_after m (Command code) (command_under on.rule s code))) 5
      (3 ∷ 0 ∷ 131 ∷ 0 ∷ n ∷ [])) (sym (refusal_in (number_of (command_under on.rule s code).refusal) (command_under on.rule s code).byte
      (omega arith)))

  pops : 6 ≤ room → Alike (card_with on s m) (Chip Pop) room
  pops h =
      let a = pop_of s in
      let e = pop_done s G.chip.ready in
      let z : number_of a.refusal ≡ 0 = (refusals on).pop_done s calm in
      let y : a.byte < 256 = subst (λ (n : ℕ). n < 256) (sym (ap (λ (x : Answer). x.byte) e)) (byte_at s.stack G.chip.stack.bytes 0) in
      pop_record on s m 1 room calm (omega arith) (omega arith) h
      ∙ ap₂ (λ (n b : ℕ). took (card_with on a.state m) 5 (4 ∷ 0 ∷ 130 ∷ 0 ∷ n ∷ b ∷ [])) (sym (refusal_in (number_of a.refusal) a.byte y ∙ z))
      (sym (byte_in (number_of a.refusal) a.byte y))

  reads : 6 ≤ room → Alike (card_with on s m) (Chip Status) room
  reads h =
      let r = (refusals on).read_done s calm in
      let low = G.chip.ready in
      let y : (read_of s).byte < 256 = subst (λ (n : ℕ). n < 256) (sym r.1) (omega arith) in
      status_record on s m room calm h
      ∙ ap (λ (t : State). took (card_with on t m) 4 (4 ∷ 0 ∷ 132 ∷ 0 ∷ 0 ∷ s.status ∷ [])) (sym r.2)
      ∙ ap₂ (λ (n b : ℕ). took (card_with on (read_of s).state m) 4 (4 ∷ 0 ∷ 132 ∷ 0 ∷ n ∷ b ∷ []))
      (sym (refusal_in (number_of (read_of s).refusal) (read_of s).byte y ∙ r.0)) (sym (byte_in (number_of (read_of s).refusal) (read_of s).byte y
      ∙ r.1))

  resets : 5 ≤ room → Alike (card_with on s m) (Chip Reset) room
  resets h =
      reset_record_lem on s m room calm h
      ∙ ap (λ (a : Answer). took (answer_with on m Reset a).card 4 (3 ∷ 0 ∷ 133 ∷ 0 ∷ joined_of (number_of a.refusal) a.byte / 256 ∷ []))
      (sym (reset_is on.mode s calm))

  acknowledges : 5 ≤ room → Alike (card_with on s m) (Chip Acknowledge) room
  acknowledges h =
      let g = (bus_events on).acknowledge_leaves s.stack s.pending s.status s.service G.chip.ready in
      let y = g.byte_read in
      acknowledge_record on s m room calm h
      ∙ ap (λ (t : State). took (card_with on t m) 4 (3 ∷ 0 ∷ 134 ∷ 0 ∷ 0 ∷ [])) (sym g.state)
      ∙ ap (λ (n : ℕ). took (card_with on (acknowledge_of s).state m) 4 (3 ∷ 0 ∷ 134 ∷ 0 ∷ n ∷ [])) (sym (refusal_in (number_of (acknowledge_of s).refusal)
      (acknowledge_of s).byte (omega arith) ∙ g.number))

  recalls : 7 ≤ room → Alike (card_with on s m) Recall room
  recalls h =
      let b : m.bits < 256 = ⊎_elim (λ z. omega (arith, z.0)) (λ z. omega (arith, z.in_places)) (memory_cases m.bits m.code G.memory.stands) in
      recall_record on s m room calm h
      ∙ rw calm (ap₂ (λ (n i : ℕ). took (card_with on s m) 4 (5 ∷ 0 ∷ 135 ∷ 0 ∷ n ∷ i ∷ m.code ∷ [])) (sym (refusal_in 0 m.bits b))
      (sym (byte_in 0 m.bits b)))

  forgets : 5 ≤ room → Alike (card_with on s m) Forget room
  forgets h = forget_record on s m room calm h ∙ rw calm

  one : (e : Event) → length (reply_to e (number_for (card_with on s m) e) m.code) ≤ room → Alike (card_with on s m) e room
  one (Chip (Push b)) h = pushes b h
  one (Chip Pop) h = pops h
  one (Chip (Command code)) h = commands code h
  one (Chip Status) h = reads h
  one (Chip Reset) h = resets h
  one (Chip Acknowledge) h = acknowledges h
  one Recall h = recalls h
  one Forget h = forgets h

-- ---- events in turn
-- the codes that stand on the card before each
abbrev codes_of : Card → List Event → List ℕ
codes_of k [] = []
codes_of k (e ∷ es) = k.memory.code ∷ codes_of (event_in k e).card es

abbrev answered : Card → List Event → List ℕ
answered k es = replies_to es (answers_of k es) (codes_of k es)

files : (es : List Event) (k : Card) (room : ℕ) → ReadyCard k → Sendable es → length (answered k es) ≤ room
    → fileRun k (file_of es) room ≡ took (after_all k es) (length (file_of es)) (answered k es)
files [] k room G S h = nothing lawful k room
files (e ∷ es) k room G S h =
    let t = (event_in k e).card in
    let w = reply_to e (number_for k e) k.memory.code in
    let ws = answered t es in
    let n = length-append w ws in
    let first : Alike k e room = one k.on k.chip k.memory G room e (omega arith) in
    appended lawful k (record_of e) (file_of es) room (ap (λ (o : Outcome). o.refusal) first)
    ∙ ap (λ (o : Outcome). onward turn_of o (file_of es) room) first
    ∙ ap (joinedTo (length (record_of e)) w) (files es t (room - length w) (leaves_good k e G S.0) S.1 (omega arith))
    ∙ ap (λ (i : ℕ). took (after_all t es) i (w ++ ws)) (sym (length-append (record_of e) (file_of es)))

-- the codes are those of the state's byte 20 where there is one, and count only for the memory read
module _ (g : Given) (C : Chosen g) (c : Core) (M : Meets g c) where
  codes_long : (k : Card) → Serves g k → (es : List Event) → Sendable es → codes_before c (laid_out 21 k) es ≡ codes_of k es
  codes_long k r [] S = refl
  codes_long k r (e ∷ es) S =
      ap₂ (λ (b : ℕ) (l : List ℕ). b ∷ codes_before c l es) (laid_at_lem k r.good.chip.stack.sixteen 21 4) (state_told g C c M 21 (inr refl) k e r S.0)
      ∙ ap (λ (l : List ℕ). k.memory.code ∷ l) (codes_long (event_in k e).card (still_serves g k e r S.0) es S.1)

same_replies : (es : List Event) (ns ks ls : List ℕ) → NoRecall es → replies_to es ns ks ≡ replies_to es ns ls
same_replies [] ns ks ls o = refl
same_replies (Chip e ∷ es) ns ks ls o = ap₂ ◌++◌ (alike e) (same_replies es (drop 1 ns) (drop 1 ks) (drop 1 ls) o)
  where
    alike : (x : ChipEvent) → reply_to (Chip x) (get_or ns 0 0) (get_or ks 0 0) ≡ reply_to (Chip x) (get_or ns 0 0) (get_or ls 0 0)
    alike (Push b) = refl
    alike Pop = refl
    alike (Command code) = refl
    alike Status = refl
    alike Reset = refl
    alike Acknowledge = refl
same_replies (Recall ∷ es) ns ks ls o = absurd o
same_replies (Forget ∷ es) ns ks ls o = ap (λ (l : List ℕ). reply_to Forget (get_or ns 0 0) 0 ++ l) (same_replies es (drop 1 ns) (drop 1 ks) (drop 1 ls) o)

replies_told : (g : Given) → Chosen g → (c : Core) → Meets g c → (state : List ℕ) (es : List Event) → Bytes state → IsState state → Sendable es
    → KeepsMemory state es
    → replies_to es (returned c state es) (codes_before c state es) ≡ answered (card_in (settings_in g) state) es
replies_told g C c M state es B I S o =
    let i = theirs_state I in
    let k = card_in (settings_in g) state in
    let ns = (cores g C c M).returns state es B I S o in
    ⊎_elim
    (λ long.
    let back : laid_out 21 k ≡ state = ap (λ (n : ℕ). laid_out n k) (sym long) ∙ card_returns (settings_in g) state i in
    ap₂ (replies_to es) ns (subst (λ (l : List ℕ). codes_before c l es ≡ codes_of k es) back
    (codes_long g C c M k (record { good = card_ready (settings_in g) state B i; set = refl }) es S)))
    (λ none. ap (λ (l : List ℕ). replies_to es l (codes_before c state es)) ns ∙ same_replies es (answers_of k es) (codes_before c state es) (codes_of k es) none)
    o

-- the records of events are bytes
record_bytes_lem : (e : Event) → byte_of e < 256 → Bytes (record_of e)
record_bytes_lem (Chip (Push b)) h = (lit< tt, (lit< tt, (lit< tt, (lit< tt, (h, tt)))))
record_bytes_lem (Chip Pop) h = (lit< tt, (lit< tt, (lit< tt, (lit< tt, (lit< tt, tt)))))
record_bytes_lem (Chip (Command code)) h = (lit< tt, (lit< tt, (lit< tt, (lit< tt, (h, tt)))))
record_bytes_lem (Chip Status) h = (lit< tt, (lit< tt, (lit< tt, (lit< tt, tt))))
record_bytes_lem (Chip Reset) h = (lit< tt, (lit< tt, (lit< tt, (lit< tt, tt))))
record_bytes_lem (Chip Acknowledge) h = (lit< tt, (lit< tt, (lit< tt, (lit< tt, tt))))
record_bytes_lem Recall h = (lit< tt, (lit< tt, (lit< tt, (lit< tt, tt))))
record_bytes_lem Forget h = (lit< tt, (lit< tt, (lit< tt, (lit< tt, tt))))

file_bytes : (es : List Event) → Sendable es → Bytes (file_of es)
file_bytes [] S = tt
file_bytes (e ∷ es) S = bytes_append (record_of e) (file_of es) (record_bytes_lem e S.0) (file_bytes es S.1)

pub event_files : EventFiles
event_files g C c M state es replies report S L =
    let k = card_in (settings_in g) state in
    let file = file_of es in
    let G = card_ready (settings_in g) state L.bytes.0 (theirs_state L.good) in
    let told = M.run state file replies report L.bytes.0 (file_bytes es S) L.bytes.1 L.bytes.2 in
    let ws = replies_to es (returned c state es) (codes_before c state es) in
    let same : ws ≡ answered k es = replies_told g C c M state es L.bytes.0 L.good S L.told in
    let o : fileRun k file (length replies) ≡ took (after_all k es) (length file) ws =
    files es k (length replies) G S (subst (λ (l : List ℕ). length l ≤ length replies) same L.room) ∙ ap (took (after_all k es) (length file)) (sym same) in
    let call : run_call g state file replies report ≡ ran_of (length state) (took (after_all k es) (length file) ws) replies =
    good g.mode g.rule state file replies report L.nine C.mode C.rule (theirs_state L.good) L.short
    ∙ ap (λ (x : Outcome). ran_of (length state) x replies) o in
    let counts = counts_exact g C state file replies report L.nine L.good L.short in
    record {
      result = told.result_is ∙ ap (λ (x : Called). x.result) call;
      state_is = told.state_is ∙ ap (λ (x : Called). x.state) call ∙ sym ((cores g C c M).states state es L.bytes.0 L.good S);
      replies_are = told.replies_is ∙ ap (λ (x : Called). x.replies) call;
      all_taken = ap (λ (l : List ℕ). count_at l 1) told.report_is ∙ counts.0 ∙ ap (λ (x : Outcome). x.taken) o;
      all_written = ap (λ (l : List ℕ). count_at l 5) told.report_is ∙ counts.1 ∙ ap (λ (x : Outcome). length x.written) o;
    }

-- ---- demand 3
-- numbers that are all 0
all_zeros : (c : Core) (es : List Event) (state : List ℕ) → all_zero (returned c state es) ≡ true → returned c state es ≡ zeros_for es
all_zeros c [] state h = refl
all_zeros c (e ∷ es) state h =
    let x = c.event state (kind_number e) (byte_of e) in
    let p = both_of_lem (eqb x.result 0) (all_zero (returned c x.state es)) h in
    ap₂ (λ (n : ℕ) (l : List ℕ). n ∷ l) (eqb-true x.result 0 p.0) (all_zeros c es x.state p.1)

-- the word on top after the file is the word on top after the events
on_top : (g : Given) → Chosen g → (c : Core) → Meets g c → (state : List ℕ) (w : ℕ) (sr : ℕ → Bool) (ks : List Step) (replies report : List ℕ)
    → FileLent c state (bus_run w sr ks) replies report
    → tos 4 (c.run state (chain_file w sr ks) replies report).state ≡ word_left c state (bus_run w sr ks)
on_top g C c M state w sr ks replies report L = ap (tos 4) (event_files g C c M state (bus_run w sr ks) replies report (sent w sr ks) L).state_is

pub demand_3_files : Demand3Files
demand_3_files g C c M = record {
  answers = λ state w sr ks replies report B K L.
      let f = event_files g C c M state (bus_run w sr ks) replies report (sent w sr ks) L in
      let z = all_zeros c (bus_run w sr ks) state ((cores g C c M).chain_answers state w sr ks B K) in (
        f.result,
        f.replies_are ∙ ap (λ (l : List ℕ). l ++ drop (length l) replies)
            (ap (λ (m : List ℕ). replies_to (bus_run w sr ks) m (codes_before c state (bus_run w sr ks))) z ∙ same_replies (bus_run w sr ks)
            (zeros_for (bus_run w sr ks)) (codes_before c state (bus_run w sr ks)) (zeros_for (bus_run w sr ks)) (bus_told (run_events w sr ks))),
      );
  bytes = λ state w sr ks replies report B K L.
      ap (take 4) (event_files g C c M state (bus_run w sr ks) replies report (sent w sr ks) L).state_is ∙ (cores g C c M).chain_bytes state w sr ks B K;
  even = λ state state' v w sr sr' ks replies replies' report report' B B' K L L' q q' l e.
      subst₂ Le (sym (on_top g C c M state v sr ks replies report L)) (sym (on_top g C c M state' w sr' ks replies' report' L'))
      ((cores g C c M).chain_even state state' v w sr sr' ks B B' K q q' l e);
  odd = λ state state' v w sr sr' ks replies replies' report report' B B' K L L' q q' l e.
      subst₂ Le (sym (on_top g C c M state' w sr' ks replies' report' L')) (sym (on_top g C c M state v sr ks replies report L))
      ((cores g C c M).chain_odd state state' v w sr sr' ks B B' K q q' l e);
}
