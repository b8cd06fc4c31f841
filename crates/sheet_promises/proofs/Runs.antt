-- The book's run of a file is the library's, record by record: every turn leaves a card whose 21 bytes are a state again, under the same settings, and sheets
-- that are sheets again. Assumes nothing.
use mathlib.Core.Path.{◌≡◌, refl, sym, ap, subst, ◌∙◌}
use mathlib.Core.Logic.{◌⊎◌, inl, inr, ⊎_elim}
use mathlib.Core.Bool.{Bool, true, false, cond}
use mathlib.Core.List.{List, [], ◌∷◌, ◌++◌, append_assoc}
use Prim.Native.Nat.{ℕ, zero, suc, ◌+◌, ◌-◌, ◌≤◌, ◌<◌}
use native.Mathlib.Omega.{arith}
use lib.Dec.{eqb}
use lib.ListN.{length, take, drop}
use lib.Seq.{take_at, take_all}
use borrow.Author.Tests.{eq-eqb, ne_eqb}
use Rattle.stack.specs.Stack.{Bytes as StackBytes}
use Rattle.stack.proofs.Words.{bytes_take, bytes_drop}
use Rattle.terms.specs.declared.Settings.{Settings}
use Rattle.chip.specs.Event.{Command as CommandEvent, Status as StatusEvent, Reset as ResetEvent, Acknowledge as AcknowledgeEvent}
use Rattle.error_memory.specs.Event.{Chip, Recall as RecallEvent, Forget as ForgetEvent}
use Rattle.error_memory.specs.Memory.{Card}
use Rattle.error_memory.proofs.Good.{ReadyCard}
use Rattle.error_memory.proofs.Kept.{settings_stay}
use Rattle.record_files.specs.Run.{Outcome, run, run_by, next as nextRun}
use Rattle.record_files.proofs.Append.{alone}
use Rattle.record_files.proofs.Tests.{either_eq}
use Rattle.record_files.proofs.Through.{through}
use Rattle.record_runs.specs.Record.{Event}
use Rattle.record_runs.specs.Record.{Push, Pop, Command, Status, Reset, Acknowledge, Recall, Forget}
use Rattle.record_runs.specs.Record.{payload_of as payloadIn, answer_of, turn_of}
use Rattle.record_runs.proofs.Steps.{steps}
use Rattle.record_runs.proofs.Prefix.{lawful as core-lawful}
use Rattle.record_runs.proofs.Ready.{run_ready}
use Rattle.state_bytes.specs.Bytes.{is_state as storedState, card_in, laid_out}
use Rattle.state_bytes.proofs.States.{state_sized}
use Rattle.state_bytes.proofs.Cards.{laid_is, laid_length, card_returns, behind}
use Rattle.state_bytes.specs.Calls.{settings_of}
use Rattle.sheet_bytes.specs.Ledger as ledger
use Rattle.sheet_bytes.proofs.Ledgers.{good as good-sheets, is_long}
use Rattle.sheets.specs.Step.{Held, sheet_step, run_of}
use Rattle.sheets.proofs.Lines.{ways, lawful}
use Rattle.sheets.proofs.Growth.{run_grows}
use Rattle.sheet_promises.specs.Bytes.{zeros}
use Rattle.sheet_promises.specs.Runs.{lengthened, Ran, next, turn, run_for, ran}
use Rattle.sheet_promises.proofs.Turns.{seen, turn_is}

-- ---- what a turn leaves

-- the settings of a card stay
answer_on : (c : Card) (p : List ℕ) (e : Event) → (answer_of c p e).card.on ≡ c.on
answer_on c p (Push n) = refl
answer_on c p (Pop n) = refl
answer_on c p (Command code) = settings_stay c (Chip (CommandEvent code))
answer_on c p Status = settings_stay c (Chip StatusEvent)
answer_on c p Reset = settings_stay c (Chip ResetEvent)
answer_on c p Acknowledge = settings_stay c (Chip AcknowledgeEvent)
answer_on c p Recall = settings_stay c RecallEvent
answer_on c p Forget = settings_stay c ForgetEvent

core_on : (c : Card) (l : List ℕ) (room : ℕ) → (turn_of c l room).state.on ≡ c.on
core_on c l room = steps (λ t. t.state.on ≡ c.on) c l room (λ r a b. refl) (λ e h g. answer_on c (take (payloadIn e) (drop 4 l)) e)

pub line_on : (h : Held) (l : List ℕ) (room : ℕ) → (sheet_step h l room).state.card.on ≡ h.card.on
line_on h l room =
    ways (λ t. t.state.card.on ≡ h.card.on) h l room (λ o q. refl) (λ o q g. refl) (λ o q g. refl) (λ n. core_on h.card l room)

-- its bytes are a state again
core_ready : (c : Card) (l : List ℕ) (room : ℕ) → 0 < length l → ReadyCard c → StackBytes l → ReadyCard (turn_of c l room).state
core_ready c l room p r b =
    either_eq (λ (x : ℕ). ReadyCard (turn_of c l room).state) (turn_of c l room).refusal 0 0 0
    (λ z. subst ReadyCard (ap (λ (o : Outcome Card). o.state) (alone core-lawful c l room p z))
    (run_ready c (take (turn_of c l room).taken l) room r (bytes_take (turn_of c l room).taken l b)))
    (λ z. subst ReadyCard (sym (ap (λ (t : Outcome Card). t.state) (core-lawful.stops c l room z).1)) r)

pub line_ready : (h : Held) (l : List ℕ) (room : ℕ) → 0 < length l → ReadyCard h.card → StackBytes l → ReadyCard (sheet_step h l room).state.card
line_ready h l room p r b =
    ways (λ t. ReadyCard t.state.card) h l room (λ o q. r) (λ o q g. r) (λ o q g. r) (λ n. core_ready h.card l room p r b)

-- a list of sheets is one after a run, and after a turn
pub run_sheets : (h : Held) (l : List ℕ) (room : ℕ) → ledger.is_sheets h.sheets ≡ true → ledger.is_sheets (run_of h l room).state.sheets ≡ true
run_sheets h l room g =
    let w = run_grows h l room g in
    sym (good-sheets (run_of h l room).state.sheets (w.same_length ∙ is_long h.sheets g) w.no_more w.flag_is w.bits_are)

pub line_sheets : (h : Held) (l : List ℕ) (room : ℕ) → 0 < length l → ledger.is_sheets h.sheets ≡ true → ledger.is_sheets (sheet_step h l room).state.sheets
    ≡ true
line_sheets h l room p g =
    either_eq (λ (x : ℕ). ledger.is_sheets (sheet_step h l room).state.sheets ≡ true) (sheet_step h l room).refusal 0 0 0
    (λ z.
    subst (λ (o : Outcome Held). ledger.is_sheets o.state.sheets ≡ true) (alone lawful h l room p z)
    (run_sheets h (take (sheet_step h l room).taken l) room g))
    (λ z. subst (λ (t : Outcome Held). ledger.is_sheets t.state.sheets ≡ true) (sym (lawful.stops h l room z).1) g)

-- ---- the run

next_is : (t : Outcome Held) (o : Outcome Held) → next (seen t) (seen o) ≡ seen (nextRun t o)
next_is t o = by (eqb t.refusal 0)
  where
    by : (b : Bool)
        → cond b (record {
          refusal = o.refusal;
          state = laid_out 21 o.state.card;
          sheets = o.state.sheets;
          taken = t.taken + o.taken;
          written = t.written
              ++ o.written;
        })
        (record { refusal = t.refusal; state = laid_out 21 t.state.card; sheets = t.state.sheets; taken = 0; written = [] })
        ≡ seen (cond b (record { refusal = o.refusal; state = o.state; taken = t.taken + o.taken; written = t.written ++ o.written })
        (record { refusal = t.refusal; state = t.state; taken = 0; written = [] }))
    by true = refl
    by false = refl

module _ (mode rule : ℕ) (m : mode ≤ 1) (q : rule ≤ 1) where
  runs_so : (n : ℕ) (h : Held) (l : List ℕ) (room : ℕ) → ReadyCard h.card → h.card.on ≡ settings_of mode rule → ledger.is_sheets h.sheets ≡ true
      → StackBytes l
      → run_for mode rule n (laid_out 21 h.card) h.sheets l room ≡ seen (run sheet_step n h l room)
  unfolding run_for run
  runs_so zero h l room r on g b = refl
  runs_so (suc n) h [] room r on g b = refl
  runs_so (suc n) h (x ∷ l) room r on g b =
      let t = sheet_step h (x ∷ l) room in
      let e : turn mode rule (laid_out 21 h.card) h.sheets (x ∷ l) room
      ≡ seen t = turn_is mode rule m q h.card r on h.sheets (x ∷ l) room (is_long h.sheets g) in
      let p : 0 < length (x ∷ l) = omega arith in
      ap (λ (u : Ran). next u (run_for mode rule n u.state u.sheets (drop u.taken (x ∷ l)) (room - length u.written))) e
      ∙ ap (next (seen t)) (runs_so n t.state (drop t.taken (x ∷ l)) (room - length t.written) (line_ready h (x ∷ l) room p r b)
      (line_on h (x ∷ l) room ∙ on) (line_sheets h (x ∷ l) room p g) (bytes_drop t.taken (x ∷ l) b))
      ∙ next_is t (run sheet_step n t.state (drop t.taken (x ∷ l)) (room - length t.written))

  pub run_is : (h : Held) (l : List ℕ) (room : ℕ) → ReadyCard h.card → h.card.on ≡ settings_of mode rule → ledger.is_sheets h.sheets ≡ true → StackBytes l
      → ran mode rule (laid_out 21 h.card) h.sheets l room ≡ seen (run_of h l room)
  unfolding ran run_by
  run_is h l room r on g b = runs_so (length l) h l room r on g b

-- ---- the bytes of a state that is lent

-- read with an empty memory, or as they are
pub lengthened_is : (on : Settings) (l : List ℕ) → storedState l ≡ true → lengthened l ≡ laid_out 21 (card_in on l)
lengthened_is on l g =
    ⊎_elim
    (λ a.
    let e : l ≡ laid_out 19 (card_in on l) = sym (card_returns on l g) ∙ ap (λ (n : ℕ). laid_out n (card_in on l)) a in
    ap (λ (x : Bool). cond x (l ++ zeros 2) l) (eq-eqb (length l) 19 a) ∙ ap (λ (k : List ℕ). k ++ zeros 2) e ∙ short a)
    (λ b. ap (λ (x : Bool). cond x (l ++ zeros 2) l) (ne_eqb (length l) 19 (λ a. omega arith)) ∙ sym (card_returns on l g)
    ∙ ap (λ (n : ℕ). laid_out n (card_in on l)) b)
    (state_sized l g)
  where
    short : length l ≡ 19 → laid_out 19 (card_in on l) ++ zeros 2 ≡ laid_out 21 (card_in on l)
    short a =
        let c = card_in on l in
        ap (λ (k : List ℕ). k ++ zeros 2) (laid_is 19 c)
        ∙ append_assoc c.chip.stack (behind 19 c) (zeros 2)
        ∙ ap (λ (k : List ℕ). c.chip.stack ++ k) (rw (eq-eqb (length l) 19 a))
        ∙ sym (laid_is 21 c)

-- written back as many as were lent
pub shortened_is : (c : Card) (n : ℕ) → length c.chip.stack ≡ 16 → (n ≡ 19) ⊎ (n ≡ 21) → take n (laid_out 21 c) ≡ laid_out n c
shortened_is c n s h =
    ⊎_elim
    (λ a.
    let e = laid_length c s 19 (inl refl) in
    ap (λ (k : ℕ). take k (laid_out 21 c)) a ∙ ap (take 19) (parts) ∙ take_at (laid_out 19 c) (c.memory.bits ∷ c.memory.code ∷ []) 19 e
    ∙ ap (λ (k : ℕ). laid_out k c) (sym a))
    (λ b. let e = laid_length c s 21 (inr refl) in take_all n (laid_out 21 c) (omega arith) ∙ ap (λ (k : ℕ). laid_out k c) (sym b))
    h
  where
    parts : laid_out 21 c ≡ laid_out 19 c ++ (c.memory.bits ∷ c.memory.code ∷ [])
    parts =
        laid_is 21 c ∙ sym (append_assoc c.chip.stack (behind 19 c) (c.memory.bits ∷ c.memory.code ∷ []))
        ∙ ap (λ (k : List ℕ). k ++ (c.memory.bits ∷ c.memory.code ∷ [])) (sym (laid_is 19 c))

-- what a run leaves, whatever the file
pub run_card : (h : Held) (l : List ℕ) (room : ℕ) → ReadyCard h.card → StackBytes l → ReadyCard (run_of h l room).state.card
run_card =
    through lawful (λ h l room o. ReadyCard h.card → StackBytes l → ReadyCard o.state.card) (λ h room r b. r) (λ h l room p z r b. r)
    (λ h l room p z more r b. more (line_ready h l room p r b) (bytes_drop (sheet_step h l room).taken l b))

pub run_on : (h : Held) (l : List ℕ) (room : ℕ) → (run_of h l room).state.card.on ≡ h.card.on
run_on =
    through lawful (λ h l room o. o.state.card.on ≡ h.card.on) (λ h room. refl) (λ h l room p z. refl)
    (λ h l room p z more. more ∙ line_on h l room)
