-- What each bus event leaves, by its definition on a state that is not busy; each push or pop turns pending, and a good state stays good. Assumes nothing.
use mathlib.Core.Path.{◌≡◌, refl, sym, ap, subst, ◌∙◌}
use mathlib.Core.Logic.{⊎_elim}
use mathlib.Core.Bool.{Bool, true, false, not, false≢true}
use mathlib.Core.List.{List, [], ◌∷◌, ◌++◌}
use Prim.Native.Nat.{ℕ, suc, ◌%◌, ◌≤◌, ◌<◌}
use native.Mathlib.Omega.{arith}
use borrow.Author.Tests.{lt-leb, le-leb, eqb-true, eqb-false}
use lib.Dec.{eqb}
use lib.ListN.{length, take, get_or}
use lib.Seq.{take-append-le}
use Rattle.terms.specs.declared.Mode.{Mode}
use Rattle.terms.specs.declared.Mode.TheVariants.{Am9511A, Am9511}
use Rattle.terms.specs.declared.Rule.{Rule}
use Rattle.terms.specs.declared.Settings.{Settings}
use Rattle.stack.specs.Stack.{IsStack, zeros}
use Rattle.chip.specs.State.{State}
use Rattle.chip.specs.State.{Answer}
use Rattle.chip.specs.Event.{Event}
use Rattle.chip.specs.Event.{Push, Pop, Command, Status, Reset, Acknowledge}
use Rattle.chip.specs.Step.{push_of, pop_of, read_of, reset_of, acknowledge_of, command_under, answer_to}
use Rattle.promises.specs.BusEvents.{after_events}
use Rattle.chip.proofs.Kept.{command_keeps}
use Rattle.chip.proofs.Accepted.{leaves}
use Rattle.chip.proofs.InTurn.{pop_done}
use Rattle.chip.proofs.Ready.{Ready, push_fair, pop_fair, read_fair, reset_fair, acknowledge_fair}
use Rattle.record_files.proofs.Tests.{either_eq}
use Rattle.promises.specs.Remembered.{after_all}
use Rattle.promises.proofs.Remembered.{chip_alone}
use Rattle.state_bytes.specs.Bytes.{state_of, card_in, flag_of}
use Rattle.state_bytes.proofs.Cards.{card_ready, laid_at_lem}
use Rattle.promises.proofs.Measures.{theirs_stack, theirs_state}
use Rattle.promises.specs.Cores.{Sendable, on_bus}
use Rattle.promises.specs.Given.{settings_in}
use Rattle.promises.specs.Pending.{AnswerIs, state_with, moved_since, Odd, Bus, PendingByte, BusEvents}
use Rattle.promises.proofs.Refusals.{numbers}
use Rattle.promises.proofs.Cores.{all_good, cores}

module _ (l : List ℕ) (p : Bool) (u : ℕ) (v : Bool) (h : u < 128) where
  pushes : (b : ℕ) → AnswerIs (push_of (state_with l p u v) b) 0 0 (b ∷ take 15 l) (not p) u v
  unfolding push_of
  pushes b = rw (lt-leb 128 u h) (record { number = refl; byte_read = refl; state = refl })

  pops : (b : ℕ) → AnswerIs (pop_of (state_with (b ∷ l) p u v)) 0 b (l ++ (b ∷ [])) (not p) u v
  unfolding pop_of
  pops b = rw (lt-leb 128 u h) (record { number = refl; byte_read = refl; state = refl })

  resets : AnswerIs (reset_of Am9511A (state_with l p u v)) 0 0 (0 ∷ 0 ∷ 0 ∷ 0 ∷ 0 ∷ 0 ∷ 0 ∷ 0 ∷ 0 ∷ 0 ∷ 0 ∷ 0 ∷ 0 ∷ 0 ∷ 0 ∷ 0 ∷ []) false 0 false
  unfolding reset_of
  resets = rw (lt-leb 128 u h) (record { number = refl; byte_read = refl; state = refl })

  acknowledges : AnswerIs (acknowledge_of (state_with l p u v)) 0 0 l p u false
  unfolding acknowledge_of
  acknowledges = rw (lt-leb 128 u h) (record { number = refl; byte_read = refl; state = refl })

  reads : AnswerIs (read_of (state_with l p u v)) 0 u l p u v
  unfolding read_of
  reads = rw (lt-leb 128 u h) (record { number = refl; byte_read = refl; state = refl })

-- of the older part
older_keeps : (l : List ℕ) (u : ℕ) (v : Bool) → u < 128 → AnswerIs (reset_of Am9511 (state_with l false u v)) 0 0 l false 0 false
unfolding reset_of
older_keeps l u v h = rw (lt-leb 128 u h) (record { number = refl; byte_read = refl; state = refl })

older_realigns : (b : ℕ) (l : List ℕ) (u : ℕ) (v : Bool) → length l ≡ 15 → u < 128 → AnswerIs (reset_of Am9511 (state_with (b ∷ l) true u v)) 0 0 (take 14 l
    ++ (0 ∷ 0 ∷ [])) false 0 false
unfolding reset_of
older_realigns b l u v n h =
    rw (lt-leb 128 u h) (record {
      number = refl;
      byte_read = refl;
      state = ap (λ (k : List ℕ). state_with (k ++ (0 ∷ 0 ∷ [])) false 0 false)
          (take-append-le 14 l (b ∷ []) (omega arith));
    })

-- a reset of either part leaves nothing pending
unpending : (mode : Mode) (s : State) → s.status < 128 → (reset_of mode s).state.pending ≡ false
unfolding reset_of
unpending Am9511A s h = rw (lt-leb 128 s.status h)
unpending Am9511 s h = rw (lt-leb 128 s.status h)

-- ---- parity
-- a flag turned is set where the next number is odd
turned : (p : Bool) (n : ℕ) → Odd p n → Odd (not p) (suc n)
turned p n o = record {
  set = λ h. ap not (o.clear (omega arith));
  clear = λ h. ap not (o.set (omega arith));
}

none : Odd false 0
none = record { set = λ h. absurd (omega arith); clear = λ h. refl }

-- the flag of a state that is written out
flag_of_lem : {a : Answer} {n b : ℕ} {l : List ℕ} {p : Bool} {u : ℕ} {v : Bool} → AnswerIs a n b l p u v → a.state.pending ≡ p
flag_of_lem g = ap (λ (s : State). s.pending) g.state

-- a command leaves pending as it was, done or refused
command_flag : (rule : Rule) (s : State) (code : ℕ) → IsStack s.stack → (command_under rule s code).state.pending ≡ s.pending
command_flag rule s code S =
    ⊎_elim (λ d. (leaves rule s code S d).pending) (λ e. ap (λ (a : Answer). a.state.pending) e) (command_keeps rule s code)

-- and a good state good
command_good : (rule : Rule) (s : State) (code : ℕ) → Ready s → Ready (command_under rule s code).state
command_good rule s code r =
    ⊎_elim (λ d. let l = leaves rule s code r.stack d in record { stack = l.stack; ready = l.not_busy }) (λ e. subst (λ (a : Answer). Ready a.state)
    (sym e) r) (command_keeps rule s code)

module _ (on : Settings) where
  parity : (es : List Event) (s : State) (n : ℕ) → Ready s → Sendable (on_bus es) → Odd s.pending n → Odd (after_events on s es).pending (moved_since n es)
  parity [] s n r S o = o
  parity (Push b ∷ es) s n r S o =
      let a = pushes s.stack s.pending s.status s.service r.ready b in
      parity es (push_of s b).state (suc n) (push_fair s r b S.0).left S.1 (subst (λ (p : Bool). Odd p (suc n)) (sym (flag_of_lem a))
      (turned s.pending n o))
  parity (Pop ∷ es) s n r S o =
      parity es (pop_of s).state (suc n) (pop_fair s r).left S.1
      (subst (λ (p : Bool). Odd p (suc n)) (sym (ap (λ (a : Answer). a.state.pending) (pop_done s r.ready))) (turned s.pending n o))
  parity (Command code ∷ es) s n r S o =
      parity es (command_under on.rule s code).state n (command_good on.rule s code r) S.1 (subst (λ (p : Bool). Odd p n)
      (sym (command_flag on.rule s code r.stack)) o)
  parity (Status ∷ es) s n r S o =
      let a = reads s.stack s.pending s.status s.service r.ready in
      parity es (read_of s).state n (read_fair s r).left S.1 (subst (λ (p : Bool). Odd p n) (sym (flag_of_lem a)) o)
  parity (Reset ∷ es) s n r S o =
      parity es (reset_of on.mode s).state 0 (reset_fair s r on.mode).left S.1 (subst (λ (p : Bool). Odd p 0)
      (sym (unpending on.mode s r.ready)) none)
  parity (Acknowledge ∷ es) s n r S o =
      let a = acknowledges s.stack s.pending s.status s.service r.ready in
      parity es (acknowledge_of s).state n (acknowledge_fair s r).left S.1 (subst (λ (p : Bool). Odd p n) (sym (flag_of_lem a)) o)

-- a busy state
busies : (on : Settings) (e : Event) (l : List ℕ) (p : Bool) (u : ℕ) (v : Bool) → 128 ≤ u → AnswerIs (answer_to on (state_with l p u v) e) 13 0 l p u v
busies on e l p u v h =
    let t = (numbers on).busy_state (state_with l p u v) e (le-leb 128 u h) in
    record { number = t.number; byte_read = t.byte; state = t.state }

-- ---- the statement
pub bus : (on : Settings) → Bus on
bus on = record {
  push_leaves = λ b l p u v h. pushes l p u v h b;
  pop_leaves = λ b l p u v h. pops l p u v h b;
  reset_leaves = λ m l p u v h. subst (λ (x : Mode). AnswerIs (reset_of x (state_with l p u v)) 0 0 (zeros 16) false 0 false) (sym m) (resets l p u v h);
  older_reset_keeps = λ m l u v h. subst (λ (x : Mode). AnswerIs (reset_of x (state_with l false u v)) 0 0 l false 0 false) (sym m) (older_keeps l u v h);
  older_reset_realigns = λ m b l u v n h. subst (λ (x : Mode). AnswerIs (reset_of x (state_with (b ∷ l) true u v)) 0 0 (take 14 l ++ (0 ∷ 0 ∷ [])) false 0 false)
      (sym m) (older_realigns b l u v n h);
  acknowledge_leaves = λ l p u v h. acknowledges l p u v h;
  read_leaves = λ l p u v h. reads l p u v h;
  busy_answers = λ e l p u v h. busies on e l p u v h;
  half_pending = λ s n es S h sent o. parity on es s n (record { stack = theirs_stack S; ready = h }) sent o;
}

pub bus_events : BusEvents
bus_events = bus

-- byte 16 of a state's bytes is the flag
flag_odd : (x : ℕ) → x ≤ 1 → Odd (eqb x 1) x
flag_odd x h = by (eqb x 1) refl
  where
    by : (b : Bool) → eqb x 1 ≡ b → Odd b x
    by true e = let i = eqb-true x 1 e in record { set = λ o. refl; clear = λ o. absurd (omega arith) }
    by false e = let n = eqb-false x 1 e in record { set = λ o. absurd (n (omega arith)); clear = λ o. refl }

odd_flag : (p : Bool) (n : ℕ) → Odd p n → flag_of p ≡ n % 2
odd_flag true n o = either_eq (λ (x : ℕ). 1 ≡ n % 2) (n % 2) 0 0 0 (λ e. absurd (false≢true (sym (o.clear e)))) (λ z. omega arith)
odd_flag false n o = either_eq (λ (x : ℕ). 0 ≡ n % 2) (n % 2) 0 0 0 (λ e. sym e) (λ z. absurd (false≢true (o.set (omega arith))))

pub pending_byte : PendingByte
pending_byte g C c M state es B i S =
    let r = card_ready (settings_in g) state B (theirs_state i) in
    let k = after_all (card_in (settings_in g) state) (on_bus es) in
    let o = parity (settings_in g) es (state_of state) (get_or state 16 0) r.chip S (flag_odd (get_or state 16 0) i.pending) in
    ap (λ (l : List ℕ). get_or l 16 0) ((cores g C c M).states state (on_bus es) B i S)
    ∙ laid_at_lem k (all_good (on_bus es) (card_in (settings_in g) state) r S).chip.stack.sixteen (length state) 0
    ∙ ap (λ (s : State). flag_of s.pending) (chip_alone (card_in (settings_in g) state) es)
    ∙ odd_flag (after_events (settings_in g) (state_of state) es).pending (moved_since (get_or state 16 0) es) o
