-- The ways through the calls: by the door and the tests behind it, which case of the definition holds. Assumes nothing.
use mathlib.Core.Path.{◌≡◌, refl, ap, ◌∙◌}
use mathlib.Core.Bool.{Bool, true, false, cond}
use mathlib.Core.List.{List}
use Prim.Native.Nat.{ℕ, ◌≤◌, ◌<◌}
use native.Mathlib.Omega.{arith}
use lib.Dec.{eqb}
use lib.ListN.{length}
use borrow.Author.Tests.{lt-ltb, le-ltb, lt-leb, le-leb, leb-true, eq-eqb, ne_eqb}
use Rattle.terms.specs.declared.Refusal.{Refusal}
use Rattle.terms.specs.declared.Refusal.TheVariants.{Done, InputTooLong, BadState, BadMode, BadRule}
use Rattle.terms.specs.Refusal.{number_of}
use Rattle.terms.specs.declared.Mode.TheVariants.{Am9511A}
use Rattle.terms.specs.declared.Rule.TheVariants.{Cut}
use Rattle.terms.specs.declared.Settings.{Settings}
use Rattle.terms.specs.Settings.{is_mode, is_rule}
use Rattle.chip.specs.Step.{given}
use Rattle.chip.specs.State.{State}
use Rattle.error_memory.specs.declared.Memory.{Memory}
use Rattle.error_memory.specs.Memory.{card_with}
use Rattle.error_memory.specs.Held.{card_under}
use Rattle.record_runs.specs.Run.{Outcome, run_of}
use Rattle.record_runs.specs.Held.{Work, Passed}
use Rattle.record_runs.proofs.Looping.{counts}
use Rattle.state_bytes.specs.Bytes.{Sized, is_state, memory_in, card_in, with_memory, laid, laid_out, door_of, report_of}
use Rattle.state_bytes.specs.Calls.{settings_of, ran_of, away, call_under, signal_under, call_of, Calls, joined_of}
use Rattle.state_bytes.specs.Calls.{signal_of, Signals}
use Rattle.state_bytes.proofs.Laid.{other_memory}
use Rattle.state_bytes.proofs.States.{sized_as}
use Rattle.state_bytes.proofs.Cards.{laid_length}

-- ---- the door
module _ {A : Type 0} (f : Refusal → A) (a : A) where
  -- shut, it gives its refusal
  pub shut : (x y z : Bool) → (number_of (cond x (cond y (cond z Done BadState) BadRule) BadMode) ≡ 0 → ⊥)
      → cond x (cond y (cond z a (f BadState)) (f BadRule)) (f BadMode) ≡ f (cond x (cond y (cond z Done BadState) BadRule) BadMode)
  shut true true true h = absurd (h refl)
  shut true true false h = refl
  shut true false true h = refl
  shut true false false h = refl
  shut false true true h = refl
  shut false true false h = refl
  shut false false true h = refl
  shut false false false h = refl

-- open, all three were good
opened : (x y z : Bool) → number_of (cond x (cond y (cond z Done BadState) BadRule) BadMode) ≡ 0 → (x ≡ true) × (y ≡ true) × (z ≡ true)
opened true true true h = (refl, refl, refl)
opened true true false h = let y : ⊥ = omega arith in absurd y
opened true false true h = let y : ⊥ = omega arith in absurd y
opened true false false h = let y : ⊥ = omega arith in absurd y
opened false true true h = let y : ⊥ = omega arith in absurd y
opened false true false h = let y : ⊥ = omega arith in absurd y
opened false false true h = let y : ⊥ = omega arith in absurd y
opened false false false h = let y : ⊥ = omega arith in absurd y

-- what was admitted
pub record Admitted (mode rule : ℕ) (state : List ℕ) : Type 0 where
  pub mode_is : mode ≤ 1
  pub rule_is : rule ≤ 1
  pub state_is : is_state state ≡ true

pub admitted : (mode rule : ℕ) (state : List ℕ) → number_of (door_of mode rule state) ≡ 0 → Admitted mode rule state
admitted mode rule state h =
    let o = opened (is_mode mode) (is_rule rule) (is_state state) h in
    record { mode_is = leb-true mode 1 o.0; rule_is = leb-true rule 1 o.1; state_is = o.2 }

-- ---- a chip's bytes written, then a memory
module _ (l : List ℕ) (s : State) (h : Sized l) (n : length s.stack ≡ 16) {y : List ℕ} (e : y ≡ laid (length l) s (memory_in l)) where
  same_length : length y ≡ length l
  same_length = ap length e ∙ laid_length (card_with (given Am9511A Cut) s (memory_in l)) n (length l) h

  pub laid_sized : Sized y
  laid_sized = sized_as l y same_length h

  pub both_laid : (m : Memory) {left : List ℕ} → left ≡ with_memory y m → left ≡ laid (length l) s m
  both_laid m k = other_memory (length l) s (memory_in l) m n e same_length k

-- ---- the run
-- a run of the code, with its state and report laid out
pub called : (size : ℕ) {on : Settings} {o : Outcome} {w : Work} {n : ℕ} {state report : List ℕ} → Passed (card_under on) o w → w.place.taken ≡ 0
    → w.place.written ≡ 0 → n ≡ w.pass.refusal → state ≡ laid_out size (card_under on w.pass.card)
    → report ≡ report_of w.pass.refusal w.pass.place.taken w.pass.place.written → Calls (ran_of size o w.room) n state w.left report
called size r t w e a b = let at = counts r t w in record {
  result_is = e ∙ r.refusal_is;
  state_is = a ∙ ap (laid_out size) r.state_is;
  replies_is = r.left_is;
  report_is = b ∙ rw (r.refusal_is, at.0, at.1);
}

-- a call that is turned away
pub turned_away_lem : (r : Refusal) (n : ℕ) (state replies report : List ℕ) → n ≡ number_of r → report ≡ report_of (number_of r) 0 0
    → Calls (away r state replies) n state replies report
turned_away_lem r n state replies report e h = record { result_is = e; state_is = refl; replies_is = refl; report_is = h }

module _ (mode rule : ℕ) (state input replies report : List ℕ) where
  pub call_away : length report ≡ 9 → (number_of (door_of mode rule state) ≡ 0 → ⊥) → call_of mode rule state input replies report ≡ away (door_of mode rule state)
      state replies
  unfolding call_of
  call_away a h = rw (eq-eqb (length report) 9 a) (shut (λ r. away r state replies) _ (is_mode mode) (is_rule rule) (is_state state) h)

  pub bad_report : (length report ≡ 9 → ⊥) → (n : ℕ) → n ≡ 14 → Calls (call_of mode rule state input replies report) n state replies report
  unfolding call_of
  bad_report a n e = simp ne_eqb record { result_is = e; state_is = refl; replies_is = refl; report_is = refl }

  -- under numbers that are not turned away
  pub run_chosen : mode ≤ 1 → rule ≤ 1 → call_of mode rule state input replies report ≡ cond (eqb (length report) 9) (call_under (settings_of mode rule) state
      input replies) (record { result = 14; state = state; replies = replies; report = report })
  unfolding call_of
  run_chosen k q = rw (le-leb mode 1 k, le-leb rule 1 q)

  pub bad_mode : length report ≡ 9 → 1 < mode → call_of mode rule state input replies report ≡ away BadMode state replies
  unfolding call_of
  bad_mode a k = rw (eq-eqb (length report) 9 a, lt-leb mode 1 k)

  pub bad_rule : length report ≡ 9 → mode ≤ 1 → 1 < rule → call_of mode rule state input replies report ≡ away BadRule state replies
  unfolding call_of
  bad_rule a k q = rw (eq-eqb (length report) 9 a, le-leb mode 1 k, lt-leb rule 1 q)

  pub bad_state_lem : length report ≡ 9 → mode ≤ 1 → rule ≤ 1 → is_state state ≡ false → call_of mode rule state input replies report ≡ away BadState state replies
  unfolding call_of
  bad_state_lem a k q b = rw (eq-eqb (length report) 9 a, le-leb mode 1 k, le-leb rule 1 q, b)

  pub too_long_lem : length report ≡ 9 → mode ≤ 1 → rule ≤ 1 → is_state state ≡ true → 12288 < length input → call_of mode rule state input replies report
      ≡ away InputTooLong state replies
  unfolding call_of
  too_long_lem a k q b d = rw (eq-eqb (length report) 9 a, le-leb mode 1 k, le-leb rule 1 q, b, lt-ltb 12288 (length input) d)

  pub good : length report ≡ 9 → mode ≤ 1 → rule ≤ 1 → is_state state ≡ true → length input ≤ 12288
      → call_of mode rule state input replies report ≡ ran_of (length state) (run_of (card_in (settings_of mode rule) state) input (length replies)) replies
  unfolding call_of
  good a k q b d = rw (eq-eqb (length report) 9 a, le-leb mode 1 k, le-leb rule 1 q, b, le-ltb 12288 (length input) d)

-- ---- a single event, by the door
module _ (mode rule : ℕ) (state : List ℕ) (kind byte : ℕ) where
  pub no_mode : 1 < mode → (n r : ℕ) → n ≡ number_of BadMode → r ≡ joined_of n 0 → Signals (signal_of mode rule state kind byte) r state
  unfolding signal_of
  no_mode k n r e f = rw (lt-leb mode 1 k) record { result_is = f ∙ rw e; state_is = refl }

  pub no_rule : mode ≤ 1 → 1 < rule → (n r : ℕ) → n ≡ number_of BadRule → r ≡ joined_of n 0 → Signals (signal_of mode rule state kind byte) r state
  unfolding signal_of
  no_rule k q n r e f = rw (le-leb mode 1 k, lt-leb rule 1 q) record { result_is = f ∙ rw e; state_is = refl }

  pub event_chosen : mode ≤ 1 → rule ≤ 1 → signal_of mode rule state kind byte ≡ signal_under (settings_of mode rule) state kind byte
  unfolding signal_of
  event_chosen k q = rw (le-leb mode 1 k, le-leb rule 1 q)
