-- A single event on a good state: refused or settled, with what is remembered as it was or written behind the chip's bytes; the memory
-- read and cleared; what the door says of it. Assumes nothing.
use mathlib.Core.Path.{◌≡◌, refl, sym, ap, subst, ◌∙◌}
use mathlib.Core.Bool.{Bool, true, false, cond}
use mathlib.Core.List.{List, ◌++◌}
use Prim.Native.Nat.{ℕ, ◌≤◌}
use native.Mathlib.Omega.{arith}
use lib.Dec.{eqb}
use lib.ListN.{length, take, drop, take-append-drop}
use lib.Seq.{length-take-le, drop_at}
use borrow.Author.Tests.{le-leb, eq-eqb, ne_eqb, eqb-false}
use Rattle.terms.specs.Refusal.{number_of}
use Rattle.terms.specs.Limits.{state_bytes}
use Rattle.terms.specs.declared.Mode.TheVariants.{Am9511A}
use Rattle.terms.specs.declared.Rule.TheVariants.{Cut}
use Rattle.terms.specs.declared.Settings.{Settings}
use Rattle.terms.specs.Settings.{is_mode, is_rule}
use Rattle.terms.specs.Kind.{kind_named}
use Rattle.chip.specs.Step.{given}
use Rattle.chip.specs.State.{Answer}
use Rattle.chip.specs.declared.Answer.{Answer as HeldAnswer}
use Rattle.chip.specs.Held.{answer_in}
use Rattle.error_memory.specs.declared.Memory.{Memory}
use Rattle.error_memory.specs.Event.{Recall, Forget}
use Rattle.error_memory.specs.Memory.{empty_memory, Card, CardAnswer, card_with, card_answer, event_in}
use Rattle.error_memory.proofs.Good.{recalled, forgotten}
use Rattle.state_bytes.specs.Bytes.{Sized, is_state, state_of, memory_in, card_in, state_bytes_of, memory_bytes_of, with_memory, laid, laid_out, door_of}
use Rattle.state_bytes.specs.Calls.{settings_of, answered_by, Signal, joined_of, signal_by, unsent, signal_of, Signals}
use Rattle.state_bytes.proofs.Laid.{memory_behind, other_memory}
use Rattle.state_bytes.proofs.States.{least, sized_as, state_sized, state_ready}
use Rattle.state_bytes.proofs.Cards.{card_returns, laid_length, laid_chip}
use Rattle.state_bytes.proofs.Calling.{shut, Admitted}
use Rattle.pundaliket.specs.Held.{Settles}

-- ---- what is remembered, written behind the chip's bytes
module _ (l : List ℕ) (h : is_state l ≡ true) (m : Memory) {y : List ℕ} (e : y ≡ with_memory l m) where
  sixteen : length (take 16 l) ≡ 16
  sixteen = length-take-le 16 l (omega (arith, least l (state_sized l h)))

  under : Card
  under = card_with (given Am9511A Cut) (state_of l) m

  put_behind : y ≡ laid_out (length l) under
  unfolding under
  put_behind = other_memory (length l) (state_of l) (memory_in l) m sixteen (sym (card_returns (given Am9511A Cut) l h)) refl e

  pub put_sized : Sized y
  unfolding under
  put_sized = sized_as l y (ap length put_behind ∙ laid_length under sixteen (length l) (state_sized l h)) (state_sized l h)

  pub put_long : state_bytes ≤ length y
  put_long = least y put_sized

  -- the chip is the one that was there
  pub same_chip : state_of y ≡ state_of l
  unfolding under
  same_chip = ap state_of put_behind ∙ laid_chip under sixteen (length l)

  same_size : length y ≡ length l
  unfolding under
  same_size = ap length put_behind ∙ laid_length under sixteen (length l) (state_sized l h)

  same_memory : memory_bytes_of (length y) (memory_in y) ≡ memory_bytes_of (length l) m
  same_memory =
      sym (memory_behind y put_sized) ∙ ap (drop 19) e
      ∙ drop_at (take 19 l) (memory_bytes_of (length l) m) 19 (length-take-le 19 l (least l (state_sized l h)))

  -- an event of the chip that is settled then is settled on what was there; a refused one left all as it was
  pub kept_behind : (a : HeldAnswer) (on : Settings) {r : ℕ} {left : List ℕ} {b : Answer} → Settles y a (memory_in y) r left → answer_in a ≡ b
      → ((number_of b.refusal ≡ 0 → ⊥) → y ≡ l) → Signals (signal_by l (card_answer on m b)) r left
  kept_behind a on {r} {left} {b} w is back =
      subst (λ (t : Signal). Signals t r left)
      (ap (λ (x : Answer). signal_by y (card_answer on (memory_in y) x)) is ∙ by (eqb (number_of b.refusal) 0) refl) (w on)
    where
      signal : Bool → List ℕ → List ℕ → Signal
      signal x done state = record { result = joined_of (number_of b.refusal) b.byte; state = cond x done state }

      by : (x : Bool) → eqb (number_of b.refusal) 0 ≡ x
          → signal x (laid (length y) b.state (memory_in y)) y ≡ signal x (laid (length l) b.state m) l
      by true z = ap (λ (t : List ℕ). signal true (state_bytes_of b.state ++ t) l) same_memory
      by false z = ap (signal false l) (back (eqb-false (number_of b.refusal) 0 z))

-- what is remembered as it was, written
pub unchanged_memory : (l : List ℕ) → Sized l → with_memory l (memory_in l) ≡ l
unchanged_memory l h = ap (λ (t : List ℕ). take 19 l ++ t) (sym (memory_behind l h)) ∙ take-append-drop 19 l

-- ---- refused, or done and laid out
module _ (state : List ℕ) (on : Settings) (m : Memory) (a : Answer) {n r : ℕ} (en : n ≡ number_of a.refusal) (er : r ≡ joined_of n a.byte) where
  pub no_event : (n ≡ 0 → ⊥) → Signals (signal_by state (card_answer on m a)) r state
  no_event g = rw (← en, ne_eqb n 0 g) record { result_is = er; state_is = refl }

  pub an_event : {left : List ℕ} → n ≡ 0 → left ≡ laid (length state) a.state m → Signals (signal_by state (card_answer on m a)) r left
  an_event g d = rw (← en, eq-eqb n 0 g) record { result_is = er; state_is = d }

-- the program's answer, found to be the chip's, with what is remembered as it was
pub settled : (state : List ℕ) (a : HeldAnswer) (on : Settings) {r : ℕ} {left : List ℕ} {b : Answer} → Settles state a (memory_in state) r left
    → answer_in a ≡ b → Signals (signal_by state (card_answer on (memory_in state) b)) r left
settled state a on {r} {left} w e =
    subst (λ (x : Answer). Signals (signal_by state (card_answer on (memory_in state) x)) r left) e (w on)

-- the memory read, and cleared
module _ (on : Settings) (state : List ℕ) (h : is_state state ≡ true) {r : ℕ} where
  by_card : {a b : CardAnswer} {left : List ℕ} → a ≡ b → Signals (signal_by state a) r left → Signals (signal_by state b) r left
  by_card {left = left} e w = subst (λ (x : CardAnswer). Signals (signal_by state x) r left) e w

  pub a_recall : (m : Memory) → m ≡ memory_in state → r ≡ joined_of 0 m.bits → Signals (signal_by state (event_in (card_in on state) Recall)) r state
  a_recall m is er =
      by_card (recalled (card_in on state) (state_ready state h)) (record {
        result_is = er ∙ ap (λ (k : Memory). joined_of 0 k.bits) is;
        state_is = sym (card_returns on state h);
      })

  pub a_forget : (m : Memory) {left : List ℕ} → m ≡ empty_memory → r ≡ joined_of 0 0 → left ≡ take 19 state ++ memory_bytes_of (length state) m
      → Signals (signal_by state (event_in (card_in on state) Forget)) r left
  a_forget m is er e =
      by_card (forgotten (card_in on state) (state_ready state h)) (record {
        result_is = er;
        state_is = other_memory (length state) (state_of state) (memory_in state) empty_memory
            (length-take-le 16 state (omega (arith, least state (state_sized state h)))) (sym (card_returns on state h)) refl
            (e ∙ ap (λ (k : Memory). take 19 state ++ memory_bytes_of (length state) k) is);
      })

-- ---- by the door
module _ (mode rule : ℕ) (state : List ℕ) (kind byte : ℕ) where
  pub signal_away : (number_of (door_of mode rule state) ≡ 0 → ⊥) → signal_of mode rule state kind byte ≡ unsent (door_of mode rule state) state
  unfolding signal_of
  signal_away h = shut (λ r. unsent r state) _ (is_mode mode) (is_rule rule) (is_state state) h

  pub signalled : Admitted mode rule state → signal_of mode rule state kind byte ≡ signal_by state (answered_by (card_in (settings_of mode rule) state) byte
      (kind_named kind))
  unfolding signal_of
  signalled a = rw (le-leb mode 1 a.mode_is, le-leb rule 1 a.rule_is, a.state_is)
