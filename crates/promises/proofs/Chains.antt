-- Demand 3: the events of a step leave the step's word on top, a run is its steps one after the other, and the order of two results follows from one-step laws
-- by induction over the chain; the examples are computed through the whole step. Assumes nothing.
use mathlib.Core.Path.{◌≡◌, refl, sym, ap, ◌∙◌, subst, subst₂}
use mathlib.Core.Bool.{Bool, true, false, cond}
use mathlib.Core.List.{List, [], ◌∷◌, ◌++◌}
use Prim.Native.Nat.{ℕ, ◌+◌, ◌%◌, ◌<◌}
use native.Mathlib.Omega.{arith}
use lib.Dec.{lit<}
use lib.Ieee.{size}
use lib.ListN.{take}
use lib.Signed.{le_z_yes}
use Rattle.terms.specs.declared.Width.TheVariants.{Double}
use Rattle.terms.specs.declared.Rule.{Rule}
use Rattle.terms.specs.declared.Settings.{Settings}
use Rattle.float.specs.Word.{value, FloatWord}
use Rattle.float.specs.Float.{Result, add, sub, mul, div}
use Rattle.float.specs.Convert.{chsf}
use Rattle.float.proofs.Results.{add_result, sub_result, mul_result, div_result}
use Rattle.promises.proofs.float.Order.{Le, LeBy, add_keeps, sub_keeps, sub_turns, mul_order, div_order}
use Rattle.promises.proofs.float.SignChange.{chsf_word, chsf_turns}
use Rattle.stack.specs.Stack.{tos, bytes_of}
use Rattle.stack.proofs.Words.{number_bytes}
use Rattle.codes.specs.declared.FloatOp.TheVariants.{Add as FAdd, Sub as FSub, Mul as FMul, Div as FDiv}
use Rattle.codes.specs.Command.{Float, Chsf, Xch}
use Rattle.codes.specs.Command.{Kind}
use Rattle.codes.specs.Command.{Known}
use Rattle.codes.specs.Codes.{sr, decoded}
use Rattle.codes.proofs.Counts.{either_way}
use Rattle.chip.specs.State.{State}
use Rattle.chip.specs.Event.{Event}
use Rattle.chip.specs.Status.{status_of}
use Rattle.chip.specs.Commands.{floats}
use Rattle.chip.specs.Step.{push_of, carried, command_under}
use Rattle.promises.specs.BusEvents.{after_events, answered, quiet, pushes_of}
use Rattle.chip.proofs.Outcomes.{status_lt}
use Rattle.promises.proofs.OnTop.{idle, floated, exchanged_words, sign_changed}
use Rattle.promises.proofs.Events.{after_append, answered_append, quiet_append, at_rest_lt, tops_idle, under_word}
use Rattle.promises.proofs.Events.{does_then, does_pushes, does_command, does_float}
use Rattle.promises.proofs.Events.{Tops, Does, pushes_do}
use Rattle.promises.specs.FloatWords.{FloatWord as Proper}
use Rattle.promises.proofs.Measures.{theirs_word, ours_word, theirs_le, ours_le}
use Rattle.promises.specs.Chains.{events_of, commands_in, chain_of, Step, Add, Subtract, Multiply, Divide, TakeFrom, Change, Constant, Constants}
use Rattle.promises.specs.Chains.{is_reversing, reversing, work_of, word_after, Run, Starts, events_of_run, state_at_end, result_of, Quiet, Chains, Demand3}
use Rattle.promises.specs.Chains.{Examples}

-- ---- one step
-- every step gives a proper word and an error of four bits
work_result : (rule : Rule) (k : Step) (w : ℕ) → Constant k → FloatWord w → Result (work_of rule k w)
work_result rule (Add c) w C W = add_result rule w c
work_result rule (Subtract c) w C W = sub_result rule w c
work_result rule (Multiply c) w C W = mul_result rule w c
work_result rule (Divide c) w C W = div_result rule w c W
work_result rule (TakeFrom c) w C W = sub_result rule c w
work_result rule Change w C W = record { word = chsf_word w W; small = omega arith }

-- FADD, FSUB, FMUL, FDIV, CHSF, XCHF
codes : (decoded 0x10 ≡ Known (Float FAdd)) × (decoded 0x11 ≡ Known (Float FSub)) × (decoded 0x12 ≡ Known (Float FMul)) × (decoded 0x13 ≡ Known (Float FDiv))
    × (decoded 0x15 ≡ Known Chsf) × (decoded 0x19 ≡ Known (Xch Double))
unfolding decoded
codes = (refl, refl, refl, refl, refl, refl)

-- a code stands for its command whatever its bit 7
abbrev pub coded : Bool → ℕ → ℕ
coded b code = cond b (code + 128) code

pub coded_is : (b : Bool) (code : ℕ) {k : Kind} → decoded (code % 128) ≡ k → decoded (coded b code % 128) ≡ k
coded_is true code e = either_way code ∙ e
coded_is false code e = e

module _ (on : Settings) (bit : ℕ → Bool) where
  -- on a state that is written out
  on_idle : (k : Step) (w : ℕ) (t : List ℕ) (u : ℕ) (v : Bool) → u < 128 → Constant k → FloatWord w → Does on (idle (bytes_of 4 w ++ t) u v) (events_of bit k)
      (work_of on.rule k w)
  on_idle (Add c) w t u v h C W = does_float on FAdd (coded (bit 0) 0x10) c w t u v (coded_is (bit 0) 0x10 codes.0) h (theirs_word C) W
      (work_result on.rule (Add c) w C W)
  on_idle (Subtract c) w t u v h C W = does_float on FSub (coded (bit 0) 0x11) c w t u v (coded_is (bit 0) 0x11 codes.1) h (theirs_word C) W
      (work_result on.rule (Subtract c) w C W)
  on_idle (Multiply c) w t u v h C W = does_float on FMul (coded (bit 0) 0x12) c w t u v (coded_is (bit 0) 0x12 codes.2) h (theirs_word C) W
      (work_result on.rule (Multiply c) w C W)
  on_idle (Divide c) w t u v h C W = does_float on FDiv (coded (bit 0) 0x13) c w t u v (coded_is (bit 0) 0x13 codes.3) h (theirs_word C) W
      (work_result on.rule (Divide c) w C W)
  on_idle (TakeFrom c) w t u v h C W =
      let l = bytes_of 4 w ++ (bytes_of 4 c ++ under_word t) in
      does_pushes on c h
      (does_then on (exchanged_words on.rule (coded (bit 0) 0x19) w c (under_word t) u v (coded_is (bit 0) 0x19 codes.5) h)
      (does_command on (work_result on.rule (TakeFrom c) w C W)
      (floated on.rule FSub (coded (bit 1) 0x11) c w (under_word t) (status_of Double l 0 false) (sr (coded (bit 0) 0x19)) (coded_is (bit 1) 0x11 codes.1)
      (status_lt Double l 0 false (omega arith)) (theirs_word C) W)))
  on_idle Change w t u v h C W = does_command on (work_result on.rule Change w C W) (sign_changed on.rule (coded (bit 0) 0x15) w t u v
      (coded_is (bit 0) 0x15 codes.4) h W)

  -- on any state with a word on top
  step_does : (k : Step) (w : ℕ) (s : State) → Constant k → FloatWord w → Tops w s → Does on s (events_of bit k) (work_of on.rule k w)
  step_does k w s C W T =
      subst (λ (x : State). Does on x (events_of bit k) (work_of on.rule k w)) (sym (tops_idle T))
      (on_idle k w T.rest s.status s.service (at_rest_lt T.at_rest) C W)

-- ---- chains
-- no step of a chain on a word meets an error
abbrev NoErrors : Rule → ℕ → List Step → Type 0
NoErrors rule w [] = Unit
NoErrors rule w (k ∷ ks) = ((work_of rule k w).error ≡ 0) × NoErrors rule (work_of rule k w).word ks

-- what the events of a chain do to a state that has the word on top
record Chained (on : Settings) (s : State) (es : List Event) (w : ℕ) (ks : List Step) : Type 0 where
  all_answered_lem : answered on s es ≡ true
  tops : Tops (word_after on.rule w ks) (after_events on s es)
  no_errors : quiet on s es ≡ true → NoErrors on.rule w ks

-- n reversing steps keep the order of two words, or turn it round
abbrev Ordered : ℕ → ℕ → ℕ → Type 0
Ordered n v w = (n % 2 ≡ 0 → Le v w) × (n % 2 ≡ 1 → Le w v)

module _ (on : Settings) where
  word_proper : (ks : List Step) (w : ℕ) → Constants ks → FloatWord w → FloatWord (word_after on.rule w ks)
  word_proper [] w C W = W
  word_proper (k ∷ ks) w C W = word_proper ks (work_of on.rule k w).word C.1 (work_result on.rule k w C.0 W).word

  chained : (ks : List Step) (sr : ℕ → Bool) (w : ℕ) (s : State) → Constants ks → FloatWord w → Tops w s → Chained on s (chain_of sr ks) w ks
  chained [] sr w s C W T = record { all_answered_lem = refl; tops = T; no_errors = λ q. tt }
  chained (k ∷ ks) sr w s C W T =
      let d = step_does on sr k w s C.0 W T in
      let rest = chain_of (λ (n : ℕ). sr (commands_in k + n)) ks in
      let i = chained ks (λ (n : ℕ). sr (commands_in k + n)) (work_of on.rule k w).word (after_events on s (events_of sr k)) C.1
      (work_result on.rule k w C.0 W).word d.tops in
      record {
        all_answered_lem = answered_append on s (events_of sr k) rest d.all_answered_lem i.all_answered_lem;
        tops = subst (λ (x : State). Tops (word_after on.rule w (k ∷ ks)) x) (sym (after_append on s (events_of sr k) rest)) i.tops;
        no_errors = λ q. let p = quiet_append on s (events_of sr k) rest q in (d.no_error p.0, i.no_errors p.1);
      }

  run : (x : Run) (ks : List Step) → Starts x → Constants ks → Chained on x.state (events_of_run x ks) x.word ks
  run x ks S C =
      let s = x.state in
      let w = x.word in
      let rest = chain_of x.sr ks in
      let d = pushes_do on s w S.at_rest in
      let i = chained ks x.sr w (after_events on s (pushes_of 4 w)) C (theirs_word S.proper) d.tops in
      record {
        all_answered_lem = answered_append on s (pushes_of 4 w) rest d.all_answered_lem i.all_answered_lem;
        tops = subst (λ (y : State). Tops (word_after on.rule w ks) y) (sym (after_append on s (pushes_of 4 w) rest)) i.tops;
        no_errors = λ q. i.no_errors (quiet_append on s (pushes_of 4 w) rest q).1;
      }

  -- the result is the word that the chain makes
  pub result_is : (x : Run) (ks : List Step) → Starts x → Constants ks → result_of on x ks ≡ word_after on.rule x.word ks
  result_is x ks S C = ap (λ (l : List ℕ). tos 4 l) (run x ks S C).tops.stack_is ∙ number_bytes 4 (word_after on.rule x.word ks)
      (word_proper ks x.word C (theirs_word S.proper)).fits

  -- its bytes lie on top at the end
  pub on_top : (x : Run) (ks : List Step) → Starts x → Constants ks → (below : List ℕ) → take 4 ((state_at_end on x ks).stack ++ below) ≡ bytes_of 4
      (word_after on.rule x.word ks)
  on_top x ks S C below = ap (λ (l : List ℕ). take 4 (l ++ below)) (run x ks S C).tops.stack_is

  -- ---- the order
  step_order : (k : Step) (v w : ℕ) → FloatWord v → FloatWord w → Le v w → (work_of on.rule k v).error ≡ 0 → (work_of on.rule k w).error ≡ 0
      → LeBy (is_reversing k) (work_of on.rule k v).word (work_of on.rule k w).word
  step_order (Add c) v w A B l e f = add_keeps on.rule v w c l e f
  step_order (Subtract c) v w A B l e f = sub_keeps on.rule v w c l e f
  step_order (Multiply c) v w A B l e f = mul_order on.rule v w c l e f
  step_order (Divide c) v w A B l e f = div_order on.rule v w c l e f
  step_order (TakeFrom c) v w A B l e f = sub_turns on.rule c v w l e f
  step_order Change v w A B l e f = chsf_turns v w A B l

  -- one step that reverses or does not, and the rest of the chain
  one_more : (t : Bool) (n v w x y : ℕ) → LeBy t v w → (Le v w → Ordered n x y) → (Le w v → Ordered n y x) → Ordered (cond t 1 0 + n) x y
  one_more true n v w x y h keep turn = (λ e. (turn h).1 (omega arith), λ e. (turn h).0 (omega arith))
  one_more false n v w x y h keep turn = (λ e. (keep h).0 (omega arith), λ e. (keep h).1 (omega arith))

  word_order : (ks : List Step) (v w : ℕ) → Constants ks → FloatWord v → FloatWord w → Le v w → NoErrors on.rule v ks → NoErrors on.rule w ks
      → Ordered (reversing ks) (word_after on.rule v ks) (word_after on.rule w ks)
  word_order [] v w C A B l e f = (λ z. l, λ z. absurd (omega arith))
  word_order (k ∷ ks) v w C A B l e f =
      let v' = (work_of on.rule k v).word in
      let w' = (work_of on.rule k w).word in
      let A' = (work_result on.rule k v C.0 A).word in
      let B' = (work_result on.rule k w C.0 B).word in
      one_more (is_reversing k) (reversing ks) v' w' (word_after on.rule v' ks) (word_after on.rule w' ks) (step_order k v w A B l e.0 f.0)
      (λ h. word_order ks v' w' C.1 A' B' h e.1 f.1)
      (λ h. word_order ks w' v' C.1 B' A' h f.1 e.1)

  ordered : (x y : Run) (ks : List Step) → Starts x → Starts y → Constants ks → Quiet on x ks → Quiet on y ks → Le x.word y.word
      → Ordered (reversing ks) (result_of on x ks) (result_of on y ks)
  ordered x y ks S T C q p l =
      subst₂ (λ (v w : ℕ). Ordered (reversing ks) v w) (sym (result_is x ks S C)) (sym (result_is y ks T C))
      (word_order ks x.word y.word C (theirs_word S.proper) (theirs_word T.proper) l ((run x ks S C).no_errors q) ((run y ks T C).no_errors p))

-- ---- the statement
pub chains : (on : Settings) → Chains on
chains on = record {
  every_answered = λ x ks S C. (run on x ks S C).all_answered_lem;
  by_word_alone = λ x ks S C. result_is on x ks S C;
  equal_words = λ x y ks S T C e. result_is on x ks S C ∙ ap (λ (w : ℕ). word_after on.rule w ks) e ∙ sym (result_is on y ks T C);
  no_steps = λ x S. result_is on x [] S tt;
  proper_result = λ x ks S C. subst (λ (w : ℕ). Proper w) (sym (result_is on x ks S C)) (ours_word (word_proper on ks x.word C (theirs_word S.proper)));
  ready_again = λ x ks S C. (run on x ks S C).tops.at_rest;
  even_keeps = λ x y ks S T C q p l e.
      ours_le (result_of on x ks) (result_of on y ks) ((ordered on x y ks S T C q p (theirs_le x.word y.word l)).0 e);
  odd_turns = λ x y ks S T C q p l e.
      ours_le (result_of on y ks) (result_of on x ks) ((ordered on x y ks S T C q p (theirs_le x.word y.word l)).1 e);
}

pub demand_3 : Demand3
demand_3 = chains

-- ---- the examples
pub chain_examples : Examples
unfolding push_of carried command_under floats decoded status_of add sub mul div chsf size value
chain_examples = record {
  starts = (
    record { at_rest = record { taken = refl; whole = refl }; proper = record { fits = lit< tt; is_proper = refl } },
    record { at_rest = record { taken = refl; whole = refl }; proper = record { fits = lit< tt; is_proper = refl } },
    (record { fits = lit< tt; is_proper = refl }, (record { fits = lit< tt; is_proper = refl }, tt)),
    le_z_yes tt,
  );
  quiet_runs = (refl, refl);
  results = (refl, refl);
  turned_round = (refl, λ (h : Le 0x81800000 0x82c00000). h.le);
  every_kind_lem = (
    (
      record { fits = lit< tt; is_proper = refl },
      (
        record { fits = lit< tt; is_proper = refl },
        (
          record { fits = lit< tt; is_proper = refl },
          (tt, (record { fits = lit< tt; is_proper = refl }, (record { fits = lit< tt; is_proper = refl }, tt))),
        ),
      ),
    ),
    refl,
    refl,
    refl,
  );
  every_kind_results = (refl, refl);
  overflows = (refl, refl, refl);
  broken = (refl, refl);
  crossed = (le_z_yes tt, λ (h : Le 0x3fffffff 0x7efffffe). h.le);
  last_is_clear = (refl, refl);
}
