-- No wrong core meets the promises: its contract gives what it does with one input, and that is not what its class does. Assumes nothing.
use mathlib.Core.Path.{◌≡◌, refl, sym, ap, subst, ◌∙◌}
use mathlib.Core.Logic.{◌⊎◌, inl, inr, ⊎_elim}
use mathlib.Core.Bool.{Bool, true, false, ◌&&◌}
use mathlib.Core.List.{List, [], ◌∷◌, ◌++◌}
use Prim.Native.Nat.{ℕ, ◌^◌, ◌≤◌, ◌<◌}
use native.Mathlib.Omega.{arith}
use borrow.Author.Tests.{ltb-true}
use lib.Dec.{ltb, lit<, lit≤}
use lib.ListN.{length, take, get_or}
use Rattle.numbers.specs.Little.{le4}
use Rattle.float.specs.Convert.{chsf}
use Rattle.stack.specs.Stack.{Bytes, zeros}
use Rattle.chip.specs.Step.{push_of, reset_of}
use Rattle.chip.proofs.Rows.{both_of_lem}
use Rattle.host_floats.specs.Host.{host_of, taken_of}
use Rattle.record_files.specs.Run.{run, run_by}
use Rattle.record_runs.specs.Record.{frame_under, turn_under}
use Rattle.state_bytes.specs.Bytes.{is_state, card_in}
use Rattle.record_runs.specs.Run.{run_of}
use Rattle.state_bytes.specs.Calls.{Called, Calls, Signal, Signals, ran_of, call_of, signal_under}
use Rattle.pundaliket.specs.Calls.{sent_of}
use Rattle.state_bytes.proofs.Calling.{bad_state_lem, too_long_lem, good, event_chosen}
use Rattle.promises.proofs.Measures.{ours_state, theirs_state, no_state_is}
use Rattle.promises.specs.Given.{Given, Chosen, settings_in, run_call}
use Rattle.promises.specs.Chains.{Change}
use Rattle.promises.specs.Records.{count_at}
use Rattle.promises.specs.RecordFiles.{IsRecord, push, reset}
use Rattle.promises.specs.Cores.{Core, Meets, driven, Begins, bus_run}
use Rattle.promises.specs.WrongCores.{No, RefusesEverything, never_run, never_event, never_float, never_word, SingleReply, same_run, same_event}
use Rattle.promises.specs.WrongCores.{same_float, same_word, SameReplies, DoesNothing, back_state, back_replies, back_report, back_event, back_float}
use Rattle.promises.specs.WrongCores.{back_word, FirstRecordOnly, first_state_lem, first_replies, InventedCounts, wrong_taken, wrong_written, wrong_away}
use Rattle.promises.specs.WrongCores.{ZeroChains, reset_bytes, nine, first_push, second_push, reset_record, CoreAnswers, WrongCores}
use Rattle.promises.proofs.Records.{counts_exact}
use Rattle.promises.proofs.Host.{float_comes_back}
use Rattle.promises.proofs.Cores.{cores}

-- ---- the inputs are bytes
abbrev pub are_bytes : List ℕ → Bool
are_bytes [] = true
are_bytes (b ∷ l) = ltb b 256 && are_bytes l

pub literal : (l : List ℕ) → are_bytes l ≡ true → Bytes l
literal [] h = tt
literal (b ∷ l) h = let p = both_of_lem (ltb b 256) (are_bytes l) h in (ltb-true b 256 p.0, literal l p.1)

-- a run on 1 from the bytes of a state after reset
begins : Begins reset_bytes 0x01800000
unfolding is_state
begins = record { bytes = literal reset_bytes refl; good = ours_state refl; whole = refl; proper = record { fits = lit< tt; is_proper = refl } }

module _ (g : Given) (C : Chosen g) (c : Core) (M : Meets g c) where
  -- the sign of 1 changed
  chain_told : take 4 (driven c reset_bytes (bus_run 0x01800000 (λ (n : ℕ). false) (Change ∷ []))) ≡ 0x81 ∷ 0x80 ∷ 0 ∷ 0 ∷ []
  unfolding chsf
  chain_told = (cores g C c M).chain_bytes reset_bytes 0x01800000 (λ (n : ℕ). false) (Change ∷ []) begins (tt, tt)

  -- 1.0 as an f32
  float_told : (c.word_to_f32 0x01800000 (zeros 4)).out ≡ 0 ∷ 0 ∷ 0x80 ∷ 0x3f ∷ []
  unfolding sent_of host_of taken_of
  float_told = (M.word_to_f32 0x01800000 (zeros 4) (lit< tt) (literal (zeros 4) refl)).out_is ∙ ap (λ (n : ℕ). le4 n)
      (float_comes_back 0x3f800000 (lit< tt) refl).bits_are

-- ---- what the definitions give
module _ (g : Given) (C : Chosen g) (c : Core) (M : Meets g c) where
  -- a good call of the run, and of the event, on the bytes after a reset
  run_told : (input replies : List ℕ) → Bytes input → Bytes replies → length input ≤ 12288
      → Calls (ran_of 19 (run_of (card_in (settings_in g) reset_bytes) input (length replies)) replies) (c.run reset_bytes input replies nine).result
      (c.run reset_bytes input replies nine).state
      (c.run reset_bytes input replies nine).replies (c.run reset_bytes input replies nine).report
  run_told input replies i w l =
      subst (λ (x : Called). Calls x (c.run reset_bytes input replies nine).result (c.run reset_bytes input replies nine).state
      (c.run reset_bytes input replies nine).replies (c.run reset_bytes input replies nine).report)
      (good g.mode g.rule reset_bytes input replies nine refl C.mode C.rule (theirs_state begins.good) l)
      (M.run reset_bytes input replies nine (literal reset_bytes refl)
      i w (literal nine refl))

  event_told : (kind byte : ℕ) → kind < 2 ^ 32 → byte < 256 → Signals (signal_under (settings_in g) reset_bytes kind byte)
      (c.event reset_bytes kind byte).result
      (c.event reset_bytes kind byte).state
  event_told kind byte k b =
      subst (λ (x : Signal). Signals x (c.event reset_bytes kind byte).result (c.event reset_bytes kind byte).state)
      (event_chosen g.mode g.rule reset_bytes kind
      byte C.mode C.rule) (M.event reset_bytes kind byte (literal reset_bytes refl) k b)

tells : (g : Given) → Chosen g → (c : Core) → Meets g c → CoreAnswers c
unfolding call_of sent_of is_state run_by run turn_under frame_under host_of taken_of push_of reset_of
tells g C c M = record {
  run_0 = (run_told g C c M [] [] tt tt (lit≤ tt)).result_is;
  run_14 = (M.run reset_bytes [] [] [] (literal reset_bytes refl) tt tt tt).result_is;
  event_0 = (event_told g C c M 5 0 (lit< tt) (lit< tt)).result_is;
  event_5 = (event_told g C c M 0 0 (lit< tt) (lit< tt)).result_is;
  float_0 = (M.word_to_f32 0 (zeros 4) (lit< tt) (literal (zeros 4) refl)).result_is;
  float_4 = (M.word_to_f32 1 (zeros 4) (lit< tt) (literal (zeros 4) refl)).result_is;
  word_0 = (M.f32_to_word 0 (zeros 4) (lit< tt) (literal (zeros 4) refl)).result_is;
  word_10 = (M.f32_to_word 0x7f800000 (zeros 4) (lit< tt) (literal (zeros 4) refl)).result_is;
  one_state = (run_told g C c M first_push (zeros 10) (literal first_push refl) (literal (zeros 10) refl) (lit≤ tt)).state_is;
  one_replies = (run_told g C c M first_push (zeros 10) (literal first_push refl) (literal (zeros 10) refl) (lit≤ tt)).replies_is;
  one_report = (run_told g C c M first_push (zeros 10) (literal first_push refl) (literal (zeros 10) refl) (lit≤ tt)).report_is;
  reset_replies = (run_told g C c M reset_record (zeros 10) (literal reset_record refl) (literal (zeros 10) refl) (lit≤ tt)).replies_is;
  two_state = (run_told g C c M (first_push ++ second_push) (zeros 10) (literal (first_push ++ second_push) refl) (literal (zeros 10) refl) (lit≤ tt)).state_is;
  two_replies = (run_told g C c M (first_push ++ second_push) (zeros 10) (literal (first_push ++ second_push) refl) (literal (zeros 10) refl) (lit≤ tt)).replies_is;
  two_report = (run_told g C c M (first_push ++ second_push) (zeros 10) (literal (first_push ++ second_push) refl) (literal (zeros 10) refl) (lit≤ tt)).report_is;
  event_state = (event_told g C c M 1 0x55 (lit< tt) (lit< tt)).state_is;
  float_out = float_told g C c M;
  word_out = (M.f32_to_word 0x3f800000 (zeros 4) (lit< tt) (literal (zeros 4) refl)).out_is;
  chain = chain_told g C c M;
}

-- ---- two bytes that are not the same are no one byte
apart : (x y i : ℕ) {l m : List ℕ} → l ≡ m → get_or l i 0 ≡ x → get_or m i 0 ≡ y → (x ≡ y → ⊥) → ⊥
apart x y i e a b n = n (sym a ∙ ap (λ (k : List ℕ). get_or k i 0) e ∙ b)

module _ (g : Given) (C : Chosen g) where
  refuses_everything : No g RefusesEverything
  refuses_everything c M (never_run f) = f reset_bytes [] [] nine (literal reset_bytes refl) tt tt (literal nine refl) (tells g C c M).run_0
  refuses_everything c M (never_event f) = let e = (tells g C c M).event_0 in f reset_bytes 5 0 (literal reset_bytes refl) (lit< tt) (lit< tt) (omega arith)
  refuses_everything c M (never_float f) = f 0 (zeros 4) (lit< tt) (literal (zeros 4) refl) (tells g C c M).float_0
  refuses_everything c M (never_word f) = f 0 (zeros 4) (lit< tt) (literal (zeros 4) refl) (tells g C c M).word_0

  -- two numbers that are both_of n are the same
  alike : (n x y : ℕ) {a b : ℕ} → a ≡ n → b ≡ n → a ≡ x → b ≡ y → x ≡ y
  alike n x y p q r s = sym r ∙ p ∙ sym q ∙ s

  single_reply : No g SingleReply
  single_reply c M (same_run n f) =
      let e = alike n 0 14 (f reset_bytes [] [] nine (literal reset_bytes refl) tt tt (literal nine refl))
      (f reset_bytes [] [] [] (literal reset_bytes refl) tt tt tt) (tells g C c M).run_0
      (tells g C c M).run_14 in
      omega arith
  single_reply c M (same_event n f) =
      let e = alike n 0 1280 (f reset_bytes 5 0 (literal reset_bytes refl) (lit< tt) (lit< tt)) (f reset_bytes 0 0 (literal reset_bytes refl) (lit< tt) (lit< tt))
      (tells g C c M).event_0
      (tells g C c M).event_5 in
      omega arith
  single_reply c M (same_float n f) =
      let e = alike n 0 4 (f 0 (zeros 4) (lit< tt) (literal (zeros 4) refl)) (f 1 (zeros 4) (lit< tt) (literal (zeros 4) refl)) (tells g C c M).float_0
      (tells g C c M).float_4 in
      omega arith
  single_reply c M (same_word n f) =
      let e = alike n 0 10 (f 0 (zeros 4) (lit< tt) (literal (zeros 4) refl)) (f 0x7f800000 (zeros 4) (lit< tt) (literal (zeros 4) refl))
      (tells g C c M).word_0 (tells g C c M).word_10
      in
      omega arith

  does_nothing : No g DoesNothing
  does_nothing c M (back_state f) = apart 0x55 0 0 (sym (tells g C c M).one_state ∙ f reset_bytes first_push (zeros 10) nine (literal reset_bytes refl)
      (literal first_push refl) (literal (zeros 10) refl) (literal nine refl))
      refl refl (λ e. omega (arith, e))
  does_nothing c M (back_replies f) = apart 3 0 0 (sym (tells g C c M).one_replies ∙ f reset_bytes first_push (zeros 10) nine (literal reset_bytes refl)
      (literal first_push refl) (literal (zeros 10) refl)
      (literal nine refl)) refl refl (λ e. omega (arith, e))
  does_nothing c M (back_report f) = apart 5 0 1 (sym (tells g C c M).one_report ∙ f reset_bytes first_push (zeros 10) nine (literal reset_bytes refl)
      (literal first_push refl) (literal (zeros 10) refl) (literal nine refl))
      refl refl (λ e. omega (arith, e))
  does_nothing c M (back_event f) = apart 0x55 0 0 (sym (tells g C c M).event_state ∙ f reset_bytes 1 0x55 (literal reset_bytes refl) (lit< tt) (lit< tt))
      refl refl
      (λ e. omega (arith, e))
  does_nothing c M (back_float f) = apart 0x80 0 2 (sym (tells g C c M).float_out ∙ f 0x01800000 (zeros 4) (lit< tt) (literal (zeros 4) refl)) refl refl
      (λ e. omega (arith, e))
  does_nothing c M (back_word f) = apart 0x80 0 2 (sym (tells g C c M).word_out ∙ f 0x3f800000 (zeros 4) (lit< tt) (literal (zeros 4) refl)) refl refl
      (λ e. omega (arith, e))

  -- the first record is one
  one_record : IsRecord first_push
  one_record = push (0x55 ∷ []) (lit≤ tt) (lit≤ tt) refl

  -- and so is the one that resets
  reset_record_lem : IsRecord reset_record
  reset_record_lem = reset refl

  same_replies : No g SameReplies
  same_replies c M f =
      apart 129 133 2 (sym (tells g C c M).one_replies ∙ f reset_bytes first_push reset_record (zeros 10) nine one_record reset_record_lem (literal reset_bytes refl)
      (literal first_push refl) (literal reset_record refl)
      (literal (zeros 10) refl) (literal nine refl) ∙ (tells g C c M).reset_replies) refl refl (λ e. omega (arith, e))

  first_record_only : No g FirstRecordOnly
  first_record_only c M (first_state_lem f) =
      apart 0xaa 0x55 0 (sym (tells g C c M).two_state ∙ f reset_bytes first_push second_push (zeros 10) nine one_record (literal reset_bytes refl)
      (literal first_push refl) (literal second_push refl) (literal (zeros 10) refl)
      (literal nine refl) ∙ (tells g C c M).one_state) refl refl (λ e. omega (arith, e))
  first_record_only c M (first_replies f) =
      apart 3 0 5 (sym (tells g C c M).two_replies ∙ f reset_bytes first_push second_push (zeros 10) nine one_record (literal reset_bytes refl)
      (literal first_push refl) (literal second_push refl) (literal (zeros 10) refl) (literal nine refl)
      ∙ (tells g C c M).one_replies) refl refl (λ e. omega (arith, e))

  -- both_of counts are 0 where a call is turned away
  none_counted : (state input replies report : List ℕ) → length report ≡ 9 → (is_state state ≡ false) ⊎ (12288 < length input)
      → (count_at (run_call g state input replies report).report 1 ≡ 0) × (count_at (run_call g state input replies report).report 5 ≡ 0)
  none_counted state input replies report n (inl b) = rw (bad_state_lem g.mode g.rule state input replies report n C.mode C.rule b) (refl, refl)
  none_counted state input replies report n (inr l) = go (is_state state) refl
    where
      go : (x : Bool) → is_state state ≡ x → (count_at (run_call g state input replies report).report 1 ≡ 0)
          × (count_at (run_call g state input replies report).report 5 ≡ 0)
      go true e = rw (too_long_lem g.mode g.rule state input replies report n C.mode C.rule e l) (refl, refl)
      go false e = rw (bad_state_lem g.mode g.rule state input replies report n C.mode C.rule e) (refl, refl)

  invented_counts : No g (InventedCounts g)
  invented_counts c M (wrong_taken state input replies report s i w p n q l split differs) =
      differs (ap (λ (x : List ℕ). count_at x 1) (M.run state input replies report s i w p).report_is ∙ (counts_exact g C state input replies report n q l).0
      ∙ split.taken)
  invented_counts c M (wrong_written state input replies report s i w p n q l split differs) =
      differs (ap (λ (x : List ℕ). count_at x 5) (M.run state input replies report s i w p).report_is ∙ (counts_exact g C state input replies report n q l).1
      ∙ split.written)
  invented_counts c M (wrong_away state input replies report s i w p n q differs) =
      let e = (M.run state input replies report s i w p).report_is in
      let z = none_counted state input replies report n (⊎_elim (λ b. inl (no_state_is state b)) inr q) in
      differs (ap (λ (x : List ℕ). count_at x 1) e ∙ z.0, ap (λ (x : List ℕ). count_at x 5) e ∙ z.1)

  zero_chains : No g ZeroChains
  zero_chains c M f = apart 0x81 0 0 (sym (tells g C c M).chain ∙ f reset_bytes 0x01800000 (λ (n : ℕ). false) Change [] begins (tt, tt)) refl refl
      (λ e. omega (arith, e))

-- ---- the statement
pub wrong_cores : WrongCores
wrong_cores g C = record {
  met = record {
    run = λ state input replies report s i w p. record { result_is = refl; state_is = refl; replies_is = refl; report_is = refl };
    event = λ state kind byte s k b. record { result_is = refl; state_is = refl };
    word_to_f32 = λ word out h o. record { result_is = refl; out_is = refl };
    f32_to_word = λ bits out h o. record { result_is = refl; out_is = refl };
  };
  tells = tells g C;
  refuses_everything = refuses_everything g C;
  single_reply = single_reply g C;
  same_replies = same_replies g C;
  does_nothing = does_nothing g C;
  first_record_only = first_record_only g C;
  invented_counts = invented_counts g C;
  zero_chains = zero_chains g C;
}
