-- A file of one whole record: its turn alone, card and reply from the answer; and each kind on a state that is not busy. Assumes nothing.
use mathlib.Core.Path.{◌≡◌, refl, ◌∙◌}
use mathlib.Core.Bool.{false}
use mathlib.Core.List.{List, [], ◌∷◌, append-nil}
use Prim.Native.Nat.{ℕ, ◌+◌, ◌-◌, ◌≤◌, ◌<◌}
use native.Mathlib.Omega.{arith}
use native.Mathlib.Nat.{add-zero}
use borrow.Author.Tests.{lt-ltb, le-ltb}
use lib.Dec.{lit≤}
use lib.ListN.{length, drop, length-drop, drop_of_length-le}
use lib.Seq.{take_all}
use Rattle.terms.specs.declared.Mode.{Mode}
use Rattle.terms.specs.declared.Refusal.{Refusal}
use Rattle.terms.specs.declared.Refusal.TheVariants.{NoRoom}
use Rattle.terms.specs.Refusal.{number_of}
use Rattle.terms.specs.declared.Settings.{Settings}
use Rattle.terms.specs.Limits.{most_payload}
use Rattle.chip.specs.State.{State}
use Rattle.chip.specs.Event.{Command as CommandEvent}
use Rattle.chip.specs.State.{busy, after_reset, acknowledged}
use Rattle.chip.specs.Step.{done, read_of, reset_of, acknowledge_of, command_under}
use Rattle.error_memory.specs.declared.Memory.{Memory}
use Rattle.error_memory.specs.Memory.{empty_memory, Card, card_with, kept_after}
use Rattle.record_files.proofs.Append.{nothing, first_stops, first_taken}
use Rattle.record_runs.specs.Record.{Event}
use Rattle.record_runs.specs.Record.{Command, Status, Reset, Acknowledge, Recall, Forget}
use Rattle.record_runs.specs.Record.{Stop}
use Rattle.record_runs.specs.Record.{kind_of, payload_of, answered_of, head_of, Carried, Holds, answer_of, data_of, reply_of, stopped}
use Rattle.record_runs.specs.Record.{worked, turn_under, turn_of}
use Rattle.record_runs.specs.Run.{ended, took, run_of}
use Rattle.record_runs.proofs.Heads.{head_is}
use Rattle.record_runs.proofs.Prefix.{lawful}

module _ (s : Card) (r : List ℕ) (room : ℕ) (e : Event) (h : Holds most_payload r e) (n : length r ≡ 4 + payload_of e) where
  some : 0 < length r
  some = omega arith

  the_turn : 5 + answered_of e ≤ room → turn_of s r room ≡ worked s e (answer_of s (drop 4 r) e)
  unfolding turn_under
  the_turn g = rw (head_is r e h, le-ltb room (5 + answered_of e) g, take_all (payload_of e) (drop 4 r) (simp length-drop (omega arith)))

  -- it is taken: card and reply from the answer
  pub one_turn : 5 + answered_of e ≤ room → run_of s r room
      ≡ took (answer_of s (drop 4 r) e).card (4 + payload_of e) (reply_of (kind_of e) (number_of (answer_of s (drop 4 r) e).refusal) (data_of s e))
  one_turn g =
      let d : drop (4 + payload_of e) r ≡ [] = drop_of_length-le r {i = 4 + payload_of e} (omega arith) in
      let t = worked s e (answer_of s (drop 4 r) e) in
      first_taken lawful s r room t (the_turn g) some refl
      ∙ rw (d, nothing lawful t.state (room - length t.written), add-zero (4 + payload_of e), append-nil t.written)

  stop_turn : room < 5 + answered_of e → turn_of s r room ≡ stopped NoRoom s
  unfolding turn_under
  stop_turn g = rw (head_is r e h, lt-ltb room (5 + answered_of e) g)

  -- its reply has no room
  pub no_turn : room < 5 + answered_of e → run_of s r room ≡ ended (number_of NoRoom) s
  no_turn g = first_stops lawful s r room (stopped NoRoom s) (stop_turn g) some (λ y. omega arith)

-- a head that is a refusal
pub stopped_by : (s : Card) (l : List ℕ) (room : ℕ) (r : Refusal) → head_of l ≡ Stop r → turn_of s l room ≡ stopped r s
unfolding turn_under
stopped_by s l room r e = rw e

-- ---- what the chip answers while it is not busy

read_is : (s : State) → busy s ≡ false → read_of s ≡ done s.status s
unfolding read_of
read_is s h = rw h

pub reset_is : (mode : Mode) (s : State) → busy s ≡ false → reset_of mode s ≡ done 0 (after_reset mode s)
unfolding reset_of
reset_is mode s h = rw h

acknowledge_is : (s : State) → busy s ≡ false → acknowledge_of s ≡ done 0 (acknowledged s)
unfolding acknowledge_of
acknowledge_is s h = rw h

-- ---- one record of each kind, on a chip beside a memory
module _ (on : Settings) (s : State) (m : Memory) where
  pub command_alone : (code room : ℕ) → 5 ≤ room
      → run_of (card_with on s m) (3 ∷ 0 ∷ 3 ∷ 0 ∷ code ∷ []) room
      ≡ took (card_with on (command_under on.rule s code).state (kept_after m (CommandEvent code) (command_under on.rule s code))) 5
      (3 ∷ 0 ∷ 131 ∷ 0 ∷ number_of (command_under on.rule s code).refusal ∷ [])
  command_alone code room fits =
      let r : List ℕ = 3 ∷ 0 ∷ 3 ∷ 0 ∷ code ∷ [] in
      let h : Holds most_payload r (Command code) = record { length-is = refl; kind_is = refl; there = omega arith; small = lit≤ tt; carried = refl } in
      one_turn (card_with on s m) r room (Command code) h refl fits

-- the kinds without a payload
bare : (e : Event) (k : ℕ) → k ≡ kind_of e → payload_of e ≡ 0 → Carried most_payload 0 e → Holds most_payload (2 ∷ 0 ∷ k ∷ 0 ∷ []) e
bare e k a b c = record { length-is = omega arith; kind_is = omega arith; there = omega arith; small = omega arith; carried = c }

module _ (on : Settings) (s : State) (m : Memory) (room : ℕ) (calm : busy s ≡ false) where
  pub status_alone : 6 ≤ room → run_of (card_with on s m) (2 ∷ 0 ∷ 4 ∷ 0 ∷ []) room ≡ took (card_with on s m) 4 (4 ∷ 0 ∷ 132 ∷ 0 ∷ 0 ∷ s.status ∷ [])
  status_alone fits =
      one_turn (card_with on s m) (2 ∷ 0 ∷ 4 ∷ 0 ∷ []) room Status (bare Status 4 refl refl tt) refl fits ∙ rw (read_is s calm)

  pub reset_alone : 5 ≤ room → run_of (card_with on s m) (2 ∷ 0 ∷ 5 ∷ 0 ∷ []) room ≡ took (card_with on (after_reset on.mode s) empty_memory) 4
      (3 ∷ 0 ∷ 133 ∷ 0 ∷ 0 ∷ [])
  reset_alone fits =
      one_turn (card_with on s m) (2 ∷ 0 ∷ 5 ∷ 0 ∷ []) room Reset (bare Reset 5 refl refl tt) refl fits ∙ rw (reset_is on.mode s calm)

  pub acknowledge_alone : 5 ≤ room → run_of (card_with on s m) (2 ∷ 0 ∷ 6 ∷ 0 ∷ []) room ≡ took (card_with on (acknowledged s) m) 4 (3 ∷ 0 ∷ 134 ∷ 0 ∷ 0 ∷ [])
  acknowledge_alone fits =
      one_turn (card_with on s m) (2 ∷ 0 ∷ 6 ∷ 0 ∷ []) room Acknowledge (bare Acknowledge 6 refl refl tt) refl fits ∙ rw (acknowledge_is s calm)

  pub recall_alone : 7 ≤ room
      → run_of (card_with on s m) (2 ∷ 0 ∷ 7 ∷ 0 ∷ []) room ≡ took (card_with on s m) 4 (5 ∷ 0 ∷ 135 ∷ 0 ∷ 0 ∷ m.bits ∷ m.code ∷ [])
  recall_alone fits =
      one_turn (card_with on s m) (2 ∷ 0 ∷ 7 ∷ 0 ∷ []) room Recall (bare Recall 7 refl refl tt) refl fits ∙ rw calm

  pub forget_alone : 5 ≤ room
      → run_of (card_with on s m) (2 ∷ 0 ∷ 8 ∷ 0 ∷ []) room ≡ took (card_with on s empty_memory) 4 (3 ∷ 0 ∷ 136 ∷ 0 ∷ 0 ∷ [])
  forget_alone fits =
      one_turn (card_with on s m) (2 ∷ 0 ∷ 8 ∷ 0 ∷ []) room Forget (bare Forget 8 refl refl tt) refl fits ∙ rw calm
