-- Two steps that differ only where the first stops with one refusal run every file alike up to the record that stops it. Under a wider limit a record that did
-- not stop with 7 is the record that it was: only a length or a count over the narrower limit tells them apart, and that is 7. Assumes nothing.
use mathlib.Core.Path.{◌≡◌, refl, sym, ap, ◌∙◌}
use mathlib.Core.List.{List}
use Prim.Native.Nat.{ℕ, ◌+◌, ◌-◌, ◌≤◌, ◌<◌}
use native.Mathlib.Omega.{arith}
use lib.Dec.{lit<}
use lib.ListN.{length, get_or, drop, take, take-append-drop}
use borrow.Author.Tests.{lt-ltb, le-ltb, ne_eqb}
use Rattle.terms.specs.declared.Refusal.TheVariants.{BadLength}
use Rattle.terms.specs.Limits.{least_length}
use Rattle.error_memory.specs.Memory.{Card}
use Rattle.record_files.proofs.Tests.{either_lt, either_eq}
use Rattle.record_files.proofs.Append.{onward, nothing, first_stops, first_taken, appended}
use Rattle.std.specs.Prelude.{Result, Ok, Err}
use Rattle.terms.specs.declared.Refusal.{Refusal}
use Rattle.terms.specs.declared.EventKind.{EventKind}
use Rattle.terms.specs.declared.EventKind.TheVariants.{
  Push as PushKind,
  Pop as PopKind,
  Command as CommandKind,
  Status as StatusKind,
  Reset as ResetKind,
  Acknowledge as AcknowledgeKind,
  Recall as RecallKind,
  Forget as ForgetKind,
  Unknown as UnknownKind,
}
use Rattle.terms.specs.Kind.{kind_named}
use Rattle.record_runs.specs.Record.{Head, Stop, word_at, pop_row, row_by, frame_under, head_in, head_under, turn_by, turn_under}
use Rattle.record_runs.specs.Run.{run_under}
use Rattle.record_runs.proofs.Heads.{short, low, high, cut, whole}
use Rattle.record_runs.proofs.Prefix.{lawful_under}
use Rattle.record_files.specs.Run.{RecordStep, Outcome, after, run_by}
use Rattle.record_files.specs.Lawful.{Lawful}
use Rattle.record_files.proofs.Through.{ended_well, through, up_to_stop}

module _ {S : Type 0} {m n : ℕ} {a b : RecordStep S} (la : Lawful m a) (lb : Lawful n b) (r : ℕ) (some : 0 < r)
    (same : (s : S) (l : List ℕ) (room : ℕ) → ((a s l room).refusal ≡ r → ⊥) → b s l room ≡ a s l room) where
  runs_alike : (s : S) (l : List ℕ) (room : ℕ) → ((run_by a s l room).refusal ≡ r → ⊥) → run_by b s l room ≡ run_by a s l room
  runs_alike =
      through la (λ s l room o. (o.refusal ≡ r → ⊥) → run_by b s l room ≡ o)
      (λ s room z. nothing lb s room)
      (λ s l room p y z. first_stops lb s l room (a s l room) (same s l room z) p y)
      (λ s l room p y more z.
      first_taken lb s l room (a s l room) (same s l room (λ e. let x : 0 ≡ r = sym y ∙ e in omega arith)) p y
      ∙ ap (after (a s l room).taken (a s l room).written) (more z))

  -- the file up to the stop, and the run of the whole file from there
  module _ (s : S) (l : List ℕ) (room : ℕ) where
    alike_up_to : run_by b s (take (run_by a s l room).taken l) room ≡ ended_well (run_by a s l room)
    alike_up_to =
        let k = take (run_by a s l room).taken l in
        let e = up_to_stop la s l room in
        runs_alike s k room (λ z. let x : 0 ≡ r = sym (ap (λ (o : Outcome S). o.refusal) e) ∙ z in omega arith) ∙ e

    alike_from : run_by b s l room ≡ onward b (run_by a s l room) (drop (run_by a s l room).taken l) room
    alike_from =
        let o = run_by a s l room in
        ap (λ (k : List ℕ). run_by b s k room) (sym (take-append-drop o.taken l))
        ∙ appended lb s (take o.taken l) (drop o.taken l) room (ap (λ (p : Outcome S). p.refusal) alike_up_to)
        ∙ ap (λ (p : Outcome S). onward b p (drop o.taken l) room) alike_up_to

-- ---- a wider limit

module _ (m k : ℕ) (wider : m ≤ k) where
  same_frame : (l : List ℕ) → (frame_under m l ≡ Err BadLength → ⊥) → frame_under k l ≡ frame_under m l
  same_frame l other =
      either_lt (λ (x : ℕ). frame_under k l ≡ frame_under m l) (length l) 2 0 0 (λ a. short k l a ∙ sym (short m l a)) (λ a.
      either_lt (λ (x : ℕ). frame_under k l ≡ frame_under m l) (word_at l 0) least_length 0 0 (λ b. absurd (other (low m l a b))) (λ b.
      either_lt (λ (x : ℕ). frame_under k l ≡ frame_under m l) (least_length + m) (word_at l 0) 0 0 (λ d. absurd (other (high m l a b d))) (λ d.
      either_lt (λ (x : ℕ). frame_under k l ≡ frame_under m l) (length l - 2) (word_at l 0) 0 0
      (λ e. cut k l a b (omega arith) e ∙ sym (cut m l a b d e))
      (λ e. whole k l a b (omega arith) e ∙ sym (whole m l a b d e)))))

  -- a pop's row alone has the limit in it
  same_row : (kind : EventKind) (n first : ℕ) → (row_by m kind n first ≡ Stop BadLength → ⊥) → row_by k kind n first ≡ row_by m kind n first
  same_row PopKind n first other =
      either_eq (λ (x : ℕ). pop_row k n first ≡ pop_row m n first) n 1 0 0
      (λ b. either_lt (λ (x : ℕ). pop_row k n first ≡ pop_row m n first) first 1 0 0
      (λ d. rw (b, lt-ltb first 1 d))
      (λ d. either_lt (λ (x : ℕ). pop_row k n first ≡ pop_row m n first) m first 0 0
      (λ e. absurd (other (rw (b, le-ltb first 1 d, lt-ltb m first e))))
      (λ e. rw (b, le-ltb first 1 d, le-ltb m first e, le-ltb k first (omega arith)))))
      (λ b. rw (ne_eqb n 1 b))
  same_row PushKind n first other = refl
  same_row CommandKind n first other = refl
  same_row StatusKind n first other = refl
  same_row ResetKind n first other = refl
  same_row AcknowledgeKind n first other = refl
  same_row RecallKind n first other = refl
  same_row ForgetKind n first other = refl
  same_row UnknownKind n first other = refl

  same_in : (l : List ℕ) (f : Result ℕ Refusal) → (head_in m l f ≡ Stop BadLength → ⊥) → head_in k l f ≡ head_in m l f
  same_in l (Ok n) other = same_row (kind_named (word_at l 2)) n (get_or l 4 0) other
  same_in l (Err r) other = refl

  same_head : (l : List ℕ) → (head_under m l ≡ Stop BadLength → ⊥) → head_under k l ≡ head_under m l
  same_head l other =
      ap (head_in k l) (same_frame l (λ e. other (ap (head_in m l) e))) ∙ same_in l (frame_under m l) other

  same_turn : (s : Card) (l : List ℕ) (room : ℕ) → ((turn_under m s l room).refusal ≡ 7 → ⊥) → turn_under k s l room ≡ turn_under m s l room
  unfolding turn_under
  same_turn s l room other = ap (turn_by s l room) (same_head l (λ e. other (ap (λ (h : Head). (turn_by s l room h).refusal) e)))

  -- files: one that did not stop with 7, and any other up to the record that stopped it
  module _ (some : 2 ≤ m) (s : Card) (l : List ℕ) (room : ℕ) where
    pub same_run : ((run_under m s l room).refusal ≡ 7 → ⊥) → run_under k s l room ≡ run_under m s l room
    same_run = runs_alike (lawful_under m some) (lawful_under k (omega arith)) 7 (lit< tt) same_turn s l room

    pub same_up_to : run_under k s l room ≡ onward (turn_under k) (run_under m s l room) (drop (run_under m s l room).taken l) room
    same_up_to = alike_from (lawful_under m some) (lawful_under k (omega arith)) 7 (lit< tt) same_turn s l room
