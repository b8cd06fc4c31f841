-- 02, ask 11: power goes at any byte. A run that ends with 0 or 6 answers every whole record, and its history makes the list. Assumes nothing.
use mathlib.Core.Path.{◌≡◌, refl, sym, ap, subst, ◌∙◌}
use mathlib.Core.Bool.{Bool, true, false, cond}
use mathlib.Core.List.{List, []}
use Prim.Native.Nat.{ℕ, suc, ◌+◌, ◌-◌, ◌≤◌, ◌<◌}
use native.Mathlib.Omega.{arith}
use lib.Dec.{lit≤}
use lib.ListN.{length, get_or, take, drop}
use Rattle.numbers.specs.Little.{word_at}
use Rattle.terms.specs.declared.Refusal.TheVariants.{BadLength}
use Rattle.terms.specs.Limits.{most_payload}
use Rattle.record_files.specs.Run.{Outcome}
use Rattle.record_files.proofs.Tests.{either_lt, either_eq}
use Rattle.record_files.proofs.Through.{through}
use Rattle.record_files.proofs.Cut.{cut_anywhere}
use Rattle.error_memory.specs.Memory.{Card}
use Rattle.record_runs.specs.Record.{Event}
use Rattle.record_runs.specs.Record.{Push, Pop, Command, Status, Reset, Acknowledge, Recall, Forget}
use Rattle.std.specs.Prelude.{Result}
use Rattle.terms.specs.declared.Refusal.{Refusal}
use Rattle.record_runs.specs.Record.{Head}
use Rattle.record_runs.specs.Record.{Whole, Stop}
use Rattle.terms.specs.declared.EventKind.{EventKind}
use Rattle.terms.specs.declared.EventKind.TheVariants.{Push as PushKind, Pop as PopKind, Command as CommandKind, Status as StatusKind}
use Rattle.terms.specs.declared.EventKind.TheVariants.{Reset as ResetKind, Acknowledge as AcknowledgeKind, Recall as RecallKind}
use Rattle.terms.specs.declared.EventKind.TheVariants.{Forget as ForgetKind, Unknown as UnknownKind}
use Rattle.terms.specs.Kind.{kind_named}
use Rattle.record_runs.specs.Record.{exactly, row_by, row_under, head_in, head_under, head_number, frame_under, answered_of, turn_by, turn_under, turn_of}
use Rattle.sheet_bytes.specs.Ledger.{is_sheets, closed_in, is_open}
use Rattle.sheet_bytes.proofs.Ledgers.{is_long}
use Rattle.sheets.specs.Step.{Held, holding, sheet_step, run_of}
use Rattle.sheets.proofs.Lines.{ways, lawful}
use Rattle.sheet_promises.specs.Records.{records_of}
use Rattle.sheet_promises.proofs.CardHistory.{AnsweredAndListed}
use Rattle.sheet_promises.proofs.Split.{none_of, no_bytes_lem}
use Rattle.sheet_promises.proofs.Standing.{at_start_lem}
use Rattle.sheet_promises.proofs.Agreeing.{Agrees}
use Rattle.sheet_promises.proofs.Telling.{its_records, its_replies, follows}

-- ---- 6 is for a record that is not all there

-- no row of the table is 6
abbrev NotSix : Head → Type 0
NotSix h = head_number h ≡ 6 → ⊥

bad : NotSix (Stop BadLength)
bad z = omega arith

fine : (e : Event) → NotSix (Whole e)
fine e z = omega arith

exact : (wanted n : ℕ) (e : Event) → NotSix (exactly wanted n e)
exact wanted n e = either_eq NotSix n wanted _ _ (λ h. fine e) (λ h. bad)

no_six_by : (most : ℕ) (kind : EventKind) (n first : ℕ) → NotSix (row_by most kind n first)
no_six_by most PushKind n first = either_lt NotSix n 1 _ _ (λ h. bad) (λ h. fine (Push n))
no_six_by most PopKind n first =
    either_eq NotSix n 1 _ _
    (λ h. either_lt NotSix first 1 _ _ (λ i. bad) (λ i. either_lt NotSix most first _ _ (λ j. bad) (λ j. fine (Pop first)))) (λ h. bad)
no_six_by most CommandKind n first = exact 1 n (Command first)
no_six_by most StatusKind n first = exact 0 n Status
no_six_by most ResetKind n first = exact 0 n Reset
no_six_by most AcknowledgeKind n first = exact 0 n Acknowledge
no_six_by most RecallKind n first = exact 0 n Recall
no_six_by most ForgetKind n first = exact 0 n Forget
no_six_by most UnknownKind n first = λ z. omega arith

no_six : (most kind n first : ℕ) → NotSix (row_under most kind n first)
no_six most kind n first = no_six_by most (kind_named kind) n first

-- so it is the frame's
six_head : (l : List ℕ) → head_number (head_under most_payload l) ≡ 6 → length l < 2 + word_at l 0
unfolding frame_under
six_head l =
    either_lt (λ (f : Result ℕ Refusal). Short f) (length l) 2 _ _ (λ a z. omega arith) (λ a.
    either_lt (λ (f : Result ℕ Refusal). Short f) (word_at l 0) 2 _ _ (λ b z. absurd (bad z)) (λ b.
    either_lt (λ (f : Result ℕ Refusal). Short f) (2 + most_payload) (word_at l 0) _ _ (λ d z. absurd (bad z)) (λ d.
    either_lt (λ (f : Result ℕ Refusal). Short f) (length l - 2) (word_at l 0) _ _ (λ e z. omega arith) (λ e z.
    absurd (no_six most_payload (word_at l 2) (word_at l 0 - 2) (get_or l 4 0) z)))))
  where
    Short : Result ℕ Refusal → Type 0
    Short f = head_number (head_in most_payload l f) ≡ 6 → length l < 2 + word_at l 0

six_turn : (c : Card) (l : List ℕ) (room : ℕ) (h : Head) → (turn_by c l room h).refusal ≡ 6 → head_number h ≡ 6
six_turn c l room (Stop r) = λ z. z
six_turn c l room (Whole e) =
    either_lt (λ (t : Outcome Card). t.refusal ≡ 6 → head_number (Whole e) ≡ 6) room (5 + answered_of e) _ _ (λ g z. let y : ⊥ = omega arith in absurd y)
    (λ g z. z)

six_core : (c : Card) (l : List ℕ) (room : ℕ) → (turn_of c l room).refusal ≡ 6 → length l < 2 + word_at l 0
unfolding turn_under
six_core c l room z = six_head l (six_turn c l room (head_under most_payload l) z)

six_line : (h : Held) (l : List ℕ) (room : ℕ) → (sheet_step h l room).refusal ≡ 6 → length l < 2 + word_at l 0
six_line h l room =
    ways (λ t. t.refusal ≡ 6 → length l < 2 + word_at l 0) h l room (λ o q z. let y : ⊥ = omega arith in absurd y)
    (λ o q g z. let y : ⊥ = omega arith in absurd y)
    (λ o q g z. let y : ⊥ = omega arith in absurd y) (λ n z. six_core h.card l room z)

-- ---- every whole record has its reply

abbrev AllAnswered : Held → List ℕ → ℕ → Outcome Held → Type 0
AllAnswered h l room o = ((o.refusal ≡ 0 → ⊥) → o.refusal ≡ 6) → length (records_of o.written) ≡ length (records_of l)

pub answers : (h : Held) (l : List ℕ) (room : ℕ) → AllAnswered h l room (run_of h l room)
answers =
    through lawful AllAnswered
    (λ h room e. refl)
    (λ h l room p z e. sym (ap length (none_of l (six_line h l room (e z))) ∙ rw no_bytes_lem))
    (λ h l room p z ih e.
    let t = sheet_step h l room in
    let o = run_of t.state (drop t.taken l) (room - length t.written) in
    ap length (its_replies h l room z o.written) ∙ ap suc (ih e) ∙ sym (ap length (its_records h l room z o.written)))

-- ---- the statement

-- an empty list with no sheet open agrees with no history
pub empty : (sheets : List ℕ) → is_sheets sheets ≡ true → closed_in sheets ≡ 0 → is_open sheets ≡ false → Agrees [] sheets
empty sheets g n o = record {
  long = is_long sheets g;
  few = rw n (lit≤ tt);
  list_is = rw n;
  open_is = λ p. absurd (subst (λ (x : Bool). cond x Unit ⊥) (sym p ∙ o) tt);
}

-- a file that would have ended with 0, cut after any byte and run from the same card in the same room, on an empty list with no sheet open
pub power_cut : (c : Card) (sheets l : List ℕ) (room : ℕ) → is_sheets sheets ≡ true → closed_in sheets ≡ 0 → is_open sheets ≡ false
    → (run_of (holding c sheets) l room).refusal ≡ 0 → (k : ℕ) → k ≤ length l
    → AnsweredAndListed c room (take k l) (run_of (holding c sheets) (take k l) room).written (run_of (holding c sheets) (take k l) room).state.sheets
power_cut c sheets l room g n o e k most =
    let d = cut_anywhere lawful (holding c sheets) l room e k most in
    let i = d.1 in
    record {
      all_answered_lem =
          answers (holding c sheets) (take k l) room (λ z.
          either_lt (λ (x : ℕ). (run_of (holding c sheets) (take k l) room).refusal ≡ 6) d.0 k 0 0 (λ j. i.in_one j)
          (λ j. absurd (z (i.at_end (let u = i.upto in omega arith)))));
      list_is = (follows (holding c sheets) (take k l) room c room [] [] (at_start_lem c room) (empty sheets g n o)).list_is;
    }
