-- 02, ask 11: a keep that was answered 0 had nothing pending, and a slot. Every run on the slice goes on from the history of those before it. Assumes nothing.
use mathlib.Core.Path.{◌≡◌, refl, sym, ◌∙◌}
use mathlib.Core.Bool.{Bool, true, false, false≢true}
use mathlib.Core.List.{List}
use Prim.Native.Nat.{ℕ, ◌+◌, ◌≤◌, ◌<◌}
use native.Mathlib.Omega.{arith}
use lib.Dec.{lit<}
use lib.ListN.{get_or, take, drop}
use lib.Seq.{get_or-take, get_or-drop}
use borrow.Author.Tests.{lt-ltb, le-ltb, ne_eqb, eqb-true}
use Rattle.numbers.specs.Little.{word_at}
use Rattle.record_files.specs.Run.{Outcome}
use Rattle.record_files.proofs.Tests.{either_lt, either_eq}
use Rattle.error_memory.specs.Memory.{Card}
use Rattle.record_runs.specs.Record.{turn_of}
use Rattle.sheet_bytes.specs.Ledger.{is_open}
use Rattle.sheet_bytes.specs.Entering.{Entered, number_of, payload_for, keep_of}
use Rattle.sheets.specs.Step.{Held, top_of, entry_of, core_by, run_of}
use Rattle.sheets.proofs.Lines.{Owns, done, taken, core_took}
use Rattle.sheet_promises.specs.Records.{records_of}
use Rattle.sheet_promises.specs.History.{Entry, keeps}
use Rattle.sheet_promises.proofs.CardHistory.{entry_on, card_history}
use Rattle.sheet_promises.specs.OwnWords.{Every}
use Rattle.sheet_promises.proofs.Turns.{word_front}
use Rattle.sheet_promises.proofs.Standing.{Stands}
use Rattle.sheet_promises.proofs.Telling.{along}

-- ---- a keep that was answered 0 had nothing pending, and a slot

abbrev pub Whole : Entry → Type 0
Whole e = (slot : ℕ) → keeps slot e ≡ true → (e.pending ≡ false) × (slot < 4)

-- a record of another kind, or one that was refused, keeps nothing
not_keep : (e : Entry) → (word_at e.bytes 2 ≡ 257 → ⊥) → Whole e
not_keep e n slot h = absurd (false≢true (rw (ne_eqb (word_at e.bytes 2) 257 n) at h))

abbrev Kept : Card → List ℕ → Entered → Type 0
Kept c bytes e = Whole (entry_on c bytes (number_of e.refusal))

module _ (c : Card) (bytes sheets : List ℕ) (k : word_at bytes 2 ≡ 257) where
  away : (n : ℕ) → (n ≡ 0 → ⊥) → Whole (entry_on c bytes n)
  away n z slot h = absurd (false≢true (rw (k, ne_eqb n 0 z) at h))

  same_slot : (slot : ℕ) → keeps slot (entry_on c bytes 0) ≡ true → get_or bytes 4 0 ≡ slot
  same_slot slot h = eqb-true (get_or bytes 4 0) slot (rw k at h)

  keep_whole : Kept c bytes (keep_of sheets (get_or bytes 4 0) c.chip.pending (top_of c))
  keep_whole = pick (is_open sheets) refl
    where
      at : ℕ
      at = get_or bytes 4 0

      kept_so : is_open sheets ≡ true → at ≤ 3 → (b : Bool) → c.chip.pending ≡ b → Kept c bytes (keep_of sheets at b (top_of c))
      kept_so o h true p = rw (o, le-ltb 3 at h) (away 23 (λ z. omega arith))
      kept_so o h false p = rw (o, le-ltb 3 at h) (λ slot e. (p, omega (arith, same_slot slot e)))

      pick : (b : Bool) → is_open sheets ≡ b → Kept c bytes (keep_of sheets at c.chip.pending (top_of c))
      pick false o = rw o (away 21 (λ z. omega arith))
      pick true o =
          either_lt (λ (n : ℕ). Kept c bytes (keep_of sheets at c.chip.pending (top_of c))) 3 at 0 0
          (λ h. rw (o, lt-ltb 3 at h) (away 22 (λ z. omega arith)))
          (λ h. kept_so o h c.chip.pending refl)

-- of every record that is taken
abbrev TakenWhole : Held → List ℕ → Outcome Held → Type 0
TakenWhole h l t = Whole (entry_on h.card (take t.taken l) (get_or t.written 4 0))

own_whole : (h : Held) (l : List ℕ) → Owns l → TakenWhole h l (done h l)
own_whole h l o =
    either_eq (λ (n : ℕ). TakenWhole h l (done h l)) (word_at l 2) 257 0 0 keeping
    (λ n. not_keep (entry_on h.card (take (4 + payload_for (word_at l 2)) l)
    (number_of (entry_of h (word_at l 2) (take (payload_for (word_at l 2)) (drop 4 l))).refusal))
    (λ y. n (sym (word_front (4 + payload_for (word_at l 2)) l 2 (omega arith)) ∙ y)))
  where
    keeping : word_at l 2 ≡ 257 → TakenWhole h l (done h l)
    keeping k =
        let g : get_or (take 1 (drop 4 l)) 0 0 ≡ get_or (take 5 l) 4 0 = get_or-take 1 (drop 4 l) 0 0 (lit< tt) ∙ get_or-drop 4 l 0 0
        ∙ sym (get_or-take 5 l 4 0 (lit< tt)) in
        rw (k, g) (keep_whole h.card (take 5 l) h.sheets (word_front 5 l 2 (lit< tt) ∙ k))

core_whole : (h : Held) (l : List ℕ) (room : ℕ) → (turn_of h.card l room).refusal ≡ 0 → TakenWhole h l (core_by h (word_at l 2) (turn_of h.card l room))
core_whole h l room z =
    let t = turn_of h.card l room in
    let c = core_took h.card l room z in
    let k8 = c.kind_is in
    let k : word_at (take t.taken l) 2 ≡ word_at l 2 = word_front t.taken l 2 (omega (arith, c.four)) in
    not_keep (entry_on h.card (take t.taken l) (get_or t.written 4 0)) (λ y. omega arith)

-- ---- and so of a run

pub keeping : (h : Held) (l : List ℕ) (room : ℕ) (c : Card) (all : ℕ) (before : List (List ℕ)) (es : List Entry) → Stands c all before h.card room
    → Every Whole es → Every Whole (card_history c all before (records_of l) (records_of (run_of h l room).written) es)
keeping =
    along (λ es s. Every Whole es)
    (λ h l room p z es q. (taken (TakenWhole h l) h l room (λ o q g. own_whole h l o) (λ y. core_whole h l room y) z, q))
