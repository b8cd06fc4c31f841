-- Every run keeps the bytes of the sheets in agreement with the history that its records and replies tell. Assumes nothing.
use mathlib.Core.Path.{◌≡◌, refl, sym, ap, subst, ◌∙◌}
use mathlib.Core.Bool.{Bool, true, false}
use mathlib.Core.List.{List, [], ◌∷◌, ◌++◌}
use Prim.Native.Nat.{ℕ, ◌+◌, ◌-◌, ◌≤◌, ◌<◌}
use native.Mathlib.Omega.{arith}
use lib.Dec.{lit<, lit≤}
use lib.ListN.{length, get_or, take, drop, length-drop}
use lib.Seq.{get_or-take, get_or-drop, take-take, length-take-le}
use borrow.Author.Tests.{lt-ltb, le-ltb, eq-eqb, ne_eqb}
use Rattle.numbers.specs.Little.{word_at}
use Rattle.record_files.specs.Run.{Outcome}
use Rattle.record_files.proofs.Tests.{either_lt, either_eq}
use Rattle.record_files.proofs.Through.{through, drop_take}
use Rattle.error_memory.specs.Memory.{Card}
use Rattle.record_runs.specs.Record.{turn_of}
use Rattle.sheet_bytes.specs.declared.Refusal.{Refusal}
use Rattle.sheet_bytes.specs.declared.Refusal.TheVariants.{Done, StillOpen, NoneOpen, NoSuchSlot, HalfPending, SlotEmpty, ListFull}
use Rattle.sheet_bytes.specs.Ledger.{closed_in, is_open, kept_bits, dropped}
use Rattle.sheet_bytes.specs.Entering.{Entered, number_of, payload_for, open_of, keep_of, close_of}
use Rattle.sheets.specs.Step.{Held, top_of, entry_of, core_by, sheet_step, run_of}
use Rattle.sheets.proofs.Lines.{Owns, done, own_kind_lem, low_kind, taken, core_took, lawful}
use Rattle.sheet_promises.specs.Records.{records_of}
use Rattle.sheet_promises.specs.History.{Entry}
use Rattle.sheet_promises.proofs.CardHistory.{entry_on, card_history}
use Rattle.sheet_promises.proofs.Turns.{word_front}
use Rattle.sheet_promises.proofs.Split.{first_of, no_bytes_lem, record_then}
use Rattle.sheet_promises.proofs.Standing.{Stands, past_own, past_core}
use Rattle.sheet_promises.proofs.Agreeing.{Agrees, Quiet, quiet, quiet_dropped, refused_quiet, other_quiet, opened_agrees, kept_agrees, closed_agrees}

-- an entry of a record and the refusal that it was answered
abbrev entry : Card → List ℕ → Refusal → Entry
entry c bytes r = entry_on c bytes (number_of r)

abbrev So : Card → List ℕ → List Entry → Entered → Type 0
So c bytes es e = Agrees (entry c bytes e.refusal ∷ es) e.sheets

-- ---- a record of each kind
module _ (c : Card) (bytes : List ℕ) (es : List Entry) (sheets : List ℕ) (ag : Agrees es sheets) where
  refused : (r : Refusal) → (number_of r ≡ 0 → ⊥) → Agrees (entry c bytes r ∷ es) sheets
  refused r z = quiet (entry c bytes r) es sheets (refused_quiet (entry c bytes r) z) ag

  open_tells : (payload : List ℕ) → word_at bytes 2 ≡ 256 → take 4 (drop 4 bytes) ≡ payload → length payload ≡ 4 → So c bytes es (open_of sheets payload)
  open_tells payload k p n = pick (is_open sheets) refl
    where
      pick : (b : Bool) → is_open sheets ≡ b → So c bytes es (open_of sheets payload)
      pick true o = rw o (refused StillOpen (λ z. omega arith))
      pick false o = rw o (opened_agrees (entry c bytes Done) es sheets payload (rw k) (rw k) n p ag)

  keep_tells : (slot : ℕ) → word_at bytes 2 ≡ 257 → get_or bytes 4 0 ≡ slot → So c bytes es (keep_of sheets slot c.chip.pending (top_of c))
  keep_tells slot k g = pick (is_open sheets) refl
    where
      Goal : Type 0
      Goal = So c bytes es (keep_of sheets slot c.chip.pending (top_of c))

      kept_so : is_open sheets ≡ true → slot ≤ 3 → (b : Bool) → So c bytes es (keep_of sheets slot b (top_of c))
      kept_so o h true = rw (o, le-ltb 3 slot h) (refused HalfPending (λ z. omega arith))
      kept_so o h false =
          rw (o, le-ltb 3 slot h)
          (kept_agrees (entry c bytes Done) es sheets slot (top_of c) refl (rw k) (rw k) (rw (k, g) (eq-eqb slot slot refl))
          (λ i z. rw (k, g) (ne_eqb slot i (λ y. z (sym y)))) (omega arith) o ag)

      pick : (b : Bool) → is_open sheets ≡ b → Goal
      pick false o = rw o (refused NoneOpen (λ z. omega arith))
      pick true o =
          either_lt (λ (n : ℕ). Goal) 3 slot 0 0
          (λ h. rw (o, lt-ltb 3 slot h) (refused NoSuchSlot (λ z. omega arith)))
          (λ h. kept_so o h c.chip.pending)

  close_tells : word_at bytes 2 ≡ 258 → So c bytes es (close_of sheets)
  close_tells k = pick (is_open sheets) refl
    where
      pick : (b : Bool) → is_open sheets ≡ b → So c bytes es (close_of sheets)
      pick false o = rw o (refused NoneOpen (λ z. omega arith))
      pick true o =
          either_lt (λ (n : ℕ). So c bytes es (close_of sheets)) (kept_bits sheets) 15 0 0
          (λ h. rw (o, lt-ltb (kept_bits sheets) 15 h) (refused SlotEmpty (λ z. omega arith)))
          (λ h.
          either_lt (λ (n : ℕ). So c bytes es (close_of sheets)) (closed_in sheets) 64 0 0
          (λ i. rw (o, le-ltb (kept_bits sheets) 15 h, lt-ltb (closed_in sheets) 64 i) (closed_agrees (entry c bytes Done) es sheets (rw k) o h i ag))
          (λ i. rw (o, le-ltb (kept_bits sheets) 15 h, le-ltb (closed_in sheets) 64 i) (refused ListFull (λ z. omega arith))))

-- ---- a record that is taken

-- what it leaves: the core stands behind it, and the sheets agree with it
pub record TakenRecord (h : Held) (l : List ℕ) (room : ℕ) (t : Outcome Held) : Type 0 where
  pub stands : (c : Card) (all : ℕ) (before : List (List ℕ)) → Stands c all before h.card room
      → Stands c all (before ++ (take t.taken l ∷ [])) t.state.card (room - length t.written)
  pub agrees : (es : List Entry) → Agrees es h.sheets → Agrees (entry_on h.card (take t.taken l) (get_or t.written 4 0) ∷ es) t.state.sheets

abbrev Goal : Held → List ℕ → List Entry → Type 0
Goal h l es =
    So h.card (take (4 + payload_for (word_at l 2)) l) es (entry_of h (word_at l 2) (take (payload_for (word_at l 2)) (drop 4 l)))

own_tells : (h : Held) (l : List ℕ) (room : ℕ) → Owns l → word_at l 0 ≡ 2 + payload_for (word_at l 2) → TakenRecord h l room (done h l)
own_tells h l room o q = record {
  stands = λ c all before s.
      let k = word_front (4 + payload_for (word_at l 2)) l 2 (omega arith) in
      past_own c all before (take (4 + payload_for (word_at l 2)) l) h.card room (room - 5) (rw k (own_kind_lem (word_at l 2) o.least o.most))
      (omega arith) s;
  agrees = λ es ag.
      either_eq (λ (n : ℕ). Goal h l es) (word_at l 2) 256 0 0 (opening es ag) (λ x.
      either_eq (λ (n : ℕ). Goal h l es) (word_at l 2) 257 0 0 (keeping es ag) (λ y.
      closing es ag (let a = o.least in let b = o.most in omega arith)));
}
  where
    opening : (es : List Entry) → Agrees es h.sheets → word_at l 2 ≡ 256 → Goal h l es
    opening es ag k =
        let there = o.there in
        let q4 : word_at l 0 ≡ 6 = q ∙ rw k in
        let d = length-drop 4 l in
        rw k
        (open_tells h.card (take 8 l) es h.sheets ag (take 4 (drop 4 l)) (word_front 8 l 2 (lit< tt) ∙ k)
        (ap (take 4) (drop_take 4 4 l) ∙ take-take 4 4 (drop 4 l) (lit≤ tt)) (length-take-le 4 (drop 4 l) (omega arith)))

    keeping : (es : List Entry) → Agrees es h.sheets → word_at l 2 ≡ 257 → Goal h l es
    keeping es ag k =
        rw k
        (keep_tells h.card (take 5 l) es h.sheets ag (get_or (take 1 (drop 4 l)) 0 0) (word_front 5 l 2 (lit< tt) ∙ k)
        (get_or-take 5 l 4 0 (lit< tt) ∙ sym (get_or-drop 4 l 0 0) ∙ sym (get_or-take 1 (drop 4 l) 0 0 (lit< tt))))

    closing : (es : List Entry) → Agrees es h.sheets → word_at l 2 ≡ 258 → Goal h l es
    closing es ag k = rw k (close_tells h.card (take 4 l) es h.sheets ag (word_front 4 l 2 (lit< tt) ∙ k))

core_tells : (h : Held) (l : List ℕ) (room : ℕ) → (turn_of h.card l room).refusal ≡ 0 → 0 < length l
    → TakenRecord h l room (core_by h (word_at l 2) (turn_of h.card l room))
core_tells h l room z p =
    let t = turn_of h.card l room in
    let c = core_took h.card l room z in
    let k4 = c.four in
    let k8 = c.kind_is in
    let r : List ℕ = take t.taken l in
    let k : word_at r 2 ≡ word_at l 2 = word_front t.taken l 2 (omega arith) in
    record {
      stands = λ c all before s. past_core c all before h.card l room z p (rw k (low_kind (word_at l 2) (omega arith))) s;
      agrees = λ es ag.
          let e : Entry = entry_on h.card r (get_or t.written 4 0) in
          let q : Quiet e = other_quiet e (rw k (omega arith)) in
          rw (eq-eqb t.refusal 0 z)
          (either_eq (λ (s : List ℕ). Agrees (e ∷ es) s) (word_at l 2) 5 (dropped h.sheets) h.sheets
          (λ y. quiet_dropped e es h.sheets q ag) (λ y. quiet e es h.sheets q ag));
    }

pub tells : (h : Held) (l : List ℕ) (room : ℕ) → 0 < length l → (sheet_step h l room).refusal ≡ 0 → TakenRecord h l room (sheet_step h l room)
tells h l room p = taken (TakenRecord h l room) h l room (λ o q g. own_tells h l room o q) (λ z. core_tells h l room z p)

-- ---- a run

pub no_replies : (c : Card) (room : ℕ) (before rs : List (List ℕ)) (es : List Entry) → card_history c room before rs [] es ≡ es
no_replies c room before [] es = refl
no_replies c room before (r ∷ rs) es = refl

-- the records of a file whose first record is taken, and the replies
module _ (h : Held) (l : List ℕ) (room : ℕ) (z : (sheet_step h l room).refusal ≡ 0) (w : List ℕ) where
  pub its_records : records_of l ≡ take (sheet_step h l room).taken l ∷ records_of (drop (sheet_step h l room).taken l)
  its_records =
      let f : (sheet_step h l room).taken ≡ 2 + word_at l 0 = taken (λ t. t.taken ≡ 2 + word_at l 0) h l room (λ o q g. omega arith)
      (λ y. (core_took h.card l room y).framed) z in
      let i = lawful.within h l room z in
      first_of l (omega arith) ∙ ap (λ (n : ℕ). take n l ∷ records_of (drop n l)) (sym f)

  pub its_replies : records_of ((sheet_step h l room).written ++ w) ≡ (sheet_step h l room).written ∷ records_of w
  its_replies =
      record_then (sheet_step h l room).written w
      (taken (λ t. length t.written ≡ 2 + word_at t.written 0) h l room (λ o q g. refl) (λ y. (core_took h.card l room y).reply_framed) z)

-- over any history that went before, of a file whose first records the core has behind it: what goes on over every record that is taken goes on over a run
module _ (P : List Entry → List ℕ → Type 0)
    (goes_on : (h : Held) (l : List ℕ) (room : ℕ) → 0 < length l → (sheet_step h l room).refusal ≡ 0 → (es : List Entry) → P es h.sheets
    → P (entry_on h.card (take (sheet_step h l room).taken l) (get_or (sheet_step h l room).written 4 0) ∷ es) (sheet_step h l room).state.sheets) where
  abbrev Along : Held → List ℕ → ℕ → Outcome Held → Type 0
  Along h l room o =
      (c : Card) (all : ℕ) (before : List (List ℕ)) (es : List Entry) → Stands c all before h.card room → P es h.sheets
      → P (card_history c all before (records_of l) (records_of o.written) es) o.state.sheets

  pub along : (h : Held) (l : List ℕ) (room : ℕ) → Along h l room (run_of h l room)
  along =
      through lawful Along
      (λ h room c all before es s q. rw no_bytes_lem q)
      (λ h l room p z c all before es s q. rw (no_bytes_lem, no_replies c all before (records_of l) es) q)
      (λ h l room p z ih c all before es s q.
      let t = sheet_step h l room in
      let o = run_of t.state (drop t.taken l) (room - length t.written) in
      let r : List ℕ = take t.taken l in
      rw (its_records h l room z o.written, its_replies h l room z o.written)
      (subst (λ (k : Card). P (card_history c all (before ++ (r ∷ [])) (records_of (drop t.taken l)) (records_of o.written)
      (entry_on k r (get_or t.written 4 0) ∷ es)) o.state.sheets) (sym s.card_is)
      (ih c all (before ++ (r ∷ [])) (entry_on h.card r (get_or t.written 4 0) ∷ es) ((tells h l room p z).stands c all before s)
      (goes_on h l room p z es q))))

pub follows : (h : Held) (l : List ℕ) (room : ℕ) (c : Card) (all : ℕ) (before : List (List ℕ)) (es : List Entry) → Stands c all before h.card room
    → Agrees es h.sheets → Agrees (card_history c all before (records_of l) (records_of (run_of h l room).written) es) (run_of h l room).state.sheets
follows = along Agrees (λ h l room p z es ag. (tells h l room p z).agrees es ag)
