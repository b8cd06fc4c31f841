-- The book's turn of one record is the library's: 6, 7 and 6 are the frame's, kinds 256 to 258 the ledger's, and any other record, run by the core alone, the
-- core's. Assumes nothing.
use mathlib.Core.Path.{◌≡◌, refl, sym, ap, ap₂, subst, ◌∙◌}
use mathlib.Core.Logic.{inr}
use mathlib.Core.Bool.{Bool, true, false, cond}
use mathlib.Core.List.{List, [], ◌∷◌}
use Prim.Native.Nat.{ℕ, zero, suc, ◌+◌, ◌*◌, ◌-◌, ◌/◌, ◌%◌, ◌≤◌, ◌<◌}
use native.Mathlib.Omega.{arith}
use lib.Dec.{eqb, ltb, lit<}
use lib.ListN.{length, get_or, take, drop, length-drop, length-replicate, get_or-append}
use lib.Seq.{take-append_seam, length-take-le, get_or-take, drop-cons}
use borrow.Author.Tests.{lt-ltb, le-ltb, ltb-true, ltb-false, eq-eqb, ne_eqb}
use Rattle.terms.specs.declared.Refusal.TheVariants.{NoRoom}
use Rattle.terms.specs.Limits.{most_payload}
use Rattle.terms.specs.declared.Settings.{Settings}
use Rattle.numbers.specs.Little.{word_at, le4}
use Rattle.stack.specs.Stack.{tos}
use Rattle.stack.proofs.Words.{byte_at}
use Rattle.error_memory.specs.Memory.{Card}
use Rattle.error_memory.proofs.Good.{ReadyCard}
use Rattle.record_files.specs.Run.{Outcome, ended}
use Rattle.record_files.proofs.Append.{alone, first_stops}
use Rattle.record_files.proofs.Tests.{either_lt, either_eq}
use Rattle.record_files.proofs.Through.{Tally, tally}
use Rattle.terms.specs.declared.EventKind.{EventKind}
use Rattle.terms.specs.declared.EventKind.TheVariants.{Push as PushKind, Pop as PopKind, Command as CommandKind, Status as StatusKind}
use Rattle.terms.specs.declared.EventKind.TheVariants.{Reset as ResetKind, Acknowledge as AcknowledgeKind, Recall as RecallKind}
use Rattle.terms.specs.declared.EventKind.TheVariants.{Forget as ForgetKind, Unknown as UnknownKind}
use Rattle.terms.specs.Kind.{kind_named}
use Rattle.record_runs.specs.Record.{Head}
use Rattle.record_runs.specs.Record.{Whole, Stop}
use Rattle.record_runs.specs.Record.{payload_of as payloadIn, answered_of, answer_of, worked, row_by, row_under, head_under, turn_by, turn_under, turn_of}
use Rattle.record_runs.specs.Record.{stopped as stoppedAt}
use Rattle.record_runs.specs.Run.{run_of as coreRun}
use Rattle.record_runs.proofs.Heads.{short, low, high, cut, whole}
use Rattle.record_runs.proofs.Prefix.{lawful as core-lawful}
use Rattle.state_bytes.specs.Bytes.{card_in, laid_out}
use Rattle.state_bytes.proofs.Cards.{laid_is, laid_at_lem, laid_length, card_long, laid_state, flag_read}
use Rattle.state_bytes.specs.Calls.{ran_of as coreRan, settings_of, call_of as coreCallOf}
use Rattle.state_bytes.proofs.Calling.{good as core-good}
use Rattle.sheet_bytes.specs.declared.Refusal.TheVariants.{StillOpen, NoneOpen, NoSuchSlot, HalfPending, SlotEmpty, ListFull}
use Rattle.sheet_bytes.specs.Ledger as ledger
use Rattle.sheet_bytes.specs.Entering as entering
use Rattle.sheet_bytes.proofs.Laid.{four}
use Rattle.sheets.specs.Step.{Held, holding, core_by, sheet_step}
use Rattle.sheets.proofs.Lines.{Owns, own_kind_lem, kind_owned, ways, done, core_took}
use Rattle.sheet_promises.specs.Bytes.{zeros}
use Rattle.sheet_promises.specs.Sheets.{is_open, number_in, kept_bits, opened, kept, closed}
use Rattle.sheet_promises.specs.Records.{framing, first_record, is_own_kind, payload_of, reply_of, Entered, opening, keeping, closing, enter}
use Rattle.sheet_promises.specs.Runs.{is_pending, top_of, Ran, stopped, answered, from_core, core_turn, turn}
use Rattle.sheet_promises.proofs.Measures.{dropped_is, opened_is, kept_is, closed_is, top_bytes}

-- ---- the book's view of a turn

abbrev pub seen : Outcome Held → Ran
seen t = record { refusal = t.refusal; state = laid_out 21 t.state.card; sheets = t.state.sheets; taken = t.taken; written = t.written }

-- ---- the frame

-- what a whole record at the front says
pub record Framed (l : List ℕ) : Type 0 where
  pub two : 2 ≤ length l
  pub least : 2 ≤ word_at l 0
  pub most : word_at l 0 ≤ 242
  pub there : 2 + word_at l 0 ≤ length l

pub framed : (l : List ℕ) → framing l ≡ 0 → Framed l
framed l =
    either_lt (λ (n : ℕ). n ≡ 0 → Framed l) (length l) 2 _ _ (λ a z. let y : ⊥ = omega arith in absurd y) (λ a.
    either_lt (λ (n : ℕ). n ≡ 0 → Framed l) (word_at l 0) 2 _ _ (λ b z. let y : ⊥ = omega arith in absurd y) (λ b.
    either_lt (λ (n : ℕ). n ≡ 0 → Framed l) 242 (word_at l 0) _ _ (λ c z. let y : ⊥ = omega arith in absurd y) (λ c.
    either_lt (λ (n : ℕ). n ≡ 0 → Framed l) (length l) (2 + word_at l 0) _ _ (λ d z. let y : ⊥ = omega arith in absurd y) (λ d z.
    record { two = a; least = b; most = c; there = d }))))

pub frames : (l : List ℕ) → Framed l → framing l ≡ 0
frames l f = rw (
  le-ltb (length l) 2 f.two,
  le-ltb (word_at l 0) 2 f.least,
  le-ltb 242 (word_at l 0) f.most,
  le-ltb (length l) (2 + word_at l 0)
      f.there,
)

-- else the core stops with its number
pub frame_stops : (c : Card) (l : List ℕ) (room : ℕ) → (framing l ≡ 0 → ⊥) → turn_of c l room ≡ ended (framing l) c
unfolding turn_under
frame_stops c l room =
    either_lt (λ (n : ℕ). (n ≡ 0 → ⊥) → turn_of c l room ≡ ended n c) (length l) 2 _ _ (λ a z. rw (short most_payload l a)) (λ a.
    either_lt (λ (n : ℕ). (n ≡ 0 → ⊥) → turn_of c l room ≡ ended n c) (word_at l 0) 2 _ _ (λ b z. rw (low most_payload l a b)) (λ b.
    either_lt (λ (n : ℕ). (n ≡ 0 → ⊥) → turn_of c l room ≡ ended n c) 242 (word_at l 0) _ _ (λ d z. rw (high most_payload l a b d)) (λ d.
    either_lt (λ (n : ℕ). (n ≡ 0 → ⊥) → turn_of c l room ≡ ended n c) (length l) (2 + word_at l 0) _ _ (λ e z. rw (cut most_payload l a b d (omega arith))) (λ e z.
    absurd (z refl)))))

-- ---- a record of the core, alone

-- what holds of each kind holds of all
of_each : (P : EventKind → Type 0) → P PushKind → P PopKind → P CommandKind → P StatusKind → P ResetKind → P AcknowledgeKind → P RecallKind → P ForgetKind
    → P UnknownKind → (k : EventKind) → P k
of_each P a b c d e f g h i PushKind = a
of_each P a b c d e f g h i PopKind = b
of_each P a b c d e f g h i CommandKind = c
of_each P a b c d e f g h i StatusKind = d
of_each P a b c d e f g h i ResetKind = e
of_each P a b c d e f g h i AcknowledgeKind = f
of_each P a b c d e f g h i RecallKind = g
of_each P a b c d e f g h i ForgetKind = h
of_each P a b c d e f g h i UnknownKind = i

-- a record's row does not look past its own bytes
kind_alone : (most first other : ℕ) (k : EventKind) → row_by most k 0 first ≡ row_by most k 0 other
kind_alone most first other = of_each (λ k. row_by most k 0 first ≡ row_by most k 0 other) refl refl refl refl refl refl refl refl refl

row_alone : (most kind n first other : ℕ) → (0 < n → first ≡ other) → row_under most kind n first ≡ row_under most kind n other
row_alone most kind zero first other e = kind_alone most first other (kind_named kind)
row_alone most kind (suc n) first other e = ap (row_under most kind (suc n)) (e (omega arith))

pub word_front : (n : ℕ) (l : List ℕ) (i : ℕ) → i + 1 < n → word_at (take n l) i ≡ word_at l i
word_front n l i h = rw (get_or-take n l i 0 (omega arith), get_or-take n l (i + 1) 0 h)

module _ (l : List ℕ) (f : Framed l) where
  first_long : length (first_record l) ≡ 2 + word_at l 0
  first_long = length-take-le (2 + word_at l 0) l f.there

  head_alone : head_under most_payload (first_record l) ≡ head_under most_payload l
  head_alone =
      let a = f.least in
      let b = f.most in
      let t = f.there in
      let m = first_long in
      let w : word_at (first_record l) 0 ≡ word_at l 0 = word_front (2 + word_at l 0) l 0 (omega arith) in
      let k : word_at (first_record l) 2 ≡ word_at l 2 = word_front (2 + word_at l 0) l 2 (omega arith) in
      rw (whole most_payload (first_record l) (omega arith) (omega arith) (omega arith) (omega arith), whole most_payload l f.two a b (omega arith), w, k)
      (row_alone most_payload (word_at l 2) (word_at l 0 - 2) (get_or (first_record l) 4 0) (get_or l 4 0) (λ n. get_or-take (2 + word_at l 0) l 4 0 (omega arith)))

-- what stops a record stops it whatever follows
stop_alone : (c : Card) (l m : List ℕ) (room : ℕ) (h : Head) → ((turn_by c l room h).refusal ≡ 0 → ⊥) → turn_by c m room h ≡ ended (turn_by c l room h).refusal c
stop_alone c l m room (Stop r) z = refl
stop_alone c l m room (Whole e) z = by (worked c e (answer_of c (take (payloadIn e) (drop 4 l)) e)) (worked c e (answer_of c (take (payloadIn e) (drop 4 m)) e))
    (ltb room (5 + answered_of e)) refl z
  where
    by : (p q : Outcome Card) (x : Bool) → p.refusal ≡ 0 → ((cond {A = Outcome Card} x (stoppedAt NoRoom c) p).refusal ≡ 0 → ⊥) → cond x (stoppedAt NoRoom c) q
        ≡ ended (cond x (stoppedAt NoRoom c) p).refusal c
    by p q true w y = refl
    by p q false w y = absurd (y w)

stops_alone : (c : Card) (l : List ℕ) (room : ℕ) → Framed l → ((turn_of c l room).refusal ≡ 0 → ⊥) → turn_of c (first_record l) room
    ≡ ended (turn_of c l room).refusal c
unfolding turn_under
stops_alone c l room f z = rw (head_alone l f) (stop_alone c l (first_record l) room (head_under most_payload l) z)

-- the core's run of the record alone is its turn
runs_alone : (c : Card) (l : List ℕ) (room : ℕ) → Framed l → coreRun c (first_record l) room ≡ turn_of c l room
runs_alone c l room f =
    either_eq (λ (x : ℕ). coreRun c (first_record l) room ≡ turn_of c l room) (turn_of c l room).refusal 0 0 0 taken stops
  where
    taken : (turn_of c l room).refusal ≡ 0 → coreRun c (first_record l) room ≡ turn_of c l room
    taken z =
        let two = f.two in
        subst (λ (n : ℕ). coreRun c (take n l) room ≡ turn_of c l room) (core_took c l room z).framed
        (alone core-lawful c l room (omega arith) z
        ∙ ap (λ (r : ℕ). record { refusal = r; state = (turn_of c l room).state; taken = (turn_of c l room).taken; written = (turn_of c l room).written }) (sym z))

    stops : ((turn_of c l room).refusal ≡ 0 → ⊥) → coreRun c (first_record l) room ≡ turn_of c l room
    stops z =
        let m = first_long l f in
        first_stops core-lawful c (first_record l) room (ended (turn_of c l room).refusal c) (stops_alone c l room f z) (omega arith) z
        ∙ sym (core-lawful.stops c l room z).1

-- ---- what a report says

pub four_exact : (n : ℕ) → n < 4294967296 → n % 256 + n / 256 % 256 * 256 + n / 65536 % 256 * 65536 + n / 16777216 % 256 * 16777216 ≡ n
four_exact n h =
    let a : n / 65536 ≡ n / 256 / 256 = omega arith in
    let b : n / 16777216 ≡ n / 65536 / 256 = omega arith in
    let c : n / 16777216 % 256 ≡ n / 16777216 = omega arith in
    omega arith

-- ---- the bytes of a card, as the book reads them
module _ (c : Card) (r : ReadyCard c) where
  pub long_card : length (laid_out 21 c) ≡ 21
  long_card = laid_length c r.chip.stack.sixteen 21 (inr refl)

  pub pending_is : (size : ℕ) → is_pending (laid_out size c) ≡ c.chip.pending
  pending_is size = ap (λ (n : ℕ). eqb n 1) (laid_at_lem c r.chip.stack.sixteen size 0) ∙ flag_read c.chip.pending

  on_stack : (size i : ℕ) → i < 16 → get_or (laid_out size c) i 0 ≡ get_or c.chip.stack i 0
  on_stack size i h = let n = r.chip.stack.sixteen in ap (λ (l : List ℕ). get_or l i 0) (laid_is size c)
      ∙ get_or-append c.chip.stack _ 0 i (omega arith)

  pub top_is : (size : ℕ) → top_of (laid_out size c) ≡ le4 (tos 4 c.chip.stack)
  top_is size =
      let s = c.chip.stack in
      let n = r.chip.stack.sixteen in
      let b = byte_at s r.chip.stack.bytes in
      let f : get_or s 0 0 ∷ get_or s 1 0 ∷ get_or s 2 0 ∷ get_or s 3 0 ∷ drop 4 s ≡ s =
      sym (drop-cons s 0 0 (omega arith) ∙ ap (λ (t : List ℕ). get_or s 0 0 ∷ t)
      (drop-cons s 1 0 (omega arith) ∙ ap (λ (t : List ℕ). get_or s 1 0 ∷ t)
      (drop-cons s 2 0 (omega arith) ∙ ap (λ (t : List ℕ). get_or s 2 0 ∷ t) (drop-cons s 3 0 (omega arith))))) in
      rw (on_stack size 0 (lit< tt), on_stack size 1 (lit< tt), on_stack size 2 (lit< tt), on_stack size 3 (lit< tt))
      (sym (top_bytes (get_or s 0 0) (get_or s 1 0) (get_or s 2 0) (get_or s 3 0) (drop 4 s) (b 0) (b 1) (b 2) (b 3)) ∙ ap (λ (k : List ℕ). le4 (tos 4 k)) f)

-- ---- kinds 256 to 258

abbrev told : entering.Entered → Entered
told e = record { refusal = entering.number_of e.refusal; sheets = e.sheets }

-- no refusal, with these sheets after
abbrev enters : List ℕ → Entered
enters l = record { refusal = 0; sheets = l }

module _ (l : List ℕ) (long : length l ≡ 1303) where
  opening_is : (serial : List ℕ) → length serial ≡ 4 → opening l serial ≡ told (entering.open_of l serial)
  opening_is serial four = by (is_open l)
    where
      by : (b : Bool) → cond b (record { refusal = 20; sheets = l }) (enters (opened l serial))
          ≡ told (cond b (entering.refuse StillOpen l) (entering.enter (ledger.opened l serial)))
      by true = refl
      by false = ap enters (sym (opened_is l long serial four))

  keeping_is : (slot : ℕ) (pending : Bool) (top : ℕ) → keeping l slot pending (le4 top) ≡ told (entering.keep_of l slot pending top)
  keeping_is slot pending top = by (is_open l) (ltb 3 slot) pending refl
    where
      by : (b x p : Bool) → ltb 3 slot ≡ x
          → cond b (cond x (record { refusal = 22; sheets = l }) (cond p (record { refusal = 23; sheets = l }) (enters (kept l slot (le4 top)))))
          (record { refusal = 21; sheets = l })
          ≡ told (cond b (cond x (entering.refuse NoSuchSlot l) (cond p (entering.refuse HalfPending l) (entering.enter (ledger.kept_in l slot (le4 top)))))
          (entering.refuse NoneOpen l))
      by false x p e = refl
      by true true p e = refl
      by true false true e = refl
      by true false false e = ap enters (sym (kept_is l long slot (le4 top) (ltb-false 3 slot e) refl))

  closing_is : closing l ≡ told (entering.close_of l)
  closing_is = by (is_open l) (ltb (kept_bits l) 15) (ltb (number_in l) 64) refl
    where
      by : (b x y : Bool) → ltb (number_in l) 64 ≡ y
          → cond b (cond x (record { refusal = 24; sheets = l }) (cond y (enters (closed l)) (record { refusal = 25; sheets = l })))
          (record { refusal = 21; sheets = l })
          ≡ told (cond b (cond x (entering.refuse SlotEmpty l) (cond y (entering.enter (ledger.closed l)) (entering.refuse ListFull l)))
          (entering.refuse NoneOpen l))
      by false x y e = refl
      by true true y e = refl
      by true false false e = refl
      by true false true e = ap enters (sym (closed_is l long (ltb-true (number_in l) 64 e)))

  enter_is : (kind : ℕ) (payload : List ℕ) (pending : Bool) (top : ℕ) → length payload ≡ payload_of kind → 256 ≤ kind → kind ≤ 258
      → enter l kind payload pending (le4 top) ≡ told (entering.entered_of l kind payload pending top)
  enter_is kind payload pending top n a b =
      either_eq (λ (x : ℕ). Goal kind) kind 256 0 0 (λ e. rw e (opening_is payload (rw e at n))) (λ x.
      either_eq (λ (y : ℕ). Goal kind) kind 257 0 0 (λ e. rw e (keeping_is (get_or payload 0 0) pending top)) (λ y.
      let e : kind ≡ 258 = omega arith in rw e closing_is))
    where
      Goal : ℕ → Type 0
      Goal k = enter l k payload pending (le4 top) ≡ told (entering.entered_of l k payload pending top)

-- the reply's bytes
reply_is : (kind refusal : ℕ) → 256 ≤ kind → kind ≤ 258
    → reply_of kind refusal ≡ 3 ∷ 0 ∷ (kind + 32768) % 256 ∷ (kind + 32768) / 256 ∷ refusal ∷ []
reply_is kind refusal a b =
    let x : kind % 256 ≡ (kind + 32768) % 256 = omega arith in
    let y : 129 ≡ (kind + 32768) / 256 = omega arith in
    ap₂ (λ (p q : ℕ). 3 ∷ 0 ∷ p ∷ q ∷ refusal ∷ []) x y

-- ---- the turn

module _ (mode rule : ℕ) (m : mode ≤ 1) (q : rule ≤ 1) (c : Card) (r : ReadyCard c) (on : c.on ≡ settings_of mode rule) where
  core_alone : (l : List ℕ) (room : ℕ) → Framed l
      → coreCallOf mode rule (laid_out 21 c) (first_record l) (zeros room) (zeros 9) ≡ coreRan 21 (turn_of c l room) (zeros room)
  core_alone l room f =
      let b = f.most in
      let n = first_long l f in
      core-good mode rule (laid_out 21 c) (first_record l) (zeros room) (zeros 9) refl m q (laid_state c r 21 (inr refl)) (omega arith)
      ∙ ap (λ (k : ℕ). coreRan k (coreRun (card_in (settings_of mode rule) (laid_out 21 c)) (first_record l) (length (zeros room))) (zeros room)) (long_card c r)
      ∙ ap (λ (k : ℕ). coreRan 21 (coreRun (card_in (settings_of mode rule) (laid_out 21 c)) (first_record l) k) (zeros room)) (length-replicate {A = ℕ} room 0)
      ∙ ap (λ (k : Card). coreRan 21 (coreRun k (first_record l) room) (zeros room))
      (ap (λ (s : Settings). card_in s (laid_out 21 c)) (sym on) ∙ card_long c r.chip.stack.sixteen)
      ∙ ap (λ (o : Outcome Card). coreRan 21 o (zeros room)) (runs_alone c l room f)

  core_seen : (sheets l : List ℕ) (room : ℕ) → length sheets ≡ 1303 → Framed l → core_turn mode rule (laid_out 21 c) sheets l room
      ≡ seen (core_by (holding c sheets) (word_at l 2) (turn_of c l room))
  core_seen sheets l room long f =
      let t = turn_of c l room in
      ap (from_core sheets (word_at l 2)) (core_alone l room f)
      ∙ rw (
        dropped_is sheets long,
        four_exact t.taken size,
        four_exact (length t.written) reply,
        take-append_seam t.written
            (drop (length t.written) (zeros room)),
      )
    where
      few : Tally 245 (first_record l) room (turn_of c l room)
      few = subst (Tally 245 (first_record l) room) (runs_alone c l room f) (tally core-lawful c (first_record l) room)

      size : (turn_of c l room).taken < 4294967296
      size = let a = few.in_file in let b = first_long l f in let d = f.most in omega arith

      reply : length (turn_of c l room).written < 4294967296
      reply = let a = few.in_file in let b = first_long l f in let d = f.most in let e = few.few in omega arith

  -- every turn
  pub turn_is : (sheets l : List ℕ) (room : ℕ) → length sheets ≡ 1303 → turn mode rule (laid_out 21 c) sheets l room ≡ seen (sheet_step (holding c sheets) l room)
  turn_is sheets l room long = ways (λ t. turn mode rule (laid_out 21 c) sheets l room ≡ seen t) (holding c sheets) l room bad full good core
    where
      frame : Owns l → Framed l
      frame o = let a = o.in_range in let b = o.there in record { two = omega arith; least = a; most = o.short; there = b }

      own : Owns l → is_own_kind (word_at l 2) ≡ true
      own o = own_kind_lem (word_at l 2) o.least o.most

      bad : Owns l → (word_at l 0 ≡ 2 + payload_of (word_at l 2) → ⊥) → turn mode rule (laid_out 21 c) sheets l room ≡ stopped 7 (laid_out 21 c) sheets
      bad o n = rw (frames l (frame o), own o, ne_eqb _ _ n)

      full : Owns l → word_at l 0 ≡ 2 + payload_of (word_at l 2) → room < 5 → turn mode rule (laid_out 21 c) sheets l room ≡ stopped 8 (laid_out 21 c) sheets
      full o n g = rw (frames l (frame o), own o, eq-eqb _ _ n, lt-ltb room 5 g)

      good : Owns l → word_at l 0 ≡ 2 + payload_of (word_at l 2) → 5 ≤ room → turn mode rule (laid_out 21 c) sheets l room ≡ seen (done (holding c sheets) l)
      good o n g =
          let kind = word_at l 2 in
          let d = length-drop 4 l in
          let there = o.there in
          let payload : length (take (payload_of kind) (drop 4 l)) ≡ payload_of kind = length-take-le (payload_of kind) (drop 4 l) (omega arith) in
          let entered : enter sheets kind (take (payload_of kind) (drop 4 l)) (is_pending (laid_out 21 c)) (top_of (laid_out 21 c))
          ≡ told (entering.entered_of sheets kind (take (payload_of kind) (drop 4 l)) c.chip.pending (tos 4 c.chip.stack)) =
          ap₂ (enter sheets kind (take (payload_of kind) (drop 4 l))) (pending_is c r 21) (top_is c r 21)
          ∙ enter_is sheets long kind (take (payload_of kind) (drop 4 l)) c.chip.pending (tos 4 c.chip.stack) payload o.least o.most in
          rw (frames l (frame o), own o, eq-eqb _ _ n, le-ltb room 5 g)
          (ap (answered (laid_out 21 c) kind) entered
          ∙ ap (λ (w : List ℕ). record {
            refusal = 0;
            state = laid_out 21 c;
            sheets = (entering.entered_of sheets kind (take (payload_of kind) (drop 4 l)) c.chip.pending (tos 4 c.chip.stack)).sheets;
            taken = 4 + payload_of kind;
            written = w;
          }) (reply_is kind (entering.number_of (entering.entered_of sheets kind (take (payload_of kind) (drop 4 l)) c.chip.pending
          (tos 4 c.chip.stack)).refusal) o.least o.most))

      core : (Owns l → ⊥) → turn mode rule (laid_out 21 c) sheets l room ≡ seen (core_by (holding c sheets) (word_at l 2) (turn_of c l room))
      core n =
          either_eq (λ (x : ℕ). turn mode rule (laid_out 21 c) sheets l room ≡ seen (core_by (holding c sheets) (word_at l 2) (turn_of c l room))) (framing l) 0 0 0
          (λ z. let f = framed l z in rw (z, other (is_own_kind (word_at l 2)) refl f) (core_seen sheets l room long f))
          (λ z. rw (ne_eqb (framing l) 0 z, frame_stops c l room z, ne_eqb (framing l) 0 z))
        where
          other : (b : Bool) → is_own_kind (word_at l 2) ≡ b → Framed l → is_own_kind (word_at l 2) ≡ false
          other false e f = e
          other true e f = let k = kind_owned (word_at l 2) e in absurd (n
              (record { least = k.0; most = k.1; in_range = f.least; short = f.most; there = f.there }))
