-- 02, ask 11: the core sees a file as if kinds 256 to 258 were struck out: a record of the core is taken alike in the struck file, one of this library is not
-- there. Assumes nothing.
use mathlib.Core.Path.{◌≡◌, refl, sym, ap, subst, ◌∙◌}
use mathlib.Core.Bool.{true, false}
use mathlib.Core.List.{List, ◌++◌}
use Prim.Native.Nat.{ℕ, ◌+◌, ◌*◌, ◌-◌, ◌/◌, ◌%◌, ◌≤◌}
use native.Mathlib.Omega.{arith}
use lib.Dec.{ltb}
use lib.ListN.{length, take, drop, length-append}
use lib.Seq.{take_at, drop_at, length-take-le}
use borrow.Author.Tests.{lt-ltb, le-ltb}
use Rattle.numbers.specs.Little.{word_at}
use Rattle.record_files.specs.Run.{Outcome, after}
use Rattle.record_files.proofs.Through.{through}
use Rattle.record_files.proofs.Append.{nothing, first_taken}
use Rattle.error_memory.specs.Memory.{Card}
use Rattle.record_runs.specs.Record.{turn_of}
use Rattle.record_runs.specs.Run.{run_of as coreRun}
use Rattle.record_runs.proofs.Prefix.{lawful as core-lawful}
use Rattle.sheet_bytes.specs.Entering.{payload_for}
use Rattle.sheets.specs.Step.{Held, holding, is_own_kind, sheet_step, run_of}
use Rattle.sheets.proofs.Lines.{own_kind_lem, low_kind, taken, core_took, lawful}
use Rattle.sheet_promises.specs.Records.{records_of, joined, struck, struck_replies}
use Rattle.sheet_promises.proofs.CardHistory.{Struck}
use Rattle.sheet_promises.proofs.Split.{no_bytes_lem}
use Rattle.sheet_promises.proofs.Turns.{word_front}
use Rattle.sheet_promises.proofs.Telling.{its_records, its_replies}

-- ---- whose record it is
record Own (h : Held) (l : List ℕ) (t : Outcome Held) : Type 0 where
  own_is : is_own_kind (word_at (take t.taken l) 2) ≡ true
  reply_kind_lem : ltb (word_at t.written 2) 32768 ≡ false
  core_is : t.state.card ≡ h.card

record Core (h : Held) (l : List ℕ) (room : ℕ) (t : Outcome Held) : Type 0 where
  not_own : is_own_kind (word_at (take t.taken l) 2) ≡ false
  reply_kind_lem : ltb (word_at t.written 2) 32768 ≡ true
  is_done : (turn_of h.card l room).refusal ≡ 0
  core_is : t.state.card ≡ (turn_of h.card l room).state
  size_is : t.taken ≡ (turn_of h.card l room).taken
  reply_is : t.written ≡ (turn_of h.card l room).written

data Whose (h : Held) (l : List ℕ) (room : ℕ) (t : Outcome Held) : Type 0 where
  ours : Own h l t → Whose h l room t
  cores : Core h l room t → Whose h l room t

-- bit 15 of the kind in a reply
big : (kind : ℕ) → ltb ((kind + 32768) % 256 + (kind + 32768) / 256 * 256) 32768 ≡ false
big kind = le-ltb ((kind + 32768) % 256 + (kind + 32768) / 256 * 256) 32768 (omega arith)

whose : (h : Held) (l : List ℕ) (room : ℕ) → (sheet_step h l room).refusal ≡ 0 → Whose h l room (sheet_step h l room)
whose h l room =
    taken (Whose h l room) h l room
    (λ o q g.
    let k = word_front (4 + payload_for (word_at l 2)) l 2 (omega arith) in
    let a = o.least in
    ours (record {
      own_is = rw k (own_kind_lem (word_at l 2) o.least o.most);
      reply_kind_lem = big (word_at l 2);
      core_is = refl;
    }))
    (λ z.
    let t = turn_of h.card l room in
    let c = core_took h.card l room z in
    let k4 = c.four in
    let k6 = c.kind_is in
    let k = word_front t.taken l 2 (omega arith) in
    cores (record {
      not_own = rw k (low_kind (word_at l 2) (omega arith));
      reply_kind_lem = lt-ltb _ _ c.reply_low;
      is_done = z;
      core_is = refl;
      size_is = refl;
      reply_is = refl;
    }))

-- ---- a run

abbrev Want : Held → List ℕ → Outcome Held → ℕ → Type 0
Want h l o more =
    Struck (coreRun h.card (joined (struck (records_of l))) more) (joined (struck (records_of l))) (joined (struck_replies (records_of o.written)))
    o.state.card

abbrev Strikes : Held → List ℕ → ℕ → Outcome Held → Type 0
Strikes h l room o = o.refusal ≡ 0 → (more : ℕ) → room ≤ more → Want h l o more

-- the core'card record before the rest of the struck file
one_more : (card : Card) (l rest : List ℕ) (room more : ℕ) → (turn_of card l room).refusal ≡ 0 → length (turn_of card l room).written ≤ more
    → coreRun card (take (turn_of card l room).taken l ++ rest) more
    ≡ after (turn_of card l room).taken (turn_of card l room).written (coreRun (turn_of card l room).state rest (more - length (turn_of card l room).written))
one_more card l rest room more z fits =
    let t = turn_of card l room in
    let w = core-lawful.within card l room z in
    let m = core-lawful.moves card l room z in
    let r : List ℕ = take t.taken l in
    let n : length r ≡ t.taken = length-take-le t.taken l w in
    let g = length-append r rest in
    let is : turn_of card (r ++ rest) more ≡ t = core-lawful.alike card l (r ++ rest) room more z (sym (take_at r rest t.taken n)) (omega arith) fits in
    first_taken core-lawful card (r ++ rest) more t is (omega arith) z
    ∙ ap (λ (v : List ℕ). after t.taken t.written (coreRun t.state v (more - length t.written))) (drop_at r rest t.taken n)

one_of : (card : Card) (l rest : List ℕ) (room more size : ℕ) (reply : List ℕ) (st : Card) → size ≡ (turn_of card l room).taken → reply
    ≡ (turn_of card l room).written
    → st ≡ (turn_of card l room).state → (turn_of card l room).refusal ≡ 0 → length (turn_of card l room).written ≤ more
    → coreRun card (take size l ++ rest) more ≡ after size reply (coreRun st rest (more - length reply))
one_of card l rest room more size reply st a b d z fits = rw (a, b, d) (one_more card l rest room more z fits)

goes : (h : Held) (l : List ℕ) (room : ℕ) → (sheet_step h l room).refusal ≡ 0
    → Strikes (sheet_step h l room).state (drop (sheet_step h l room).taken l) (room - length (sheet_step h l room).written)
    (run_of (sheet_step h l room).state (drop (sheet_step h l room).taken l) (room - length (sheet_step h l room).written))
    → Strikes h l room (after (sheet_step h l room).taken (sheet_step h l room).written
    (run_of (sheet_step h l room).state (drop (sheet_step h l room).taken l) (room - length (sheet_step h l room).written)))
goes h l room z ih e more fits = by (whose h l room z)
  where
    by : Whose h l room (sheet_step h l room) → Want h l (after (sheet_step h l room).taken (sheet_step h l room).written
        (run_of (sheet_step h l room).state (drop (sheet_step h l room).taken l) (room - length (sheet_step h l room).written))) more
    by (ours o) =
        let t = sheet_step h l room in
        let u = run_of t.state (drop t.taken l) (room - length t.written) in
        rw (its_records h l room z u.written, its_replies h l room z u.written, o.own_is, o.reply_kind_lem)
        (subst (λ (card : Card). Struck (coreRun card (joined (struck (records_of (drop t.taken l)))) more) (joined (struck (records_of (drop t.taken l))))
        (joined (struck_replies (records_of u.written))) u.state.card) o.core_is
        (ih e more (omega arith)))
    by (cores c) =
        let t = sheet_step h l room in
        let d = turn_of h.card l room in
        let u = run_of t.state (drop t.taken l) (room - length t.written) in
        let rest : List ℕ = joined (struck (records_of (drop t.taken l))) in
        let has : length t.written ≤ room = lawful.fits h l room z in
        let w = lawful.within h l room z in
        let n : length (take t.taken l) ≡ t.taken = length-take-le t.taken l w in
        let g = length-append (take t.taken l) rest in
        let hasm : length t.written ≤ more = omega arith in
        let hasd : length d.written ≤ more = rw c.reply_is at hasm in
        let k : Want t.state (drop t.taken l) u (more - length t.written) = ih e (more - length t.written) (omega arith) in
        let one : coreRun h.card (take t.taken l ++ rest) more ≡ after t.taken t.written
        (coreRun t.state.card rest (more - length t.written)) =
        one_of h.card l rest room more t.taken t.written t.state.card c.size_is c.reply_is c.core_is c.is_done hasd in
        rw (its_records h l room z u.written, its_replies h l room z u.written, c.not_own, c.reply_kind_lem, one) record {
          refusal_is = k.refusal_is;
          card_is = k.card_is;
          taken_is = rw k.taken_is (omega arith);
          written_is = ap (λ (v : List ℕ). t.written ++ v) k.written_is;
        }

-- of a file that ends with 0, in as much room or more
pub struck_out : (c : Card) (sheets l : List ℕ) (room : ℕ) → (run_of (holding c sheets) l room).refusal ≡ 0 → (more : ℕ) → room ≤ more
    → Struck (coreRun c (joined (struck (records_of l))) more) (joined (struck (records_of l)))
    (joined (struck_replies (records_of (run_of (holding c sheets) l room).written))) (run_of (holding c sheets) l room).state.card
struck_out c sheets l room =
    through lawful Strikes
    (λ h room e more fits. rw (no_bytes_lem, nothing core-lawful h.card more) record { refusal_is = refl; card_is = refl; taken_is = refl; written_is = refl })
    (λ h l room p z e. absurd (z e))
    (λ h l room p z ih. goes h l room z ih)
    (holding c sheets) l room
