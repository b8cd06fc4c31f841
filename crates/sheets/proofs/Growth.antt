-- Each record lets the list only grow, and so does a run: bytes behind the list leave it, a close adds one line. Assumes nothing.
use mathlib.Core.Path.{◌≡◌, refl, sym, ap, subst, ◌∙◌}
use mathlib.Core.Bool.{Bool, true, false, cond, false≢true}
use mathlib.Core.List.{List, [], ◌∷◌, ◌++◌}
use Prim.Native.Nat.{ℕ, ◌+◌, ◌*◌, ◌≤◌, ◌<◌}
use native.Mathlib.Omega.{arith}
use native.Mathlib.Nat.{le_refl}
use lib.Dec.{ltb, lit<, lit≤}
use lib.ListN.{length, get_or, set, take, drop, replicate, length-drop, length-set}
use lib.Seq.{get_or-take, get_or-set_same, get_or-set_other, length-take-le, take-take, take-set-le}
use Rattle.numbers.specs.Little.{word_at, le4}
use Rattle.record_files.proofs.Tests.{either_lt, either_eq}
use Rattle.record_files.proofs.Through.{through}
use Rattle.record_runs.specs.Record.{turn_of}
use Rattle.sheet_bytes.specs.declared.Refusal.TheVariants.{StillOpen, NoneOpen, NoSuchSlot, HalfPending, SlotEmpty, ListFull}
use Rattle.sheet_bytes.specs.Ledger.{is_sheets, closed_in, is_open, kept_bits, laid_at, with_bit, dropped, opened, kept_in, closed, open_serial, open_words}
use Rattle.sheet_bytes.specs.Entering.{Entered, refuse, enter, open_of, keep_of, close_of, entered_of, payload_for}
use Rattle.sheet_bytes.proofs.Ledgers.{length-laid, length-line}
use Rattle.sheet_bytes.proofs.Laid.{four, before_laid, in_laid, byte_behind, byte_of}
use Rattle.sheet_bytes.proofs.Bits.{bits}
use Rattle.sheets.specs.Step.{Held, top_of, sheet_step, run_of}
use Rattle.sheets.specs.Growth.{Grown}
use Rattle.sheets.proofs.Lines.{taken, lawful}

-- what good sheets are
pub record Good (l : List ℕ) : Type 0 where
  pub long : length l ≡ 1303
  pub few : closed_in l ≤ 64
  pub flag : get_or l 1281 0 ≤ 1
  pub slots : kept_bits l ≤ 15

pub good : (l : List ℕ) → is_sheets l ≡ true → Good l
unfolding is_sheets
good l =
    either_eq (λ (b : Bool). b ≡ true → Good l) (length l) 1303 _ _
    (λ a.
    either_lt (λ (b : Bool). b ≡ true → Good l) 64 (closed_in l) _ _ (λ b e. absurd (false≢true e)) (λ b.
    either_lt (λ (b : Bool). b ≡ true → Good l) 1 (get_or l 1281 0) _ _ (λ d e. absurd (false≢true e)) (λ d.
    either_lt (λ (b : Bool). b ≡ true → Good l) 15 (kept_bits l) _ _ (λ f e. absurd (false≢true e)) (λ f e. record { long = a; few = b; flag = d; slots = f }))))
    (λ a e. absurd (false≢true e))

good_again : (l m : List ℕ) → length l ≡ 1303 → Grown l m → Good m
good_again l m h g = record { long = g.same_length ∙ h; few = g.no_more; flag = g.flag_is; slots = g.bits_are }

pub same : (l : List ℕ) → Good l → Grown l l
same l g = record {
  same_length = refl;
  no_fewer = le_refl (closed_in l);
  no_more = g.few;
  flag_is = g.flag;
  bits_are = g.slots;
  listed_stay = λ i a b. refl;
  places_stay = λ i a b. refl;
}

then : (l m n : List ℕ) → Grown l m → Grown m n → Grown l n
then l m n a b =
    let x = a.no_fewer in
    let y = b.no_fewer in
    record {
      same_length = b.same_length ∙ a.same_length;
      no_fewer = omega arith;
      no_more = b.no_more;
      flag_is = b.flag_is;
      bits_are = b.bits_are;
      listed_stay = λ i p q. b.listed_stay i p (omega arith) ∙ a.listed_stay i p q;
      places_stay = λ i p q. b.places_stay i p q ∙ a.places_stay i (omega arith) q;
    }

-- bytes behind the list
at_byte : (l m : List ℕ) (n : ℕ) → take n m ≡ take n l → (i : ℕ) → i < n → get_or m i 0 ≡ get_or l i 0
at_byte l m n e i h = sym (get_or-take n m i 0 h) ∙ ap (λ (v : List ℕ). get_or v i 0) e ∙ get_or-take n l i 0 h

behind : (l m : List ℕ) → Good l → take 1281 m ≡ take 1281 l → length m ≡ length l → get_or m 1281 0 ≤ 1 → kept_bits m ≤ 15 → Grown l m
behind l m g e n f b =
    let few = g.few in
    let c : closed_in m ≡ closed_in l = at_byte l m 1281 e 0 (lit< tt) in
    record {
      same_length = n;
      no_fewer = omega arith;
      no_more = omega arith;
      flag_is = f;
      bits_are = b;
      listed_stay = λ i p q. at_byte l m 1281 e i (omega arith);
      places_stay = λ i p q. at_byte l m 1281 e i q;
    }

-- the 22 bytes of the open sheet laid anew
anew : (l vs : List ℕ) → Good l → length vs ≡ 22 → get_or vs 0 0 ≤ 1 → get_or vs 5 0 ≤ 15 → Grown l (laid_at l 1281 vs)
anew l vs g n f b =
    let long = g.long in
    let fits : 1281 + length vs ≤ length l = omega arith in
    let all = in_laid l 1281 vs fits in
    let byte : (i : ℕ) → i < length vs → get_or (laid_at l 1281 vs) (1281 + i) 0 ≡ get_or vs i 0 = λ i h. byte_of (laid_at l 1281 vs) 1281 (length vs) i h
    ∙ ap (λ (v : List ℕ). get_or v i 0) all in
    let flag = byte 0 (omega arith) in
    let slots = byte 5 (omega arith) in
    behind l (laid_at l 1281 vs) g (before_laid l 1281 vs fits 1281 (lit≤ tt)) (length-laid l 1281 vs fits) (omega arith) (omega arith)

dropped_grows : (l : List ℕ) → Good l → Grown l (dropped l)
dropped_grows l g = anew l (replicate 22 0) g refl (lit≤ tt) (lit≤ tt)

opened_grows : (l serial : List ℕ) → Good l → length serial ≡ 4 → Grown l (opened l serial)
opened_grows l serial g h =
    subst (λ (s : List ℕ). Grown l (opened l s)) (four serial h)
    (anew l (1 ∷ ((get_or serial 0 0 ∷ get_or serial 1 0 ∷ get_or serial 2 0 ∷ get_or serial 3 0 ∷ []) ++ replicate 17 0)) g refl (lit≤ tt) (lit≤ tt))

kept_grows : (l : List ℕ) (slot top : ℕ) → Good l → slot ≤ 3 → Grown l (kept_in l slot (le4 top))
kept_grows l slot top g h =
    let vs : List ℕ = le4 top in
    let long = g.long in
    let slots = g.slots in
    let at : ℕ = 1287 + 4 * slot in
    let fits : at + 4 ≤ length l = omega arith in
    let n : ℕ = with_bit slot (kept_bits l) in
    let w : List ℕ = laid_at l at vs in
    let lw : length w ≡ length l = length-laid l at vs fits in
    let front : take 1286 (kept_in l slot vs) ≡ take 1286 l = take-set-le 1286 w 1286 n (lit≤ tt) ∙ before_laid l at vs fits 1286 (omega arith) in
    let b = bits (kept_bits l) slot (omega arith) (omega arith) in
    let kept : kept_bits (kept_in l slot vs) ≡ n = get_or-set_same w 1286 n 0 (omega arith) in
    let flag = at_byte l (kept_in l slot vs) 1286 front 1281 (lit< tt) in
    let f = g.flag in
    let c = b.0 in
    behind l (kept_in l slot vs) g
    (sym (take-take 1281 1286 (kept_in l slot vs) (lit≤ tt)) ∙ ap (take 1281) front ∙ take-take 1281 1286 l (lit≤ tt))
    (length-set w 1286 n ∙ lw) (omega arith) (omega arith)

closed_grows : (l : List ℕ) → Good l → closed_in l < 64 → Grown l (closed l)
closed_grows l g few =
    let long = g.long in
    let n : ℕ = closed_in l in
    let line : List ℕ = open_serial l ++ open_words l in
    let ll : length line ≡ 20 = length-line l long in
    let at : ℕ = 1 + 20 * n in
    let fits : at + length line ≤ length l = omega arith in
    let w : List ℕ = laid_at l at line in
    let lw : length w ≡ length l = length-laid l at line fits in
    let s : List ℕ = set w 0 (n + 1) in
    let ls : length s ≡ length l = length-set w 0 (n + 1) ∙ lw in
    let ns : closed_in s ≡ n + 1 = get_or-set_same w 0 (n + 1) 0 (omega arith) in
    let zs : List ℕ = replicate 22 0 in
    let fs : 1281 + 22 ≤ length s = omega arith in
    let m : List ℕ = closed l in
    let front : take 1281 m ≡ take 1281 s = before_laid s 1281 zs fs 1281 (lit≤ tt) in
    let byte : (i : ℕ) → 1 ≤ i → i < 1281 → get_or m i 0 ≡ get_or w i 0 = λ i p q. at_byte s m 1281 front i q ∙ get_or-set_other w 0 i (n + 1) 0 (λ z. omega arith) in
    let all = in_laid s 1281 zs fs in
    let flag : get_or m 1281 0 ≡ 0 = byte_of m 1281 22 0 (lit< tt) ∙ ap (λ (v : List ℕ). get_or v 0 0) all in
    let slots : get_or m 1286 0 ≡ 0 = byte_of m 1281 22 5 (lit< tt) ∙ ap (λ (v : List ℕ). get_or v 5 0) all in
    let nm : closed_in m ≡ n + 1 = at_byte s m 1281 front 0 (lit< tt) ∙ ns in
    record {
      same_length = length-laid s 1281 zs fs ∙ ls;
      no_fewer = omega arith;
      no_more = omega arith;
      flag_is = omega arith;
      bits_are = omega arith;
      listed_stay = λ i p q. byte i p (omega arith) ∙ at_byte l w at (before_laid l at line fits at (le_refl at)) i q;
      places_stay = λ i p q. byte i (omega arith) q ∙ byte_behind l at line fits i (omega arith);
    }

-- ---- and so of a record and of a run

abbrev Grows : List ℕ → Entered → Type 0
Grows l e = Grown l e.sheets

entered_grows : (l : List ℕ) (kind : ℕ) (payload : List ℕ) (pending : Bool) (top : ℕ) → Good l → length payload ≡ payload_for kind
    → Grows l (entered_of l kind payload pending top)
entered_grows l kind payload pending top g n =
    either_eq (Grows l) kind 256 _ _ (λ k. opening (n ∙ rw k)) (λ a.
    either_eq (Grows l) kind 257 _ _ (λ k. keeping (get_or payload 0 0)) (λ b. closing))
  where
    opening : length payload ≡ 4 → Grows l (open_of l payload)
    opening h = pick (is_open l)
      where
        pick : (b : Bool) → Grows l (cond b (refuse StillOpen l) (enter (opened l payload)))
        pick true = same l g
        pick false = opened_grows l payload g h

    keeping : (slot : ℕ) → Grows l (keep_of l slot pending top)
    keeping slot = pick (is_open l) pending
      where
        pick : (b p : Bool) → Grows l (cond b (cond (ltb 3 slot) (refuse NoSuchSlot l) (cond p (refuse HalfPending l) (enter (kept_in l slot (le4 top)))))
            (refuse NoneOpen l))
        pick false p = same l g
        pick true true = either_lt (Grows l) 3 slot _ _ (λ h. same l g) (λ h. same l g)
        pick true false = either_lt (Grows l) 3 slot _ _ (λ h. same l g) (λ h. kept_grows l slot top g h)

    closing : Grows l (close_of l)
    closing = pick (is_open l)
      where
        pick : (b : Bool) → Grows l (cond b (cond (ltb (kept_bits l) 15) (refuse SlotEmpty l) (cond (ltb (closed_in l) 64) (enter (closed l))
            (refuse ListFull l))) (refuse NoneOpen l))
        pick false = same l g
        pick true =
            either_lt (Grows l) (kept_bits l) 15 _ _ (λ h. same l g) (λ h.
            either_lt (Grows l) (closed_in l) 64 _ _ (λ i. closed_grows l g i) (λ i. same l g))

line_grows : (h : Held) (l : List ℕ) (room : ℕ) → Good h.sheets → (sheet_step h l room).refusal ≡ 0 → Grown h.sheets (sheet_step h l room).state.sheets
line_grows h l room g =
    taken (λ t. Grown h.sheets t.state.sheets) h l room
    (λ o q r.
    let there = o.there in
    let d = length-drop 4 l in
    entered_grows h.sheets (word_at l 2) (take (payload_for (word_at l 2)) (drop 4 l)) h.card.chip.pending (top_of h.card) g
    (length-take-le (payload_for (word_at l 2)) (drop 4 l) (omega arith)))
    (λ z.
    either_eq (λ (s : List ℕ). Grown h.sheets s) (turn_of h.card l room).refusal 0 _ _
    (λ y. either_eq (λ (s : List ℕ). Grown h.sheets s) (word_at l 2) 5 _ _ (λ k. dropped_grows h.sheets g) (λ k. same h.sheets g))
    (λ y. same h.sheets g))

-- a run from good sheets
pub run_grows : (h : Held) (l : List ℕ) (room : ℕ) → is_sheets h.sheets ≡ true → Grown h.sheets (run_of h l room).state.sheets
run_grows h l room e =
    through lawful (λ h l room o. Good h.sheets → Grown h.sheets o.state.sheets)
    (λ h room g. same h.sheets g)
    (λ h l room p z g. same h.sheets g)
    (λ h l room p z ih g.
    let a = line_grows h l room g z in
    then h.sheets (sheet_step h l room).state.sheets _ a (ih (good_again h.sheets (sheet_step h l room).state.sheets g.long a)))
    h l room (good h.sheets e)
