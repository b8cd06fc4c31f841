-- The bytes of the sheets agree with the history of the records: each record that is answered keeps them so. Assumes nothing.
use mathlib.Core.Path.{◌≡◌, refl, sym, ap, subst, ◌∙◌}
use mathlib.Core.Bool.{Bool, true, false, cond}
use mathlib.Core.List.{List, [], ◌∷◌, ◌++◌}
use Prim.Native.Nat.{ℕ, suc, ◌+◌, ◌*◌, ◌/◌, ◌%◌, ◌^◌, ◌≤◌, ◌<◌}
use native.Mathlib.Omega.{arith}
use native.Mathlib.Nat.{zero-div}
use native.Mathlib.Numerals.{add-one}
use lib.Dec.{eqb, lit<, lit≤}
use lib.ListN.{length, get_or, set, take, drop, replicate, length-set}
use lib.Seq.{get_or-take, get_or-set_same, get_or-set_other, drop-drop, take-add}
use borrow.Author.Tests.{ne_eqb}
use Rattle.numbers.specs.Little.{word_at, le4}
use Rattle.record_files.proofs.Tests.{either_lt, either_eq}
use Rattle.sheet_bytes.specs.Ledger.{closed_in, is_open, kept_bits, bytes_at, laid_at, with_bit, dropped, opened, kept_in, closed, lines, lines_of}
use Rattle.sheet_bytes.proofs.Ledgers.{length-laid, length-line}
use Rattle.sheet_promises.specs.History.{Entry, opens, keeps, closes, serial_of, kept_of, sheet_of, sheets_in}
use Rattle.sheet_bytes.proofs.Bits.{Bits, bits}
use Rattle.sheet_bytes.proofs.Laid.{four, before_laid, in_laid, bytes_before, bytes_behind, byte_of, bytes_of_lem, bytes_set, bytes_set_front, same_lines}
use Rattle.sheet_bytes.proofs.Laid.{line_more}

-- ---- what the bytes say of the open sheet, and of the list
pub record OpenAs (es : List Entry) (l : List ℕ) : Type 0 where
  pub kept_few : kept_bits l < 16
  pub serial_is : bytes_at l 1282 4 ≡ serial_of es
  pub slots : (k : ℕ) → k < 4 → kept_bits l / 2 ^ k % 2 ≡ 1 → bytes_at l (1287 + 4 * k) 4 ≡ kept_of k es

pub record Agrees (es : List Entry) (l : List ℕ) : Type 0 where
  pub long : length l ≡ 1303
  pub few : closed_in l ≤ 64
  pub list_is : lines_of l ≡ sheets_in es
  pub open_is : is_open l ≡ true → OpenAs es l

-- ---- a record that opens, keeps and closes nothing
pub record Quiet (e : Entry) : Type 0 where
  pub no_open : opens e ≡ false
  pub no_keep : (k : ℕ) → keeps k e ≡ false
  pub no_close : closes e ≡ false

pub quiet : (e : Entry) (es : List Entry) (l : List ℕ) → Quiet e → Agrees es l → Agrees (e ∷ es) l
quiet e es l q a = record {
  long = a.long;
  few = a.few;
  list_is = rw q.no_close a.list_is;
  open_is = λ o. let b = a.open_is o in record {
    kept_few = b.kept_few;
    serial_is = rw q.no_open b.serial_is;
    slots = λ k h z. rw (q.no_open, q.no_keep k) (b.slots k h z);
  };
}

same_both : (b : Bool) → cond b false false ≡ false
same_both true = refl
same_both false = refl

pub refused_quiet : (e : Entry) → (e.refusal ≡ 0 → ⊥) → Quiet e
refused_quiet e z =
    let n = ne_eqb e.refusal 0 z in
    record {
      no_open = rw n (same_both (eqb (word_at e.bytes 2) 256));
      no_keep = λ k. rw (n, same_both (eqb (word_at e.bytes 2) 257));
      no_close = rw n (same_both (eqb (word_at e.bytes 2) 258));
    }

pub other_quiet : (e : Entry) → word_at e.bytes 2 < 256 → Quiet e
other_quiet e h = record {
  no_open = rw (ne_eqb (word_at e.bytes 2) 256 (λ z. omega arith));
  no_keep = λ k. rw (ne_eqb (word_at e.bytes 2) 257 (λ z. omega arith));
  no_close = rw (ne_eqb (word_at e.bytes 2) 258 (λ z. omega arith));
}

-- ---- bytes behind the list leave the list
pub closed_in_laid : (l : List ℕ) (at : ℕ) (vs : List ℕ) → at + length vs ≤ length l → 1 ≤ at → closed_in (laid_at l at vs) ≡ closed_in l
closed_in_laid l at vs fits h =
    sym (get_or-take 1 (laid_at l at vs) 0 0 (lit< tt)) ∙ ap (λ (v : List ℕ). get_or v 0 0) (before_laid l at vs fits 1 h) ∙ get_or-take 1 l 0 0 (lit< tt)

lines_laid : (l : List ℕ) (at : ℕ) (vs : List ℕ) → at + length vs ≤ length l → 1281 ≤ at → closed_in l ≤ 64 → lines_of (laid_at l at vs) ≡ lines_of l
lines_laid l at vs fits h few =
    ap (λ (n : ℕ). lines n (drop 1 (laid_at l at vs))) (closed_in_laid l at vs fits (omega arith))
    ∙ same_lines (closed_in l) (drop 1 (laid_at l at vs)) (drop 1 l) (bytes_before l at vs fits 1 (closed_in l * 20) (omega arith))

lines_set : (l : List ℕ) (j x : ℕ) → 1281 ≤ j → closed_in l ≤ 64 → lines_of (set l j x) ≡ lines_of l
lines_set l j x h few =
    ap (λ (n : ℕ). lines n (drop 1 (set l j x))) (closed_in_set l j x (omega arith))
    ∙ same_lines (closed_in l) (drop 1 (set l j x)) (drop 1 l) (bytes_set l j x 1 (closed_in l * 20) (omega arith))
  where
    closed_in_set : (l : List ℕ) (j x : ℕ) → 1 ≤ j → closed_in (set l j x) ≡ closed_in l
    closed_in_set l j x h = get_or-set_other l j 0 x 0 (λ z. omega arith)

-- ---- none open
pub shut : (l : List ℕ) → length l ≡ 1303 → is_open (dropped l) ≡ false
shut l h =
    let e : get_or (dropped l) 1281 0 ≡ 0 =
    byte_of (dropped l) 1281 22 0 (lit< tt) ∙ ap (λ (v : List ℕ). get_or v 0 0) (in_laid l 1281 (replicate 22 0) (omega arith)) in
    rw e

true_false : (b : Bool) → b ≡ false → b ≡ true → ⊥
true_false b f t = subst (λ (x : Bool). cond x Unit ⊥) (sym t ∙ f) tt

pub quiet_dropped : (e : Entry) (es : List Entry) (l : List ℕ) → Quiet e → Agrees es l → Agrees (e ∷ es) (dropped l)
quiet_dropped e es l q a =
    let h = a.long in
    let f = a.few in
    let fits : 1281 + 22 ≤ length l = omega arith in
    record {
      long = length-laid l 1281 (replicate 22 0) fits ∙ h;
      few = rw (closed_in_laid l 1281 (replicate 22 0) fits (lit≤ tt)) f;
      list_is = lines_laid l 1281 (replicate 22 0) fits (lit≤ tt) f ∙ rw q.no_close a.list_is;
      open_is = λ o. absurd (true_false (is_open (dropped l)) (shut l h) o);
    }

-- ---- an opening
no_bit : (k : ℕ) → 0 / 2 ^ k % 2 ≡ 1 → ⊥
no_bit k h = let z = zero-div (2 ^ k) in let y : 0 % 2 ≡ 1 = rw z at h in omega arith

spelled_opened : (e : Entry) (es : List Entry) (l : List ℕ) (a b c d : ℕ) → opens e ≡ true → closes e ≡ false
    → take 4 (drop 4 e.bytes) ≡ a ∷ b ∷ c ∷ d ∷ [] → Agrees es l → Agrees (e ∷ es) (opened l (a ∷ b ∷ c ∷ d ∷ []))
spelled_opened e es l a b c d op cl se ag =
    let vs : List ℕ = 1 ∷ a ∷ b ∷ c ∷ d ∷ replicate 17 0 in
    let h = ag.long in
    let fits : 1281 + 22 ≤ length l = omega arith in
    let m : List ℕ = opened l (a ∷ b ∷ c ∷ d ∷ []) in
    let all : bytes_at m 1281 22 ≡ vs = in_laid l 1281 vs fits in
    let k : kept_bits m ≡ 0 = byte_of m 1281 22 5 (lit< tt) ∙ ap (λ (v : List ℕ). get_or v 5 0) all in
    let s : bytes_at m 1282 4 ≡ a ∷ b ∷ c ∷ d ∷ [] = bytes_of_lem m 1281 22 1 4 (lit≤ tt) ∙ ap (λ (v : List ℕ). bytes_at v 1 4) all in
    record {
      long = length-laid l 1281 vs fits ∙ h;
      few = rw (closed_in_laid l 1281 vs fits (lit≤ tt)) ag.few;
      list_is = lines_laid l 1281 vs fits (lit≤ tt) ag.few ∙ rw cl ag.list_is;
      open_is = λ o. record {
        kept_few = omega arith;
        serial_is = rw op (s ∙ sym se);
        slots = λ i j z. absurd (no_bit i (sym (ap (λ (n : ℕ). n / 2 ^ i % 2) k) ∙ z));
      };
    }

pub opened_agrees : (e : Entry) (es : List Entry) (l serial : List ℕ) → opens e ≡ true → closes e ≡ false → length serial ≡ 4
    → take 4 (drop 4 e.bytes) ≡ serial → Agrees es l → Agrees (e ∷ es) (opened l serial)
opened_agrees e es l serial op cl h se ag =
    let f = four serial h in
    subst (λ (s : List ℕ). Agrees (e ∷ es) (opened l s)) f
    (spelled_opened e es l (get_or serial 0 0) (get_or serial 1 0) (get_or serial 2 0) (get_or serial 3 0) op cl (se ∙ sym f) ag)

-- ---- a word kept
pub kept_agrees : (e : Entry) (es : List Entry) (l : List ℕ) (slot top : ℕ) → e.top ≡ le4 top → opens e ≡ false → closes e ≡ false → keeps slot e ≡ true
    → ((k : ℕ) → (k ≡ slot → ⊥) → keeps k e ≡ false) → slot < 4 → is_open l ≡ true → Agrees es l
    → Agrees (e ∷ es) (kept_in l slot (le4 top))
kept_agrees e es l slot top et op cl ke others small o ag =
    let vs : List ℕ = le4 top in
    let h = ag.long in
    let at : ℕ = 1287 + 4 * slot in
    let fits : at + 4 ≤ length l = omega arith in
    let b = ag.open_is o in
    let n : ℕ = with_bit slot (kept_bits l) in
    let w : List ℕ = laid_at l at vs in
    let lw : length w ≡ 1303 = length-laid l at vs fits ∙ h in
    let g : Bits slot (kept_bits l) n = bits (kept_bits l) slot b.kept_few small in
    let m : List ℕ = kept_in l slot vs in
    let nm : closed_in m ≡ closed_in l = get_or-set_other w 1286 0 n 0 (λ z. omega arith) ∙ closed_in_laid l at vs fits (omega arith) in
    let km : kept_bits m ≡ n = get_or-set_same w 1286 n 0 (omega arith) in
    let fw : closed_in w ≤ 64 = rw (closed_in_laid l at vs fits (omega arith)) ag.few in
    record {
      long = length-set w 1286 n ∙ lw;
      few = rw nm ag.few;
      list_is = lines_set w 1286 n (lit≤ tt) fw ∙ lines_laid l at vs fits (omega arith) ag.few ∙ rw cl ag.list_is;
      open_is = λ p. record {
        kept_few = rw km g.0;
        serial_is = bytes_set w 1286 n 1282 4 (lit≤ tt) ∙ bytes_before l at vs fits 1282 4 (omega arith) ∙ rw op b.serial_is;
        slots = λ k i z.
            bytes_set_front w 1286 n (1287 + 4 * k) 4 (omega arith)
            ∙ either_eq (λ (x : ℕ). bytes_at w (1287 + 4 * k) 4 ≡ kept_of k (e ∷ es)) k slot 0 0
            (λ q. subst (λ (j : ℕ). bytes_at w (1287 + 4 * j) 4 ≡ kept_of j (e ∷ es)) (sym q) (rw (op, ke) (in_laid l at vs fits ∙ sym et)))
            (λ q.
            let old : kept_bits l / 2 ^ k % 2 ≡ 1 = sym (g.1 k i q) ∙ sym (ap (λ (x : ℕ). x / 2 ^ k % 2) km) ∙ z in
            let was = b.slots k i old in
            rw (op, others k q)
            (either_lt (λ (x : ℕ). bytes_at w (1287 + 4 * k) 4 ≡ kept_of k es) k slot 0 0
            (λ lt. bytes_before l at vs fits (1287 + 4 * k) 4 (omega arith) ∙ was)
            (λ ge. bytes_behind l at vs fits (1287 + 4 * k) 4 (omega arith) ∙ was)));
      };
    }

-- ---- a closing
four_words : (l : List ℕ) (a : ℕ) → bytes_at l a 16 ≡ bytes_at l a 4 ++ (bytes_at l (a + 4) 4 ++ (bytes_at l (a + 8) 4 ++ bytes_at l (a + 12) 4))
four_words l a =
    take-add 4 12 (drop a l)
    ∙ ap (λ (v : List ℕ). bytes_at l a 4 ++ v)
    (ap (take 12) (drop-drop 4 a l) ∙ take-add 4 8 (drop (a + 4) l)
    ∙ ap (λ (v : List ℕ). bytes_at l (a + 4) 4 ++ v)
    (ap (take 8) (drop-drop 4 (a + 4) l ∙ ap (λ (i : ℕ). drop i l) e8) ∙ take-add 4 4 (drop (a + 8) l)
    ∙ ap (λ (v : List ℕ). bytes_at l (a + 8) 4 ++ v) (ap (take 4) (drop-drop 4 (a + 8) l ∙ ap (λ (i : ℕ). drop i l) e12))))
  where
    e8 : a + 4 + 4 ≡ a + 8
    e8 = omega arith

    e12 : a + 8 + 4 ≡ a + 12
    e12 = omega arith

pub closed_agrees : (e : Entry) (es : List Entry) (l : List ℕ) → closes e ≡ true → is_open l ≡ true → 15 ≤ kept_bits l → closed_in l < 64 → Agrees es l
    → Agrees (e ∷ es) (closed l)
closed_agrees e es l cl o full room ag =
    let h = ag.long in
    let n : ℕ = closed_in l in
    let b = ag.open_is o in
    let k : kept_bits l ≡ 15 = let x = b.kept_few in omega arith in
    let line : List ℕ = bytes_at l 1282 4 ++ bytes_at l 1287 16 in
    let lline : length line ≡ 20 = length-line l h in
    let at : ℕ = 1 + 20 * n in
    let fits : at + length line ≤ length l = omega arith in
    let w : List ℕ = laid_at l at line in
    let lw : length w ≡ 1303 = length-laid l at line fits ∙ h in
    let s : List ℕ = set w 0 (n + 1) in
    let ls : length s ≡ 1303 = length-set w 0 (n + 1) ∙ lw in
    let fs : 1281 + 22 ≤ length s = omega arith in
    let zs : List ℕ = replicate 22 0 in
    let ns : closed_in s ≡ suc n = get_or-set_same w 0 (n + 1) 0 (omega arith) ∙ add-one n in
    let m : List ℕ = closed l in
    let nm : closed_in m ≡ suc n = closed_in_laid s 1281 zs fs (lit≤ tt) ∙ ns in
    let word : (i : ℕ) → i < 4 → 15 / 2 ^ i % 2 ≡ 1 → bytes_at l (1287 + 4 * i) 4 ≡ kept_of i es = λ i j z. b.slots i j (ap (λ (x : ℕ). x / 2 ^ i % 2) k ∙ z) in
    let sheet : line ≡ sheet_of es =
    ap (λ (v : List ℕ). bytes_at l 1282 4 ++ v) (four_words l 1287)
    ∙ rw (b.serial_is, word 0 (lit< tt) refl, word 1 (lit< tt) refl, word 2 (lit< tt) refl, word 3 (lit< tt) refl) in
    let old : bytes_at m 1 (n * 20) ≡ bytes_at l 1 (n * 20) =
    bytes_before s 1281 zs fs 1 (n * 20) (omega arith) ∙ bytes_set_front w 0 (n + 1) 1 (n * 20) (lit< tt)
    ∙ bytes_before l at line fits 1 (n * 20) (omega arith) in
    let place : 1 + n * 20 ≡ at = omega arith in
    let new : bytes_at m at 20 ≡ line =
    bytes_before s 1281 zs fs at 20 (omega arith) ∙ bytes_set_front w 0 (n + 1) at 20 (omega arith)
    ∙ subst (λ (i : ℕ). bytes_at w at i ≡ line) lline (in_laid l at line fits) in
    record {
      long = length-laid s 1281 zs fs ∙ ls;
      few = rw nm (omega arith);
      list_is =
          ap (λ (i : ℕ). lines i (drop 1 m)) nm
          ∙ line_more n (drop 1 m)
          ∙ ap (λ (v : List (List ℕ)). v ++ (bytes_at (drop 1 m) (n * 20) 20 ∷ [])) (same_lines n (drop 1 m) (drop 1 l) old ∙ ag.list_is)
          ∙ ap (λ (v : List ℕ). sheets_in es ++ (v ∷ [])) (ap (take 20) (drop-drop (n * 20) 1 m ∙ ap (λ (i : ℕ). drop i m) place) ∙ new ∙ sheet)
          ∙ rw cl;
      open_is = λ p. absurd (true_false (is_open m) (shut s ls) p);
    }
