-- The book's whole records are the crate's: a record of each kind is written out, and a record that the crate holds has that form. Assumes nothing.
use mathlib.Core.Path.{◌≡◌, refl, sym, ap, ◌∙◌, subst}
use mathlib.Core.List.{List, [], ◌∷◌}
use Prim.Native.Nat.{ℕ, ◌+◌, ◌*◌, ◌≤◌}
use native.Mathlib.Omega.{arith}
use lib.Dec.{lit≤}
use lib.ListN.{length, drop, get_or, length-drop}
use Rattle.record_runs.specs.Record.{Event}
use Rattle.record_runs.specs.Record.{Push, Pop, Command, Status, Reset, Acknowledge, Recall, Forget}
use Rattle.record_runs.specs.Record.{payload_of, answered_of, Holds}
use Rattle.promises.specs.RecordFiles.{IsRecord, push, pop, command, status, reset, acknowledge, recall, forget, data_in}

-- a whole record of an event and nothing else, as the crate has it
pub record Whole (r : List ℕ) : Type 0 where
  pub event : Event
  pub held : Holds 240 r event
  pub size : length r ≡ 4 + payload_of event

-- a record that is written out holds its event
abbrev at : {r s : List ℕ} {e : Event} → r ≡ s → Holds 240 s e → length s ≡ 4 + payload_of e → Whole r
at {r} {s} {e} i h n = record { event = e; held = subst (λ (l : List ℕ). Holds 240 l e) (sym i) h; size = ap length i ∙ n }

abbrev pub theirs_record : {r : List ℕ} → IsRecord r → Whole r
theirs_record (push payload a b e) =
    at {e = Push (length payload)} e (record { length-is = omega arith; kind_is = refl; there = omega arith; small = b; carried = a }) (omega arith)
theirs_record (pop n a b e) = at {e = Pop n} e (record { length-is = refl; kind_is = refl; there = lit≤ tt; small = lit≤ tt; carried = (refl, a, b) }) refl
theirs_record (command code e) = at {e = Command code} e (record { length-is = refl; kind_is = refl; there = lit≤ tt; small = lit≤ tt; carried = refl }) refl
theirs_record (status e) = at {e = Status} e (record { length-is = refl; kind_is = refl; there = lit≤ tt; small = lit≤ tt; carried = tt }) refl
theirs_record (reset e) = at {e = Reset} e (record { length-is = refl; kind_is = refl; there = lit≤ tt; small = lit≤ tt; carried = tt }) refl
theirs_record (acknowledge e) = at {e = Acknowledge} e (record { length-is = refl; kind_is = refl; there = lit≤ tt; small = lit≤ tt; carried = tt }) refl
theirs_record (recall e) = at {e = Recall} e (record { length-is = refl; kind_is = refl; there = lit≤ tt; small = lit≤ tt; carried = tt }) refl
theirs_record (forget e) = at {e = Forget} e (record { length-is = refl; kind_is = refl; there = lit≤ tt; small = lit≤ tt; carried = tt }) refl

-- its reply has as many bytes of data
pub data_is : {r : List ℕ} (one : IsRecord r) → answered_of (theirs_record one).event ≡ data_in one
data_is (push payload a b e) = refl
data_is (pop n a b e) = refl
data_is (command code e) = refl
data_is (status e) = refl
data_is (reset e) = refl
data_is (acknowledge e) = refl
data_is (recall e) = refl
data_is (forget e) = refl

-- ---- the other way
-- the first four bytes and the rest
fronts : (r : List ℕ) → 4 ≤ length r → r ≡ get_or r 0 0 ∷ get_or r 1 0 ∷ get_or r 2 0 ∷ get_or r 3 0 ∷ drop 4 r
fronts [] h = absurd (omega arith)
fronts (a ∷ []) h = absurd (omega arith)
fronts (a ∷ b ∷ []) h = absurd (omega arith)
fronts (a ∷ b ∷ c ∷ []) h = absurd (omega arith)
fronts (a ∷ b ∷ c ∷ d ∷ l) h = refl

none : (l : List ℕ) → length l ≡ 0 → l ≡ []
none [] h = refl
none (x ∷ l) h = absurd (omega arith)

one_byte : (l : List ℕ) → length l ≡ 1 → l ≡ get_or l 0 0 ∷ []
one_byte [] h = absurd (omega arith)
one_byte (x ∷ []) h = refl
one_byte (x ∷ y ∷ l) h = absurd (omega arith)

fifth : (r : List ℕ) → get_or (drop 4 r) 0 0 ≡ get_or r 4 0
fifth [] = refl
fifth (a ∷ []) = refl
fifth (a ∷ b ∷ []) = refl
fifth (a ∷ b ∷ c ∷ []) = refl
fifth (a ∷ b ∷ c ∷ d ∷ l) = refl

-- four bytes by their two numbers
spelled : (r : List ℕ) (n k : ℕ) (rest : List ℕ) → 4 ≤ length r → n ≤ 255 → k ≤ 255 → get_or r 0 0 + get_or r 1 0 * 256 ≡ n → get_or r 2 0 + get_or r 3 0 * 256 ≡ k
    → drop 4 r ≡ rest
    → r ≡ n ∷ 0 ∷ k ∷ 0 ∷ rest
spelled r n k rest h N K a b c =
    let x : get_or r 0 0 ≡ n = omega arith in
    let y : get_or r 1 0 ≡ 0 = omega arith in
    let z : get_or r 2 0 ≡ k = omega arith in
    let w : get_or r 3 0 ≡ 0 = omega arith in
    fronts r h ∙ rw (x, y, z, w, c)

pub ours_record : {r : List ℕ} → Whole r → IsRecord r
ours_record {r} W = by W.event W.held W.size
  where
    by : (e : Event) → Holds 240 r e → length r ≡ 4 + payload_of e → IsRecord r
    by (Push n) h s =
        let m : length (drop 4 r) ≡ n = length-drop 4 r ∙ omega (arith, s) in
        let small = h.small in
        push (drop 4 r) (omega (arith, h.carried, m)) (omega (arith, m, small))
        (spelled r (2 + n) 1 (drop 4 r) (omega (arith, s)) (omega (arith, small)) (lit≤ tt) h.length-is h.kind_is refl
        ∙ ap (λ (k : ℕ). (2 + k) ∷ 0 ∷ 1 ∷ 0 ∷ drop 4 r) (sym m))
    by (Pop n) h s =
        let m : length (drop 4 r) ≡ 1 = length-drop 4 r ∙ omega (arith, s) in
        let c = h.carried in
        pop n c.1 c.2 (spelled r 3 2 (n ∷ []) (omega (arith, s)) (lit≤ tt) (lit≤ tt) h.length-is h.kind_is (one_byte (drop 4 r) m
        ∙ ap (λ (k : ℕ). k ∷ []) (fifth r ∙ sym c.0)))
    by (Command code) h s =
        let m : length (drop 4 r) ≡ 1 = length-drop 4 r ∙ omega (arith, s) in
        command code (spelled r 3 3 (code ∷ []) (omega (arith, s)) (lit≤ tt) (lit≤ tt) h.length-is h.kind_is (one_byte (drop 4 r) m
        ∙ ap (λ (k : ℕ). k ∷ []) (fifth r ∙ sym h.carried)))
    by Status h s = status (spelled r 2 4 [] (omega (arith, s)) (lit≤ tt) (lit≤ tt) h.length-is h.kind_is (none (drop 4 r) (length-drop 4 r
        ∙ omega (arith, s))))
    by Reset h s = reset (spelled r 2 5 [] (omega (arith, s)) (lit≤ tt) (lit≤ tt) h.length-is h.kind_is (none (drop 4 r) (length-drop 4 r
        ∙ omega (arith, s))))
    by Acknowledge h s = acknowledge (spelled r 2 6 [] (omega (arith, s)) (lit≤ tt) (lit≤ tt) h.length-is h.kind_is (none (drop 4 r) (length-drop 4 r
        ∙ omega (arith, s))))
    by Recall h s = recall (spelled r 2 7 [] (omega (arith, s)) (lit≤ tt) (lit≤ tt) h.length-is h.kind_is (none (drop 4 r) (length-drop 4 r
        ∙ omega (arith, s))))
    by Forget h s = forget (spelled r 2 8 [] (omega (arith, s)) (lit≤ tt) (lit≤ tt) h.length-is h.kind_is (none (drop 4 r) (length-drop 4 r
        ∙ omega (arith, s))))
