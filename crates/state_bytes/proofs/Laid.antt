-- The bytes of a state and of a report as code lays them: three stores behind the stack, two behind them; one store and four bytes for each count. Assumes
-- nothing.
use mathlib.Core.Path.{◌≡◌, refl, sym, ap, ap₂, ◌∙◌}
use mathlib.Core.Logic.{⊎_elim}
use mathlib.Core.Bool.{Bool, true, false}
use mathlib.Core.List.{List, [], ◌∷◌, ◌++◌, append-nil}
use Prim.Native.Nat.{ℕ, ◌+◌, ◌≤◌}
use native.Mathlib.Omega.{arith}
use lib.ListN.{length, take, drop, set, get_or, length-append, length-drop, take-append-drop, drop_of_length-le}
use borrow.Author.Tests.{eq-eqb, ne_eqb}
use lib.Seq.{length-take-le, drop-cons, drop-drop, drop_at, take_at, sets, sets-eq}
use Rattle.numbers.specs.Little.{le4}
use Rattle.chip.specs.State.{State}
use Rattle.chip.specs.Held.{held}
use Rattle.error_memory.specs.declared.Memory.{Memory}
use Rattle.state_bytes.specs.Bytes.{Sized, memory_in, flag_of, state_bytes_of, memory_bytes_of, laid, report_of}
use Rattle.state_bytes.proofs.States.{least}

-- the bytes of a memory are those behind the chip's
pub memory_behind : (l : List ℕ) → Sized l → drop 19 l ≡ memory_bytes_of (length l) (memory_in l)
memory_behind l h =
    ⊎_elim (λ a. rw (eq-eqb (length l) 19 a) (drop_of_length-le l {i = 19} (omega arith)))
    (λ b. rw (ne_eqb (length l) 19 (λ a. omega arith))
    (drop-cons l 19 0 (omega arith) ∙ ap (λ (t : List ℕ). get_or l 19 0 ∷ t) (drop-cons l 20 0 (omega arith)
    ∙ ap (λ (t : List ℕ). get_or l 20 0 ∷ t) (drop_of_length-le l {i = 21} (omega arith))))) h

-- a flag as the code makes a byte of it
pub as_flag : (b : Bool) → elim b as (λ (x : Bool). ℕ) [ false ↦ 0 | true ↦ 1 ] ≡ flag_of b
as_flag true = refl
as_flag false = refl

-- 16 bytes and three behind them stored
pub chip_laid : (l x : List ℕ) (pending : Bool) (status : ℕ) (service : Bool) {p v : ℕ} → Sized l → length x ≡ 16 → p ≡ flag_of pending → v ≡ flag_of service
    → sets (x ++ drop 16 l) 16 (p ∷ status ∷ v ∷ []) ≡ laid (length l) (held x pending status service) (memory_in l)
chip_laid l x pending status service {p} {v} h n ep ev =
    let both : length (x ++ drop 16 l) ≡ length l = length-append x (drop 16 l) ∙ omega (arith, n, least l h, length-drop 16 l) in
    let rest : drop 19 (x ++ drop 16 l) ≡ drop 19 l = sym (drop-drop 3 16 (x ++ drop 16 l)) ∙ ap (drop 3) (drop_at x (drop 16 l) 16 n) ∙ drop-drop 3 16 l in
    sets-eq (p ∷ status ∷ v ∷ []) (x ++ drop 16 l) 16 (omega (arith, both, least l h))
    ∙ ap₂ (λ (s t : List ℕ). s ++ (p ∷ status ∷ v ∷ []) ++ t) (take_at x (drop 16 l) 16 n) (rest ∙ memory_behind l h)
    ∙ rw (ep, ev)

-- two behind them, where there are 21, or none
pub memory_laid : (l : List ℕ) (m : Memory) → length l ≡ 21 → sets l 19 (m.bits ∷ m.code ∷ []) ≡ take 19 l ++ memory_bytes_of (length l) m
memory_laid l m h =
    sets-eq (m.bits ∷ m.code ∷ []) l 19 (omega arith)
    ∙ rw (drop_of_length-le l {i = 21} (omega arith), append-nil (take 19 l ++ (m.bits ∷ m.code ∷ [])), ne_eqb (length l) 19 (λ a. omega arith))

pub none_laid : (l : List ℕ) (m : Memory) → length l ≡ 19 → l ≡ take 19 l ++ memory_bytes_of (length l) m
none_laid l m h =
    sym (take-append-drop 19 l) ∙ rw (drop_of_length-le l {i = 19} (omega arith), eq-eqb (length l) 19 h)

-- a chip and a memory laid out, then another memory behind the chip's bytes
pub other_memory : (n : ℕ) (s : State) (k m : Memory) {l left : List ℕ} → length s.stack ≡ 16 → l ≡ laid n s k → length l ≡ n → left ≡ take 19 l
    ++ memory_bytes_of (length l) m
    → left ≡ laid n s m
other_memory n s k m {l} h is len e =
    let x : length (state_bytes_of s) ≡ 19 = length-append s.stack (flag_of s.pending ∷ s.status ∷ flag_of s.service ∷ []) ∙ omega arith in
    e
    ∙ ap (λ (i : ℕ). take 19 l ++ memory_bytes_of i m) len
    ∙ ap (λ (t : List ℕ). take 19 t ++ memory_bytes_of n m) is
    ∙ ap (λ (t : List ℕ). t ++ memory_bytes_of n m) (take_at (state_bytes_of s) (memory_bytes_of n k) 19 x)

-- four bytes from a place, written over
abbrev pub over : ℕ → List ℕ → List ℕ → List ℕ
over a l four = take a l ++ (four ++ drop 4 (drop a l))

pub length_over : (a : ℕ) (l four : List ℕ) → a + 4 ≤ length l → length four ≡ 4 → length (over a l four) ≡ length l
length_over a l four h e =
    let t = length-take-le a l (omega arith) in
    let d = length-drop a l in
    let m = length-drop 4 (drop a l) in
    rw (length-append, length-append) (omega arith)

-- the refusal, then each count
pub reported : (l t w : List ℕ) (refusal taken written : ℕ) → length l ≡ 9 → t ≡ le4 taken → w ≡ le4 written
    → over 5 (over 1 (set l 0 refusal) t) w ≡ report_of refusal taken written
reported [] t w refusal taken written h a b = let y : ⊥ = omega arith in absurd y
reported (x ∷ l) t w refusal taken written h a b =
    let d = length-drop 4 l in
    rw (a, b) (ap (λ (k : List ℕ). refusal ∷ (le4 taken ++ (le4 written ++ k))) (drop_of_length-le (drop 4 l) {i = 4} (omega arith)))
