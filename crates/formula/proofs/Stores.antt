-- Bytes stored from a place on: after others, and over others. Assumes nothing.
use mathlib.Core.Path.{◌≡◌, refl, sym, ◌∙◌, ap}
use mathlib.Core.List.{List, [], ◌∷◌, ◌++◌}
use Prim.Native.Nat.{ℕ, suc, ◌+◌, ◌-◌, ◌≤◌, ◌<◌}
use native.Mathlib.Omega.{arith}
use native.Mathlib.Nat.{add-zero}
use lib.ListN.{length, take, drop, get_or, set}
use lib.Seq.{sets, sets-eq, set-set, set_comm, drop-cons}

-- after others
pub sets_append : (a b l : List ℕ) (i k : ℕ) → k ≡ i + length a → sets (sets l i a) k b ≡ sets l i (a ++ b)
sets_append [] b l i k e = ap (λ (n : ℕ). sets l n b) (e ∙ add-zero i)
sets_append (x ∷ a) b l i k e = sets_append a b (set l i x) (suc i) k (omega arith)

-- one before others, and over one
set_first : (a l : List ℕ) (i j x : ℕ) → i < j → set (sets l j a) i x ≡ sets (set l i x) j a
set_first [] l i j x h = refl
set_first (y ∷ a) l i j x h = set_first a (set l j y) i (suc j) x (omega arith) ∙ ap (λ (m : List ℕ). sets m (suc j) a) (set_comm l j i y x (λ e. omega arith))

-- over others that are no longer
pub sets_over : (a b l : List ℕ) (i : ℕ) → length a ≤ length b → sets (sets l i a) i b ≡ sets l i b
sets_over [] b l i h = refl
sets_over (x ∷ a) [] l i h = absurd (omega arith)
sets_over (x ∷ a) (y ∷ b) l i h =
    ap (λ (m : List ℕ). sets m (suc i) b) (set_first a (set l i x) i (suc i) y (omega arith) ∙ ap (λ (m : List ℕ). sets m (suc i) a) (set-set l i x y))
    ∙ sets_over a b (set l i y) (suc i) (omega arith)

-- at the front, where all have room
pub sets_front : (a l : List ℕ) → length a ≤ length l → sets l 0 a ≡ a ++ drop (length a) l
sets_front a l h = sets-eq a l 0 (omega arith) ∙ (let e : 0 + length a ≡ length a = omega arith in ap (λ (n : ℕ). a ++ drop n l) e)

-- ---- bytes of a text stored one by one: after i of n the rest
pub store_first : (text out : List ℕ) (at end n : ℕ) → sets out end (take n (drop at text)) ≡ sets out (end + 0) (take (n - 0) (drop (at + 0) text))
store_first text out at end n =
    let e : end + 0 ≡ end = omega arith in
    let m : n - 0 ≡ n = omega arith in
    let a : at + 0 ≡ at = omega arith in
    rw (e, m, a)

pub store_next : (text out : List ℕ) (at end n i : ℕ) → i < n → at + i < length text
    → sets out (end + i) (take (n - i) (drop (at + i) text)) ≡ sets (set out (end + i) (get_or text (at + i) 0))
    (end + (i + 1)) (take (n - (i + 1)) (drop (at + (i + 1)) text))
store_next text out at end n i h l =
    let m : n - i ≡ suc (n - (i + 1)) = omega arith in
    let e : end + (i + 1) ≡ suc (end + i) = omega arith in
    let a : at + (i + 1) ≡ suc (at + i) = omega arith in
    ap (λ (k : ℕ). sets out (end + i) (take k (drop (at + i) text))) m
    ∙ ap (λ (s : List ℕ). sets out (end + i) (take (suc (n - (i + 1))) s)) (drop-cons text (at + i) 0 l)
    ∙ sym (ap (λ (k : ℕ). sets (set out (end + i) (get_or text (at + i) 0)) k (take (n - (i + 1)) (drop (at + (i + 1)) text))) e
    ∙ ap (λ (k : ℕ). sets (set out (end + i) (get_or text (at + i) 0)) (suc (end + i)) (take (n - (i + 1)) (drop k text))) a)

pub store_done : (text out : List ℕ) (at end n i : ℕ) → i ≡ n → sets out (end + i) (take (n - i) (drop (at + i) text)) ≡ out
store_done text out at end n i e = let z : n - i ≡ 0 = omega arith in ap (λ (k : ℕ). sets out (end + i) (take k (drop (at + i) text))) z
