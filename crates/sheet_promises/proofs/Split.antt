-- The whole records of some bytes, by their lengths: the first and the rest, and a record before other bytes. Assumes nothing.
use mathlib.Core.Path.{◌≡◌, refl, ap, ◌∙◌}
use mathlib.Core.List.{List, [], ◌∷◌, ◌++◌}
use Prim.Native.Nat.{ℕ, zero, suc, ◌+◌, ◌≤◌, ◌<◌}
use native.Mathlib.Omega.{arith}
use lib.ListN.{length, get_or, take, drop, length-drop, length-append, get_or-append}
use lib.Seq.{take-append_seam, drop-append_seam}
use borrow.Author.Tests.{lt-ltb, le-ltb}
use Rattle.sheet_promises.specs.Records.{split, records_of}
use Rattle.numbers.specs.Little.{word_at}
use Rattle.record_files.proofs.Tests.{either_lt}

-- more steps than bytes make no difference
enough : (f g : ℕ) (l : List ℕ) → length l ≤ f → length l ≤ g → split f l ≡ split g l
unfolding split
enough zero zero l a b = refl
enough zero (suc g) l a b = rw (lt-ltb (length l) 2 (omega arith))
enough (suc f) zero l a b = rw (lt-ltb (length l) 2 (omega arith))
enough (suc f) (suc g) l a b =
    let d = length-drop (2 + word_at l 0) l in
    either_lt (λ (r : List (List ℕ)). r ≡ split (suc g) l) (length l) 2 _ _ (λ h. rw (lt-ltb _ _ h)) (λ h.
    either_lt (λ (r : List (List ℕ)). r ≡ split (suc g) l) (length l) (2 + word_at l 0) _ _ (λ i. rw (le-ltb _ _ h, lt-ltb _ _ i)) (λ i.
    rw (le-ltb _ _ h, le-ltb _ _ i)
    (ap (λ (r : List (List ℕ)). take (2 + word_at l 0) l ∷ r) (enough f g (drop (2 + word_at l 0) l) (omega arith) (omega arith)))))

-- the first record and the rest
pub first_of : (l : List ℕ) → 2 + word_at l 0 ≤ length l → records_of l ≡ take (2 + word_at l 0) l ∷ records_of (drop (2 + word_at l 0) l)
unfolding split records_of
first_of [] h = let y : ⊥ = omega arith in absurd y
first_of (x ∷ l) h =
    let d = length-drop (2 + word_at (x ∷ l) 0) (x ∷ l) in
    rw (le-ltb (length (x ∷ l)) 2 (omega arith), le-ltb _ _ h)
    (ap (λ (r : List (List ℕ)). take (2 + word_at (x ∷ l) 0) (x ∷ l) ∷ r)
    (enough (length l) (length (drop (2 + word_at (x ∷ l) 0) (x ∷ l))) (drop (2 + word_at (x ∷ l) 0) (x ∷ l)) (omega arith) (omega arith)))

-- no whole record
pub none_of : (l : List ℕ) → length l < 2 + word_at l 0 → records_of l ≡ []
unfolding split records_of
none_of [] h = refl
none_of (x ∷ l) h =
    either_lt (λ (r : List (List ℕ)). r ≡ []) (length (x ∷ l)) 2 _ _ (λ i. refl) (λ i. rw (lt-ltb _ _ h))

pub no_bytes_lem : records_of [] ≡ []
unfolding split records_of
no_bytes_lem = refl

-- a record before other bytes
pub record_then : (r w : List ℕ) → length r ≡ 2 + word_at r 0 → records_of (r ++ w) ≡ r ∷ records_of w
record_then r w h =
    let g = length-append r w in
    let a : get_or (r ++ w) 0 0 ≡ get_or r 0 0 = get_or-append r w 0 0 (omega arith) in
    let b : get_or (r ++ w) 1 0 ≡ get_or r 1 0 = get_or-append r w 0 1 (omega arith) in
    let n : word_at (r ++ w) 0 ≡ word_at r 0 = rw (a, b) in
    first_of (r ++ w) (omega arith)
    ∙ rw (n, ← h, take-append_seam r w, drop-append_seam r w)
