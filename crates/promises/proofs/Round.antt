-- Blocks longer than the stack: 16 pops hand it out and leave it as it was, so that longer ones go round; of the bytes pushed the last 16 stay. Assumes
-- nothing.
use mathlib.Core.Path.{◌≡◌, refl, sym, ap, ap₂, ◌∙◌}
use mathlib.Core.Logic.{⊎_elim}
use mathlib.Core.List.{List, [], ◌∷◌, ◌++◌, append_assoc, reverse, reverse-cons, reverse-append}
use Prim.Native.Nat.{ℕ, zero, suc, ◌+◌, ◌%◌, ◌≤◌, ◌<◌}
use native.Mathlib.Omega.{arith}
use native.Mathlib.Nat.{not-suc-le-zero, eq-or-lt_of_le}
use lib.Dec.{lit≤}
use lib.ListN.{length, take, drop, get_or, length-drop, length-reverse, drop_of_length-le, take-append-drop, get_or-append}
use lib.Seq.{take_all, take-take, take_at, length-take-le, get_or_at}
use Rattle.stack.specs.Stack.{pushed, popped, pushed_all, popped_all, handed_out}
use Rattle.stack.proofs.Moves.{pops_hand}
use Rattle.stack.proofs.Several.{length-popped, pops_after, handed_after, pops_block}

-- ---- pops
pub once_round : (n : ℕ) (s : List ℕ) → length s ≡ 16 → (handed_out (16 + n) s ≡ s ++ handed_out n s) × (popped_all (16 + n) s ≡ popped_all n s)
once_round n s h =
    let t : take 16 s ≡ s = take_all 16 s (omega arith) in
    let p : popped_all 16 s ≡ s = sym (pops_block 16 s h (lit≤ tt)) ∙ ap₂ (λ (x y : List ℕ). x ++ y) (drop_of_length-le s {i = 16} (omega arith)) t in
    let a : handed_out 16 s ≡ s = pops_hand 16 s (omega arith) ∙ t in
    (handed_after 16 n s ∙ ap₂ (λ (x y : List ℕ). x ++ handed_out n y) a p, pops_after 16 n s ∙ ap (popped_all n) p)

-- the byte after each is the next of the ring
turn_by_one : (x : ℕ) (t : List ℕ) (q : ℕ) → length t ≡ 15 → q < 16 → get_or (t ++ (x ∷ [])) q 0 ≡ get_or (x ∷ t) ((q + 1) % 16) 0
turn_by_one x t q h l =
    let b : q ≤ 15 = omega arith in
    ⊎_elim
    (λ f.
    let e : (q + 1) % 16 ≡ 0 = omega arith in
    ap (λ (i : ℕ). get_or (t ++ (x ∷ [])) i 0) f ∙ get_or_at t x [] 0 15 h ∙ sym (ap (λ (i : ℕ). get_or (x ∷ t) i 0) e))
    (λ a. let e : (q + 1) % 16 ≡ suc q = omega arith in get_or-append t (x ∷ []) 0 q (omega arith) ∙ sym (ap (λ (i : ℕ). get_or (x ∷ t) i 0) e))
    (eq-or-lt_of_le b)

next_byte : (s : List ℕ) (q : ℕ) → length s ≡ 16 → q < 16 → get_or (popped s) q 0 ≡ get_or s ((q + 1) % 16) 0
next_byte [] q h l = let y : ⊥ = omega arith in absurd y
next_byte (x ∷ t) q h l = turn_by_one x t q (omega arith) l

-- byte i of any number of pops
pub byte_round : (n i : ℕ) (s : List ℕ) → length s ≡ 16 → i < n → get_or (handed_out n s) i 0 ≡ get_or s (i % 16) 0
byte_round zero i s h l = absurd (not-suc-le-zero l)
byte_round (suc n) zero s h l = refl
byte_round (suc n) (suc i) s h l =
    let e : (i % 16 + 1) % 16 ≡ suc i % 16 = omega arith in
    byte_round n i (popped s) (length-popped s ∙ h) (omega arith)
    ∙ next_byte s (i % 16) h (omega arith)
    ∙ ap (λ (j : ℕ). get_or s j 0) e

-- ---- pushes
-- what lies past so many bytes does not show in their front
front : (x y : List ℕ) (n m : ℕ) → n ≤ m → take n (x ++ take m y) ≡ take n (x ++ y)
front [] y n m h = take-take n m y h
front (a ∷ x) y zero m h = refl
front (a ∷ x) y (suc n) m h = ap (λ (l : List ℕ). a ∷ l) (front x y n m (omega arith))

pushed_front : (p s : List ℕ) → length s ≡ 16 → pushed_all s p ≡ take 16 (reverse p ++ s)
pushed_front [] s h = sym (take_all 16 s (omega arith))
pushed_front (b ∷ p) s h =
    pushed_front p (pushed s b) (omega (arith, length-take-le 15 s (omega arith)))
    ∙ front (reverse p) (b ∷ s) 16 16 (lit≤ tt)
    ∙ sym (ap (λ (l : List ℕ). take 16 l) (ap (λ (l : List ℕ). l ++ s) (reverse-cons b p) ∙ append_assoc (reverse p) (b ∷ []) s))

-- of 16 bytes or more the last 16, the last of them on top
pub last_pushed : (p s : List ℕ) (k : ℕ) → length s ≡ 16 → length p ≡ k + 16 → pushed_all s p ≡ reverse (drop k p)
last_pushed p s k h n =
    let d : length (reverse (drop k p)) ≡ 16 = length-reverse (drop k p) ∙ length-drop k p ∙ omega arith in
    let e : reverse p ≡ reverse (drop k p) ++ reverse (take k p) = ap reverse (sym (take-append-drop k p)) ∙ reverse-append (take k p) (drop k p) in
    pushed_front p s h
    ∙ ap (λ (l : List ℕ). take 16 l) (ap (λ (l : List ℕ). l ++ s) e ∙ append_assoc (reverse (drop k p)) (reverse (take k p)) s)
    ∙ take_at (reverse (drop k p)) (reverse (take k p) ++ s) 16 d
