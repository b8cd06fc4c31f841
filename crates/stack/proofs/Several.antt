-- Bytes pushed or popped several at a time are the same bytes one after the other; popped, they are the top bytes, which go to the bottom. Assumes nothing.
use mathlib.Core.Path.{◌≡◌, refl, sym, ap, ap₂, ◌∙◌}
use mathlib.Core.List.{List, [], ◌∷◌, ◌++◌, append_assoc}
use Prim.Native.Nat.{ℕ, zero, suc, ◌+◌, ◌≤◌}
use native.Mathlib.Nat.{zero-add, suc-add, add_assoc}
use native.Mathlib.Numerals.{add-one}
use native.Mathlib.Omega.{arith}
use lib.ListN.{length, take, drop, length-append, take-append-drop, drop_of_length-le}
use lib.Seq.{paste, take-paste, drop-paste, take_all, drop-drop}
use Rattle.stack.specs.Stack.{pushed, popped, top_byte, rotated, pushed_all, popped_all, handed_out}
use Rattle.stack.proofs.Moves.{pops_turn}

-- ---- pushed
pub pushes_append : (p q s : List ℕ) → pushed_all s (p ++ q) ≡ pushed_all (pushed_all s p) q
pushes_append [] q s = refl
pushes_append (b ∷ p) q s = pushes_append p q (pushed s b)

-- k bytes from place i, then those after them
pub push_on : (s p : List ℕ) (i k : ℕ) → pushed_all (pushed_all s (take k (drop i p))) (drop (i + k) p) ≡ pushed_all s (drop i p)
push_on s p i k =
    ap (pushed_all (pushed_all s (take k (drop i p)))) (sym (drop-drop k i p))
    ∙ sym (pushes_append (take k (drop i p)) (drop k (drop i p)) s)
    ∙ ap (pushed_all s) (take-append-drop k (drop i p))

pub push_none : (s p : List ℕ) (i : ℕ) → length p ≤ i → pushed_all s (drop i p) ≡ s
push_none s p i h = ap (pushed_all s) (drop_of_length-le p h)

-- ---- popped
pub length-handed : (n : ℕ) (s : List ℕ) → length (handed_out n s) ≡ n
length-handed zero s = refl
length-handed (suc n) s = ap suc (length-handed n (popped s))

pub length-popped : (s : List ℕ) → length (popped s) ≡ length s
length-popped [] = refl
length-popped (x ∷ s) = length-append s (x ∷ []) ∙ add-one (length s)

pub pops_after : (j k : ℕ) (s : List ℕ) → popped_all (j + k) s ≡ popped_all k (popped_all j s)
pops_after zero k s = ap (λ (n : ℕ). popped_all n s) (zero-add k)
pops_after (suc j) k s = ap (λ (n : ℕ). popped_all n s) (suc-add j k) ∙ pops_after j k (popped s)

pub handed_after : (j k : ℕ) (s : List ℕ) → handed_out (j + k) s ≡ handed_out j s ++ handed_out k (popped_all j s)
handed_after zero k s = ap (λ (n : ℕ). handed_out n s) (zero-add k)
handed_after (suc j) k s = ap (λ (n : ℕ). handed_out n s) (suc-add j k) ∙ ap (λ (l : List ℕ). top_byte s ∷ l) (handed_after j k (popped s))

-- the top k bytes copied to a place, and moved to the bottom
pub pops_block : (k : ℕ) (s : List ℕ) → length s ≡ 16 → k ≤ 16 → rotated k s ≡ popped_all k s
pops_block k s h l = sym (pops_turn k s (omega arith))

-- all of the first list, and so many of the second
take_past : (x y : List ℕ) (j k : ℕ) → length x ≡ j → take (j + k) (x ++ y) ≡ x ++ take k y
take_past [] y j k e =
    let f : j + k ≡ k = omega (arith, e) in
    ap (λ (n : ℕ). take n y) f
take_past (a ∷ x) y zero k e = absurd (omega (arith, e))
take_past (a ∷ x) y (suc j) k e = ap (λ (n : ℕ). take n (a ∷ (x ++ y))) (suc-add j k) ∙ ap (λ (l : List ℕ). a ∷ l) (take_past x y j k (omega (arith, e)))

-- j bytes popped to a place, and k more behind them
paste_on : (d x y : List ℕ) (at j k : ℕ) → length x ≡ j → at + j ≤ length d → paste (paste d at x j) (at + j) y k ≡ paste d at (x ++ y) (j + k)
paste_on d x y at j k e f =
    let g : j ≤ length x = omega (arith, e) in
    let h : at ≤ length d = omega arith in
    let t : take j x ++ take k y ≡ take (j + k) (x ++ y) =
    ap (λ (l : List ℕ). l ++ take k y) (take_all j x (omega (arith, e))) ∙ sym (take_past x y j k e) in
    ap₂ (λ (l m : List ℕ). l ++ take k y ++ m) (take-paste d at x j h g)
    (sym (drop-drop k (at + j) (paste d at x j)) ∙ ap (drop k) (drop-paste d at x j h g) ∙ drop-drop k (at + j) d)
    ∙ ap (λ (l : List ℕ). l ++ drop (at + j + k) d) (append_assoc (take at d) (take j x) (take k y) ∙ ap (λ (l : List ℕ). take at d ++ l) t)
    ∙ ap (λ (n : ℕ). take at d ++ take (j + k) (x ++ y) ++ drop n d) (add_assoc at j k)

pub pop_on : (s room : List ℕ) (from j k : ℕ) → from + j ≤ length room
    → (popped_all k (popped_all j s) ≡ popped_all (j + k) s)
    × (paste (paste room from (handed_out j s) j) (from + j) (handed_out k (popped_all j s)) k ≡ paste room from (handed_out (j + k) s) (j + k))
pop_on s room from j k f = (
  sym (pops_after j k s),
  paste_on room (handed_out j s) (handed_out k (popped_all j s)) from j k (length-handed j s) f
      ∙ ap (λ (l : List ℕ). paste room from l (j + k)) (sym (handed_after j k s)),
)

pub popped_front : (n : ℕ) (s room : List ℕ) → paste room 0 (handed_out n s) n ≡ handed_out n s ++ drop n room
popped_front n s room =
    ap₂ (λ (x y : List ℕ). x ++ y) (take_all n (handed_out n s) (omega (arith, length-handed n s))) (ap (λ (k : ℕ). drop k room) (zero-add n))
