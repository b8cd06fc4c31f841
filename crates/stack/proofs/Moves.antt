-- Bytes pushed and popped one after the other: a word pushed low byte first lies on top, its bytes come back high byte first, and the rest moves by as
-- many places. Assumes nothing.
use mathlib.Core.Path.{◌≡◌, refl, sym, ap, ap₂, ◌∙◌}
use mathlib.Core.List.{List, [], ◌∷◌, ◌++◌, append_assoc, append-nil}
use Prim.Native.Nat.{ℕ, zero, suc, ◌-◌, ◌/◌, ◌%◌, ◌≤◌}
use native.Mathlib.Nat.{le_of_suc-le-suc, not-suc-le-zero}
use native.Mathlib.Omega.{arith}
use lib.ListN.{length, take, drop, length-append}
use lib.Seq.{take-take, take-append-le, drop-append-le}
use Rattle.stack.specs.Stack.{bytes_of, pushed, rotated, pushed_all, low_first, popped_all, handed_out}
use Rattle.stack.proofs.Words.{length-bytes}
use Rattle.stack.proofs.Layouts.{top_bytes}

-- n + 1 pushes of a number's bytes, low first: its bytes on top, the rest as many places down, as many bytes lost at the bottom
pub pushes_lay : (n r : ℕ) (s : List ℕ) → n ≤ 15 → pushed_all s (low_first (suc n) r) ≡ bytes_of (suc n) r ++ take (15 - n) s
pushes_lay zero r s h = refl
pushes_lay (suc n) r s h =
    pushes_lay n (r / 256) (pushed s (r % 256)) (omega arith)
    ∙ ap (λ (l : List ℕ). bytes_of (suc n) (r / 256) ++ l) (fewer (15 - n) (15 - suc n) (omega arith) (omega arith))
    ∙ sym (append_assoc (bytes_of (suc n) (r / 256)) (r % 256 ∷ []) (take (15 - suc n) s))
  where
    fewer : (j k : ℕ) → j ≡ suc k → k ≤ 15 → take j (r % 256 ∷ take 15 s) ≡ r % 256 ∷ take k s
    fewer j k e l = ap (λ (x : ℕ). take x (r % 256 ∷ take 15 s)) e ∙ ap (λ (t : List ℕ). r % 256 ∷ t) (take-take k 15 s l)

-- k pops hand out the first k bytes, which go to the bottom
pub pops_hand : (k : ℕ) (s : List ℕ) → k ≤ length s → handed_out k s ≡ take k s
pops_hand zero s h = refl
pops_hand (suc k) [] h = absurd (not-suc-le-zero h)
pops_hand (suc k) (b ∷ s) h =
    let l = le_of_suc-le-suc h in
    let m : k ≤ length (s ++ (b ∷ [])) = simp length-append (omega arith) in
    ap (λ (t : List ℕ). b ∷ t) (pops_hand k (s ++ (b ∷ [])) m ∙ take-append-le k s (b ∷ []) l)

pub pops_turn : (k : ℕ) (s : List ℕ) → k ≤ length s → popped_all k s ≡ rotated k s
pops_turn zero s h = sym (append-nil s)
pops_turn (suc k) [] h = absurd (not-suc-le-zero h)
pops_turn (suc k) (b ∷ s) h =
    let l = le_of_suc-le-suc h in
    let m : k ≤ length (s ++ (b ∷ [])) = simp length-append (omega arith) in
    pops_turn k (s ++ (b ∷ [])) m
    ∙ ap₂ (λ (x y : List ℕ). x ++ y) (drop-append-le k s (b ∷ []) l) (take-append-le k s (b ∷ []) l)
    ∙ append_assoc (drop k s) (b ∷ []) (take k s)

-- the bytes of a word on top come back, high byte first
pub pops_read : (n r : ℕ) (t : List ℕ) → handed_out n (bytes_of n r ++ t) ≡ bytes_of n r
pops_read n r t =
    let m : n ≤ length (bytes_of n r ++ t) = simp (length-append, length-bytes) (omega arith) in
    pops_hand n (bytes_of n r ++ t) m ∙ top_bytes n r t
