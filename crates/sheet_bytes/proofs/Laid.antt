-- Bytes laid_at over a list: what stands before, behind and in them; lines of the list. Assumes nothing.
use mathlib.Core.Path.{◌≡◌, refl, sym, ap, subst, ◌∙◌}
use mathlib.Core.List.{List, [], ◌∷◌, ◌++◌, append_assoc}
use Prim.Native.Nat.{ℕ, zero, suc, ◌+◌, ◌*◌, ◌-◌, ◌≤◌, ◌<◌}
use native.Mathlib.Omega.{arith}
use native.Mathlib.Nat.{le_refl}
use lib.ListN.{length, get_or, set, take, drop, length-append, drop_of_length-le}
use lib.Seq.{length-take-le, take_all, take_at, drop_at, take-append-le, take-take, drop-drop, get_or-take, get_or-drop, take-set-le, drop-set-lt, drop-cons}
use Rattle.record_files.proofs.Through.{drop_take}
use Rattle.sheet_bytes.specs.Ledger.{laid_at, bytes_at, lines}

module _ (l : List ℕ) (at : ℕ) (vs : List ℕ) (fits : at + length vs ≤ length l) where
  -- the three parts
  abbrev rest : List ℕ
  rest = drop (at + length vs) l

  front_long : length (take at l) ≡ at
  front_long = length-take-le at l (omega arith)

  pub parts : laid_at l at vs ≡ take at l ++ (vs ++ rest)
  parts = ap (λ (v : List ℕ). take at l ++ v ++ rest) (take_all (length vs) vs (le_refl (length vs))) ∙ append_assoc (take at l) vs rest

  pub before_laid : (a : ℕ) → a ≤ at → take a (laid_at l at vs) ≡ take a l
  before_laid a h =
      ap (take a) parts ∙ take-append-le a (take at l) (vs ++ rest) (omega (arith, front_long)) ∙ take-take a at l h

  pub in_laid : bytes_at (laid_at l at vs) at (length vs) ≡ vs
  in_laid = ap (λ (v : List ℕ). take (length vs) (drop at v)) parts ∙ ap (take (length vs)) (drop_at (take at l) (vs ++ rest) at front_long)
      ∙ take_at vs rest (length vs) refl

  both_long : length (take at l ++ vs) ≡ at + length vs
  both_long = length-append (take at l) vs ∙ ap (λ (n : ℕ). n + length vs) front_long

  pub behind_laid : (k : ℕ) → drop (at + length vs + k) (laid_at l at vs) ≡ drop (at + length vs + k) l
  behind_laid k =
      sym (drop-drop k (at + length vs) (laid_at l at vs))
      ∙ ap (drop k) (ap (drop (at + length vs)) (parts ∙ sym (append_assoc (take at l) vs rest)) ∙ drop_at (take at l ++ vs) rest (at + length vs) both_long)
      ∙ drop-drop k (at + length vs) l

  -- bytes before
  pub bytes_before : (a n : ℕ) → a + n ≤ at → bytes_at (laid_at l at vs) a n ≡ bytes_at l a n
  bytes_before a n h = sym (drop_take a n (laid_at l at vs)) ∙ ap (drop a) (before_laid (a + n) h) ∙ drop_take a n l

  pub bytes_behind : (a n : ℕ) → at + length vs ≤ a → bytes_at (laid_at l at vs) a n ≡ bytes_at l a n
  bytes_behind a n h =
      let e : at + length vs + (a - (at + length vs)) ≡ a = omega arith in
      ap (take n) (subst (λ (i : ℕ). drop i (laid_at l at vs) ≡ drop i l) e (behind_laid (a - (at + length vs))))

  -- one byte
  pub byte_behind : (i : ℕ) → at + length vs ≤ i → get_or (laid_at l at vs) i 0 ≡ get_or l i 0
  byte_behind i h =
      let z : i + 0 ≡ i = omega arith in
      subst (λ (k : ℕ). get_or (laid_at l at vs) k 0 ≡ get_or l k 0) z
      (sym (get_or-drop i (laid_at l at vs) 0 0) ∙ ap (λ (v : List ℕ). get_or v 0 0) (subst (λ (k : ℕ). drop k (laid_at l at vs) ≡ drop k l)
      (let e : at + length vs + (i - (at + length vs)) ≡ i = omega arith in e) (behind_laid (i - (at + length vs)))) ∙ get_or-drop i l 0 0)

-- a byte as one of some bytes
pub byte_of : (l : List ℕ) (a n i : ℕ) → i < n → get_or l (a + i) 0 ≡ get_or (bytes_at l a n) i 0
byte_of l a n i h = sym (get_or-take n (drop a l) i 0 h ∙ get_or-drop a l i 0)

-- some bytes of some bytes
pub bytes_of_lem : (l : List ℕ) (a n i k : ℕ) → i + k ≤ n → bytes_at l (a + i) k ≡ bytes_at (bytes_at l a n) i k
bytes_of_lem l a n i k h =
    sym (drop_take (a + i) k l)
    ∙ sym (drop-drop i a (take (a + i + k) l))
    ∙ ap (drop i) (ap (λ (m : ℕ). drop a (take m l)) e ∙ drop_take a (i + k) l ∙ sym (take-take (i + k) n (drop a l) h))
    ∙ drop_take i k (take n (drop a l))
  where
    e : a + i + k ≡ a + (i + k)
    e = omega arith

-- a store behind, and one before
pub bytes_set : (l : List ℕ) (j x a n : ℕ) → a + n ≤ j → bytes_at (set l j x) a n ≡ bytes_at l a n
bytes_set l j x a n h = sym (drop_take a n (set l j x)) ∙ ap (drop a) (take-set-le (a + n) l j x h) ∙ drop_take a n l

pub bytes_set_front : (l : List ℕ) (j x a n : ℕ) → j < a → bytes_at (set l j x) a n ≡ bytes_at l a n
bytes_set_front l j x a n h = ap (take n) (drop-set-lt a l j x h)

-- four bytes, spelled
pub four : (l : List ℕ) → length l ≡ 4 → get_or l 0 0 ∷ get_or l 1 0 ∷ get_or l 2 0 ∷ get_or l 3 0 ∷ [] ≡ l
four l h =
    let a = drop-cons l 0 0 (omega arith) in
    let b = drop-cons l 1 0 (omega arith) in
    let d = drop-cons l 2 0 (omega arith) in
    let e = drop-cons l 3 0 (omega arith) in
    let f = drop_of_length-le l {i = 4} (omega arith) in
    sym (a ∙ ap (λ (t : List ℕ). get_or l 0 0 ∷ t) (b ∙ ap (λ (t : List ℕ). get_or l 1 0 ∷ t) (d ∙ ap (λ (t : List ℕ). get_or l 2 0 ∷ t) (e
    ∙ ap (λ (t : List ℕ). get_or l 3 0 ∷ t) f))))

-- ---- lines

-- lines look at their own bytes
pub same_lines : (n : ℕ) (a b : List ℕ) → take (n * 20) a ≡ take (n * 20) b → lines n a ≡ lines n b
same_lines zero a b h = refl
same_lines (suc n) a b h =
    let e : suc n * 20 ≡ 20 + n * 20 = omega arith in
    let g : take (20 + n * 20) a ≡ take (20 + n * 20) b = rw e at h in
    let p : take 20 a ≡ take 20 b = sym (take-take 20 (20 + n * 20) a (omega arith)) ∙ ap (take 20) g ∙ take-take 20 (20 + n * 20) b (omega arith) in
    let q : take (n * 20) (drop 20 a) ≡ take (n * 20) (drop 20 b) = sym (drop_take 20 (n * 20) a) ∙ ap (drop 20) g ∙ drop_take 20 (n * 20) b in
    ap (λ (x : List ℕ). x ∷ lines n (drop 20 a)) p ∙ ap (λ (x : List (List ℕ)). take 20 b ∷ x) (same_lines n (drop 20 a) (drop 20 b) q)

-- one line more
pub line_more : (n : ℕ) (l : List ℕ) → lines (suc n) l ≡ lines n l ++ (bytes_at l (n * 20) 20 ∷ [])
line_more zero l = refl
line_more (suc n) l =
    let e : suc n * 20 ≡ 20 + n * 20 = omega arith in
    ap (λ (x : List (List ℕ)). take 20 l ∷ x)
    (line_more n (drop 20 l) ∙ ap (λ (x : List ℕ). lines n (drop 20 l) ++ (take 20 x ∷ [])) (drop-drop (n * 20) 20 l ∙ ap (λ (m : ℕ). drop m l) (sym e)))
