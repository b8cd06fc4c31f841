-- The lines of a `sheets` slice: how many, and where the bytes of each stand. Assumes nothing.
use Prim.Native.Nat.{ℕ, zero, suc, ◌+◌, ◌*◌, ◌≤◌, ◌<◌}
use mathlib.Core.Path.{◌≡◌, refl, sym, ap, subst, ◌∙◌}
use mathlib.Core.Bool.{Bool, true, false, cond}
use mathlib.Core.List.{List, []}
use native.Mathlib.Omega.{arith}
use native.Mathlib.Nat.{not-suc-le-zero, le_of_suc-le-suc}
use borrow.Author.Tests.{ltb-false, eqb-true}
use lib.Dec.{eqb, ltb}
use lib.ListN.{length, get_or, take, drop}
use lib.Seq.{get_or-take, get_or-drop, drop-drop}
use Rattle.numbers.specs.Little.{four_at}
use Rattle.sheet_bytes.specs.Ledger.{sheets_bytes, most_sheets, open_at, kept_at, is_sheets, lines, lines_of, closed_in}

-- what the test says of the bytes
pub sheets_are : (l : List ℕ) → is_sheets l ≡ true → (length l ≡ sheets_bytes) × (closed_in l ≤ most_sheets)
unfolding is_sheets
sheets_are l h = size (eqb (length l) sheets_bytes) refl h
  where
    number : (t : Bool) → ltb most_sheets (get_or l 0 0) ≡ t → cond t false (cond (ltb 1 (get_or l open_at 0)) false (cond (ltb 15 (get_or l kept_at 0)) false true))
        ≡ true → get_or l 0 0 ≤ most_sheets
    number true e k = absurd (subst (λ (b : Bool). cond b ⊥ Unit) k tt)
    number false e k = ltb-false most_sheets (get_or l 0 0) e

    size : (t : Bool) → eqb (length l) sheets_bytes ≡ t → cond t (cond (ltb most_sheets (get_or l 0 0)) false (cond (ltb 1 (get_or l open_at 0)) false
        (cond (ltb 15 (get_or l kept_at 0)) false true))) false ≡ true → (length l ≡ sheets_bytes) × (closed_in l ≤ most_sheets)
    size true e k = (eqb-true (length l) sheets_bytes e, number (ltb most_sheets (get_or l 0 0)) refl k)
    size false e k = absurd (subst (λ (b : Bool). cond b ⊥ Unit) k tt)

length-so_many : (n : ℕ) (l : List ℕ) → length (lines n l) ≡ n
length-so_many zero l = refl
length-so_many (suc n) l = ap suc (length-so_many n (drop 20 l))

pub length-lines : (l : List ℕ) → length (lines_of l) ≡ closed_in l
length-lines l = length-so_many (closed_in l) (drop 1 l)

line_at : (n i : ℕ) (l : List ℕ) → i < n → get_or (lines n l) i [] ≡ take 20 (drop (20 * i) l)
line_at zero i l h = absurd (not-suc-le-zero h)
line_at (suc n) zero l h = refl
line_at (suc n) (suc i) l h =
    let e : 20 + 20 * i ≡ 20 * suc i = omega arith in
    line_at n i (drop 20 l) (le_of_suc-le-suc h) ∙ ap (λ (m : List ℕ). take 20 m) (drop-drop (20 * i) 20 l ∙ ap (λ (k : ℕ). drop k l) e)

-- a byte of a line
byte_at : (l : List ℕ) (i j at : ℕ) → i < closed_in l → j < 20 → at ≡ 1 + 20 * i + j → get_or (get_or (lines_of l) i []) j 0 ≡ get_or l at 0
byte_at l i j at h k e =
    ap (λ (m : List ℕ). get_or m j 0) (line_at (closed_in l) i (drop 1 l) h ∙ ap (λ (m : List ℕ). take 20 m) (drop-drop (20 * i) 1 l))
    ∙ get_or-take 20 (drop (1 + 20 * i) l) j 0 k
    ∙ get_or-drop (1 + 20 * i) l j 0
    ∙ ap (λ (n : ℕ). get_or l n 0) (sym e)

pub four_at_lem : (l : List ℕ) (i j at : ℕ) → i < closed_in l → j + 3 < 20 → at ≡ 1 + 20 * i + j → four_at (get_or (lines_of l) i []) j ≡ four_at l at
four_at_lem l i j at h k e =
    rw (
      byte_at l i j at h (omega arith) e,
      byte_at l i (j + 1) (at + 1) h (omega arith) (omega arith),
      byte_at l i (j + 2) (at + 2) h (omega arith)
          (omega arith),
      byte_at l i (j + 3) (at + 3) h (omega arith) (omega arith),
    )
