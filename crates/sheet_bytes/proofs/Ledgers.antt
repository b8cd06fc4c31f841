-- The `sheets` slice: by the tests, which bytes stand for sheets; bytes laid over a list. Assumes nothing.
use mathlib.Core.Path.{◌≡◌, refl, ap, subst, ◌∙◌}
use mathlib.Core.Bool.{Bool, true, false, cond}
use mathlib.Core.List.{List, ◌∷◌, ◌++◌, append-nil}
use Prim.Native.Nat.{ℕ, ◌+◌, ◌≤◌, ◌<◌}
use native.Mathlib.Omega.{arith}
use native.Mathlib.Nat.{le_refl}
use lib.Dec.{eqb}
use lib.ListN.{length, get_or, set, take, drop, replicate, length-append, length-drop, length-set, drop_of_length-le}
use lib.Seq.{length-paste, take_all, take_at, length-take-le}
use borrow.Author.Tests.{lt-ltb, le-ltb, eq-eqb, ne_eqb, eqb-true}
use Rattle.sheet_bytes.specs.Ledger.{sheets_bytes, most_sheets, open_at, is_sheets, closed_in, kept_bits, open_serial, open_words, laid_at, place_at, dropped}
use Rattle.sheet_bytes.specs.Ledger.{closed}

-- ---- which bytes stand for sheets

module _ (l : List ℕ) where
  pub bad_length : (length l ≡ sheets_bytes → ⊥) → false ≡ is_sheets l
  unfolding is_sheets
  bad_length a = simp (ne_eqb (length l) sheets_bytes a)

  pub bad_number : length l ≡ sheets_bytes → most_sheets < closed_in l → false ≡ is_sheets l
  unfolding is_sheets
  bad_number a b = simp (eq-eqb (length l) sheets_bytes a, lt-ltb)

  pub bad_open : length l ≡ sheets_bytes → closed_in l ≤ most_sheets → 1 < get_or l open_at 0 → false ≡ is_sheets l
  unfolding is_sheets
  bad_open a b d = simp (eq-eqb (length l) sheets_bytes a, lt-ltb, le-ltb)

  pub bad_kept : length l ≡ sheets_bytes → closed_in l ≤ most_sheets → get_or l open_at 0 ≤ 1 → 15 < kept_bits l → false ≡ is_sheets l
  unfolding is_sheets
  bad_kept a b d e = simp (eq-eqb (length l) sheets_bytes a, lt-ltb, le-ltb)

  pub good : length l ≡ sheets_bytes → closed_in l ≤ most_sheets → get_or l open_at 0 ≤ 1 → kept_bits l ≤ 15 → true ≡ is_sheets l
  unfolding is_sheets
  good a b d e = simp (eq-eqb (length l) sheets_bytes a, le-ltb)

  -- what stands for sheets has 1,303 bytes
  pub is_long : is_sheets l ≡ true → length l ≡ sheets_bytes
  unfolding is_sheets
  is_long = pick (eqb (length l) sheets_bytes) refl _
    where
      pick : (b : Bool) → eqb (length l) sheets_bytes ≡ b → (x : Bool) → cond b x false ≡ true → length l ≡ sheets_bytes
      pick true e x h = eqb-true (length l) sheets_bytes e
      pick false e x h = absurd (subst (λ (y : Bool). cond y ⊥ Unit) h tt)

-- ---- bytes laid over a list

pub length-laid : (l : List ℕ) (at : ℕ) (vs : List ℕ) → at + length vs ≤ length l → length (laid_at l at vs) ≡ length l
length-laid l at vs h = length-paste l at vs (length vs) h (le_refl (length vs))

-- a line of two parts
pub two_parts : (a b l m : List ℕ) → length a ≡ 4 → length b ≡ 16 → l ≡ laid_at (replicate 20 0) 0 a → m ≡ laid_at l 4 b → m ≡ a ++ b
two_parts a b l m ha hb e f =
    let la : l ≡ a ++ drop 4 (replicate 20 0) = e ∙ rw (ha, take_all 4 a (omega arith)) in
    let z : length l ≡ 20 = ap length la ∙ length-append a (replicate 16 0) ∙ rw ha in
    f
    ∙ rw (hb, drop_of_length-le l {i = 20} (omega arith), take_all 16 b (omega arith), append-nil (take 4 l ++ b))
    (ap (λ (k : List ℕ). k ++ b) (ap (take 4) la ∙ take_at a (drop 4 (replicate 20 0)) 4 ha))

-- a serial in the bytes of an open sheet
pub opened_bytes : (serial m : List ℕ) → length serial ≡ 4 → m ≡ laid_at (set (replicate 22 0) 0 1) 1 serial → m ≡ 1 ∷ (serial ++ replicate 17 0)
opened_bytes serial m h e = e ∙ rw (h, take_all 4 serial (omega arith))

module _ (l : List ℕ) (h : length l ≡ sheets_bytes) where
  pub length-serial : length (open_serial l) ≡ 4
  length-serial = let a = length-drop 1282 l in length-take-le 4 (drop 1282 l) (omega arith)

  pub length-words : length (open_words l) ≡ 16
  length-words = let a = length-drop 1287 l in length-take-le 16 (drop 1287 l) (omega arith)

  pub length-line : length (open_serial l ++ open_words l) ≡ 20
  length-line = length-append (open_serial l) (open_words l) ∙ rw (length-serial, length-words)

  pub length-dropped : length (dropped l) ≡ sheets_bytes
  length-dropped = length-laid l 1281 (replicate 22 0) (omega arith) ∙ h

-- the open sheet as the next line, and closed
module _ (l : List ℕ) (h : length l ≡ sheets_bytes) (room : closed_in l < most_sheets) where
  pub length-placed : length (laid_at l (place_at (closed_in l)) (open_serial l ++ open_words l)) ≡ sheets_bytes
  length-placed = let a = length-line l h in length-laid l (place_at (closed_in l)) (open_serial l ++ open_words l) (omega arith) ∙ h

  pub length-counted : length (set (laid_at l (place_at (closed_in l)) (open_serial l ++ open_words l)) 0 (closed_in l + 1)) ≡ sheets_bytes
  length-counted = length-set (laid_at l (place_at (closed_in l)) (open_serial l ++ open_words l)) 0 (closed_in l + 1) ∙ length-placed

  pub length-closed : length (closed l) ≡ sheets_bytes
  length-closed = length-dropped (set (laid_at l (place_at (closed_in l)) (open_serial l ++ open_words l)) 0 (closed_in l + 1)) length-counted
