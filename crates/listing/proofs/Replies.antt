-- Whether a whole reply stands at the front, by the tests that the code makes, and what is known of one. Assumes nothing.
use mathlib.Core.Path.{◌≡◌, refl}
use mathlib.Core.List.{List}
use mathlib.Core.Bool.{Bool, true, false, not, ◌||◌, cond}
use Prim.Native.Nat.{ℕ, ◌+◌, ◌*◌, ◌/◌, ◌%◌, ◌≤◌, ◌<◌}
use native.Mathlib.Omega.{arith}
use lib.Dec.{leb, ltb}
use lib.ListN.{length, get_or}
use borrow.Author.Tests.{le-leb, lt-leb, leb-true, ltb-true, ltb-false}
use Rattle.numbers.specs.Little.{word_at, four_at}
use Rattle.listing.specs.Listing.{reply_size, has_reply, whole_size, Front}

-- the first four bytes as one number: its low half is the length's word, its high half the kind's
halves : (a b c d : ℕ) → a < 256 → b < 256
    → ((a + b * 256 + c * 65536 + d * 16777216) % 65536 ≡ a + b * 256) × ((a + b * 256 + c * 65536 + d * 16777216) / 65536 ≡ c + d * 256)
halves a b c d h k = (omega arith, omega arith)

module _ (l : List ℕ) {head : ℕ} (bytes : (i : ℕ) → get_or l i 0 < 256) (e : head ≡ four_at l 0) where
  pub size_of : 2 + head % 65536 ≡ reply_size l
  size_of = omega (arith, e, (halves (get_or l 0 0) (get_or l 1 0) (get_or l 2 0) (get_or l 3 0) (bytes 0) (bytes 1)).0)

  pub kind_of_lem : head / 65536 ≡ word_at l 2
  kind_of_lem = omega (arith, e, (halves (get_or l 0 0) (get_or l 1 0) (get_or l 2 0) (get_or l 3 0) (bytes 0) (bytes 1)).1)

-- too few bytes leave none; else the tests that the code joins, one that holds leaves none
pub too_short : (l : List ℕ) → length l < 5 → 0 ≡ whole_size l
unfolding has_reply
too_short l h = rw (lt-leb 5 (length l) h)

turned : (m n : ℕ) → leb m n ≡ not (ltb n m)
turned m n = go (ltb n m) refl
  where
    go : (t : Bool) → ltb n m ≡ t → leb m n ≡ not t
    go true e = lt-leb m n (ltb-true n m e)
    go false e = le-leb m n (ltb-false n m e)

pub sized_by : (l : List ℕ) (size kind : ℕ) → 5 ≤ length l → size ≡ reply_size l → kind ≡ word_at l 2
    → cond ((ltb size 5 || ltb (length l) size) || ltb kind 128) 0 size ≡ whole_size l
unfolding has_reply
sized_by l size kind h e f =
    rw (← e, ← f, le-leb 5 (length l) h, turned 5 size, turned size (length l), turned 128 kind) (go (ltb size 5) (ltb (length l) size) (ltb kind 128))
  where
    go : (a b c : Bool) → cond ((a || b) || c) 0 size ≡ cond (cond (not a) (cond (not b) (not c) false) false) size 0
    go true b c = refl
    go false true c = refl
    go false false true = refl
    go false false false = refl

pub is_whole : (l : List ℕ) → 5 ≤ length l → 5 ≤ reply_size l → reply_size l ≤ length l → 128 ≤ word_at l 2 → has_reply l ≡ true
unfolding has_reply
is_whole l h k m n = rw (le-leb 5 (length l) h, le-leb 5 (reply_size l) k, le-leb (reply_size l) (length l) m, le-leb 128 (word_at l 2) n)

-- four tests in turn that all held
all_four : (a b c d : Bool) → cond a (cond b (cond c d false) false) false ≡ true → (a ≡ true) × (b ≡ true) × (c ≡ true) × (d ≡ true)
all_four true true true d e = (refl, refl, refl, e)
all_four true true false d e = let z : ◌≡◌ {A = ℕ} 0 1 = cc in absurd (omega arith)
all_four true false c d e = let z : ◌≡◌ {A = ℕ} 0 1 = cc in absurd (omega arith)
all_four false b c d e = let z : ◌≡◌ {A = ℕ} 0 1 = cc in absurd (omega arith)

-- what the test of a whole reply tells
pub front : (l : List ℕ) → has_reply l ≡ true → Front l (reply_size l)
unfolding has_reply
front l e =
    let t = all_four (leb 5 (length l)) (leb 5 (reply_size l)) (leb (reply_size l) (length l)) (leb 128 (word_at l 2)) e in
    record { is_size = refl; at_least = leb-true _ _ t.1; within = leb-true _ _ t.2; kind = leb-true _ _ t.3 }

-- a size that is not 0 is that of a whole reply
pub found : (l : List ℕ) → (whole_size l ≡ 0 → ⊥) → has_reply l ≡ true
found l h = pick (has_reply l) h
  where
    pick : (b : Bool) → (cond b (reply_size l) 0 ≡ 0 → ⊥) → b ≡ true
    pick true k = refl
    pick false k = absurd (k refl)

pub none : (l : List ℕ) → whole_size l ≡ 0 → has_reply l ≡ false
none l h = pick (has_reply l) h
  where
    pick : (b : Bool) → cond b (reply_size l) 0 ≡ 0 → b ≡ false
    pick true k = let z : 2 + word_at l 0 ≡ 0 = k in absurd (omega arith)
    pick false k = refl
