-- Which bytes stand for a state, test by test: 19 or 21 of them, the chip's three behind the stack, the memory's two where they are 21. Assumes nothing.
use mathlib.Core.Path.{◌≡◌, refl, sym, ◌∙◌}
use mathlib.Core.Logic.{inl, inr, ⊎_elim}
use mathlib.Core.Bool.{Bool, true, false, ◌&&◌, cond, false≢true}
use mathlib.Core.List.{List, ◌++◌, append-nil}
use Prim.Native.Nat.{ℕ, ◌≤◌, ◌<◌}
use native.Mathlib.Omega.{arith}
use lib.Dec.{eqb, ltb, leb}
use lib.ListN.{length, get_or, take, drop, length-drop, take-append-drop, drop_of_length-le}
use lib.Seq.{take_at, drop_at, take_all}
use borrow.Author.Tests.{lt-ltb, le-ltb, le-leb, lt-leb, leb-true, leb-false, eq-eqb, ne_eqb, eqb-true, ltb-false}
use Rattle.terms.specs.Limits.{state_bytes, long_state_bytes}
use Rattle.error_memory.specs.Memory.{empty_memory, is_memory}
use Rattle.record_files.proofs.Tests.{either_lt, both, not_both}
use Rattle.state_bytes.specs.Bytes.{Sized, is_chip, is_state, memory_in}

-- ---- the length
module _ (l : List ℕ) where
  pub least : Sized l → state_bytes ≤ length l
  least h = ⊎_elim (λ a. omega arith) (λ b. omega arith) h

  -- not the one length, so the other
  pub is_long : Sized l → (length l ≡ state_bytes → ⊥) → length l ≡ long_state_bytes
  is_long h n = ⊎_elim (λ a. absurd (n a)) (λ b. b) h

  pub is_short : Sized l → (length l ≡ long_state_bytes → ⊥) → length l ≡ state_bytes
  is_short h n = ⊎_elim (λ a. a) (λ b. absurd (n b)) h

  -- bytes of the same number
  pub sized_as : (k : List ℕ) → length k ≡ length l → Sized l → Sized k
  sized_as k e h = ⊎_elim (λ a. inl (e ∙ a)) (λ b. inr (e ∙ b)) h

-- ---- the tests that code makes
-- one that the definition makes the other way round
turned : (x : ℕ) → leb x 127 ≡ cond (ltb 127 x) false true
turned x = either_lt (λ (t : Bool). leb x 127 ≡ t) 127 x false true (λ more. lt-leb x 127 more) (λ less. le-leb x 127 less)

all_false : (x y : Bool) → false ≡ cond x false (cond y false false)
all_false true y = refl
all_false false true = refl
all_false false false = refl

module _ (l : List ℕ) where
  pub flags_good : leb (get_or l 16 0) 1 && leb (get_or l 18 0) 1 ≡ true → leb (get_or l 17 0) 127 ≡ is_chip l
  flags_good e =
      let f = both (leb (get_or l 16 0) 1) (leb (get_or l 18 0) 1) e in
      rw (le-ltb 1 (get_or l 16 0) (leb-true (get_or l 16 0) 1 f.0), le-ltb 1 (get_or l 18 0) (leb-true (get_or l 18 0) 1 f.1))
      (turned (get_or l 17 0))

  pub flags_bad : leb (get_or l 16 0) 1 && leb (get_or l 18 0) 1 ≡ false → false ≡ is_chip l
  flags_bad e =
      ⊎_elim (λ x. rw (lt-ltb 1 (get_or l 16 0) (leb-false (get_or l 16 0) 1 x)))
      (λ y. rw (lt-ltb 1 (get_or l 18 0) (leb-false (get_or l 18 0) 1 y)) (all_false (ltb 1 (get_or l 16 0)) (ltb 127 (get_or l 17 0))))
      (not_both (leb (get_or l 16 0) 1) (leb (get_or l 18 0) 1) e)

  pub is_chip_lem : get_or l 16 0 ≤ 1 → get_or l 17 0 ≤ 127 → get_or l 18 0 ≤ 1 → true ≡ is_chip l
  is_chip_lem b d e = simp le-ltb

  pub short_state : length l ≡ state_bytes → is_state l ≡ is_chip l
  unfolding is_state
  short_state a = rw (eq-eqb (length l) state_bytes a)

  pub bad_length : (length l ≡ state_bytes → ⊥) → (length l ≡ long_state_bytes → ⊥) → is_state l ≡ false
  unfolding is_state
  bad_length a b = rw (ne_eqb (length l) state_bytes a, ne_eqb (length l) long_state_bytes b)

  pub long_state : length l ≡ long_state_bytes → is_chip l ≡ true → is_state l ≡ is_memory (get_or l 19 0) (get_or l 20 0)
  unfolding is_state
  long_state b d = rw (ne_eqb (length l) state_bytes (λ a. omega arith), eq-eqb (length l) long_state_bytes b, d)

  pub long_bad : length l ≡ long_state_bytes → is_chip l ≡ false → is_state l ≡ false
  unfolding is_state
  long_bad b d = rw (ne_eqb (length l) state_bytes (λ a. omega arith), eq-eqb (length l) long_state_bytes b, d)

-- ---- what stands for a state
-- a test that must hold held, and one that must not did not
held : (b x : Bool) → cond b x false ≡ true → (b ≡ true) × (x ≡ true)
held true x e = (refl, e)
held false x e = absurd (false≢true e)

failed : (b x : Bool) → cond b false x ≡ true → (b ≡ false) × (x ≡ true)
failed true x e = absurd (false≢true e)
failed false x e = (refl, e)

pub record ChipBytes (l : List ℕ) : Type 0 where
  pub pending : get_or l 16 0 ≤ 1
  pub ready : get_or l 17 0 < 128
  pub service : get_or l 18 0 ≤ 1

pub record StateStands (l : List ℕ) : Type 0 where
  pub size : Sized l
  pub chip : ChipBytes l
  pub memory : length l ≡ long_state_bytes → is_memory (get_or l 19 0) (get_or l 20 0) ≡ true

module _ (l : List ℕ) where
  chip_bytes : is_chip l ≡ true → ChipBytes l
  chip_bytes h =
      let p = failed (ltb 1 (get_or l 16 0)) _ h in
      let t = failed (ltb 127 (get_or l 17 0)) _ p.1 in
      let v = failed (ltb 1 (get_or l 18 0)) true t.1 in
      record {
        pending = ltb-false 1 (get_or l 16 0) p.0;
        ready = omega (arith, ltb-false 127 (get_or l 17 0) t.0);
        service = ltb-false 1 (get_or l 18 0) v.0;
      }

  bytes_chip : ChipBytes l → is_chip l ≡ true
  bytes_chip h = sym (is_chip_lem l h.pending (omega (arith, h.ready)) h.service)

  by_length : (x y : Bool) → eqb (length l) state_bytes ≡ x → eqb (length l) long_state_bytes ≡ y
      → cond x (is_chip l) (cond y (cond (is_chip l) (is_memory (get_or l 19 0) (get_or l 20 0)) false) false) ≡ true → StateStands l
  by_length true y a b h = let n = eqb-true (length l) state_bytes a in record { size = inl n; chip = chip_bytes h; memory = λ m. absurd (omega arith) }
  by_length false true a b h =
      let k = held (is_chip l) (is_memory (get_or l 19 0) (get_or l 20 0)) h in
      record { size = inr (eqb-true (length l) long_state_bytes b); chip = chip_bytes k.0; memory = λ m. k.1 }
  by_length false false a b h = absurd (false≢true h)

  -- by every test, and the other way round
  pub state_stands : is_state l ≡ true → StateStands l
  unfolding is_state
  state_stands h = by_length (eqb (length l) state_bytes) (eqb (length l) long_state_bytes) refl refl h

  pub stands_state : StateStands l → is_state l ≡ true
  stands_state h =
      ⊎_elim (λ a. short_state l a ∙ bytes_chip h.chip) (λ b. long_state l b (bytes_chip h.chip) ∙ h.memory b) h.size

  module _ (h : is_state l ≡ true) where
    pub state_sized : Sized l
    state_sized = (state_stands h).size

    pub state_ready : get_or l 17 0 < 128
    state_ready = (state_stands h).chip.ready

-- ---- the memory of a state
module _ (l : List ℕ) where
  pub short_memory : length l ≡ state_bytes → memory_in l ≡ empty_memory
  short_memory a = rw (eq-eqb (length l) state_bytes a)

  pub long_memory : length l ≡ long_state_bytes → memory_in l ≡ record { bits = get_or l 19 0; code = get_or l 20 0 }
  long_memory b = rw (ne_eqb (length l) state_bytes (λ a. omega arith))

  pub state_memory : is_state l ≡ true → is_memory (memory_in l).bits (memory_in l).code ≡ true
  state_memory h = ⊎_elim (λ a. rw (short_memory a)) (λ b. rw (long_memory b) ((state_stands l h).memory b)) (state_sized l h)

-- ---- the stack
-- eight bytes written, then eight behind them
pub both_halves : (s x y : List ℕ) → length s ≡ 16 → length x ≡ 8 → take 8 (x ++ drop 8 s) ++ (y ++ drop 8 (drop 8 (x ++ drop 8 s))) ≡ x ++ y
both_halves s x y h X =
    let few : length (drop 8 s) ≤ 8 = simp length-drop (omega arith) in
    rw (take_at x (drop 8 s) 8 X, drop_at x (drop 8 s) 8 X, drop_of_length-le (drop 8 s) {i = 8} few, append-nil y)

-- the two halves of 16 bytes
pub halves : (s : List ℕ) → length s ≡ 16 → take 8 s ++ take 8 (drop 8 s) ≡ s
halves s h =
    let few : length (drop 8 s) ≤ 8 = simp length-drop (omega arith) in
    rw (take_all 8 (drop 8 s) few) (take-append-drop 8 s)
