-- The reply to a buffer, told from its entries: the first that is refused, where one is, else how many were brought to 24 bits; and one of the two it is.
-- Assumes nothing.
use mathlib.Core.Path.{◌≡◌, refl, ap, ap₂, ◌∙◌, subst}
use mathlib.Core.Logic.{◌⊎◌, inl, inr, ⊎_elim}
use mathlib.Core.Bool.{Bool, true, false}
use Prim.Native.Nat.{ℕ, zero, suc, ◌+◌, ◌≤◌, ◌<◌}
use native.Mathlib.Nat.{le_refl, le_of_lt, eq-or-lt_of_le}
use native.Mathlib.Numerals.{add-one}
use native.Mathlib.Omega.{arith}
use lib.Dec.{eqb}
use borrow.Author.Tests.{eqb-true, eqb-false}
use Rattle.host_floats.specs.declared.buffer.Entry.{Entry}
use Rattle.host_floats.specs.Buffers.{reply_to}
use Rattle.host_floats.proofs.Looking.{all_of, Seen, looks_start, looks_bad, looks_on, looks_end}

level_or_below : {j n : ℕ} → j < suc n → (j ≡ n) ⊎ (j < n)
level_or_below h = eq-or-lt_of_le (omega arith)

-- how many of the first n entries were brought to 24 bits
unfoldable pub rounded_below : (ℕ → Entry) → ℕ → ℕ
rounded_below f zero = 0
rounded_below f (suc n) = rounded_below f n + (f n).rounded

-- the first i entries are taken
abbrev pub Taken : (ℕ → Entry) → ℕ → Type 0
Taken f i = (j : ℕ) → j < i → (f j).refusal ≡ 0

seen_to : (f : ℕ → Entry) (n i : ℕ) → i ≤ n → Taken f i → Seen f n i (rounded_below f i)
unfolding rounded_below
seen_to f n zero h t = looks_start f n
seen_to f n (suc i) h t =
    subst (λ (j : ℕ). Seen f n j (rounded_below f i + (f i).rounded)) (add-one i)
    (looks_on f n i (rounded_below f i) (seen_to f n i (omega arith) (λ j g. t j (omega arith))) (omega arith) (f i) (λ k. f i) (t i (omega arith)))

pub reply_bad : (f : ℕ → Entry) (n i : ℕ) → i < n → Taken f i → ((f i).refusal ≡ 0 → ⊥) → record { refusal = (f i).refusal; number = i + 1 } ≡ reply_to (all_of f n)
reply_bad f n i h t b = looks_bad f n i (rounded_below f i) (seen_to f n i (le_of_lt h) t) h (f i) (λ k. f i) b

pub reply_done : (f : ℕ → Entry) (n : ℕ) → Taken f n → record { refusal = 0; number = rounded_below f n } ≡ reply_to (all_of f n)
reply_done f n t = looks_end f n n (rounded_below f n) (seen_to f n n (le_refl n) t) (le_refl n)

-- the first entry that is refused
pub record First (f : ℕ → Entry) (n : ℕ) : Type 0 where
  pub i : ℕ
  pub within : i < n
  pub before : Taken f i
  pub refused : (f i).refusal ≡ 0 → ⊥

pub all_or_first : (f : ℕ → Entry) (n : ℕ) → Taken f n ⊎ First f n
all_or_first f zero = inl (λ j h. absurd (omega arith))
all_or_first f (suc n) = go (all_or_first f n) (eqb (f n).refusal 0) (eqb-true (f n).refusal 0) (eqb-false (f n).refusal 0)
  where
    further : Taken f n → (f n).refusal ≡ 0 → Taken f (suc n)
    further t z j h = ⊎_elim (λ (e : j ≡ n). ap (λ (k : ℕ). (f k).refusal) e ∙ z) (λ (l : j < n). t j l) (level_or_below h)

    go : Taken f n ⊎ First f n → (b : Bool) → (b ≡ true → (f n).refusal ≡ 0) → (b ≡ false → (f n).refusal ≡ 0 → ⊥) → Taken f (suc n) ⊎ First f (suc n)
    go (inr r) b is not = inr (record { i = r.i; within = let w = r.within in omega arith; before = r.before; refused = r.refused })
    go (inl t) true is not = inl (further t (is (λ k. true)))
    go (inl t) false is not = inr (record { i = n; within = omega arith; before = t; refused = not (λ k. false) })

-- where none was rounded, none of them was
pub none_rounded : (f : ℕ → Entry) (n : ℕ) → rounded_below f n ≡ 0 → (j : ℕ) → j < n → (f j).rounded ≡ 0
unfolding rounded_below
none_rounded f zero e j h = absurd (omega arith)
none_rounded f (suc n) e j h =
    ⊎_elim
    (λ (q : j ≡ n). ap (λ (k : ℕ). (f k).rounded) q ∙ omega arith)
    (λ (l : j < n). none_rounded f n (omega arith) j l)
    (level_or_below h)

pub rounded_none : (f : ℕ → Entry) (n : ℕ) → ((j : ℕ) → j < n → (f j).rounded ≡ 0) → rounded_below f n ≡ 0
unfolding rounded_below
rounded_none f zero h = refl
rounded_none f (suc n) h = ap₂ ◌+◌ (rounded_none f n (λ j g. h j (omega arith))) (h n (omega arith))
