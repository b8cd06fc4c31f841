-- The bytes of a buffer, entry by entry: the i-th block of c bytes is the i-th entry's, and a list whose blocks are the entries' is the buffer. Assumes
-- nothing.
use mathlib.Core.Path.{◌≡◌, refl, sym, ap, ap₂, ◌∙◌}
use mathlib.Core.List.{List, [], ◌∷◌, ◌++◌, append_assoc}
use Prim.Native.Nat.{ℕ, zero, suc, ◌+◌, ◌*◌, ◌<◌}
use native.Mathlib.Nat.{zero-mul, suc-mul}
use native.Mathlib.Omega.{arith}
use lib.ListN.{length, take, drop, length-drop, take-append-drop}
use lib.Seq.{take_at, drop_at, drop-drop}
use Rattle.host_floats.specs.declared.buffer.Entry.{Entry}
use Rattle.host_floats.specs.Buffers.{entries_from, bytes_of}
use Rattle.host_floats.proofs.Writing.{first_bytes}

module _ (c : ℕ) (le : ℕ → List ℕ) (size : (x : ℕ) → length (le x) ≡ c) (f : ℕ → Entry) where
  one_more : (i : ℕ) → suc i * c ≡ c + i * c
  one_more i = omega (arith, suc-mul i c)

  -- past the first block
  skip : (i : ℕ) (x : ℕ) (t : List ℕ) → drop (suc i * c) (le x ++ t) ≡ drop (i * c) t
  skip i x t =
      ap (λ (k : ℕ). drop k (le x ++ t)) (one_more i)
      ∙ sym (drop-drop (i * c) c (le x ++ t))
      ∙ ap (drop (i * c)) (drop_at (le x) t c (size x))

  block_from : (n j i : ℕ) (rest : List ℕ) → i < n → take c (drop (i * c) (bytes_of le (entries_from f j n) ++ rest)) ≡ le (f (j + i)).bits
  unfolding bytes_of entries_from
  block_from zero j i rest h = absurd (omega arith)
  block_from (suc n) j zero rest h =
      let b = bytes_of le (entries_from f (j + 1) n) in
      ap (λ (k : ℕ). take c (drop k ((le (f j).bits ++ b) ++ rest))) (zero-mul c)
      ∙ ap (take c) (append_assoc (le (f j).bits) b rest)
      ∙ take_at (le (f j).bits) (b ++ rest) c (size (f j).bits)
      ∙ ap (λ (k : ℕ). le (f k).bits) (omega arith)
  block_from (suc n) j (suc i) rest h =
      let b = bytes_of le (entries_from f (j + 1) n) in
      ap (λ (l : List ℕ). take c (drop (suc i * c) l)) (append_assoc (le (f j).bits) b rest)
      ∙ ap (take c) (skip i (f j).bits (b ++ rest))
      ∙ block_from n (j + 1) i rest (omega arith)
      ∙ ap (λ (k : ℕ). le (f k).bits) (omega arith)

  -- the i-th block
  pub block : (n i : ℕ) (rest : List ℕ) → i < n → take c (drop (i * c) (first_bytes le f n ++ rest)) ≡ le (f i).bits
  block n i rest h = block_from n 0 i rest h ∙ ap (λ (k : ℕ). le (f k).bits) (omega arith)

  whole_from_lem : (n j : ℕ) (l : List ℕ) → length l ≡ n * c → ((i : ℕ) → i < n → le (f (j + i)).bits ≡ take c (drop (i * c) l))
      → bytes_of le (entries_from f j n) ≡ l
  unfolding bytes_of entries_from
  whole_from_lem zero j [] e h = refl
  whole_from_lem zero j (b ∷ l) e h = absurd (none (e ∙ zero-mul c))
    where
      none : suc (length l) ≡ 0 → ⊥
      none g = omega arith
  whole_from_lem (suc n) j l e h =
      ap₂ (λ (s t : List ℕ). s ++ t)
      (ap (λ (k : ℕ). le (f k).bits) (omega arith) ∙ h 0 (omega arith) ∙ ap (λ (k : ℕ). take c (drop k l)) (zero-mul c))
      (whole_from_lem n (j + 1) (drop c l) (omega (arith, length-drop c l, suc-mul n c)) (λ i g.
      ap (λ (k : ℕ). le (f k).bits) (omega arith) ∙ h (suc i) (omega arith)
      ∙ ap (take c) (sym (drop-drop (i * c) c l ∙ ap (λ (k : ℕ). drop k l) (sym (one_more i))))))
      ∙ take-append-drop c l

  -- a list of n blocks that are the entries'
  pub whole : (n : ℕ) (l : List ℕ) → length l ≡ n * c → ((i : ℕ) → i < n → le (f i).bits ≡ take c (drop (i * c) l)) → first_bytes le f n ≡ l
  whole n l e h = whole_from_lem n 0 l e (λ i g. ap (λ (k : ℕ). le (f k).bits) (omega arith) ∙ h i g)
