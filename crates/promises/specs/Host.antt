-- Demand 2 for host floats, "with the value unchanged, wherever the other side has that value": what a conversion
-- replies, by the refusals' numbers and by the bits; 02's minus zero is turned away. Each statement is proved by name
-- in proofs/Host.antt. Assumes nothing.
use Rattle.std.specs.Prelude.{ℕ, ◌^◌, ◌<◌, ◌≡◌, ◌⊎◌, ◌↔◌, true, false, Float}
use Rattle.std.specs.Float.{binary32}
use Rattle.std.specs.Float.Ieee.{of_bits}
use Rattle.std.specs.Float.Ieee.Exact.{HasValue}
use Rattle.promises.specs.Subjects.{host_of, taken_of, host_reply, taken_reply, Reply}
use Rattle.promises.specs.RefusalNumbers.{number_of}
use Rattle.promises.specs.FloatWords.{negative, proper, size88, FloatWord}
use Rattle.promises.specs.HostFloats.{HasWord, Endless, IsMinusZero, Large, Small}

-- the reply to a word that is to be made an f32, and to an f32's bits that are to be made a word
abbrev pub outward : ℕ → Reply
outward w = host_reply (host_of w)

abbrev pub inward : ℕ → Reply
inward p = taken_reply (taken_of p)

-- a reply's number
abbrev pub number : Reply → ℕ
number r = number_of r.refusal

-- a reply is 0 and carries these bits
pub record Gives (r : Reply) (bits : ℕ) : Type 0 where
  pub done : number r ≡ 0
  pub bits_are : r.bits ≡ bits

-- A proper word is answered 0 with an f32 that has exactly its value: its sign, and in size its value times 2 ^ 88 over
-- 2 ^ 88. Any other is answered 4.
abbrev pub ValueKept : Type 0
ValueKept =
    (w : ℕ) → w < 2 ^ 32 →
    (proper w ≡ true → (number (outward w) ≡ 0)
    × HasValue (of_bits binary32 (outward w).bits) (negative w) (size88 w) (2 ^ 88))
    × (proper w ≡ false → number (outward w) ≡ 4)

-- An f32 is answered 0 with a word exactly if that is a proper word of its value and the f32 is not minus zero.
abbrev pub AcceptedExactly : Type 0
AcceptedExactly = (p : ℕ) → p < 2 ^ 32 → (w : ℕ)
    → Gives (inward p) w ↔ (HasWord (of_bits binary32 p) w × (IsMinusZero (of_bits binary32 p) → ⊥))

-- The exception is one f32, 80000000, and it has the value of a proper word, zero.
abbrev pub OneException : Type 0
OneException = ((p : ℕ) → p < 2 ^ 32 → IsMinusZero (of_bits binary32 p) ↔ p ≡ 2 ^ 31)
    × HasWord (of_bits binary32 (2 ^ 31)) 0

-- Every f32 is answered 0, 10, 15, 11 or 12, and 10, 15, 11 and 12 exactly where 01 and 02 have them. No f32 has two of
-- these, so that the order of the tests
-- is no choice of meaning; nor has one 10, 11 or 12 and a proper word of its value.
abbrev pub Answered : ℕ → Type 0
Answered n = (n ≡ 0) ⊎ (n ≡ 10) ⊎ (n ≡ 15) ⊎ (n ≡ 11) ⊎ (n ≡ 12)

abbrev pub ClassesApart : Float → Type 0
ClassesApart x =
    (Endless x → IsMinusZero x → ⊥)
    × (Endless x → Large x → ⊥)
    × (Endless x → Small x → ⊥)
    × (IsMinusZero x → Large x → ⊥)
    × (IsMinusZero x → Small x → ⊥)
    × (Large x → Small x → ⊥)
    × ((w : ℕ) → HasWord x w → (Endless x → ⊥) × (Large x → ⊥) × (Small x → ⊥))

abbrev pub RefusedExactly : Type 0
RefusedExactly =
    (p : ℕ) → p < 2 ^ 32 →
    Answered (number (inward p))
    × (number (inward p) ≡ 10 ↔ Endless (of_bits binary32 p))
    × (number (inward p) ≡ 15 ↔ IsMinusZero (of_bits binary32 p))
    × (number (inward p) ≡ 11 ↔ Large (of_bits binary32 p))
    × (number (inward p) ≡ 12 ↔ Small (of_bits binary32 p))
    × ClassesApart (of_bits binary32 p)

-- A proper word made an f32 and back is the word.
abbrev pub WordBack : Type 0
WordBack = (w : ℕ) → FloatWord w → Gives (inward (outward w).bits) w

-- An f32 made a word and back is the f32.
abbrev pub FloatBack : Type 0
FloatBack = (p : ℕ) → p < 2 ^ 32 → number (inward p) ≡ 0 → Gives (outward (inward p).bits) p
