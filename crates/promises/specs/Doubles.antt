-- 02, ask 13: words for the Am9512 bench. One entry each way by its value, a buffer entry by entry, and the two calls
-- by literal numbers and bytes.
-- Definitions and the statements only: proofs/Doubles.antt proves them. Assumes nothing.
use Rattle.std.specs.Prelude.{ℕ, zero, suc, ◌+◌, ◌*◌, ◌/◌, ◌%◌, ◌^◌, ◌≤◌, ◌<◌, ◌≡◌, ◌⊎◌, ◌↔◌, true, false, List, [], ◌∷◌, ◌++◌, length, take, drop, get_or, Float}
use Rattle.std.specs.Float.{binary64}
use Rattle.std.specs.Float.Ieee.{of_bits, to_bits}
use Rattle.std.specs.Float.Ieee.Exact.{HasValue}
use Rattle.terms.specs.declared.Rule.{Rule}
use Rattle.terms.specs.declared.Rule.TheVariants.{Cut, Nearest}
use Rattle.host_floats.specs.Double.{outward_of, inward_of}
use Rattle.host_floats.specs.declared.entry.Outward.{Outward}
use Rattle.host_floats.specs.declared.entry.Outward.TheVariants.{Float as Floats, Refused as Stays}
use Rattle.host_floats.specs.declared.entry.Inward.{Inward}
use Rattle.host_floats.specs.declared.entry.Inward.TheVariants.{Exact, Rounded, Refused}
use Rattle.host_floats.specs.declared.buffer.Entry.{Entry}
use Rattle.promises.specs.Subjects.{Turn, words_turn, floats_turn, Turns}
use Rattle.promises.specs.Stack.{Bytes}
use Rattle.promises.specs.RefusalNumbers.{number_of}
use Rattle.promises.specs.FloatWords.{negative, proper, size88}
use Rattle.promises.specs.HostFloats.{HasWord, Endless, IsMinusZero, Small, BroughtTo, LargeBy}

-- ---- one entry

-- what each case of an answer says: the number of its refusal; the word or the bits of the f64 that is written for it,
-- 0 where there is none; 1 where it was rounded
abbrev pub outward_entry : Outward → Entry
outward_entry (Floats x) = record { refusal = 0; bits = to_bits binary64 x; rounded = 0 }
outward_entry (Stays r) = record { refusal = number_of r; bits = 0; rounded = 0 }

abbrev pub inward_entry : Inward → Entry
inward_entry (Exact w) = record { refusal = 0; bits = w; rounded = 0 }
inward_entry (Rounded w x) = record { refusal = 0; bits = w; rounded = 1 }
inward_entry (Refused r) = record { refusal = number_of r; bits = 0; rounded = 0 }

-- the f64 that each case carries, by its bits; 0 where it carries none
abbrev pub carried_bits : Inward → ℕ
carried_bits (Exact w) = 0
carried_bits (Rounded w x) = to_bits binary64 x
carried_bits (Refused r) = 0

-- what a word says that goes out, and an f64, by its bits, that comes in under a rule: the refusal's number, the bits
-- that are written for it, 1 where it was rounded
abbrev pub outward : ℕ → Entry
outward w = outward_entry (outward_of w)

abbrev pub inward : Rule → ℕ → Entry
inward rule p = inward_entry (inward_of rule p)

-- "Outward is exact." A proper word gives an f64 of exactly its value: its sign, and in size its value times 2 ^ 88
-- over 2 ^ 88. Any other is refused with 4.
abbrev pub OutwardExact : Type 0
OutwardExact =
    (w : ℕ) → w < 2 ^ 32 →
    (proper w ≡ true → ((outward w).refusal ≡ 0)
    × HasValue (of_bits binary64 (outward w).bits) (negative w) (size88 w) (2 ^ 88))
    × (proper w ≡ false → (outward w).refusal ≡ 4)

-- 10, 15, 12 and 11 exclude each other, and 10, 12 and 11 a proper word of the value
pub record ClassesApartBy (rule : Rule) (x : Float) : Type 0 where
  pub endless_minus : Endless x → IsMinusZero x → ⊥
  pub endless_small : Endless x → Small x → ⊥
  pub endless_large : Endless x → LargeBy rule x → ⊥
  pub minus_small : IsMinusZero x → Small x → ⊥
  pub minus_large : IsMinusZero x → LargeBy rule x → ⊥
  pub small_large : Small x → LargeBy rule x → ⊥
  pub with_word : (w : ℕ) → HasWord x w → (Endless x → ⊥) × (Small x → ⊥) × (LargeBy rule x → ⊥)

-- the answer r to an f64 x under a rule
pub record InwardAnswer (rule : Rule) (x : Float) (r : Inward) : Type 0 where
  -- "the value is exact": exactly if a proper word has the value and it is not minus zero, and then with that word
  pub exact : (w : ℕ) → r ≡ Exact w ↔ (HasWord x w × (IsMinusZero x → ⊥))
  -- "or that it was brought to 24 bits by the chosen rule": exactly where the rule brings it to a word, no word has its
  -- value and it is not under 2 ^ -65 as it is given
  pub rounded : (w : ℕ)
      → ((y : Float) × (r ≡ Rounded w y)) ↔ (BroughtTo rule x w × ((v : ℕ) → HasWord x v → ⊥) × (Small x → ⊥))
  -- "and in that case carries the f64 that the word stands for"
  pub carried : (w : ℕ) (y : Float) → r ≡ Rounded w y → HasWord y w
  pub carried_bits_lem : (w : ℕ) (y : Float) → r ≡ Rounded w y → carried_bits r ≡ (outward w).bits
  -- every other answer is 10, 15, 12, 11, each exactly where 02 has it: 12 by the magnitude that is given, 11 by the
  -- one that the rule brings it to
  pub answered : (n : ℕ) → (inward_entry r).refusal ≡ n → (n ≡ 0) ⊎ (n ≡ 10) ⊎ (n ≡ 15) ⊎ (n ≡ 12) ⊎ (n ≡ 11)
  pub ten : (inward_entry r).refusal ≡ 10 ↔ Endless x
  pub fifteen : (inward_entry r).refusal ≡ 15 ↔ IsMinusZero x
  pub twelve : (inward_entry r).refusal ≡ 12 ↔ Small x
  pub eleven : (inward_entry r).refusal ≡ 11 ↔ LargeBy rule x
  pub apart : ClassesApartBy rule x

abbrev pub InwardAnswered : Type 0
InwardAnswered = (rule : Rule) (p : ℕ) → p < 2 ^ 64 → InwardAnswer rule (of_bits binary64 p) (inward_of rule p)

-- a rule brings a float to one word at most
abbrev pub BroughtOnce : Type 0
BroughtOnce = (rule : Rule) (x : Float) (w v : ℕ) → BroughtTo rule x w → BroughtTo rule x v → w ≡ v

-- ---- a buffer, by its bytes

-- the i-th word of a buffer, and the i-th f64, low byte first; i is from 0
abbrev pub word_in : List ℕ → ℕ → ℕ
word_in l i =
    get_or l (i * 4) 0 + get_or l (i * 4 + 1) 0 * 256 + get_or l (i * 4 + 2) 0 * 65536 + get_or l (i * 4 + 3) 0 * 16777216

abbrev pub float_in : List ℕ → ℕ → ℕ
float_in l i =
    get_or l (i * 8) 0 + get_or l (i * 8 + 1) 0 * 2 ^ 8 + get_or l (i * 8 + 2) 0 * 2 ^ 16 + get_or l (i * 8 + 3) 0 * 2 ^ 24
    + get_or l (i * 8 + 4) 0 * 2 ^ 32 + get_or l (i * 8 + 5) 0 * 2 ^ 40 + get_or l (i * 8 + 6) 0 * 2 ^ 48
    + get_or l (i * 8 + 7) 0 * 2 ^ 56

-- their bytes
abbrev pub word_bytes : ℕ → List ℕ
word_bytes w = w % 256 ∷ w / 256 % 256 ∷ w / 65536 % 256 ∷ w / 16777216 % 256 ∷ []

abbrev pub float_bytes : ℕ → List ℕ
float_bytes p =
    p % 256 ∷ p / 2 ^ 8 % 256 ∷ p / 2 ^ 16 % 256 ∷ p / 2 ^ 24 % 256 ∷ p / 2 ^ 32 % 256 ∷ p / 2 ^ 40 % 256
    ∷ p / 2 ^ 48 % 256 ∷ p / 2 ^ 56 % 256 ∷ []

-- what a call returns, its number, and what `out` holds after
abbrev pub turned : ℕ → ℕ → List ℕ → Turn
turned result number out = record { result = result; number = number; out = out }

-- words to f64s
pub record WordsCall (words out : List ℕ) : Type 0 where
  -- "18 for an input length that is no whole number of entries", before all else; the number is 0 and nothing is
  -- written
  pub part : (length words % 4 ≡ 0 → ⊥) → words_turn words out ≡ turned 18 0 out
  -- "then 8 for too little room"
  pub room : length words % 4 ≡ 0 → length out < 2 * length words → words_turn words out ≡ turned 8 0 out
  -- "then per entry .. 4 outward": the first that is not proper, counted from 1
  pub bad : length words % 4 ≡ 0 → 2 * length words ≤ length out → (i : ℕ) → i < length words / 4
      → ((j : ℕ) → j < i → (outward (word_in words j)).refusal ≡ 0) → ((outward (word_in words i)).refusal ≡ 0 → ⊥)
      → words_turn words out ≡ turned (outward (word_in words i)).refusal (i + 1) out
  -- else 0, the number 0, every word's f64 in its place and the rest of the slice as it was
  pub done : length words % 4 ≡ 0 → 2 * length words ≤ length out
      → ((j : ℕ) → j < length words / 4 → (outward (word_in words j)).refusal ≡ 0)
      → ((words_turn words out).result ≡ 0)
      × ((words_turn words out).number ≡ 0)
      × ((i : ℕ) → i < length words / 4
      → take 8 (drop (i * 8) (words_turn words out).out) ≡ float_bytes (outward (word_in words i)).bits)
      × (drop (2 * length words) (words_turn words out).out ≡ drop (2 * length words) out)
      × (length (words_turn words out).out ≡ length out)

-- which number names which rule
pub data Names : ℕ → Rule → Type 0 where
  cut : Names 0 Cut
  nearest : Names 1 Nearest

-- how many of the first n entries were brought to 24 bits
abbrev pub is_rounded : Inward → ℕ
is_rounded (Exact w) = 0
is_rounded (Rounded w x) = 1
is_rounded (Refused r) = 0

unfoldable pub how_many : (ℕ → Inward) → ℕ → ℕ
how_many f zero = 0
how_many f (suc n) = how_many f n + is_rounded (f n)

-- f64s to words
pub record FloatsCall (floats out : List ℕ) : Type 0 where
  -- "inward 17 first"
  pub no_rule : (rule : ℕ) → 2 ≤ rule → floats_turn rule floats out ≡ turned 17 0 out
  -- then 18, then 8
  pub part : (rule : ℕ) → rule < 2 → (length floats % 8 ≡ 0 → ⊥) → floats_turn rule floats out ≡ turned 18 0 out
  pub room : (rule : ℕ) → rule < 2 → length floats % 8 ≡ 0 → length out < length floats / 2
      → floats_turn rule floats out ≡ turned 8 0 out
  -- then the first entry that is refused, counted from 1
  pub bad : (rule : ℕ) (how : Rule) → Names rule how → length floats % 8 ≡ 0 → length floats / 2 ≤ length out → (i : ℕ)
      → i < length floats / 8
      → ((j : ℕ) → j < i → (inward how (float_in floats j)).refusal ≡ 0)
      → ((inward how (float_in floats i)).refusal ≡ 0 → ⊥)
      → floats_turn rule floats out ≡ turned (inward how (float_in floats i)).refusal (i + 1) out
  -- else 0, the number of entries that were brought to 24 bits, every f64's word in its place and the rest of the slice
  -- as it was
  pub done : (rule : ℕ) (how : Rule) → Names rule how → length floats % 8 ≡ 0 → length floats / 2 ≤ length out
      → ((j : ℕ) → j < length floats / 8 → (inward how (float_in floats j)).refusal ≡ 0)
      → ((floats_turn rule floats out).result ≡ 0)
      × ((floats_turn rule floats out).number ≡ how_many (λ (j : ℕ). inward_of how (float_in floats j)) (length floats / 8))
      × ((i : ℕ) → i < length floats / 8
      → take 4 (drop (i * 4) (floats_turn rule floats out).out) ≡ word_bytes (inward how (float_in floats i)).bits)
      × (drop (length floats / 2) (floats_turn rule floats out).out ≡ drop (length floats / 2) out)
      × (length (floats_turn rule floats out).out ≡ length out)

pub record BufferCalls : Type 0 where
  pub words_to_f64 : (words out : List ℕ) → WordsCall words out
  pub f64_to_words : (floats out : List ℕ) → FloatsCall floats out

-- "a refusal .. writes nothing"
abbrev pub BuffersKept : Type 0
BuffersKept =
    (rule : ℕ) (input out : List ℕ)
    → (((words_turn input out).result ≡ 0 → ⊥) → (words_turn input out).out ≡ out)
    × (((floats_turn rule input out).result ≡ 0 → ⊥) → (floats_turn rule input out).out ≡ out)

-- ---- out and back

-- a buffer of words that was turned to f64s comes back bit for bit, under either rule, with no entry rounded
abbrev pub WordsBack : Type 0
WordsBack =
    (rule : ℕ) → rule < 2 → (words out back : List ℕ) → Bytes words → (words_turn words out).result ≡ 0
    → length words ≤ length back
    → floats_turn rule (take (2 * length words) (words_turn words out).out) back
    ≡ turned 0 0 (words ++ drop (length words) back)

-- and a buffer of f64s that was turned to words, no entry rounded
abbrev pub FloatsBack : Type 0
FloatsBack =
    (rule : ℕ) (floats out back : List ℕ) → Bytes floats → (floats_turn rule floats out).result ≡ 0
    → (floats_turn rule floats out).number ≡ 0 → length floats ≤ length back
    → words_turn (take (length floats / 2) (floats_turn rule floats out).out) back
    ≡ turned 0 0 (floats ++ drop (length floats) back)

-- ---- every call gets a fixed reply: two results, numbers and exits that its contract allows coincide
abbrev pub WordsToF64Determined : Type 0
WordsToF64Determined =
    (words out : List ℕ) (r q n m : ℕ) (s t : List ℕ) → Turns (words_turn words out) r n s
    → Turns (words_turn words out) q m t → (r ≡ q) × (n ≡ m) × (s ≡ t)

abbrev pub F64ToWordsDetermined : Type 0
F64ToWordsDetermined =
    (rule : ℕ) (floats out : List ℕ) (r q n m : ℕ) (s t : List ℕ) → Turns (floats_turn rule floats out) r n s
    → Turns (floats_turn rule floats out) q m t
    → (r ≡ q) × (n ≡ m) × (s ≡ t)
