-- The wrong cores of 01's section 'What the proofs have to say', of the two calls on buffers: each class, none of which
-- meets the calls' promises.
-- Definitions and the statement only: proofs/WrongConverters.antt proves it. Assumes nothing.
use Rattle.std.specs.Prelude.{ℕ, ◌^◌, ◌<◌, ◌≡◌, List, ◌++◌, length}
use Rattle.promises.specs.Subjects.{Turn, words_turn, floats_turn, Turns}
use Rattle.promises.specs.Stack.{Bytes}

-- two functions of the calls' types over lists of bytes
pub record Converter : Type 0 where
  pub words_to_f64 : List ℕ → List ℕ → Turn
  pub f64_to_words : ℕ → List ℕ → List ℕ → Turn

-- they keep the two contracts
pub record KeepsContracts (c : Converter) : Type 0 where
  pub words : (words out : List ℕ) → Bytes words → Bytes out
      → Turns (words_turn words out) (c.words_to_f64 words out).result (c.words_to_f64 words out).number
      (c.words_to_f64 words out).out
  pub floats : (rule : ℕ) (floats out : List ℕ) → rule < 2 ^ 32 → Bytes floats → Bytes out
      → Turns (floats_turn rule floats out) (c.f64_to_words rule floats out).result
      (c.f64_to_words rule floats out).number (c.f64_to_words rule floats out).out

-- a call that never answers 0; one that always returns the same number; one that hands the slice back as it came; one
-- whose other number is always the same; one
-- that leaves after two entries what it leaves after the first
pub data WrongConverter (c : Converter) : Type 0 where
  never_words : ((words out : List ℕ) → Bytes words → Bytes out → (c.words_to_f64 words out).result ≡ 0 → ⊥)
      → WrongConverter c
  never_floats : ((rule : ℕ) (floats out : List ℕ) → rule < 2 ^ 32 → Bytes floats → Bytes out
      → (c.f64_to_words rule floats out).result ≡ 0 → ⊥) → WrongConverter c
  same_words : (n : ℕ) → ((words out : List ℕ) → Bytes words → Bytes out → (c.words_to_f64 words out).result ≡ n)
      → WrongConverter c
  same_floats : (n : ℕ) → ((rule : ℕ) (floats out : List ℕ) → rule < 2 ^ 32 → Bytes floats → Bytes out
      → (c.f64_to_words rule floats out).result ≡ n) → WrongConverter c
  back_words : ((words out : List ℕ) → Bytes words → Bytes out → (c.words_to_f64 words out).out ≡ out)
      → WrongConverter c
  back_floats : ((rule : ℕ) (floats out : List ℕ) → rule < 2 ^ 32 → Bytes floats → Bytes out
      → (c.f64_to_words rule floats out).out ≡ out) → WrongConverter c
  number_words : (n : ℕ) → ((words out : List ℕ) → Bytes words → Bytes out → (c.words_to_f64 words out).number ≡ n)
      → WrongConverter c
  number_floats : (n : ℕ) → ((rule : ℕ) (floats out : List ℕ) → rule < 2 ^ 32 → Bytes floats → Bytes out
      → (c.f64_to_words rule floats out).number ≡ n) → WrongConverter c
  first_word : ((w v out : List ℕ) → length w ≡ 4 → Bytes w → Bytes v → Bytes out
      → (c.words_to_f64 (w ++ v) out).out ≡ (c.words_to_f64 w out).out) → WrongConverter c
  first_float : ((rule : ℕ) (p q out : List ℕ) → rule < 2 ^ 32 → length p ≡ 8 → Bytes p → Bytes q → Bytes out
      → (c.f64_to_words rule (p ++ q) out).out ≡ (c.f64_to_words rule p out).out) → WrongConverter c

abbrev pub NoWrongConverter : Type 0
NoWrongConverter = (c : Converter) → KeepsContracts c → WrongConverter c → ⊥
