-- What an answer says: the number of its refusal, its word, its error, the number of its steps. Definitions only. Assumes nothing.
use Rattle.std.specs.Prelude.{ℕ, Result, Ok, Err}
use Rattle.terms.specs.declared.Refusal.{Refusal}
use Rattle.terms.specs.declared.Refusal.TheVariants.{Done}
use Rattle.terms.specs.Refusal.{number_of}
use Rattle.bit_serial.specs.declared.Worked.{Worked}

-- the word that was made, with its error and its steps, or the refusal
abbrev pub Answer : Type 0
Answer = Result Worked Refusal

-- a word, its error, so many steps
abbrev pub worked : ℕ → ℕ → ℕ → Answer
worked word error steps = Ok (record { word = word; error = error; steps = steps })

-- 01's number of the refusal, 0 for a word
abbrev pub number_in : Answer → ℕ
number_in (Ok w) = number_of Done
number_in (Err refusal) = number_of refusal

-- the word, its error and the number of steps; 0 where it carries none
abbrev pub word_in : Answer → ℕ
word_in (Ok w) = w.word
word_in (Err refusal) = 0

abbrev pub error_in : Answer → ℕ
error_in (Ok w) = w.error
error_in (Err refusal) = 0

abbrev pub steps_in : Answer → ℕ
steps_in (Ok w) = w.steps
steps_in (Err refusal) = 0
