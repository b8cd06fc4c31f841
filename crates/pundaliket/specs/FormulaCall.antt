-- 02, ask 7: what the call for formulas returns and leaves in what it was lent. Definitions only. Assumes nothing.
use Rattle.std.specs.Prelude.{ℕ, ◌+◌, ◌*◌, ◌≡◌, List, ◌++◌, length, drop}
use Rattle.formula.specs.Translation.{number_of, Translated, translation_of}

-- what the call returns, and what the slice for the file holds after
pub record Wrote : Type 0 where
  pub result : ℕ
  pub file : List ℕ

-- 65,536 times the refusal plus the bytes of the file, which stands at the front of what was lent
abbrev pub wrote_by : Translated → List ℕ → Wrote
wrote_by t file = record { result = 65536 * number_of t.refusal + length t.file; file = t.file ++ drop (length t.file) file }

-- a text, the letters' 32 bytes, and what is lent for the file
abbrev pub formula_call : List ℕ → List ℕ → List ℕ → Wrote
formula_call text letters file = wrote_by (translation_of letters text (length file)) file

-- what a call did beside the definition's
pub record Writes (w : Wrote) (result : ℕ) (file : List ℕ) : Type 0 where
  pub result_is : result ≡ w.result
  pub file_is : file ≡ w.file
