-- What the figures' call returns and writes: 53 bytes. Definitions only. Assumes nothing.
use Rattle.std.specs.Prelude.{ℕ, ◌≡◌, cond, List, ◌∷◌, eqb, length}
use Rattle.terms.specs.declared.Refusal.{Refusal}
use Rattle.terms.specs.declared.Refusal.TheVariants.{Done, NoRoom, BadState}
use Rattle.terms.specs.Refusal.{number_of}
use Rattle.sheet_bytes.specs.Ledger.{is_sheets, lines_of}
use Rattle.sheet_figures.specs.Figures.{different, repeated, improper, sum88}
use Rattle.sheet_figures.specs.Digits.{sum_text}

-- lines, different serials, serials on more than one line, improper words, a byte each; then the sum
abbrev pub figures_bytes : ℕ
figures_bytes = 53

abbrev pub written : List (List ℕ) → List ℕ
written l = length l ∷ different l ∷ repeated l ∷ improper l ∷ sum_text (sum88 l)

-- what the call returns, and what `out` holds after
pub record FiguresCalled : Type 0 where
  pub result : ℕ
  pub out : List ℕ

-- a refusal writes nothing
abbrev pub refused : Refusal → List ℕ → FiguresCalled
refused r out = record { result = number_of r; out = out }

-- 8 for another length of `out`, then 13
unfoldable pub figures_of : List ℕ → List ℕ → FiguresCalled
unfolding is_sheets sum88
figures_of sheets out =
    cond (eqb (length out) figures_bytes)
    (cond (is_sheets sheets) (record { result = number_of Done; out = written (lines_of sheets) }) (refused BadState out))
    (refused NoRoom out)

-- what a call did beside the definition's
pub record FiguresCalls (t : FiguresCalled) (result : ℕ) (out : List ℕ) : Type 0 where
  pub result_is : result ≡ t.result
  pub out_is : out ≡ t.out
