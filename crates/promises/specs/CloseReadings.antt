-- Request 12 of document 02, close readings subtract without loss, under either rule; examples at the edge, and one
-- beyond it. Definitions and the statements only: proofs/CloseReadings.antt proves them. Assumes nothing.
use Rattle.std.specs.Prelude.{ℕ, ◌^◌, ◌≡◌, List, [], ◌∷◌, pos, ◌+ℤ◌}
use Rattle.terms.specs.declared.Rule.{Rule}
use Rattle.float.specs.Float.{sub}
use Rattle.promises.specs.FloatWords.{value, FloatWord, exact_difference}
use Rattle.promises.specs.FloatResults.{Close, Lossless}
use Rattle.promises.specs.Bench.{BenchRow, float, RowsHold}

-- ---- FSUB's result, the word and the error of its row
pub record CloseReadings : Type 0 where
  -- exact where no error bit is set, after taking 128 from the exponent where underflow is
  pub without_loss : (rule : Rule) (b a : ℕ) → FloatWord b → FloatWord a → Close b a
      → Lossless (exact_difference b a) (sub rule b a)
  -- "Overflow never occurs there."
  pub no_overflow : (rule : Rule) (b a : ℕ) → FloatWord b → FloatWord a → Close b a → (sub rule b a).error ≡ 1 → ⊥

-- ---- through the whole step: FSUB of B and A
abbrev pub less : ℕ → ℕ → ℕ → ℕ → BenchRow
less b a r status = float 0x11 b a r status

-- B twice A, A twice B, neighbours, below zero, underflow, equal; the last is beyond: B a
-- little more than twice A
abbrev pub close_table : List BenchRow
close_table =
    less 0x02ffffff 0x01ffffff 0x01ffffff 0x00 ∷ less 0x01ffffff 0x02ffffff 0x81ffffff 0x40
    ∷ less 0x01800001 0x01800000 0x6a800000 0x00 ∷ less 0x81c00000 0x81800000 0x80800000 0x40
    ∷ less 0x40800001 0x40800000 0x29800000 0x04 ∷ less 0x01c00000 0x01c00000 0x00000000 0x20
    ∷ less 0x02800000 0x00ffffff 0x01800000 0x00 ∷ []

pub record CloseExamples : Type 0 where
  pub rows : (rule : Rule) → RowsHold rule close_table
  -- the last row's word misses the exact difference
  pub beyond : exact_difference 0x02800000 0x00ffffff ≡ value 0x01800000 +ℤ pos (2 ^ 64)
