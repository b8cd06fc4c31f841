-- Close readings: the law over the rule, and the table computed under each. Assumes nothing.
use mathlib.Core.Path.{◌≡◌, refl}
use mathlib.Core.Logic.{◌⊎◌, inl, inr}
use Prim.Native.Nat.{ℕ}
use native.Mathlib.Omega.{arith}
use lib.Ieee.{size}
use Rattle.terms.specs.declared.Rule.{Rule}
use Rattle.terms.specs.declared.Rule.TheVariants.{Cut, Nearest}
use Rattle.float.specs.Word.{value}
use Rattle.float.specs.Float.{sub}
use Rattle.promises.proofs.float.Close.{close_difference}
use Rattle.codes.specs.Codes.{decoded}
use Rattle.chip.specs.Status.{status_of}
use Rattle.chip.specs.Commands.{floats}
use Rattle.chip.specs.Step.{push_of, carried, command_under}
use Rattle.promises.specs.Bench.{RowsHold}
use Rattle.promises.specs.CloseReadings.{CloseReadings, close_table, CloseExamples}

-- an error that is 0 or underflow is not overflow
no_overflow : (e : ℕ) → (e ≡ 0) ⊎ (e ≡ 2) → e ≡ 1 → ⊥
no_overflow e (inl h) f = omega arith
no_overflow e (inr h) f = omega arith

pub close_readings : CloseReadings
unfolding value
close_readings = record {
  without_loss = λ rule b a B A C. close_difference rule b a B A C;
  no_overflow = λ rule b a B A C. no_overflow (sub rule b a).error (close_difference rule b a B A C).no_other;
}

rows : (rule : Rule) → RowsHold rule close_table
unfolding push_of command_under carried floats status_of decoded sub size
rows Cut = refl
rows Nearest = refl

pub close_examples : CloseExamples
close_examples = record { rows = rows; beyond = unfold value in refl }
