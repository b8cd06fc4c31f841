-- One call by computation: `6E 0005 0003`, 5 times 3, is told in two steps. Computed from the definitions. Assumes nothing.
use mathlib.Core.Path.{◌≡◌, refl}
use mathlib.Core.List.{List, [], ◌∷◌, ◌++◌}
use Prim.Native.Nat.{ℕ}
use lib.Ieee.{size}
use Rattle.fixed.specs.Fixed.{low}
use Rattle.listing.specs.Text.{spelled}
use Rattle.bit_serial.specs.UpTo.{up_to}
use Rattle.bit_serial.specs.Engine.{mul_answer}
use Rattle.bit_serial.specs.Work.{mul_task}
use Rattle.listing.specs.Hex.{digits_to, digit_value, hex_from}
use Rattle.step_text.specs.Steps.{lines_up_to}
use Rattle.step_text.specs.Asked.{read_hex, operation_at, rule_for, told_of}

-- the three lines, character by character
abbrev first_step : List ℕ
first_step = 49 ∷ 32 ∷ 49 ∷ 32 ∷ 48 ∷ 48 ∷ 48 ∷ 48 ∷ 48 ∷ 48 ∷ 48 ∷ 48 ∷ 48 ∷ 48 ∷ 48 ∷ 48 ∷ 48 ∷ 48 ∷ 48 ∷ 53 ∷ 10 ∷ []

abbrev second_step : List ℕ
second_step = 50 ∷ 32 ∷ 48 ∷ 32 ∷ 48 ∷ 48 ∷ 48 ∷ 48 ∷ 48 ∷ 48 ∷ 48 ∷ 48 ∷ 48 ∷ 48 ∷ 48 ∷ 48 ∷ 48 ∷ 48 ∷ 48 ∷ 70 ∷ 10 ∷ []

abbrev answer : List ℕ
answer = 119 ∷ 111 ∷ 114 ∷ 100 ∷ 32 ∷ 48 ∷ 48 ∷ 48 ∷ 70 ∷ 32 ∷ 101 ∷ 114 ∷ 114 ∷ 111 ∷ 114 ∷ 32 ∷ 48 ∷ 32 ∷ 115 ∷ 116 ∷ 97 ∷ 116 ∷ 117 ∷ 115 ∷ 32 ∷ 48 ∷ 48 ∷ 10
    ∷ []

pub five_times_three : told_of 4 (54 ∷ 69 ∷ []) (48 ∷ 48 ∷ 48 ∷ 53 ∷ []) (48 ∷ 48 ∷ 48 ∷ 51 ∷ []) [] ≡ first_step ++ (second_step ++ answer)
unfolding size low spelled up_to mul_answer mul_task digits_to lines_up_to digit_value hex_from read_hex operation_at rule_for
five_times_three = refl
