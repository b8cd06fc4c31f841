-- A line for each step of an operation, and the line of its answer. Of a product LEFT is how many bits of the multiplier are left, PARTIAL what was
-- added up so far; of a quotient LEFT is how many digits are left to find, PARTIAL what is left of the dividend. Definitions only. Assumes nothing.
use Rattle.std.specs.Prelude.{ℕ, zero, suc, ◌-◌, cond, List, [], ◌++◌, eqb, Option, None, Some}
use Rattle.std.specs.Float.Ieee.{size}
use Rattle.terms.specs.declared.Rule.{Rule}
use Rattle.bit_serial.specs.declared.multiply.Product.{Product}
use Rattle.bit_serial.specs.declared.divide.Division.{Division}
use Rattle.bit_serial.specs.declared.tasks.Task.{Task}
use Rattle.bit_serial.specs.declared.tasks.Task.TheVariants.{Multiply, Divide}
use Rattle.bit_serial.specs.declared.Operation.{Operation}
use Rattle.bit_serial.specs.Product.{added}
use Rattle.bit_serial.specs.Product.{begun as begunProduct}
use Rattle.bit_serial.specs.Quotient.{subtracted}
use Rattle.bit_serial.specs.Quotient.{begun as begunQuotient}
use Rattle.bit_serial.specs.Work.{width_of, answer_of, task_of}
use Rattle.step_text.specs.Lines.{step_line, answer_line}

-- after a step of a product
abbrev pub product_line : Product → List ℕ
product_line p = step_line p.steps (size p.left) p.partial

-- after a step of a quotient of n digits
abbrev pub quotient_line : ℕ → Division → List ℕ
quotient_line n s = step_line (n - s.left) s.left s.rest

-- the steps still to be made, at most so many, none where no bits remain, and the line after each
unfoldable pub lines_up_to : {A : Type 0} → (A → ℕ) → (A → A) → (A → List ℕ) → ℕ → A → List ℕ
lines_up_to bits step line zero s = []
lines_up_to bits step line (suc more) s = cond (eqb (bits s) 0) [] (line (step s) ++ lines_up_to bits step line more (step s))

abbrev pub product_lines : ℕ → ℕ → Product → List ℕ
product_lines more x = lines_up_to (λ (p : Product). p.left) (added x) product_line more

abbrev pub quotient_lines : ℕ → ℕ → ℕ → Division → List ℕ
quotient_lines n more d = lines_up_to (λ (s : Division). s.rest) (subtracted d) (quotient_line n) more

-- all steps of a task
abbrev pub step_lines : Option Task → List ℕ
step_lines None = []
step_lines (Some (Multiply x y n)) = product_lines n x (begunProduct y)
step_lines (Some (Divide v d n)) = quotient_lines n n d (begunQuotient v n)

-- what is told of an operation on B and A under a rule
abbrev pub workings_of : Operation → Rule → ℕ → ℕ → List ℕ
workings_of op rule b a = step_lines (task_of op b a) ++ answer_line (width_of op) (answer_of op rule b a)
