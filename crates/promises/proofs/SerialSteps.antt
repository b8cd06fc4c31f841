-- How many steps each operation of the second engine makes, and the line of each by its number: as the book has them. Assumes nothing.
use mathlib.Core.Path.{◌≡◌, refl, sym, ap, ap₂, ◌∙◌, subst}
use mathlib.Core.Bool.{Bool, true, false, ◌&&◌, cond}
use mathlib.Core.List.{List, [], ◌∷◌, ◌++◌}
use Prim.Native.Nat.{ℕ, zero, suc, ◌+◌, ◌-◌, ◌*◌, ◌%◌, ◌^◌, ◌≤◌, ◌<◌}
use native.Mathlib.Nat.{pos_of_ne-zero, sub_self, sub-zero}
use native.Mathlib.Omega.{arith}
use borrow.Author.Tests.{eqb-false}
use lib.Dec.{eqb, lit<}
use lib.Ieee.{size}
use Rattle.terms.specs.declared.Refusal.TheVariants.{Improper}
use Rattle.terms.specs.declared.Rule.{Rule}
use Rattle.terms.specs.declared.Width.{Width}
use Rattle.terms.specs.declared.Width.TheVariants.{Single, Double}
use Rattle.terms.specs.Width.{bits_of}
use Rattle.fixed.specs.Fixed.{half, either_least}
use Rattle.fixed.specs.Parts.{Words, magnitude_at}
use Rattle.float.specs.Word.{mantissa, proper}
use Rattle.bit_serial.specs.declared.Operation.{Operation}
use Rattle.bit_serial.specs.declared.Operation.TheVariants.{Mul, Muu, Div, Fmul, Fdiv}
use Rattle.bit_serial.specs.declared.tasks.Task.{Task}
use Rattle.bit_serial.specs.declared.tasks.Task.TheVariants.{Multiply, Divide}
use Rattle.std.proofs.Common.{Option, None, Some, Err}
use Rattle.bit_serial.specs.declared.multiply.Product.{Product}
use Rattle.bit_serial.specs.declared.divide.Division.{Division}
use Rattle.bit_serial.specs.UpTo.{up_to}
use Rattle.bit_serial.specs.Product.{begun, added, product}
use Rattle.bit_serial.specs.Quotient.{subtracted, division}
use Rattle.bit_serial.specs.Quotient.{begun as begunQuotient}
use Rattle.bit_serial.specs.Answer.{Answer, worked, steps_in}
use Rattle.bit_serial.specs.Engine.{signed_for, low_half, upper_half, sizes_multiplied, sizes_divided, mul_answer, muu_answer, div_answer, mantissas_multiplied}
use Rattle.bit_serial.specs.Engine.{mantissas_divided, fmul_answer, fdiv_answer}
use Rattle.bit_serial.specs.Work.{Operands, answer_of, mul_task, div_task, fmul_task, fdiv_task, task_of}
use Rattle.bit_serial.proofs.Products.{Added, first, next, at_most, then_none, then_left}
use Rattle.bit_serial.proofs.Quotients.{Found}
use Rattle.bit_serial.proofs.Quotients.{first as first_found, next as next-found, then_none as none_over, then_left as left_over}
use Rattle.bit_serial.proofs.Same.{divisor_some, dividend_below, narrow}
use Rattle.bit_serial.proofs.Cases.{words}
use Rattle.listing.specs.Text.{decimal as their-decimal}
use Rattle.listing.specs.Hex.{digits_to}
use Rattle.step_text.specs.Lines.{step_line as their-line}
use Rattle.step_text.specs.Steps.{product_line, quotient_line, lines_up_to, step_lines}
use Rattle.promises.specs.PrintedText.{decimal}
use Rattle.promises.specs.SerialWork.{StepsMade, left_after, partial_after, step_line, lines_after}
use Rattle.promises.specs.SerialWork.{task_of as taskIn}
use Rattle.promises.proofs.PrintedText.{decimal_is, hex_is}

below_all : (w : Width) → half (bits_of w) < 2 ^ bits_of w
below_all Single = lit< tt
below_all Double = lit< tt

-- what holds of no task and no steps, of every product and of every quotient with its steps holds of each operation
module _ (P : Option Task → ℕ → Type 0) (none : P None 0) (times : (x y n : ℕ) → P (Some (Multiply x y n)) (product n x y).steps) (over : (v d n : ℕ)
    → 0 < d → v < d * 2 ^ n → P (Some (Divide v d n)) (n - (division n v d).left)) where
  -- a row that names the operands makes no steps, nor does a refusal
  by_row : (t : Bool) (w e : ℕ) (task : Option Task) (r : Answer) → (t ≡ false → P task (steps_in r)) → P (cond t None task) (steps_in (cond t (worked w e 0) r))
  by_row true w e task r m = none
  by_row false w e task r m = m refl

  if_proper : (t : Bool) (task : Option Task) (r : Answer) → (t ≡ true → P task (steps_in r)) → P (cond t task None) (steps_in (cond t r (Err Improper)))
  if_proper true task r m = m refl
  if_proper false task r m = none

  module _ (h n b a : ℕ) (W : Words h b a) (N : h < 2 ^ n) where
    of_mul : P (mul_task h n b a) (steps_in (mul_answer h n b a))
    unfolding mul_task mul_answer
    of_mul = by_row (either_least h b a) h 1 _ (low_half h (signed_for h b a (sizes_multiplied h n b a).partial) (sizes_multiplied h n b a).steps)
        (λ f. times (magnitude_at h b) (magnitude_at h a) n)

    of_muu : P (mul_task h n b a) (steps_in (muu_answer h n b a))
    unfolding mul_task muu_answer
    of_muu = by_row (either_least h b a) h 1 _ (upper_half h (signed_for h b a (sizes_multiplied h n b a).partial) (sizes_multiplied h n b a).steps)
        (λ f. times (magnitude_at h b) (magnitude_at h a) n)

    of_div : P (div_task h n b a) (steps_in (div_answer h n b a))
    unfolding div_task div_answer
    of_div =
        by_row (eqb a 0) b 8 _ _
        (λ f. by_row (either_least h b a) h 1 _ (worked _ 0 (n - (sizes_divided h n b a).left)) (λ g. over (magnitude_at h b) (magnitude_at h a) n
        (divisor_some h n b a W N (eqb-false a 0 f)) (dividend_below h n b a W N (eqb-false a 0 f))))

  module _ (rule : Rule) (b a : ℕ) where
    of_fmul : P (fmul_task b a) (steps_in (fmul_answer rule b a))
    unfolding fmul_task fmul_answer
    of_fmul = if_proper (proper b && proper a) _ (worked _ _ (mantissas_multiplied b a).steps) (λ f. times (mantissa b) (mantissa a) 24)

    of_fdiv : P (fdiv_task b a) (steps_in (fdiv_answer rule b a))
    unfolding fdiv_task fdiv_answer
    of_fdiv =
        if_proper (proper b && proper a) _ _
        (λ p. by_row (eqb (mantissa a) 0) b 8 _ (worked _ _ (26 - (mantissas_divided b a).left)) (λ z. over (mantissa b * 2 ^ 25) (mantissa a) 26
        (pos_of_ne-zero (eqb-false (mantissa a) 0 z)) (narrow rule b a p (eqb-false (mantissa a) 0 z))))

  each : (op : Operation) (rule : Rule) (b a : ℕ) → Operands op b a → P (task_of op b a) (steps_in (answer_of op rule b a))
  each (Mul w) rule b a l = of_mul (half (bits_of w)) (bits_of w) b a (words (Mul w) (half (bits_of w)) b a refl l) (below_all w)
  each (Muu w) rule b a l = of_muu (half (bits_of w)) (bits_of w) b a (words (Muu w) (half (bits_of w)) b a refl l) (below_all w)
  each (Div w) rule b a l = of_div (half (bits_of w)) (bits_of w) b a (words (Div w) (half (bits_of w)) b a refl l) (below_all w)
  each Fmul rule b a l = of_fmul rule b a
  each Fdiv rule b a l = of_fdiv rule b a

-- the book's task is the crate's
task_is : (op : Operation) (b a : ℕ) → task_of op b a ≡ taskIn op b a
unfolding mul_task div_task fmul_task fdiv_task
task_is (Mul w) b a = refl
task_is (Muu w) b a = refl
task_is (Div w) b a = refl
task_is Fmul b a = refl
task_is Fdiv b a = refl

-- how many: as long as bits remain
pub made : (op : Operation) (rule : Rule) (b a : ℕ) → Operands op b a → StepsMade (taskIn op b a) (steps_in (answer_of op rule b a))
made op rule b a l =
    subst (λ (t : Option Task). StepsMade t (steps_in (answer_of op rule b a))) (task_is op b a)
    (each StepsMade
    record { at_most = omega arith; fewer = λ k l. absurd (omega arith) }
    (λ x y n. record { at_most = at_most n x y; fewer = λ k l. (then_none n x y k l, then_left n x y k) })
    (λ v d n D h. record { at_most = omega arith; fewer = λ k l. (none_over n v d D h k l, left_over n v d D h k l) }) op rule b a l)

-- ---- the lines by their numbers: as many as steps are made, each with what the steps up to it leave
line_is : (number left partial : ℕ) → their-line number left partial ≡ step_line number left partial
line_is number left partial =
    ap (λ (t : List ℕ). t ++ ((32 ∷ their-decimal left) ++ (32 ∷ (digits_to 16 16 partial ++ (10 ∷ []))))) (decimal_is number)
    ∙ ap₂ (λ (t u : List ℕ). decimal number ++ ((32 ∷ t) ++ (32 ∷ (u ++ (10 ∷ []))))) (decimal_is left) (hex_is 16 partial)

abbrev line_of : Option Task → ℕ → List ℕ
line_of task k = step_line k (left_after task k) (partial_after task k)

-- steps that keep P, of which each counts one more and has its line
module _ {A : Type 0} (bits : A → ℕ) (step : A → A) (line : A → List ℕ) (task : Option Task) (count : A → ℕ) (P : ℕ → A → Type 0)
    (keeps : (m : ℕ) (s : A) → (bits s ≡ 0 → ⊥) → P (suc m) s → P m (step s)) (counts : (m : ℕ) (s : A) → P (suc m) s → count (step s) ≡ count s + 1)
    (reads : (m : ℕ) (s : A) → P m s → line s ≡ line_of task (count s)) where
  from : (n : ℕ) (s : A) → P n s → (count s ≤ count (up_to bits step n s))
      × (lines_up_to bits step line n s ≡ lines_after task (count (up_to bits step n s) - count s) (count s))
  unfolding up_to lines_up_to
  from zero s h = (omega arith, sym (ap (λ (k : ℕ). lines_after task k (count s)) (sub_self (count s))))
  from (suc n) s h = go (eqb (bits s) 0) (eqb-false (bits s) 0) (λ b. from n (step s) (keeps n s b h))
    where
      end : A
      end = up_to bits step n (step s)

      go : (t : Bool) → (t ≡ false → bits s ≡ 0 → ⊥) → ((bits s ≡ 0 → ⊥) → (count (step s) ≤ count end)
          × (lines_up_to bits step line n (step s) ≡ lines_after task (count end - count (step s)) (count (step s))))
          → (count s ≤ count (cond t s end))
          × (cond t [] (line (step s) ++ lines_up_to bits step line n (step s)) ≡ lines_after task (count (cond t s end) - count s) (count s))
      go true f g = (omega arith, sym (ap (λ (k : ℕ). lines_after task k (count s)) (sub_self (count s))))
      go false f g =
          let w = g (f refl) in
          let c = counts n s h in
          let more : count end - count s ≡ suc (count end - count (step s)) = omega (arith, w.0) in (
            omega (arith, w.0),
            ap₂ (λ (s t : List ℕ). s ++ t) (reads n (step s) (keeps n s (f refl) h)) w.1
                ∙ ap (λ (i : ℕ). line_of task i ++ lines_after task (count end - count (step s)) i) c
                ∙ sym (ap (λ (k : ℕ). lines_after task k (count s)) more),
          )

product_lines_lem : (x y n : ℕ) → step_lines (Some (Multiply x y n)) ≡ lines_after (Some (Multiply x y n)) (product n x y).steps 0
product_lines_lem x y n =
    (from (λ (p : Product). p.left) (added x) product_line (Some (Multiply x y n)) (λ (p : Product). p.steps) (λ m p. Added x y p) (λ m p. next x y p)
    (λ m p h. refl) (λ m p a. line_is p.steps (size p.left) p.partial ∙ ap₂ (step_line p.steps) (ap size a.others) a.sum) n (begun y)
    (first x y)).1
    ∙ ap (λ (k : ℕ). lines_after (Some (Multiply x y n)) k 0) (sub-zero (product n x y).steps)

quotient_lines_lem : (v d n : ℕ) → 0 < d → v < d * 2 ^ n → step_lines (Some (Divide v d n)) ≡ lines_after (Some (Divide v d n)) (n - (division n v d).left) 0
quotient_lines_lem v d n D h =
    (from (λ (s : Division). s.rest) (subtracted d) (quotient_line n) (Some (Divide v d n)) (λ (s : Division). n - s.left) (λ m s. (s.left ≡ m) × (m ≤ n)
    × Found n v d s) (λ m s b f. (omega (arith, f.0), omega (arith, f.1), next-found n v d s D (omega (arith, f.0)) b f.2))
    (λ m s f. omega (arith, f.0, f.1)) reads n (begunQuotient v n) (refl, omega arith, first_found n v d h)).1
    ∙ ap₂ (lines_after (Some (Divide v d n))) all (sub_self n)
  where
    all : n - (division n v d).left - (n - n) ≡ n - (division n v d).left
    all = omega arith

    reads : (m : ℕ) (s : Division) → (s.left ≡ m) × (m ≤ n) × Found n v d s → quotient_line n s ≡ line_of (Some (Divide v d n)) (n - s.left)
    reads m s f =
        let i : s.left ≡ n - (n - s.left) = omega (arith, f.0, f.1) in
        line_is (n - s.left) s.left s.rest ∙ ap₂ (step_line (n - s.left)) i (f.2.rest ∙ ap (λ (i : ℕ). v % (d * 2 ^ i)) i)

-- every operation's lines: as many as its answer says steps
pub numbered : (op : Operation) (rule : Rule) (b a : ℕ) → Operands op b a
    → step_lines (task_of op b a) ≡ lines_after (taskIn op b a) (steps_in (answer_of op rule b a)) 0
numbered op rule b a l =
    subst (λ (t : Option Task). step_lines (task_of op b a) ≡ lines_after t (steps_in (answer_of op rule b a)) 0) (task_is op b a)
    (each (λ (task : Option Task) (steps : ℕ). step_lines task ≡ lines_after task steps 0) refl product_lines_lem quotient_lines_lem op rule b a l)
