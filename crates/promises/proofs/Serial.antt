-- The second engine's answers are the first's, of which the rows of the chip's commands speak; its steps are those of its tasks; and what is told of
-- them is their lines by number. Assumes nothing.
use Prim.Native.Nat.{ℕ, ◌+◌, ◌*◌, ◌^◌, ◌≤◌, ◌<◌}
use native.Mathlib.Nat.{le_refl, le_trans}
use native.Mathlib.Omega.{arith}
use mathlib.Core.Path.{◌≡◌, refl, sym, ap, ap₂, ◌∙◌, subst}
use mathlib.Core.Logic.{◌⊎◌, inl, inr}
use mathlib.Core.Bool.{Bool, true, false, ◌&&◌, cond}
use mathlib.Core.List.{List, [], ◌∷◌, ◌++◌, map}
use lib.Dec.{leb, eqb, lit<}
use lib.Ieee.{size}
use borrow.Author.Tests.{eqb-true}
use Rattle.terms.specs.declared.Refusal.TheVariants.{Improper}
use Rattle.terms.specs.declared.Rule.{Rule}
use Rattle.terms.specs.declared.Width.{Width}
use Rattle.terms.specs.declared.Width.TheVariants.{Single, Double}
use Rattle.terms.specs.Width.{size_of, bits_of}
use Rattle.terms.specs.Refusal.{number_of}
use Rattle.fixed.specs.Parts.{Words}
use Rattle.fixed.specs.Fixed.{low, mul, muu, div, either_least}
use Rattle.fixed.proofs.Exact.{mul_word, muu_word, div_word}
use Rattle.float.specs.declared.Flagged.{Flagged}
use Rattle.float.specs.Word.{mantissa, proper}
use Rattle.promises.specs.FloatWords.{FloatWord}
use Rattle.float.specs.Cut.{packed, error_at, cut_size, cut}
use Rattle.codes.specs.Command.{Mul as MulCommand, Muu as MuuCommand, Div as DivCommand}
use Rattle.codes.specs.declared.FloatOp.TheVariants.{Mul as FMul, Div as FDiv}
use Rattle.codes.specs.Command.{Known}
use Rattle.codes.specs.Codes.{decoded}
use Rattle.bit_serial.specs.declared.Operation.{Operation}
use Rattle.bit_serial.specs.declared.Operation.TheVariants.{Mul, Muu, Div, Fmul, Fdiv}
use Rattle.bit_serial.specs.declared.tasks.Task.{Task}
use Rattle.std.proofs.Common.{Option, None, Ok, Err}
use Rattle.bit_serial.specs.UpTo.{up_to}
use Rattle.bit_serial.specs.Answer.{Answer, worked, steps_in}
use Rattle.bit_serial.specs.Engine.{mul_answer, muu_answer, div_answer, fmul_answer, fdiv_answer}
use Rattle.bit_serial.specs.Work.{width_of, Operands, answer_of, mul_task, div_task, fmul_task, fdiv_task}
use Rattle.bit_serial.proofs.Cases.{words as words_of}
use Rattle.bit_serial.proofs.Same.{same_mul, same_muu, same_div, same_fmul, same_fdiv}
use Rattle.step_text.specs.declared.asked.Found.{Found}
use Rattle.step_text.specs.declared.asked.Found.TheVariants.{Operation as Named, Nothing as Unnamed}
use Rattle.listing.specs.Text.{spelled as their-spelled, decimal as their-decimal}
use Rattle.listing.specs.Hex.{digit_value, hex_from, digits_to}
use Rattle.listing.specs.Options.{same_text}
use Rattle.step_text.specs.Lines.{answer_line, status_for}
use Rattle.step_text.specs.Steps.{lines_up_to, workings_of}
use Rattle.step_text.specs.Asked.{read_hex, operation_at, rule_for}
use Rattle.promises.specs.SerialWork as book
use Rattle.promises.specs.PrintedText.{written, hex_of}
use Rattle.promises.proofs.PrintedText.{decimal_is, hex_is}
use Rattle.promises.specs.Figures.{from}
use Rattle.promises.specs.Commands.{least, words, word, status_by, Two}
use Rattle.promises.specs.Serial.{float_answer, first_answer, command_for, ChipGives, ZeroOrFour, SameEngine, most_steps, Work, eight_codes, StepsText}
use Rattle.promises.specs.Serial.{StepsBench}
use Rattle.promises.proofs.SerialSteps.{made, numbered}
use Rattle.promises.proofs.StepsAsked.{told, not_told}
use Rattle.promises.proofs.Commands.{accepted, loses, rows}

-- ---- the same answers
below_all : (w : Width) → least w < 2 ^ bits_of w
below_all Single = lit< tt
below_all Double = lit< tt

answers : (op : Operation) (rule : Rule) (b a : ℕ) → Operands op b a → answer_of op rule b a ≡ first_answer op rule b a (steps_in (answer_of op rule b a))
answers (Mul w) rule b a l = same_mul (least w) (bits_of w) b a (words_of (Mul w) (least w) b a refl l) (below_all w)
answers (Muu w) rule b a l = same_muu (least w) (bits_of w) b a (words_of (Muu w) (least w) b a refl l) (below_all w)
answers (Div w) rule b a l = same_div (least w) (bits_of w) b a (words_of (Div w) (least w) b a refl l) (below_all w)
answers Fmul rule b a l = same_fmul rule b a
answers Fdiv rule b a l = same_fdiv rule b a

-- ---- the chip does what they say
in_words : (w : Width) {x : ℕ} → x < 2 ^ bits_of w → x < words w
in_words Single l = l
in_words Double l = l

module _ (rule : Rule) (w : Width) (b a : ℕ) (l : (b < 2 ^ bits_of w) × (a < 2 ^ bits_of w)) where
  W : Words (least w) b a
  W = words_of (Mul w) (least w) b a refl l

  mul_does : Two rule w (MulCommand w) b a (mul (least w) b a).word (mul (least w) b a).error false 0
  mul_does cs = accepted rule (MulCommand w) (word w a (word w b cs)) w _ _ _ _ refl (mul_word (least w) b a W) (loses w (mul (least w)) b a _ _ _ cs
      (in_words w l.0) (in_words w l.1) refl)

  muu_does : Two rule w (MuuCommand w) b a (muu (least w) b a).word (muu (least w) b a).error false 0
  muu_does cs = accepted rule (MuuCommand w) (word w a (word w b cs)) w _ _ _ _ refl (muu_word (least w) b a W) (loses w (muu (least w)) b a _ _ _ cs
      (in_words w l.0) (in_words w l.1) refl)

  div_does : Two rule w (DivCommand w) b a (div (least w) b a).word (div (least w) b a).error false 0
  div_does cs = accepted rule (DivCommand w) (word w a (word w b cs)) w _ _ _ _ refl (div_word (least w) b a W) (loses w (div (least w)) b a _ _ _ cs
      (in_words w l.0) (in_words w l.1) refl)

-- a float operation whose row and refusal the chip has
float_does : (rule : Rule) (op : Operation) (b a steps : ℕ) (r : Flagged)
    → (proper b ≡ true → proper a ≡ true → ChipGives rule op b a (worked r.word r.error steps)) →
    ((proper b ≡ false) ⊎ (proper a ≡ false) → ChipGives rule op b a
    (Err Improper))
    → ChipGives rule op b a (float_answer b a steps r)
float_does rule op b a steps r f g = go (proper b) (proper a) f g
  where
    go : (s t : Bool) → (s ≡ true → t ≡ true → ChipGives rule op b a (worked r.word r.error steps))
        → ((s ≡ false) ⊎ (t ≡ false) → ChipGives rule op b a (Err Improper))
        → ChipGives rule op b a (cond (s && t) (worked r.word r.error steps) (Err Improper))
    go true true f g = f refl refl
    go true false f g = g (inr refl)
    go false t f g = g (inl refl)

float_word : {w : ℕ} → w < 2 ^ 32 → proper w ≡ true → FloatWord w
float_word l p = record { fits = l; is_proper = p }

first_does : (op : Operation) (rule : Rule) (b a steps : ℕ) → Operands op b a → ChipGives rule op b a (first_answer op rule b a steps)
first_does (Mul w) rule b a steps l = mul_does rule w b a l
first_does (Muu w) rule b a steps l = muu_does rule w b a l
first_does (Div w) rule b a steps l = div_does rule w b a l
first_does Fmul rule b a steps l =
    float_does rule Fmul b a steps _ (λ p q. (rows rule).float_point.fmul_row b a (float_word l.0 p) (float_word l.1 q)) (λ e. (rows rule).float_point.improper FMul b a l.0 l.1 e)
first_does Fdiv rule b a steps l =
    float_does rule Fdiv b a steps _ (λ p q. (rows rule).float_point.fdiv_row b a (float_word l.0 p) (float_word l.1 q)) (λ e. (rows rule).float_point.improper FDiv b a l.0 l.1 e)

-- ---- their numbers
zero_or_four : (t : Bool) (r error steps : ℕ) → ZeroOrFour (cond t (worked r error steps) (Err Improper))
zero_or_four true r error steps = inl refl
zero_or_four false r error steps = inr refl

number : (op : Operation) (rule : Rule) (b a steps : ℕ) → ZeroOrFour (first_answer op rule b a steps)
number (Mul w) rule b a steps = inl refl
number (Muu w) rule b a steps = inl refl
number (Div w) rule b a steps = inl refl
number Fmul rule b a steps = zero_or_four (proper b && proper a) _ _ _
number Fdiv rule b a steps = zero_or_four (proper b && proper a) _ _ _

pub same_engine : SameEngine
same_engine = record {
  answers = answers;
  in_chip = λ op rule b a l. subst (ChipGives rule op b a) (sym (answers op rule b a l)) (first_does op rule b a (steps_in (answer_of op rule b a)) l);
  numbers = λ op rule b a l. subst ZeroOrFour (sym (answers op rule b a l)) (number op rule b a (steps_in (answer_of op rule b a)));
}

-- ---- the work
either_way : (t : Bool) (task : Option Task) (n : ℕ) → book.most_of task ≤ n → (book.most_of (cond t None task) ≤ n) × (book.most_of (cond t task None) ≤ n)
either_way true task n l = (omega arith, l)
either_way false task n l = (l, omega arith)

most : (op : Operation) (b a : ℕ) → book.most_of (book.task_of op b a) ≤ most_steps op
most (Mul w) b a = (either_way (either_least (least w) b a) _ (bits_of w) (le_refl (bits_of w))).0
most (Muu w) b a = (either_way (either_least (least w) b a) _ (bits_of w) (le_refl (bits_of w))).0
most (Div w) b a = (either_way (eqb a 0) _ (bits_of w) (either_way (either_least (least w) b a) _ (bits_of w) (le_refl (bits_of w))).0).0
most Fmul b a = (either_way (proper b && proper a) _ 24 (le_refl 24)).1
most Fdiv b a = (either_way (proper b && proper a) _ 26 (either_way (eqb (mantissa a) 0) _ 26 (le_refl 26)).0).1

pub work : Work
work = record { at_most = λ op rule b a l. le_trans (made op rule b a l).at_most (most op b a); fewer = made }

-- ---- what is told
coded : (code : ℕ) (op : Operation) → operation_at code ≡ Named op → decoded code ≡ Known (command_for op)
unfolding operation_at decoded
coded code op =
    step 0x6E (Mul Single) refl (step 0x76 (Muu Single) refl (step 0x6F (Div Single) refl (step 0x2E (Mul Double) refl (step 0x36 (Muu Double) refl
    (step 0x2F (Div Double) refl (step 0x12 Fmul refl (step 0x13 Fdiv refl none)))))))
  where
    none : Unnamed ≡ Named op → decoded code ≡ Known (command_for op)
    none e = let z : ◌≡◌ {A = ℕ} 0 1 = (cc) in absurd (omega arith)

    step : (c : ℕ) (k : Operation) {rest : Found} → decoded c ≡ Known (command_for k) → (rest ≡ Named op → decoded code ≡ Known (command_for op))
        → cond (eqb code c) (Named k) rest ≡ Named op → decoded code ≡ Known (command_for op)
    step c k {rest} d f = go (eqb code c) (eqb-true code c)
      where
        go : (t : Bool) → (t ≡ true → code ≡ c) → cond t (Named k) rest ≡ Named op → decoded code ≡ Known (command_for op)
        go true g e = let o : k ≡ op = (cc) in ap decoded (g refl) ∙ d ∙ ap (λ (x : Operation). Known (command_for x)) o
        go false g e = f e

status_is : (w : Width) (r error : ℕ) → status_for w r error ≡ status_by w r error false
status_is w r error = same_bits (cond (leb (least w) r) 64 0) (cond (eqb r 0) 32 0)
  where
    same_bits : (x y : ℕ) → 2 * error + x + y ≡ x + y + error * 2 + 0
    same_bits x y = omega arith

answer_is : (w : Width) (r : Answer) → answer_line w r ≡ book.answer_line w r
answer_is w (Ok k) =
    ap (λ (t : List ℕ). written "word " ++ (t ++ (written " error"
    ++ ((32 ∷ their-decimal k.error) ++ (written " status " ++ (digits_to 16 2 (status_for w k.word k.error) ++ (10 ∷ [])))))))
    (hex_is (2 * size_of w) k.word)
    ∙ ap₂ (λ (t u : List ℕ). written "word " ++ (hex_of (2 * size_of w) k.word ++ (written " error" ++ ((32 ∷ t) ++ (written " status " ++ (u ++ (10 ∷ [])))))))
    (decimal_is k.error)
    (hex_is 2 (status_for w k.word k.error) ∙ ap (hex_of 2) (status_is w k.word k.error))
answer_is w (Err refusal) = ap (λ (t : List ℕ). written "refused" ++ ((32 ∷ t) ++ (10 ∷ []))) (decimal_is (number_of refusal))

told_lines : (op : Operation) (rule : Rule) (b a : ℕ) → Operands op b a
    → workings_of op rule b a ≡ book.lines_after (book.task_of op b a) (steps_in (answer_of op rule b a)) 0 ++ book.answer_line (width_of op) (answer_of op rule b a)
told_lines op rule b a l = ap₂ (λ (s t : List ℕ). s ++ t) (numbered op rule b a l) (answer_is (width_of op) (answer_of op rule b a))

eight : map operation_at (from 256 0) ≡ eight_codes
unfolding operation_at
eight = refl

pub steps_text : StepsText
unfolding size low packed error_at cut_size cut their-spelled digits_to up_to mul_answer muu_answer div_answer fmul_answer fdiv_answer mul_task
    div_task fmul_task fdiv_task lines_up_to digit_value hex_from read_hex operation_at same_text rule_for
steps_text = record {
  codes = eight;
  chips = coded;
  lines = told_lines;
  told = told;
  not_told = not_told;
  rows = refl;
  third = refl;
  third_nearest = refl;
  product_nearest = refl;
  third_words = (refl, refl);
  usage = (refl, refl);
}

-- ---- the examples, computed from the definitions
pub steps_bench : StepsBench
unfolding size low packed error_at cut_size cut up_to mul_answer muu_answer div_answer fmul_answer fdiv_answer
steps_bench = refl
