-- What every command leaves: a stack of 16 bytes and a status below 128 whose error field is the command's error. Assumes nothing.
use mathlib.Core.Path.{◌≡◌}
use mathlib.Core.Bool.{Bool, true, false, cond}
use mathlib.Core.List.{List}
use Prim.Native.Nat.{ℕ, ◌+◌, ◌*◌, ◌/◌, ◌%◌, ◌^◌, ◌≤◌, ◌<◌}
use native.Mathlib.Omega.{arith}
use lib.Dec.{lit<, lit≤, eqb}
use Rattle.terms.specs.declared.Width.{Width}
use Rattle.terms.specs.declared.Width.TheVariants.{Single, Double}
use Rattle.terms.specs.Width.{size_of}
use Rattle.fixed.specs.declared.Fixed.{Fixed}
use Rattle.fixed.specs.Fixed.{add, sub, mul, muu, div, chs}
use Rattle.fixed.proofs.Exact.{add_few, sub_few, mul_few, muu_few, div_few, chs_few}
use Rattle.float.specs.declared.Flagged.{Flagged}
use Rattle.float.specs.Word.{proper}
use Rattle.terms.specs.declared.Rule.{Rule}
use Rattle.float.specs.Convert.{flts, fltd, fixs, fixd, chsf}
use Rattle.float.specs.Root.{sqrt}
use Rattle.float.proofs.Results.{fltd_result, flts_result, root_result}
use Rattle.stack.specs.Stack.{IsStack, tos, nos, rotated, over_a, over_zero, replaced, copied, exchanged, pushed_word, converted, widened}
use Rattle.stack.specs.Stack.{narrowed}
use Rattle.stack.proofs.Words.{tos_lt, nos_lt}
use Rattle.stack.proofs.Layouts.{two_fit, over_a_stack, over_zero_stack, replaced_stack, rotated_stack, exchanged_stack, copied_stack, pushed_word_stack}
use Rattle.stack.proofs.Layouts.{converted_stack, widened_stack, narrowed_stack}
use Rattle.codes.specs.Command.{Command}
use Rattle.codes.specs.Command.{Nop, Add, Sub, Mul, Muu, Div, Chs, Float, Chsf, Flt, Fix, Pto, Pop, Xch, Pupi, Sqrt}
use Rattle.chip.specs.State.{CommandOutcome}
use Rattle.chip.specs.Status.{sign, zero_bits, status_of, error_of}
use Rattle.chip.specs.Commands.{pi_of, word_a, word_b, half_of, ends, keeps_a, loses_a, changes_a, floats, converts, widens, narrows, roots, float_of}
use Rattle.chip.specs.Commands.{outcome_of, proper_operands}
use Rattle.chip.proofs.Errors.{float_result, fix_error}
use Rattle.chip.proofs.Rows.{both_of_lem}

-- ---- the status
module _ (w : Width) (t : List ℕ) (e : ℕ) (c : Bool) (h : e < 16) where
  status_fields : (status_of w t e c < 128) × (error_of (status_of w t e c) ≡ e)
  unfolding status_of
  status_fields = go (sign w t) (zero_bits w t) c
    where
      go : (x y z : Bool) → (cond x 64 0 + cond y 32 0 + e * 2 + cond z 1 0 < 128) × ((cond x 64 0 + cond y 32 0 + e * 2 + cond z 1 0) / 2 % 16 ≡ e)
      go true true true = (omega arith, omega arith)
      go true true false = (omega arith, omega arith)
      go true false true = (omega arith, omega arith)
      go true false false = (omega arith, omega arith)
      go false true true = (omega arith, omega arith)
      go false true false = (omega arith, omega arith)
      go false false true = (omega arith, omega arith)
      go false false false = (omega arith, omega arith)

  pub status_lt : status_of w t e c < 128
  status_lt = status_fields.0

  pub status_error : error_of (status_of w t e c) ≡ e
  status_error = status_fields.1

-- ---- a stack again, and a status that is not busy
pub record Fair (o : CommandOutcome) : Type 0 where
  pub stack : IsStack o.stack
  pub not_busy : o.status < 128

fair : (w : Width) (t : List ℕ) (e : ℕ) (c : Bool) → IsStack t → e < 16 → Fair (ends w t e c)
fair w t e c S h = record { stack = S; not_busy = status_lt w t e c h }

pub one : (w : Width) → size_of w ≤ 16
one Single = lit≤ tt
one Double = lit≤ tt

module _ (s : List ℕ) (S : IsStack s) where
  keeps_fair : (w : Width) (r : Fixed) → r.error < 16 → Fair (keeps_a w s r)
  unfolding keeps_a
  keeps_fair w r h = fair w (over_a (size_of w) s r.word) r.error r.carry (over_a_stack s S (size_of w) (two_fit w) r.word) h

  loses_fair : (w : Width) (r : Fixed) → r.error < 16 → Fair (loses_a w s r)
  unfolding loses_a
  loses_fair w r h = fair w (over_zero (size_of w) s r.word) r.error false (over_zero_stack s S (size_of w) (two_fit w) r.word) h

  changes_fair : (w : Width) (r : Fixed) → r.error < 16 → Fair (changes_a w s r)
  unfolding changes_a
  changes_fair w r h = fair w (replaced (size_of w) s r.word) r.error false (replaced_stack s S (size_of w) (one w) r.word) h

  floats_fair : (r : Flagged) → r.error < 16 → Fair (floats s r)
  unfolding floats
  floats_fair r h = fair Double (over_zero 4 s r.word) r.error false (over_zero_stack s S 4 (two_fit Double) r.word) h

  converts_fair : (r : Flagged) → r.error < 16 → Fair (converts s r)
  unfolding converts
  converts_fair r h = fair Double (converted s r.word) r.error false (converted_stack s S r.word) h

  widens_fair : (r : Flagged) → r.error < 16 → Fair (widens s r)
  unfolding widens
  widens_fair r h = fair Double (widened s r.word) r.error false (widened_stack s S r.word) h

  narrows_fair : (r : Flagged) → r.error < 16 → Fair (narrows s r)
  unfolding narrows
  narrows_fair r h = go (eqb r.error 0)
    where
      go : (x : Bool) → Fair (cond x (ends Single (narrowed s r.word) 0 false) (ends Double (converted s r.word) r.error false))
      go true = fair Single (narrowed s r.word) 0 false (narrowed_stack s S r.word) (lit< tt)
      go false = fair Double (converted s r.word) r.error false (converted_stack s S r.word) h

  roots_fair : (r : Flagged) → r.error < 16 → Fair (roots s r)
  unfolding roots
  roots_fair r h = go (eqb r.error 0)
    where
      go : (x : Bool) → Fair (cond x (ends Double (converted s r.word) 0 false) (ends Double s r.error false))
      go true = fair Double (converted s r.word) 0 false (converted_stack s S r.word) (lit< tt)
      go false = fair Double s r.error false S h

  -- the words A and B fit their width
  a_fits : tos 4 s < 4294967296
  a_fits = let e = S.sixteen in tos_lt 4 s S.bytes (omega arith)

  b_fits : nos 4 s < 4294967296
  b_fits = let e = S.sixteen in nos_lt 4 s S.bytes (omega arith)

  pub outcome_fair : (rule : Rule) (k : Command) → proper_operands k s ≡ true → Fair (outcome_of rule k s)
  outcome_fair rule Nop p = record { stack = S; not_busy = lit< tt }
  outcome_fair rule (Add w) p = keeps_fair w (add (half_of w) (word_b w s) (word_a w s)) (add_few (half_of w) (word_b w s) (word_a w s))
  outcome_fair rule (Sub w) p = keeps_fair w (sub (half_of w) (word_b w s) (word_a w s)) (sub_few (half_of w) (word_b w s) (word_a w s))
  outcome_fair rule (Mul w) p = loses_fair w (mul (half_of w) (word_b w s) (word_a w s)) (mul_few (half_of w) (word_b w s) (word_a w s))
  outcome_fair rule (Muu w) p = loses_fair w (muu (half_of w) (word_b w s) (word_a w s)) (muu_few (half_of w) (word_b w s) (word_a w s))
  outcome_fair rule (Div w) p = loses_fair w (div (half_of w) (word_b w s) (word_a w s)) (div_few (half_of w) (word_b w s) (word_a w s))
  outcome_fair rule (Chs w) p = changes_fair w (chs (half_of w) (word_a w s)) (chs_few (half_of w) (word_a w s))
  outcome_fair rule (Float op) p =
      floats_fair (float_of rule op (word_b Double s) (word_a Double s))
      (float_result rule op (word_b Double s) (word_a Double s)
      (record { fits = b_fits; is_proper = (both_of_lem (proper (word_b Double s)) (proper (word_a Double s)) p).0 })).small
  outcome_fair rule Chsf p = fair Double (replaced 4 s (chsf (word_a Double s))) 0 false (replaced_stack s S 4 (one Double) (chsf (word_a Double s))) (lit< tt)
  outcome_fair rule (Flt Double) p = converts_fair (fltd rule (word_a Double s)) (fltd_result rule (word_a Double s)).small
  outcome_fair rule (Flt Single) p = widens_fair (flts (word_a Single s)) (flts_result (word_a Single s)).small
  outcome_fair rule (Fix Double) p = converts_fair (fixd (word_a Double s)) (fix_error (2 ^ 31) (word_a Double s))
  outcome_fair rule (Fix Single) p = narrows_fair (fixs (word_a Double s)) (fix_error (2 ^ 15) (word_a Double s))
  outcome_fair rule (Pto w) p = fair w (copied (size_of w) s) 0 false (copied_stack s S (size_of w) (one w)) (lit< tt)
  outcome_fair rule (Pop w) p = fair w (rotated (size_of w) s) 0 false (rotated_stack s S (size_of w) (one w)) (lit< tt)
  outcome_fair rule (Xch w) p = fair w (exchanged (size_of w) s) 0 false (exchanged_stack s S (size_of w) (two_fit w)) (lit< tt)
  outcome_fair rule Pupi p = fair Double (pushed_word s (pi_of rule)) 0 false (pushed_word_stack s S (pi_of rule)) (lit< tt)
  outcome_fair rule Sqrt p = roots_fair (sqrt rule (word_a Double s)) (root_result rule (word_a Double s) (record { fits = a_fits; is_proper = p })).small
