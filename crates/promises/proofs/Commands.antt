-- The rows of 01's tables: on a stack that is spelled as words each layout computes, the words are read back, and the status is that of the new top word.
-- Assumes nothing.
use mathlib.Core.Path.{◌≡◌, refl, sym, ap, ap₂, ◌∙◌, subst}
use mathlib.Core.Logic.{◌⊎◌, inl, inr, ⊎_elim}
use mathlib.Core.Bool.{Bool, true, false, not, ◌&&◌, ◌||◌}
use mathlib.Core.List.{List, ◌++◌}
use Prim.Native.Nat.{ℕ, zero, suc, ◌+◌, ◌-◌, ◌*◌, ◌/◌, ◌%◌, ◌^◌, ◌≤◌, ◌<◌}
use native.Mathlib.Nat.{mod-lt, mod-eq_of_lt, mod-eq-sub-mod, zero-add, div-mul-le_self, div-add-mod'}
use native.Mathlib.Omega.{arith}
use borrow.Author.Tests.{lt-leb, le-leb, lt-ltb, eq-eqb, ne_eqb}
use lib.Dec.{leb, ltb, eqb, lit<, lit≤}
use lib.IntN.{ℤ, pos, negsuc, neg_ℤ, nat_abs, ◌+ℤ◌, ◌-ℤ◌, ◌*ℤ◌, +ℤ_idl}
use lib.ListN.{length}
use lib.Seq.{take_at}
use lib.Ieee.{unlike}
use lib.Signed.{quot_z, shr_z}
use Rattle.numbers.specs.Signed.{with_sign}
use Rattle.numbers.proofs.Differences.{either}
use Rattle.terms.specs.declared.Width.{Width}
use Rattle.terms.specs.declared.Width.TheVariants.{Single, Double}
use Rattle.terms.specs.declared.Refusal.TheVariants.{Improper}
use Rattle.terms.specs.Width.{size_of}
use Rattle.fixed.specs.declared.Fixed.{Fixed}
use Rattle.fixed.specs.Parts.{Words}
use Rattle.fixed.specs.Fixed.{signed, fits, low, overflow_if, outcome, either_least, add as xadd, sub as xsub, mul as xmul, muu as xmuu, div as xdiv, chs as xchs}
use Rattle.fixed.proofs.LowBits.{low_lt, kept, parted}
use Rattle.fixed.proofs.Sums.{sum_low, diff_low}
use Rattle.float.specs.declared.Flagged.{Flagged}
use Rattle.float.specs.Word.{negative, mantissa, proper, FloatWord}
use Rattle.terms.specs.declared.Rule.{Rule}
use Rattle.terms.specs.declared.Rule.TheVariants.{Cut, Nearest}
use Rattle.float.specs.Cut.{below0}
use Rattle.float.specs.Convert.{fltd, flts, fix, whole_part, complement, chsf}
use Rattle.float.proofs.Results.{add_result, sub_result, mul_result, div_result, fltd_result, flts_result}
use Rattle.promises.proofs.float.Steps.{div_by_zero}
use Rattle.promises.proofs.float.Conversions.{fltd_no_error, flts_no_error}
use Rattle.float.proofs.convert.Fix.{fix_over, fix_within}
use Rattle.stack.specs.Stack.{bytes_of, zeros, tos, nos, over_a, over_zero}
use Rattle.stack.proofs.Words.{tos_over}
use Rattle.codes.specs.Command.{Command}
use Rattle.codes.specs.Command.{Nop, Add, Sub, Mul, Muu, Div, Chs, Float, Chsf, Flt, Fix, Pto, Pop, Xch, Pupi}
use Rattle.codes.specs.declared.FloatOp.{FloatOp}
use Rattle.codes.specs.declared.FloatOp.TheVariants.{Add as FAdd, Sub as FSub, Mul as FMul, Div as FDiv}
use Rattle.chip.specs.Status.{status_of}
use Rattle.chip.specs.Commands.{pi_of, word_a, word_b, ends, moves, keeps_a, loses_a, changes_a, floats, converts, widens, narrows, float_of, outcome_of}
use Rattle.chip.specs.Commands.{proper_operands}
use Rattle.chip.specs.Step.{done, carried, command_under}
use Rattle.codes.specs.Command.{Known}
use Rattle.codes.specs.Codes.{decoded}
use Rattle.promises.proofs.Measures.{theirs_word}
use Rattle.promises.specs.BusEvents.{pi_word}
use Rattle.promises.specs.Commands.{least, words, value_in, fits_in, low_of, low_in, word, status_by, holding, Leaves, Refuses, Two, FixedRows, WholeNumbers}
use Rattle.promises.specs.Commands.{MoveRows, FloatRows, ConversionRows, Rows, Commands}

-- ---- the words of a stack are read back
pub top_is : (w : Width) (a : ℕ) (t : List ℕ) → a < words w → tos (size_of w) (word w a t) ≡ a
top_is Single a t h = tos_over 2 a t h
top_is Double a t h = tos_over 4 a t h

pub next_is : (w : Width) (b a : ℕ) (t : List ℕ) → b < words w → nos (size_of w) (word w a (word w b t)) ≡ b
next_is Single b a t h = let l : b < 65536 = h in omega arith
next_is Double b a t h = let l : b < 4294967296 = h in omega arith

status_is : (w : Width) (r : ℕ) (t : List ℕ) (e : ℕ) (c : Bool) → r < words w → status_of w (word w r t) e c ≡ status_by w r e c
unfolding status_of
status_is w r t e c h = ap (λ (x : ℕ). status_by w x e c) (top_is w r t h)

-- ---- an accepted command
module _ (rule : Rule) where
  pub accepted : (k : Command) (before : List ℕ) (w : Width) (r e : ℕ) (c : Bool) (below : List ℕ) → proper_operands k before ≡ true → r < words w
      → outcome_of rule k before ≡ ends w (word w r below) e c → Leaves rule k before w r e c below
  unfolding command_under carried
  accepted k before w r e c below p h o code status service is ready = rw (lt-leb 128 status ready, is, p, o, status_is w r below e c h)

  pub refusing : (k : Command) (before : List ℕ) → proper_operands k before ≡ false → Refuses rule k before Improper
  unfolding command_under carried
  refusing k before p code status service is ready = rw (lt-leb 128 status ready, is, p)

-- ---- the layouts, on words
over_a_lem : (w : Width) (b a r : ℕ) (cs : List ℕ) → over_a (size_of w) (word w a (word w b cs)) r ≡ word w r (cs ++ bytes_of (size_of w) a)
over_a_lem Single b a r cs = refl
over_a_lem Double b a r cs = refl

over_zero_lem : (w : Width) (b a r : ℕ) (cs : List ℕ) → over_zero (size_of w) (word w a (word w b cs)) r ≡ word w r (cs ++ bytes_of (size_of w) 0)
over_zero_lem Single b a r cs = refl
over_zero_lem Double b a r cs = refl

-- R, C.., A and R, C.., 0 of an operation f on B and A
module _ (w : Width) (f : ℕ → ℕ → Fixed) (b a r e : ℕ) (c : Bool) (cs : List ℕ) (B : b < words w) (A : a < words w) (F : f b a ≡ outcome r e c) where
  found : f (word_b w (word w a (word w b cs))) (word_a w (word w a (word w b cs))) ≡ outcome r e c
  found = ap₂ f (next_is w b a cs B) (top_is w a (word w b cs) A) ∙ F

  keeps : keeps_a w (word w a (word w b cs)) (f (word_b w (word w a (word w b cs))) (word_a w (word w a (word w b cs)))) ≡ ends w
      (word w r (cs ++ bytes_of (size_of w) a)) e c
  unfolding keeps_a
  keeps = ap (keeps_a w (word w a (word w b cs))) found ∙ ap (λ (l : List ℕ). ends w l e c) (over_a_lem w b a r cs)

  pub loses : loses_a w (word w a (word w b cs)) (f (word_b w (word w a (word w b cs))) (word_a w (word w a (word w b cs)))) ≡ ends w
      (word w r (cs ++ bytes_of (size_of w) 0)) e false
  unfolding loses_a
  loses = ap (loses_a w (word w a (word w b cs))) found ∙ ap (λ (l : List ℕ). ends w l e false) (over_zero_lem w b a r cs)

changes : (w : Width) (f : ℕ → Fixed) (a r e : ℕ) (c : Bool) (bs : List ℕ) → a < words w → f a ≡ outcome r e c
    → changes_a w (word w a bs) (f (word_a w (word w a bs))) ≡ ends w (word w r bs) e false
changes Single f a r e c bs h F = unfold changes_a in ap (λ (x : ℕ). changes_a Single (word Single a bs) (f x)) (top_is Single a bs h)
    ∙ ap (changes_a Single (word Single a bs)) F
changes Double f a r e c bs h F = unfold changes_a in ap (λ (x : ℕ). changes_a Double (word Double a bs) (f x)) (top_is Double a bs h)
    ∙ ap (changes_a Double (word Double a bs)) F

-- ---- fixed point, over h = 2 ^ (n - 1)
module _ (h b a : ℕ) (W : Words h b a) where
  some : 0 < 2 * h
  some = let p = W.some in omega arith

  pub sum_is : xadd h b a ≡ outcome ((b + a) % (2 * h)) (overflow_if (not (fits h (signed h b +ℤ signed h a)))) (leb (2 * h) (b + a))
  unfolding xadd
  sum_is = ap (λ (x : ℕ). outcome x (overflow_if (not (fits h (signed h b +ℤ signed h a)))) (leb (2 * h) (b + a))) (sym (sum_low h b a ((b + a) % (2 * h)) W
      refl))

  -- B - A modulo 2h, and A, make B
  back : ((b + 2 * h - a) % (2 * h) + a) % (2 * h) ≡ b
  back =
      let L = W.left in
      let R = W.right in
      ⊎_elim
      (λ (k : b < a).
      let e : (b + 2 * h - a) % (2 * h) ≡ b + 2 * h - a = mod-eq_of_lt (omega arith) in
      let f : (b + 2 * h - a) % (2 * h) + a ≡ b + 2 * h = omega arith in
      ap (λ (x : ℕ). x % (2 * h)) f ∙ mod-eq-sub-mod {n = b + 2 * h} {m = 2 * h} (omega arith) ∙ ap (λ (x : ℕ). x % (2 * h)) (plus_less b (2 * h))
      ∙ mod-eq_of_lt L)
      (λ (k : a ≤ b).
      let e : (b + 2 * h - a) % (2 * h) ≡ b - a =
      mod-eq-sub-mod {n = b + 2 * h - a} {m = 2 * h} (omega arith) ∙ ap (λ (x : ℕ). x % (2 * h)) (less_plus b (2 * h) a k) ∙ mod-eq_of_lt (omega arith) in
      let f : (b + 2 * h - a) % (2 * h) + a ≡ b = omega arith in
      ap (λ (x : ℕ). x % (2 * h)) f ∙ mod-eq_of_lt L)
      (either b a)
    where
      plus_less : (x n : ℕ) → x + n - n ≡ x
      plus_less x n = omega arith

      less_plus : (x n y : ℕ) → y ≤ x → x + n - y - n ≡ x - y
      less_plus x n y l = omega arith

  difference_low : (b + 2 * h - a) % (2 * h) ≡ low h (signed h b -ℤ signed h a)
  difference_low = diff_low h b a ((b + 2 * h - a) % (2 * h)) W (mod-lt (b + 2 * h - a) some) back

  pub difference_is : xsub h b a ≡ outcome ((b + 2 * h - a) % (2 * h)) (overflow_if (eqb a h || not (fits h (signed h b -ℤ signed h a)))) (ltb b a)
  unfolding xsub
  difference_is = ap (λ (x : ℕ). outcome x (overflow_if (eqb a h || not (fits h (signed h b -ℤ signed h a)))) (ltb b a)) (sym difference_low)

  product_is : (b ≡ h → ⊥) → (a ≡ h → ⊥) → xmul h b a ≡ outcome (low h (signed h b *ℤ signed h a)) (overflow_if (not (fits h (signed h b *ℤ signed h a)))) false
  unfolding xmul
  product_is p q = rw (ne_eqb b h p, ne_eqb a h q)

  upper_is : (b ≡ h → ⊥) → (a ≡ h → ⊥) → xmuu h b a ≡ outcome (low h (shr_z (signed h b *ℤ signed h a) (2 * h))) 0 false
  unfolding xmuu
  upper_is p q = rw (ne_eqb b h p, ne_eqb a h q)

  quotient_is : (a ≡ 0 → ⊥) → (b ≡ h → ⊥) → (a ≡ h → ⊥) → xdiv h b a ≡ outcome (low h (quot_z (signed h b) (signed h a))) 0 false
  unfolding xdiv
  quotient_is z p q = rw (ne_eqb a 0 z, ne_eqb b h p, ne_eqb a h q)

  either_is : (b ≡ h) ⊎ (a ≡ h) → either_least h b a ≡ true
  either_is (inl e) = rw (eq-eqb b h e)
  either_is (inr e) = ap (λ (t : Bool). eqb b h || t) (eq-eqb a h e) ∙ or_true (eqb b h)
    where
      or_true : (t : Bool) → (t || true) ≡ true
      or_true true = refl
      or_true false = refl

  least_product : (b ≡ h) ⊎ (a ≡ h) → xmul h b a ≡ outcome h 1 false
  unfolding xmul
  least_product e = rw (either_is e)

  least_upper : (b ≡ h) ⊎ (a ≡ h) → xmuu h b a ≡ outcome h 1 false
  unfolding xmuu
  least_upper e = rw (either_is e)

  least_quotient : (a ≡ 0 → ⊥) → (b ≡ h) ⊎ (a ≡ h) → xdiv h b a ≡ outcome h 1 false
  unfolding xdiv
  least_quotient z e = rw (ne_eqb a 0 z, either_is e)

-- 0 - A
negation_is : (h a : ℕ) → Words h 0 a → xchs h a ≡ outcome ((2 * h - a) % (2 * h)) (overflow_if (eqb a h)) false
unfolding xchs
negation_is h a W =
    let z : signed h 0 ≡ pos 0 = rw (lt-ltb 0 h W.some) in
    let e : (2 * h - a) % (2 * h) ≡ low h (neg_ℤ (signed h a)) = ap (λ (x : ℕ). (x - a) % (2 * h)) (sym (zero-add (2 * h))) ∙ difference_low h 0 a W
    ∙ ap (λ (x : ℤ). low h (x -ℤ signed h a)) z ∙ ap (low h) (+ℤ_idl (neg_ℤ (signed h a))) in
    ap (λ (x : ℕ). outcome x (overflow_if (eqb a h)) false) (sym e)

no_divisor : (h b : ℕ) → xdiv h b 0 ≡ outcome b 8 false
unfolding xdiv
no_divisor h b = refl

-- ---- the rows of the table 'Fixed point'
words_of : (w : Width) {b a : ℕ} → b < words w → a < words w → Words (least w) b a
words_of Single B A = record { some = lit< tt; narrow = lit≤ tt; left = B; right = A }
words_of Double B A = record { some = lit< tt; narrow = lit≤ tt; left = B; right = A }

some_least : (w : Width) → 0 < least w
some_least Single = lit< tt
some_least Double = lit< tt

least_in : (w : Width) → least w < words w
least_in Single = lit< tt
least_in Double = lit< tt

zero_in : (w : Width) → 0 < words w
zero_in Single = lit< tt
zero_in Double = lit< tt

-- the book's low bits are the crate's
low_is : (h : ℕ) (z : ℤ) → low h z ≡ low_of (2 * h) z
unfolding low
low_is h (pos k) = refl
low_is h (negsuc k) = refl

module _ (rule : Rule) (w : Width) where
  -- a row whose result is the low bits of a whole number
  low_row : (k : Command) (b a error : ℕ) (z : ℤ) → Two rule w k b a (low (least w) z) error false 0 → Two rule w k b a (low_in w z) error false 0
  low_row k b a error z h = subst (λ (r : ℕ). Two rule w k b a r error false 0) (low_is (least w) z) h

  -- a row of ADD and SUB, and a row of MUL, MUU and DIV
  fixed_rows : FixedRows rule w
  fixed_rows = record {
    add_row = λ b a B A cs. let f = sum_is (least w) b a (words_of w B A) in
        accepted rule (Add w) (word w a (word w b cs)) w _ _ _ _ refl (mod-lt (b + a) (zero_in w)) (keeps w (xadd (least w)) b a _ _ _ cs B A f);
    sub_row = λ b a B A cs. let f = difference_is (least w) b a (words_of w B A) in
        accepted rule (Sub w) (word w a (word w b cs)) w _ _ _ _ refl (mod-lt (b + words w - a) (zero_in w)) (keeps w (xsub (least w)) b a _ _ _ cs B A f);
    mul_row = λ b a B A p q. let f = product_is (least w) b a (words_of w B A) p q in
        low_row (Mul w) b a (overflow_if (not (fits_in w (value_in w b *ℤ value_in w a)))) (value_in w b *ℤ value_in w a)
        (λ cs. accepted rule (Mul w) (word w a (word w b cs)) w _ _ _ _ refl (low_lt (least w) _ (some_least w)) (loses w (xmul (least w)) b a _ _ _ cs B A f));
    muu_row = λ b a B A p q. let f = upper_is (least w) b a (words_of w B A) p q in
        low_row (Muu w) b a 0 (shr_z (value_in w b *ℤ value_in w a) (words w))
        (λ cs. accepted rule (Muu w) (word w a (word w b cs)) w _ _ _ _ refl (low_lt (least w) _ (some_least w)) (loses w (xmuu (least w)) b a _ _ _ cs B A f));
    mul_least = λ b a B A e cs. let f = least_product (least w) b a (words_of w B A) e in
        accepted rule (Mul w) (word w a (word w b cs)) w _ _ _ _ refl (least_in w) (loses w (xmul (least w)) b a _ _ _ cs B A f);
    muu_least = λ b a B A e cs. let f = least_upper (least w) b a (words_of w B A) e in
        accepted rule (Muu w) (word w a (word w b cs)) w _ _ _ _ refl (least_in w) (loses w (xmuu (least w)) b a _ _ _ cs B A f);
    div_row = λ b a B A z p q. let f = quotient_is (least w) b a (words_of w B A) z p q in
        low_row (Div w) b a 0 (quot_z (value_in w b) (value_in w a))
        (λ cs. accepted rule (Div w) (word w a (word w b cs)) w _ _ _ _ refl (low_lt (least w) _ (some_least w)) (loses w (xdiv (least w)) b a _ _ _ cs B A f));
    div-zero = λ b B cs.
        accepted rule (Div w) (word w 0 (word w b cs)) w _ _ _ _ refl B (loses w (xdiv (least w)) b 0 _ _ _ cs B (zero_in w) (no_divisor (least w) b));
    div_least = λ b a B A z e cs. let f = least_quotient (least w) b a (words_of w B A) z e in
        accepted rule (Div w) (word w a (word w b cs)) w _ _ _ _ refl (least_in w) (loses w (xdiv (least w)) b a _ _ _ cs B A f);
    chs_row = λ a A bs. let f = negation_is (least w) a (words_of w (zero_in w) A) in
        accepted rule (Chs w) (word w a bs) w _ _ _ _ refl (mod-lt (words w - a) (zero_in w)) (changes w (xchs (least w)) a _ _ _ bs A f);
    chs_least = half_stays w;
  }
    where
      half_stays : (v : Width) → (words v - least v) % words v ≡ least v
      half_stays Single = refl
      half_stays Double = refl

-- ---- whole numbers
quotient_cut : (m n : ℕ) → (m / n * n ≤ m) × (0 < n → m < (m / n + 1) * n)
quotient_cut m n = (div-mul-le_self m n, λ p. let e = div-add-mod' m n in let l = mod-lt m p in omega arith)

size_neg : (m : ℕ) → nat_abs (neg_ℤ (pos m)) ≡ m
size_neg zero = refl
size_neg (suc m) = refl

quotient_size : (b a : ℤ) → nat_abs (quot_z b a) ≡ nat_abs b / nat_abs a
quotient_size (pos b) (pos a) = refl
quotient_size (pos b) (negsuc a) = size_neg (b / suc a)
quotient_size (negsuc b) (pos a) = size_neg (suc b / a)
quotient_size (negsuc b) (negsuc a) = refl

quotient_sign : (b a : ℤ) → quot_z b a ≡ with_sign (unlike (below0 b) (below0 a)) (nat_abs b / nat_abs a)
quotient_sign (pos b) (pos a) = refl
quotient_sign (pos b) (negsuc a) = refl
quotient_sign (negsuc b) (pos a) = refl
quotient_sign (negsuc b) (negsuc a) = refl

whole_numbers_of : (w : Width) → WholeNumbers w
whole_numbers_of w = record {
  low_fits = λ z. subst (λ (r : ℕ). r < words w) (low_is (least w) z) (low_lt (least w) z (some_least w));
  low_modulo = λ z. subst (λ (r : ℕ). z ≡ shr_z z (words w) *ℤ pos (words w) +ℤ pos r) (low_is (least w) z) (parted (least w) z (some_least w));
  low_value = λ z f. subst (λ (r : ℕ). value_in w r ≡ z) (low_is (least w) z) (kept (least w) z f);
  cut_reached = λ b a. subst (λ (q : ℕ). q * nat_abs a ≤ nat_abs b) (sym (quotient_size b a)) (quotient_cut (nat_abs b) (nat_abs a)).0;
  cut_passed = λ b a h. subst (λ (q : ℕ). nat_abs b < (q + 1) * nat_abs a) (sym (quotient_size b a)) ((quotient_cut (nat_abs b) (nat_abs a)).1 h);
  cut_sign = λ b a. quotient_sign b a ∙ ap (λ (q : ℕ). with_sign (unlike (below0 b) (below0 a)) q) (sym (quotient_size b a));
}

-- ---- words that only move
module _ (rule : Rule) where
  popped_to : (w : Width) (b a : ℕ) (cs : List ℕ) → outcome_of rule (Pop w) (word w a (word w b cs)) ≡ moves w (word w b (cs ++ bytes_of (size_of w) a))
  popped_to Single b a cs = refl
  popped_to Double b a cs = refl

  copied_to : (w : Width) (a lost : ℕ) (bs : List ℕ) → length bs ≡ 16 - (size_of w + size_of w)
      → outcome_of rule (Pto w) (word w a (bs ++ bytes_of (size_of w) lost)) ≡ moves w (word w a (word w a bs))
  copied_to Single a lost bs h = ap (λ (l : List ℕ). moves Single (word Single a (word Single a l))) (take_at bs (bytes_of 2 lost) 12 h)
  copied_to Double a lost bs h = ap (λ (l : List ℕ). moves Double (word Double a (word Double a l))) (take_at bs (bytes_of 4 lost) 8 h)

  exchanged_to : (w : Width) (b a : ℕ) (cs : List ℕ) → outcome_of rule (Xch w) (word w a (word w b cs)) ≡ moves w (word w b (word w a cs))
  exchanged_to Single b a cs = refl
  exchanged_to Double b a cs = refl

  move_rows : (w : Width) → MoveRows rule w
  move_rows w = record {
    pop_row_lem = λ b a B cs. accepted rule (Pop w) (word w a (word w b cs)) w b 0 false (cs ++ bytes_of (size_of w) a) refl B (popped_to w b a cs);
    pto_row = λ a lost A bs h. accepted rule (Pto w) (word w a (bs ++ bytes_of (size_of w) lost)) w a 0 false (word w a bs) refl A (copied_to w a lost bs h);
    xch_row = λ b a B cs. accepted rule (Xch w) (word w a (word w b cs)) w b 0 false (word w a cs) refl B (exchanged_to w b a cs);
  }

-- ---- the float commands
module _ (rule : Rule) where
  operands : (op : FloatOp) (b a : ℕ) (cs : List ℕ) → b < words Double → a < words Double → proper_operands (Float op) (word Double a (word Double b cs))
      ≡ (proper b && proper a)
  operands op b a cs B A = ap₂ (λ (x y : ℕ). proper x && proper y) (next_is Double b a cs B) (top_is Double a (word Double b cs) A)

  float_row : (op : FloatOp) (b a : ℕ) → FloatWord b → FloatWord a → (float_of rule op b a).word < words Double → Two rule Double (Float op) b a
      (float_of rule op b a).word (float_of rule op b a).error false 0
  float_row op b a B A h cs =
      accepted rule (Float op) (word Double a (word Double b cs)) Double (float_of rule op b a).word (float_of rule op b a).error false (cs ++ bytes_of 4 0)
      (operands op b a cs B.fits A.fits ∙ ap₂ ◌&&◌ B.is_proper A.is_proper) h
      (unfold floats in ap₂ (λ (x y : ℕ). floats (word Double a (word Double b cs)) (float_of rule op x y)) (next_is Double b a cs B.fits)
      (top_is Double a (word Double b cs) A.fits))

  not_both : (p q : Bool) → (p ≡ false) ⊎ (q ≡ false) → (p && q) ≡ false
  not_both p q (inl e) = ap (λ (x : Bool). x && q) e
  not_both p q (inr e) = ap (λ (x : Bool). p && x) e ∙ and_false p
    where
      and_false : (x : Bool) → (x && false) ≡ false
      and_false true = refl
      and_false false = refl

  chsf_row : (a r : ℕ) (bs : List ℕ) → a < words Double → r < words Double → chsf a ≡ r → Leaves rule Chsf (word Double a bs) Double r 0 false bs
  chsf_row a r bs A R e =
      accepted rule Chsf (word Double a bs) Double r 0 false bs refl R
      (ap (λ (x : ℕ). moves Double (word Double (chsf x) bs)) (top_is Double a bs A) ∙ ap (λ (x : ℕ). moves Double (word Double x bs)) e)

  set_is : (a : ℕ) → 8388608 ≤ mantissa a → a < 2147483648 → chsf a ≡ a + 2147483648
  unfolding chsf
  set_is a m l = rw (le-leb 8388608 (mantissa a) m, lt-leb 2147483648 a l)

  clear_is : (a : ℕ) → 8388608 ≤ mantissa a → 2147483648 ≤ a → chsf a ≡ a - 2147483648
  unfolding chsf
  clear_is a m l = rw (le-leb 8388608 (mantissa a) m, le-leb 2147483648 a l)

  left_is : (a : ℕ) → mantissa a < 8388608 → chsf a ≡ a
  unfolding chsf
  left_is a m = rw (lt-leb 8388608 (mantissa a) m)

  zero_word_lem : FloatWord 0
  zero_word_lem = record { fits = lit< tt; is_proper = refl }

  float_rows : FloatRows rule
  float_rows = record {
    fadd_row = λ b a B A. float_row FAdd b a (theirs_word B) (theirs_word A) (add_result rule b a).word.fits;
    fsub_row = λ b a B A. float_row FSub b a (theirs_word B) (theirs_word A) (sub_result rule b a).word.fits;
    fmul_row = λ b a B A. float_row FMul b a (theirs_word B) (theirs_word A) (mul_result rule b a).word.fits;
    fdiv_row = λ b a B A. float_row FDiv b a (theirs_word B) (theirs_word A) (div_result rule b a (theirs_word B)).word.fits;
    fdiv_zero = λ b B.
        subst (λ (r : Flagged). Two rule Double (Float FDiv) b 0 r.word r.error false 0) (div_by_zero rule b 0 refl)
        (float_row FDiv b 0 (theirs_word B) zero_word_lem (div_result rule b 0 (theirs_word B)).word.fits);
    improper = λ op b a B A e cs. refusing rule (Float op) (word Double a (word Double b cs)) (operands op b a cs B A ∙ not_both (proper b) (proper a) e);
    chsf_sets = λ a m l bs. let k : a < 2147483648 = l in chsf_row a (a + 2 ^ 31) bs (omega arith) (omega arith) (set_is a m l);
    chsf_clears = λ a m l h bs. let k : a < 4294967296 = h in chsf_row a (a - 2 ^ 31) bs h (omega arith) (clear_is a m l);
    chsf_leaves = λ a m h bs. chsf_row a a bs h h (left_is a m);
  }

-- ---- the conversions
-- a stack of the 32-bit words A, B, C and what lies below
abbrev pub three : ℕ → ℕ → ℕ → List ℕ → List ℕ
three a b c ds = word Double a (word Double b (word Double c ds))

module _ (f : ℕ → Flagged) (a b c : ℕ) (A : a < words Double) (ds : List ℕ) where
  given : f (word_a Double (three a b c ds)) ≡ f a
  given = ap f (top_is Double a (word Double b (word Double c ds)) A)

  converted_to : (r e : ℕ) → f a ≡ record { word = r; error = e } → converts (three a b c ds) (f (word_a Double (three a b c ds))) ≡ ends Double
      (three r b c (zeros 4)) e false
  unfolding converts
  converted_to r e F = ap (converts (three a b c ds)) (given ∙ F)

  narrowed_to : (r : ℕ) → f a ≡ record { word = r; error = 0 }
      → narrows (three a b c ds) (f (word_a Double (three a b c ds))) ≡ ends Single (word Single r (word Double b (word Double c (zeros 6)))) 0 false
  unfolding narrows
  narrowed_to r F = ap (narrows (three a b c ds)) (given ∙ F)

  kept_to : f a ≡ record { word = a; error = 1 } → narrows (three a b c ds) (f (word_a Double (three a b c ds))) ≡ ends Double (three a b c (zeros 4)) 1 false
  unfolding narrows
  kept_to F = ap (narrows (three a b c ds)) (given ∙ F)

-- the word of a whole number below half fits
complement_lt : (half : ℕ) (s : Bool) (n : ℕ) → n < half → complement half s n < 2 * half
complement_lt half true n h = mod-lt (2 * half - n) (omega arith)
complement_lt half false n h = omega arith

-- five 16-bit words and what lies below
abbrev five : ℕ → ℕ → ℕ → ℕ → ℕ → List ℕ → List ℕ
five a b c d e fs = word Single a (word Single b (word Single c (word Single d (word Single e fs))))

widened_to : (f : ℕ → Flagged) (a b c d e : ℕ) → a < words Single → (fs : List ℕ) (r : ℕ) → f a ≡ record { word = r; error = 0 }
    → widens (five a b c d e fs) (f (word_a Single (five a b c d e fs))) ≡ ends Double
    (word Double r (word Single b (word Single c (word Single d (word Single e (zeros 4)))))) 0 false
unfolding widens
widened_to f a b c d e A fs r F = ap (λ (x : ℕ). widens (five a b c d e fs) (f x))
    (top_is Single a (word Single b (word Single c (word Single d (word Single e fs)))) A) ∙ ap (widens (five a b c d e fs)) F

-- a result without error, by its word
pub no_error : (r : Flagged) → r.error ≡ 0 → r ≡ record { word = r.word; error = 0 }
no_error r e = ap (λ (x : ℕ). record { word = r.word; error = x }) e

module _ (rule : Rule) where
  one_operand : (w : Width) (a : ℕ) (bs : List ℕ) → a < words Double → proper_operands (Fix w) (word Double a bs) ≡ proper a
  one_operand w a bs A = ap proper (top_is Double a bs A)

  conversion_rows : ConversionRows rule
  unfolding whole_part
  conversion_rows = record {
    fltd_row = λ a b c A ds.
        accepted rule (Flt Double) (three a b c ds) Double (fltd rule a).word 0 false (word Double b (word Double c (zeros 4))) refl
        (fltd_result rule a).word.fits
        (converted_to (fltd rule) a b c A ds (fltd rule a).word 0 (no_error (fltd rule a) (fltd_no_error rule a A)));
    flts_row = λ a b c d e A fs.
        accepted rule (Flt Single) (five a b c d e fs) Double (flts a).word 0 false (word Single b (word Single c (word Single d (word Single e (zeros 4)))))
        refl (flts_result a).word.fits
        (widened_to flts a b c d e A fs (flts a).word (no_error (flts a) (flts_no_error a A)));
    fixd_row = λ a b c A h ds.
        accepted rule (Fix Double) (three a b c ds) Double (complement (2 ^ 31) (negative a) (whole_part a)) 0 false (word Double b (word Double c (zeros 4)))
        (one_operand Double a (word Double b (word Double c ds)) A.fits ∙ A.is_proper) (complement_lt (2 ^ 31) (negative a) (whole_part a) h)
        (converted_to (fix (2 ^ 31)) a b c A.fits ds (complement (2 ^ 31) (negative a) (whole_part a)) 0
        (sym (fix_within (2 ^ 31) a (whole_part a) (negative a) refl h refl)));
    fixs_row = λ a b c A h ds.
        accepted rule (Fix Single) (three a b c ds) Single (complement (2 ^ 15) (negative a) (whole_part a)) 0 false (word Double b (word Double c (zeros 6)))
        (one_operand Single a (word Double b (word Double c ds)) A.fits ∙ A.is_proper) (complement_lt (2 ^ 15) (negative a) (whole_part a) h)
        (narrowed_to (fix (2 ^ 15)) a b c A.fits ds (complement (2 ^ 15) (negative a) (whole_part a))
        (sym (fix_within (2 ^ 15) a (whole_part a) (negative a) refl h refl)));
    fixd_over = λ a b c A h ds.
        accepted rule (Fix Double) (three a b c ds) Double a 1 false (word Double b (word Double c (zeros 4)))
        (one_operand Double a (word Double b (word Double c ds)) A.fits ∙ A.is_proper) A.fits
        (converted_to (fix (2 ^ 31)) a b c A.fits ds a 1 (sym (fix_over (2 ^ 31) a (whole_part a) refl h)));
    fixs_over = λ a b c A h ds.
        accepted rule (Fix Single) (three a b c ds) Double a 1 false (word Double b (word Double c (zeros 4)))
        (one_operand Single a (word Double b (word Double c ds)) A.fits ∙ A.is_proper) A.fits
        (kept_to (fix (2 ^ 15)) a b c A.fits ds (sym (fix_over (2 ^ 15) a (whole_part a) refl h)));
    fix_improper = λ w a A p bs. refusing rule (Fix w) (word Double a bs) (one_operand w a bs A ∙ p);
  }

  nop : (stack : List ℕ) (code status : ℕ) (service : Bool) → decoded (code % 128) ≡ Known Nop → status < 128
      → command_under rule (holding stack status service) code ≡ done 0 (holding stack 0 (leb 128 code))
  unfolding command_under carried
  nop stack code status service is ready = rw (lt-leb 128 status ready, is)

pushed_pi : (rule : Rule) (pi lost : ℕ) (abc : List ℕ) → pi_of rule ≡ pi → pi < words Double → length abc ≡ 12 → Leaves rule Pupi (abc ++ bytes_of 4 lost) Double
    pi 0 false abc
pushed_pi rule pi lost abc e f h =
    accepted rule Pupi (abc ++ bytes_of 4 lost) Double pi 0 false abc refl f
    (ap₂ (λ (x : ℕ) (l : List ℕ). moves Double (word Double x l)) e (take_at abc (bytes_of 4 lost) 12 h))

pupi : (rule : Rule) (lost : ℕ) (abc : List ℕ) → length abc ≡ 12 → Leaves rule Pupi (abc ++ bytes_of 4 lost) Double (pi_word rule) 0 false abc
pupi Cut lost abc h = pushed_pi Cut 0x02c90fda lost abc refl (lit< tt) h
pupi Nearest lost abc h = pushed_pi Nearest 0x02c90fdb lost abc refl (lit< tt) h

-- ---- the statement
pub rows : (rule : Rule) → Rows rule
rows rule = record {
  fixed_point = λ w. fixed_rows rule w;
  whole_numbers = λ w. whole_numbers_of w;
  moves = λ w. move_rows rule w;
  float_point = float_rows rule;
  conversions = conversion_rows rule;
  pupi_row = λ lost abc h. pupi rule lost abc h;
  nop_row = λ stack code status service is ready. nop rule stack code status service is ready;
}

pub commands : Commands
commands = rows
