-- What each command leaves: the rows of document 01's tables, over the width where two widths share a row. Definitions only. Assumes nothing.
use Rattle.std.specs.Prelude.{ℕ, Bool, true, false, ◌&&◌, cond, List, eqb}
use Rattle.terms.specs.declared.Width.{Width}
use Rattle.terms.specs.declared.Width.TheVariants.{Single, Double}
use Rattle.terms.specs.Width.{size_of, bits_of}
use Rattle.fixed.specs.declared.Fixed.{Fixed}
use Rattle.fixed.specs.Fixed.{half, add, sub, mul, muu, div, chs}
use Rattle.float.specs.declared.Flagged.{Flagged}
use Rattle.float.specs.Word.{proper}
use Rattle.terms.specs.declared.Rule.{Rule}
use Rattle.terms.specs.declared.Rule.TheVariants.{Cut, Nearest}
use Rattle.float.specs.Float.{add as fadd, sub as fsub, mul as fmul, div as fdiv}
use Rattle.float.specs.Convert.{flts, fltd, fixs, fixd, chsf}
use Rattle.float.specs.Root.{sqrt}
use Rattle.stack.specs.Stack.{tos, nos, rotated, over_a, over_zero, replaced, copied, exchanged, pushed_word, converted, widened, narrowed}
use Rattle.codes.specs.declared.FloatOp.{FloatOp}
use Rattle.codes.specs.declared.FloatOp.TheVariants.{Add as FAdd, Sub as FSub, Mul as FMul, Div as FDiv}
use Rattle.codes.specs.Command.{Command}
use Rattle.codes.specs.Command.{Nop, Add, Sub, Mul, Muu, Div, Chs, Float, Chsf, Flt, Fix, Pto, Pop, Xch, Pupi, Sqrt}
use Rattle.chip.specs.State.{CommandOutcome}
use Rattle.chip.specs.Status.{status_of}

-- the one rule of the base: a float result is cut
abbrev pub base_rule : Rule
base_rule = Cut

-- pi as a word: cut, or the nearest
abbrev pub pi_of : Rule → ℕ
pi_of Cut = 0x02c90fda
pi_of Nearest = 0x02c90fdb

-- A and B
abbrev pub word_a : Width → List ℕ → ℕ
word_a w s = tos (size_of w) s

abbrev pub word_b : Width → List ℕ → ℕ
word_b w s = nos (size_of w) s

-- half of the number of words of a width
abbrev pub half_of : Width → ℕ
half_of w = half (bits_of w)

-- ---- the column 'stack after', with the status by the new TOS
abbrev pub ends : Width → List ℕ → ℕ → Bool → CommandOutcome
ends w stack error carry = record { stack = stack; status = status_of w stack error carry }

-- no error and no carry: words moved, copied or pushed, the sign of a float word changed
abbrev pub moves : Width → List ℕ → CommandOutcome
moves w stack = ends w stack 0 false

-- R, C.., bottom holds A; with carry
unfoldable pub keeps_a : Width → List ℕ → Fixed → CommandOutcome
keeps_a w s r = ends w (over_a (size_of w) s r.word) r.error r.carry

-- R, C.., bottom 0
unfoldable pub loses_a : Width → List ℕ → Fixed → CommandOutcome
loses_a w s r = ends w (over_zero (size_of w) s r.word) r.error false

-- only A replaced
unfoldable pub changes_a : Width → List ℕ → Fixed → CommandOutcome
changes_a w s r = ends w (replaced (size_of w) s r.word) r.error false

-- R, C, D, 0
unfoldable pub floats : List ℕ → Flagged → CommandOutcome
floats s r = ends Double (over_zero 4 s r.word) r.error false

-- R, B, C, 0
unfoldable pub converts : List ℕ → Flagged → CommandOutcome
converts s r = ends Double (converted s r.word) r.error false

-- R (two cells), 16-bit B, C, D, E, 0, 0
unfoldable pub widens : List ℕ → Flagged → CommandOutcome
widens s r = ends Double (widened s r.word) r.error false

-- R (one cell), 32-bit B, C, then three zero cells; on an error A, B, C, 0, and status by the 32-bit A
unfoldable pub narrows : List ℕ → Flagged → CommandOutcome
narrows s r = cond (eqb r.error 0) (ends Single (narrowed s r.word) 0 false) (ends Double (converted s r.word) r.error false)

-- R, B, C, 0; on an error, where A is negative, the whole stack as it stands, and status by A
unfoldable pub roots : List ℕ → Flagged → CommandOutcome
roots s r = cond (eqb r.error 0) (ends Double (converted s r.word) 0 false) (ends Double s r.error false)

-- ---- the rows
-- FADD, FSUB, FMUL, FDIV give B+A, B-A, BxA, B/A
abbrev pub float_of : Rule → FloatOp → ℕ → ℕ → Flagged
float_of rule FAdd b a = fadd rule b a
float_of rule FSub b a = fsub rule b a
float_of rule FMul b a = fmul rule b a
float_of rule FDiv b a = fdiv rule b a

-- what a command leaves on a stack; NOP clears the whole status
abbrev pub outcome_of : Rule → Command → List ℕ → CommandOutcome
outcome_of rule Nop s = record { stack = s; status = 0 }
outcome_of rule (Add w) s = keeps_a w s (add (half_of w) (word_b w s) (word_a w s))
outcome_of rule (Sub w) s = keeps_a w s (sub (half_of w) (word_b w s) (word_a w s))
outcome_of rule (Mul w) s = loses_a w s (mul (half_of w) (word_b w s) (word_a w s))
outcome_of rule (Muu w) s = loses_a w s (muu (half_of w) (word_b w s) (word_a w s))
outcome_of rule (Div w) s = loses_a w s (div (half_of w) (word_b w s) (word_a w s))
outcome_of rule (Chs w) s = changes_a w s (chs (half_of w) (word_a w s))
outcome_of rule (Float op) s = floats s (float_of rule op (word_b Double s) (word_a Double s))
outcome_of rule Chsf s = moves Double (replaced 4 s (chsf (word_a Double s)))
outcome_of rule (Flt Double) s = converts s (fltd rule (word_a Double s))
outcome_of rule (Flt Single) s = widens s (flts (word_a Single s))
outcome_of rule (Fix Double) s = converts s (fixd (word_a Double s))
outcome_of rule (Fix Single) s = narrows s (fixs (word_a Double s))
outcome_of rule (Pop w) s = moves w (rotated (size_of w) s)
outcome_of rule (Pto w) s = moves w (copied (size_of w) s)
outcome_of rule (Xch w) s = moves w (exchanged (size_of w) s)
outcome_of rule Pupi s = moves Double (pushed_word s (pi_of rule))
outcome_of rule Sqrt s = roots s (sqrt rule (word_a Double s))

-- whether the operands of FADD, FSUB, FMUL, FDIV, FIXS, FIXD, SQRT are proper; no other command asks it
abbrev pub proper_operands : Command → List ℕ → Bool
proper_operands (Float op) s = proper (word_b Double s) && proper (word_a Double s)
proper_operands (Fix w) s = proper (word_a Double s)
proper_operands Sqrt s = proper (word_a Double s)
proper_operands Nop s = true
proper_operands (Add w) s = true
proper_operands (Sub w) s = true
proper_operands (Mul w) s = true
proper_operands (Muu w) s = true
proper_operands (Div w) s = true
proper_operands (Chs w) s = true
proper_operands Chsf s = true
proper_operands (Flt w) s = true
proper_operands (Pto w) s = true
proper_operands (Pop w) s = true
proper_operands (Xch w) s = true
proper_operands Pupi s = true
