-- SQRT: its rows as the rows of the other commands are, its values from the laws of `float`, its table computed. Assumes nothing.
use mathlib.Core.Path.{◌≡◌, refl, sym, ap, ◌∙◌}
use mathlib.Core.Bool.{true, false}
use mathlib.Core.List.{List}
use Prim.Native.Nat.{ℕ, ◌*◌, ◌^◌, ◌≤◌, ◌<◌}
use native.Mathlib.Omega.{arith}
use borrow.Author.Tests.{leb-true, ne_eqb}
use lib.Dec.{lit<}
use lib.IntN.{pos, nat_abs, ◌*ℤ◌}
use lib.Ieee.{size}
use Rattle.terms.specs.declared.Width.TheVariants.{Double}
use Rattle.float.specs.declared.Flagged.{Flagged}
use Rattle.float.specs.Word.{negative, proper, size88, value}
use Rattle.terms.specs.declared.Rule.{Rule}
use Rattle.terms.specs.declared.Rule.TheVariants.{Cut}
use Rattle.float.specs.Float.{exact_product}
use Rattle.float.specs.Root.{sqrt}
use Rattle.float.proofs.root.RootCut.{root_negative, root_none}
use Rattle.promises.proofs.float.RootExact.{one_root, root_exactly, root_no_error, root_keeps, root_exact}
use Rattle.float.proofs.Results.{root_result}
use Rattle.stack.specs.Stack.{zeros}
use Rattle.codes.specs.Command.{Sqrt}
use Rattle.codes.specs.Codes.{decoded}
use Rattle.chip.specs.Status.{status_of}
use Rattle.chip.specs.Commands.{word_a, ends, roots, proper_operands}
use Rattle.chip.specs.Step.{push_of, carried, command_under}
use Rattle.promises.specs.Commands.{words, word, status_by}
use Rattle.promises.specs.FloatWords.{FloatWord}
use Rattle.promises.specs.FloatResults.{clean}
use Rattle.promises.proofs.Measures.{theirs_word, ours_word, theirs_le, ours_le}
use Rattle.promises.specs.Roots.{RootRows, RootValues, Roots, RootOrder, RootBench}
use Rattle.promises.proofs.Commands.{top_is, accepted, refusing, three, no_error}

-- ---- the command, on a stack that is spelled as words
module _ (rule : Rule) where
  operand : (a : ℕ) (bs : List ℕ) → a < words Double → proper_operands Sqrt (word Double a bs) ≡ proper a
  operand a bs A = ap proper (top_is Double a bs A)

  found : (a : ℕ) (bs : List ℕ) → a < words Double → (r : Flagged) → sqrt rule a ≡ r → sqrt rule (word_a Double (word Double a bs)) ≡ r
  found a bs A r e = ap (sqrt rule) (top_is Double a bs A) ∙ e

  rooted : (a b c : ℕ) → FloatWord a → negative a ≡ false → (ds : List ℕ)
      → roots (three a b c ds) (sqrt rule (word_a Double (three a b c ds))) ≡ ends Double (three (sqrt rule a).word b c (zeros 4)) 0 false
  unfolding roots
  rooted a b c A s ds =
      ap (roots (three a b c ds)) (found a (word Double b (word Double c ds)) A.fits (clean (sqrt rule a).word)
      (no_error (sqrt rule a) (root_no_error rule a A.is_proper s)))

  stays : (a : ℕ) → FloatWord a → negative a ≡ true → (bs : List ℕ) → roots (word Double a bs) (sqrt rule (word_a Double (word Double a bs))) ≡ ends Double
      (word Double a bs) 4 false
  unfolding roots
  stays a A s bs = ap (roots (word Double a bs)) (found a bs A.fits (record { word = a; error = 4 }) (sym (root_negative rule a s)))

  zero_word_lem : FloatWord 0
  zero_word_lem = record { fits = lit< tt; is_proper = refl }

  none : sqrt rule 0 ≡ record { word = 0; error = 0 }
  none = root_none rule 0 refl (unfold size88 in refl)

  negative_status : (a : ℕ) → negative a ≡ true → status_by Double a 4 false ≡ 0x48
  negative_status a s = let h : 2147483648 ≤ a = leb-true 2147483648 a s in rw (s, ne_eqb a 0 (λ (z : a ≡ 0). absurd (omega arith)))

  root_rows : RootRows rule
  root_rows = record {
    code = unfold decoded in refl;
    root_row = λ a b c A s ds.
        accepted rule Sqrt (three a b c ds) Double (sqrt rule a).word 0 false (word Double b (word Double c (zeros 4)))
        (operand a (word Double b (word Double c ds)) A.fits ∙ A.is_proper) (root_result rule a (theirs_word A)).word.fits (rooted a b c A s ds);
    zero_row = λ b c ds.
        accepted rule Sqrt (three 0 b c ds) Double 0 0 false (word Double b (word Double c (zeros 4)))
        (operand 0 (word Double b (word Double c ds)) (lit< tt)) (lit< tt)
        (rooted 0 b c zero_word_lem refl ds ∙ ap (λ (r : Flagged). ends Double (three r.word b c (zeros 4)) 0 false) none);
    zero_status = refl;
    negative_row = λ a b c A s ds.
        let bs = word Double b (word Double c ds) in
        accepted rule Sqrt (word Double a bs) Double a 4 false bs (operand a bs A.fits ∙ A.is_proper) A.fits (stays a A s bs);
    negative_status = negative_status;
    improper = λ a A p bs. refusing rule Sqrt (word Double a bs) (operand a bs A ∙ p);
  }

-- ---- the square of a word, in whole numbers
squares : (a b : ℕ) → negative a ≡ false → negative b ≡ false → exact_product b b ≡ value a *ℤ pos (2 ^ 88) → size88 b * size88 b ≡ size88 a * 2 ^ 88
unfolding value
squares a b s t e = ap nat_abs (rw (s, t) at e)

root_values : RootValues
root_values = record {
  only = one_root;
  found = λ a A. root_exactly Cut a A.is_proper;
  no_error = λ rule a A s. root_no_error rule a A.is_proper s;
  proper_root = λ rule a A. ours_word (root_result rule a (theirs_word A)).word;
  square = unfold value in (λ rule a b s B t e. root_exact rule a b s t B (squares a b s t e));
}

-- ---- the statements
pub root_command : Roots
root_command = record { rows = root_rows; values = root_values }

pub root_order : RootOrder
root_order rule a b A B s t h = ours_le (sqrt rule a).word (sqrt rule b).word (root_keeps rule a b A.is_proper B.is_proper s t (theirs_le a b h))

pub root_bench : RootBench
unfolding push_of command_under carried roots status_of decoded sqrt size
root_bench = refl
