-- `stack::Stack::over_zero` meets its contract: the stack lifted by a word, and R in place of B. Assumes nothing.
use mathlib.Core.Path.{ap, ◌∙◌}
use mathlib.Core.List.{List, ◌++◌}
use Prim.Native.Nat.{ℕ}
use native.Mathlib.Omega.{arith}
use lib.ListN.{drop}
use Rattle.terms.specs.Width.{size_of}
use Rattle.stack.specs.Stack.{zeros, replaced}
use Rattle.stack.specs.Words.{bytes_in}
use Rattle.stack.proofs.Layouts.{two_fit}
use Rattle.stack.proofs.TwoWords.{length-stack, over_law}
use Rattle.stack.proofs.Stack.over_zero.Goals as goal

pub returns : goal.returns
returns c =
    let a = c.args in
    let s = bytes_in a.self in
    let n = size_of a.width in
    let lifted = c.lift.ensures ∙ ap (λ (k : ℕ). drop k s ++ zeros k) c.size.ensures.0 in
    c.replace.ensures
    ∙ ap (λ (l : List ℕ). replaced n l a.r) lifted
    ∙ over_law n a.r s (zeros n) (omega (arith, two_fit a.width, length-stack a.self.top a.self.rest))
