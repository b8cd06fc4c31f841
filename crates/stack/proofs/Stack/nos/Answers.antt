-- `stack::Stack::nos` meets its contract: the part below it. Assumes nothing.
use mathlib.Core.Path.{refl, sym, ap, ◌∙◌}
use Prim.Native.Nat.{ℕ, ◌%◌}
use native.Mathlib.Nat.{div-one}
use Rattle.stack.proofs.TwoWords.{next_law}
use borrow.Author.Rules.{rules}
use Rattle.stack.proofs.Stack.nos.Goals as goal

pub returns-in-Single : goal.returns-in-Single
returns-in-Single c =
    let s = c.args.self in
    rw c.in-Single.is (next_law s.top s.rest 2 4 6 refl refl, search rules)

pub returns-in-Double : goal.returns-in-Double
returns-in-Double c =
    let s = c.args.self in
    rw c.in-Double.is (ap (λ (x : ℕ). x % 4294967296) (sym (div-one s.top)) ∙ next_law s.top s.rest 4 0 4 refl refl, search rules)
