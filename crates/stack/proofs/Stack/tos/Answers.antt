-- `stack::Stack::tos` meets its contract: the upper part of the upper word. Assumes nothing.
use mathlib.Core.Path.{refl}
use Rattle.stack.proofs.TwoWords.{word_law}
use borrow.Author.Rules.{rules}
use Rattle.stack.proofs.Stack.tos.Goals as goal

pub returns-in-Single : goal.returns-in-Single
returns-in-Single c =
    let s = c.args.self in
    rw c.in-Single.is (word_law s.top s.rest 2 6 refl (search rules), search rules)

pub returns-in-Double : goal.returns-in-Double
returns-in-Double c =
    let s = c.args.self in
    rw c.in-Double.is (word_law s.top s.rest 4 4 refl (search rules), search rules)
