-- `stack::window` meets its contract: a shift of the two words by k bytes. Assumes nothing.
use mathlib.Core.Path.{refl}
use Prim.Native.Nat.{◌-◌}
use native.Mathlib.Omega.{arith}
use Rattle.stack.proofs.Windows.{fits, shifted}
use borrow.Author.Rules.{rules}
use Rattle.stack.proofs.window.Goals as goal

pub overflow_add-result : goal.overflow_add-result
overflow_add-result c = let a = c.args in record { fits = fits a.k (8 - a.k) a.high a.low (omega arith) refl (omega arith) (search rules) }

pub returns : goal.returns
returns c = let a = c.args in shifted a.k (8 - a.k) a.high a.low (omega arith) refl (omega arith) (search rules)
