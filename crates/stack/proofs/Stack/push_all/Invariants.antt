-- `stack::Stack::push_all` meets its contract: what is left of the bytes, pushed on the stack so far, gives the whole. Assumes nothing.
use Rattle.std.proofs.Common.{length}
use Rattle.stack.specs.Stack.{pushed_all}
use Rattle.stack.specs.Words.{bytes_in}
use Rattle.stack.proofs.Blocks.{Left}
use Rattle.stack.proofs.Stack.push_all.Given as goal

abbrev pub invariant-loop-left : goal.invariant-loop-left
invariant-loop-left l = Left (length l.p) (pushed_all (bytes_in l.initial.s) l.p) (bytes_in l.s) l.left

abbrev pub decreases-loop-left : goal.decreases-loop-left
decreases-loop-left l = length l.left
