-- `stack::Stack::pop_all` meets its contract: so many bytes are popped to their places so far, and the rest of the room is as it was. Assumes nothing.
use Prim.Native.Nat.{◌-◌}
use Rattle.stack.specs.Words.{bytes_in}
use Rattle.stack.proofs.Blocks.{Popped}
use Rattle.stack.proofs.Stack.pop_all.Given as goal

abbrev pub invariant-loop-i : goal.invariant-loop-i
invariant-loop-i l = Popped l.n l.n (bytes_in l.initial.s) l.initial.room (bytes_in l.s) l.i l.room

abbrev pub decreases-loop-i : goal.decreases-loop-i
decreases-loop-i l = l.n - l.i
