-- `word::write_arguments` takes one argument after the other. Assumes nothing.
use Prim.Native.Nat.{◌-◌}
use Rattle.word.proofs.write_arguments.Given as goal

abbrev pub decreases-loop-i : goal.decreases-loop-i
decreases-loop-i g l = l.count - l.i
