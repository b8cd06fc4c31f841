-- `record_text::line::take_words` takes one word after another: taking on leads to the payload. Assumes nothing.
use Prim.Native.Nat.{◌-◌}
use lib.ListN.{length}
use Rattle.record_text.proofs.Taking.{Gathering}
use Rattle.record_text.proofs.line.take_words.Given as goal

abbrev pub invariant-loop-more : goal.invariant-loop-more
invariant-loop-more l = Gathering l.rule l.form l.kind l.many l.line l.from l.initial.payload l.payload l.count l.at l.more

abbrev pub decreases-loop-more : goal.decreases-loop-more
decreases-loop-more l = length l.line - l.at
