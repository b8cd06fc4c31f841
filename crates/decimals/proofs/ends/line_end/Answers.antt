-- `decimals::ends::line_end` stays within the text. Assumes nothing.
use native.Mathlib.Omega.{arith}
use Rattle.decimals.proofs.ends.line_end.Goals as goal

pub loop-end-init : goal.loop-end-init
loop-end-init c = omega arith

pub bounds-text-end : goal.bounds-text-end
bounds-text-end c = omega arith

pub returns-then-text-end-eq10 : goal.returns-then-text-end-eq10
returns-then-text-end-eq10 c = omega arith

pub overflow_add-end : goal.overflow_add-end
overflow_add-end c = omega arith

pub loop-end-smaller : goal.loop-end-smaller
loop-end-smaller c = omega arith

pub loop-end-preserved : goal.loop-end-preserved
loop-end-preserved c = omega arith

pub returns : goal.returns
returns c = omega arith
