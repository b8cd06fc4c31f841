-- `host_floats::floats::look` meets its contract: the f64s before the one looked at are taken, and so many of them were rounded. Assumes nothing.
use native.Mathlib.Omega.{arith}
use Rattle.host_floats.specs.Buffers.{float_entry}
use Rattle.host_floats.proofs.Looking.{looks_start, looks_bad, looks_on, looks_end}
use Rattle.host_floats.proofs.floats.look.Goals as goal

pub loop-i-init : goal.loop-i-init
loop-i-init c = (looks_start _ _, omega arith)

pub returns-then-refusal-ne0 : goal.returns-then-refusal-ne0
returns-then-refusal-ne0 c =
    let a = c.args in
    looks_bad (float_entry a.rule a.floats.now) _ _ _ c.loop-i.invariant.0 c.loop-i-test.true c.entry_at-e.result
    c.entry_at-e.ensures.0
    c.if-refusal-ne0.true

pub loop-i-preserved : goal.loop-i-preserved
loop-i-preserved c =
    let a = c.args in
    let e = c.entry_at-e in (
      looks_on (float_entry a.rule a.floats.now) _ _ _ c.loop-i.invariant.0 c.loop-i-test.true e.result e.ensures.0
          c.if-refusal-ne0.false,
      omega arith,
    )

pub returns : goal.returns
returns c =
    let a = c.args in
    looks_end (float_entry a.rule a.floats.now) _ _ _ c.loop-i.invariant.0 c.loop-i-test.false
