-- `record_text::words::run_end` passes over one character after another. Assumes nothing.
use mathlib.Core.Path.{sym, ◌∙◌}
use native.Mathlib.Omega.{arith}
use Rattle.record_text.proofs.Parting.{further}
use Rattle.record_text.proofs.words.run_end.Goals as goal

pub loop-i-init : goal.loop-i-init
loop-i-init c = (omega arith, c.requires, λ j l k. absurd (omega arith))

pub returns-then-not-passes : goal.returns-then-not-passes
returns-then-not-passes c =
    let l = c.loop-i.invariant in
    record { passed = l.2; onward = l.0; within = l.1; stops = λ k. sym c.passes.ensures ∙ c.if-not-passes.true }

pub loop-i-preserved : goal.loop-i-preserved
loop-i-preserved c =
    let l = c.loop-i in
    let passed = sym c.passes.ensures ∙ c.if-not-passes.false in
    let a = c.args in
    (let o = l.invariant.0 in omega arith, omega arith, further a.blanks a.line.now a.at l.i l.invariant.2 passed)

pub returns : goal.returns
returns c =
    let l = c.loop-i.invariant in
    record { passed = l.2; onward = l.0; within = l.1; stops = λ k. absurd (omega arith) }
