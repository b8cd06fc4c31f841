-- `host_floats::floats::f64_to_words` meets its contract: its tests are the definition's, in the same order, and nothing is written before all are passed.
-- Assumes nothing.
use mathlib.Core.Path.{sym, ap, ◌∙◌}
use mathlib.Core.List.{◌++◌}
use Prim.Native.Nat.{◌*◌, ◌/◌}
use lib.ListN.{length, drop}
use Rattle.numbers.specs.Little.{le4}
use Rattle.terms.specs.declared.Rule.{Rule}
use Rattle.host_floats.specs.Buffers.{float_entries, reply_to, bytes_of}
use Rattle.host_floats.proofs.Answers.{no_rule, part_floats, no_room_floats, bad_float, floats_written}
use Rattle.host_floats.proofs.floats.f64_to_words.Goals as goal

pub returns-then-not-is_rule : goal.returns-then-not-is_rule
returns-then-not-is_rule c =
    let a = c.args in
    no_rule a.rule a.floats.now a.out.now _ (sym c.is_rule.ensures ∙ c.if-not-is_rule.true) c.away.ensures

pub returns-then-floats-ne0 : goal.returns-then-floats-ne0
returns-then-floats-ne0 c =
    let a = c.args in
    part_floats a.rule a.floats.now a.out.now (sym c.is_rule.ensures ∙ c.if-not-is_rule.false) _ c.if-floats-ne0.true
    c.away-then-floats-ne0.ensures

pub returns-then-out-floats : goal.returns-then-out-floats
returns-then-out-floats c =
    let a = c.args in
    no_room_floats a.rule a.floats.now a.out.now (sym c.is_rule.ensures ∙ c.if-not-is_rule.false) _ c.if-floats-ne0.false c.if-out-floats.true
    c.away-then-out-floats.ensures

pub returns-then-refusal-eq0 : goal.returns-then-refusal-eq0
returns-then-refusal-eq0 c =
    let a = c.args in
    let f = a.floats.now in
    let out = a.out.now in
    let how = c.rule_of-how.ensures in
    floats_written a.rule f out (sym c.is_rule.ensures ∙ c.if-not-is_rule.false) c.look-reply.result c.if-floats-ne0.false c.if-out-floats.false
    (c.look-reply.ensures ∙ ap (λ (r : Rule). reply_to (float_entries r f)) how)
    _
    c.if-refusal-eq0.true
    (c.write.ensures ∙ ap (λ (r : Rule). bytes_of le4 (float_entries r f) ++ drop (length f / 8 * 4) out) how)

pub returns-else-refusal-eq0 : goal.returns-else-refusal-eq0
returns-else-refusal-eq0 c =
    let a = c.args in
    let f = a.floats.now in
    bad_float a.rule f a.out.now (sym c.is_rule.ensures ∙ c.if-not-is_rule.false) c.look-reply.result c.if-floats-ne0.false c.if-out-floats.false
    (c.look-reply.ensures ∙ ap (λ (r : Rule). reply_to (float_entries r f)) c.rule_of-how.ensures)
    c.if-refusal-eq0.false
