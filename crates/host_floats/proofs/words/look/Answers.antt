-- `host_floats::words::look` meets its contract: the words before the one looked at are proper, and a word is never rounded. Assumes nothing.
use mathlib.Core.Path.{◌≡◌, refl, ap, ◌∙◌}
use Prim.Native.Nat.{◌*◌}
use Rattle.host_floats.specs.declared.entry.Outward.{Outward}
use Rattle.host_floats.specs.declared.entry.Outward.TheVariants.{Float, Refused}
use Rattle.host_floats.specs.Double.{outward_of}
use Rattle.numbers.specs.Little.{four_at}
use Rattle.host_floats.specs.declared.buffer.Entry.{Entry}
use Rattle.host_floats.specs.Buffers.{outward_entry, word_entry}
use Rattle.host_floats.proofs.Looking.{looks_start, looks_bad, looks_past, looks_end}
use Rattle.host_floats.proofs.words.look.Goals as goal

never_rounded : (a : Outward) → (outward_entry a).rounded ≡ 0
never_rounded (Float x) = refl
never_rounded (Refused r) = refl

pub loop-i-init : goal.loop-i-init
loop-i-init c = looks_start _ _

pub returns-then-refusal-ne0 : goal.returns-then-refusal-ne0
returns-then-refusal-ne0 c =
    let words = c.args.words.now in
    looks_bad (word_entry words) _ _ 0 c.loop-i.invariant c.loop-i-test.true c.entry_at-e.result c.entry_at-e.ensures
    c.if-refusal-ne0.true

pub loop-i-preserved : goal.loop-i-preserved
loop-i-preserved c =
    let words = c.args.words.now in
    let e = c.entry_at-e.result in
    looks_past (word_entry words) _ _ 0 c.loop-i.invariant c.loop-i-test.true e c.entry_at-e.ensures c.if-refusal-ne0.false
    (ap (λ (x : Entry). x.rounded) c.entry_at-e.ensures ∙ never_rounded (outward_of (four_at words (c.loop-i.i * 4))))

pub returns : goal.returns
returns c = looks_end (word_entry c.args.words.now) _ _ 0 c.loop-i.invariant c.loop-i-test.false
