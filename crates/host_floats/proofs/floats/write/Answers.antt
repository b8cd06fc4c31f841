-- `host_floats::floats::write` meets its contract: what stands is the words of the f64s so far, and the rest as it was. Assumes nothing.
use mathlib.Core.Path.{refl, ap, ◌∙◌}
use native.Mathlib.Omega.{arith}
use Rattle.numbers.specs.Little.{le4}
use Rattle.host_floats.specs.declared.buffer.Entry.{Entry}
use Rattle.host_floats.specs.Buffers.{float_entry}
use Rattle.host_floats.proofs.Writing.{write_start, part_next, write_on, write_end}
use Rattle.host_floats.proofs.floats.write.Goals as goal

pub loop-i-init : goal.loop-i-init
loop-i-init c = (write_start 4 le4 (λ x. refl) _ _ _, refl)

pub put_word-requires : goal.put_word-requires
put_word-requires c = let l = c.loop-i in part_next 4 l.i l.out (omega arith)

pub loop-i-preserved : goal.loop-i-preserved
loop-i-preserved c =
    write_on 4 le4 (λ x. refl) (float_entry c.args.rule c.args.floats.now) c.args.out.now c.loop-i.out _ _ c.loop-i.i c.requires
    c.loop-i-test.true c.loop-i.invariant.0
    (c.put_word.ensures ∙ ap (λ (e : Entry). le4 e.bits) c.entry_at-e.ensures.0)

pub returns : goal.returns
returns c =
    let l = c.loop-i in
    write_end 4 le4 (λ x. refl) (float_entry c.args.rule c.args.floats.now) c.args.out.now l.out _ l.i c.loop-i-test.false l.invariant.0
