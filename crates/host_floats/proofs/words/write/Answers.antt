-- `host_floats::words::write` meets its contract: what stands is the f64s of the words so far, and the rest as it was. Assumes nothing.
use mathlib.Core.Path.{refl, ap, ◌∙◌}
use native.Mathlib.Omega.{arith}
use Rattle.numbers.specs.Little.{le8}
use Rattle.host_floats.specs.declared.buffer.Entry.{Entry}
use Rattle.host_floats.specs.Buffers.{word_entry}
use Rattle.host_floats.proofs.Writing.{write_start, part_next, write_on, write_end}
use Rattle.host_floats.proofs.words.write.Goals as goal

pub loop-i-init : goal.loop-i-init
loop-i-init c = (write_start 8 le8 (λ x. refl) _ _ _, refl)

pub put_eight-requires : goal.put_eight-requires
put_eight-requires c = let l = c.loop-i in part_next 8 l.i l.out (omega arith)

pub loop-i-preserved : goal.loop-i-preserved
loop-i-preserved c =
    write_on 8 le8 (λ x. refl) (word_entry c.args.words.now) c.args.out.now c.loop-i.out _ _ c.loop-i.i c.requires
    c.loop-i-test.true c.loop-i.invariant.0
    (c.put_eight.ensures ∙ ap (λ (e : Entry). le8 e.bits) c.entry_at-e.ensures)

pub returns : goal.returns
returns c =
    let l = c.loop-i in
    write_end 8 le8 (λ x. refl) (word_entry c.args.words.now) c.args.out.now l.out _ l.i c.loop-i-test.false l.invariant.0
