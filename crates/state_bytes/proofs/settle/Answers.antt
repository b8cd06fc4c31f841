-- `state_bytes::settle` meets its contract: the chip's bytes, then the memory's; the report. Assumes nothing.
use mathlib.Core.Path.{refl}
use Rattle.stack.proofs.TwoWords.{is_stack}
use Rattle.chip.specs.Held.{state_in}
use Rattle.state_bytes.proofs.Calling.{both_laid}
use Rattle.state_bytes.proofs.settle.Goals as goal

pub returns : goal.returns
returns c =
    let s = c.args.r.card.chip in (
      refl,
      both_laid c.args.state.now (state_in s) c.requires.0 (is_stack s.stack.top s.stack.rest).sixteen c.put_chip.ensures
          c.args.r.card.memory c.put_memory.ensures,
      c.fill_report.ensures,
    )
