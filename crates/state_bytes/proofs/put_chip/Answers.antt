-- `state_bytes::put_chip` meets its contract: 16 bytes and three behind them. Assumes nothing.
use mathlib.Core.Path.{ap, ◌∙◌}
use mathlib.Core.List.{List}
use Prim.Native.Nat.{ℕ}
use lib.ListN.{length}
use Rattle.stack.proofs.TwoWords.{is_stack}
use Rattle.chip.specs.Held.{held}
use Rattle.state_bytes.specs.Bytes.{memory_in, laid}
use Rattle.state_bytes.proofs.Laid.{as_flag, chip_laid}
use Rattle.state_bytes.proofs.put_chip.Goals as goal

pub returns : goal.returns
returns c =
    let s = c.args.chip in
    let l = c.args.state.now in
    let put = c.put_stack in
    chip_laid l put.new.bytes s.pending s.status s.service c.requires (ap length put.ensures ∙ (is_stack s.stack.top s.stack.rest).sixteen)
    (as_flag s.pending) (as_flag s.service)
    ∙ ap (λ (x : List ℕ). laid (length l) (held x s.pending s.status s.service) (memory_in l)) put.ensures
