-- `chip::commands::Outcome::of` meets its contract: the stack, and the four parts of the status. Assumes nothing.
use Rattle.std.proofs.Common.{ap, rules}
use Rattle.stack.specs.Words.{bytes_in}
use Rattle.chip.specs.State.{left}
use Rattle.chip.proofs.Rows.{status_parts}
use Rattle.chip.proofs.commands.Outcome.of.Goals as goal

pub returns : goal.returns
returns c =
    let a = c.args in
    let s = a.stack in
    ap (left (bytes_in s)) (status_parts a.width s.top s.rest a.error a.carry (search rules) c.tos-zero.ensures.0)
