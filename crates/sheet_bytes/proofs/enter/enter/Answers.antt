-- `sheet_bytes::enter::enter` meets its contract: what is of neither kind closes the sheet. Assumes nothing.
use native.Mathlib.Omega.{arith}
use borrow.Author.Tests.{ne_eqb}
use Rattle.sheet_bytes.proofs.enter.enter.Goals as goal

pub returns-in_default : goal.returns-in_default
returns-in_default c = rw (ne_eqb c.args.kind 256 (λ z. omega arith), ne_eqb c.args.kind 257 (λ z. omega arith)) c.close_sheet.ensures
