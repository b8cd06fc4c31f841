-- `chip::commands::float_result` meets its contract: each operation is that of its name. Assumes nothing.
use Rattle.chip.proofs.Rows.{float_of_lem}
use borrow.Author.Rules.{rules}
use Rattle.chip.proofs.commands.float_result.Goals as goal

pub returns-in-Add : goal.returns-in-Add
returns-in-Add c = float_of_lem _ _ _ (search rules) c.requires.0 c.in-Add.is c.fadd.ensures

pub returns-in-Sub : goal.returns-in-Sub
returns-in-Sub c = float_of_lem _ _ _ (search rules) c.requires.0 c.in-Sub.is c.fsub.ensures

pub returns-in-Mul : goal.returns-in-Mul
returns-in-Mul c = float_of_lem _ _ _ (search rules) c.requires.0 c.in-Mul.is c.fmul.ensures

pub returns-in-Div : goal.returns-in-Div
returns-in-Div c = float_of_lem _ _ _ (search rules) c.requires.0 c.in-Div.is c.fdiv.ensures
