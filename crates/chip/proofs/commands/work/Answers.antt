-- `chip::commands::work` meets its contract: the error of each operation has four bits. Assumes nothing.
use Rattle.codes.specs.declared.FixedOp.TheVariants.{Add, Sub, Mul, Muu, Div, Chs}
use Rattle.chip.proofs.Rows.{few}
use Rattle.chip.proofs.commands.work.Goals as goal

pub keeps_a-requires : goal.keeps_a-requires
keeps_a-requires g c = few Add _ _ _ c.add.ensures

pub keeps_a-requires-in-Sub : goal.keeps_a-requires-in-Sub
keeps_a-requires-in-Sub g c = few Sub _ _ _ c.sub.ensures

pub loses_a-requires : goal.loses_a-requires
loses_a-requires g c = few Mul _ _ _ c.mul.ensures

pub loses_a-requires-in-Muu : goal.loses_a-requires-in-Muu
loses_a-requires-in-Muu g c = few Muu _ _ _ c.muu.ensures

pub loses_a-requires-in-Div : goal.loses_a-requires-in-Div
loses_a-requires-in-Div g c = few Div _ _ _ c.div.ensures

pub changes_a-requires : goal.changes_a-requires
changes_a-requires g c = few Chs _ 0 _ c.chs.ensures
