-- `formula::parts::letter` meets its contract: one byte of text, one of postfix. Assumes nothing.
use native.Mathlib.Omega.{arith}
use Rattle.formula.proofs.Places.{end_small}
use Rattle.formula.proofs.parts.letter.Goals as goal

pub bounds-out-end : goal.bounds-out-end
bounds-out-end c = omega (arith, c.end_of-end.ensures, end_small c.args.place c.requires)
