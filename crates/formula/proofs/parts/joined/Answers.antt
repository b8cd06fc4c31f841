-- `formula::parts::joined` meets its contract: one command more, or no part. Assumes nothing.
use native.Mathlib.Omega.{arith}
use Rattle.formula.proofs.Places.{end_small}
use Rattle.formula.proofs.parts.joined.Goals as goal

pub bounds-out-end : goal.bounds-out-end
bounds-out-end c = omega (arith, c.end_of-end.ensures, end_small c.args.right c.requires)
