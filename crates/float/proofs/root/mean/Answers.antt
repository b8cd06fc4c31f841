-- `float::root::mean` meets its contract: four times a product is at most the square of the sum. Assumes nothing.
use Prim.Native.Nat.{◌+◌, ◌/◌}
use native.Mathlib.Omega.{arith}
use Rattle.float.proofs.root.Means.{mean_beyond, mean_few, mean_some}
use Rattle.float.proofs.root.mean.Goals as goal

pub returns : goal.returns
returns c =
    let s = c.args.s in
    let v = c.args.v in
    let b = mean_beyond s v c.requires.0 in
    let l = mean_few s v c.requires.1 c.requires.3 in
    (b, mean_some s v ((s + v / s) / 2) c.requires.2 b, omega arith)
