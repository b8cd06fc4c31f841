-- `decimals::magnitude::bytes_at` meets its contract: the value so far is that of the bytes behind the place. Assumes nothing.
use Prim.Native.Nat.{◌+◌, ◌-◌}
use native.Mathlib.Omega.{arith}
use lib.ListN.{get_or}
use mir.Val.{Fits}
use mir.Syntax.{w8}
use borrow.Author.Rules.{rules}
use Rattle.decimals.proofs.Parts.{gathers_start, gathers, gathers_narrow, gathers_end}
use Rattle.decimals.proofs.magnitude.bytes_at.Goals as goal

pub loop-left-init : goal.loop-left-init
loop-left-init c = gathers_start _ _ _ (search rules) (λ k. let f : Fits w8 (get_or c.args.bytes k 0) = search rules in f.fits) (search rules) (search rules)

pub overflow_mul-value : goal.overflow_mul-value
overflow_mul-value c = let l = c.loop-left in let n = gathers_narrow _ _ _ l.value l.left (omega arith) l.invariant in omega arith

pub overflow_add-value-in-loop-left : goal.overflow_add-value-in-loop-left
overflow_add-value-in-loop-left c =
    let l = c.loop-left in
    let n = gathers_narrow _ _ _ l.value l.left (omega arith) l.invariant in
    omega (arith, l.invariant.bytes_small (c.args.at + (l.left - 1)))

pub loop-left-preserved : goal.loop-left-preserved
loop-left-preserved c = let l = c.loop-left in gathers _ _ _ l.value l.left (omega arith) l.invariant

pub returns : goal.returns
returns c = let l = c.loop-left in gathers_end _ _ _ l.value l.left (omega arith) l.invariant
