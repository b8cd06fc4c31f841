-- `state_bytes::stack_in` meets its contract: two words of eight bytes. Assumes nothing.
use mathlib.Core.Path.{sym, ap, ap₂, ◌∙◌}
use Prim.Native.Nat.{ℕ, ◌<◌}
use mathlib.Core.List.{List, ◌++◌}
use native.Mathlib.Omega.{arith}
use lib.ListN.{get_or}
use Rattle.numbers.specs.Little.{le8}
use Rattle.numbers.proofs.Exact.{le8_of}
use Rattle.numbers.proofs.Reversed.{back}
use Rattle.stack.proofs.Reversed.{high_8}
use Rattle.state_bytes.proofs.States.{halves}
use Rattle.state_bytes.proofs.stack_in.Goals as goal

pub returns : goal.returns
returns c =
    let s = c.args.bytes.now in
    let h = c.requires in
    let b : (j : ℕ) → get_or s j 0 < 256 = λ j. omega (arith, c.shared_slice_known-1.given j) in
    let x = c.reversed_8 in
    let y = c.reversed_8-2 in
    ap₂ (λ (k l : List ℕ). k ++ l)
    (sym (high_8 x.result) ∙ back _ _ x.ensures ∙ ap le8 c.eight_at.ensures ∙ le8_of s 0 (omega arith) b)
    (sym (high_8 y.result) ∙ back _ _ y.ensures ∙ ap le8 c.eight_at-2.ensures ∙ le8_of s 8 (omega arith) b)
    ∙ halves s h
