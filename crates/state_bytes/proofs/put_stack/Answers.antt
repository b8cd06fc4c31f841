-- `state_bytes::put_stack` meets its contract: two words of eight bytes. Assumes nothing.
use mathlib.Core.Path.{ap, ap₂, ◌∙◌}
use Prim.Native.Nat.{ℕ}
use mathlib.Core.List.{List, ◌++◌}
use lib.ListN.{length}
use Rattle.stack.proofs.Reversed.{high_8}
use Rattle.state_bytes.proofs.States.{both_halves}
use Rattle.state_bytes.proofs.put_stack.Goals as goal

pub returns : goal.returns
returns c =
    let x = c.put_eight in
    let y = c.put_eight-2 in
    both_halves c.args.bytes.now x.new.out y.new.out c.requires (ap length x.ensures)
    ∙ ap₂ (λ (k l : List ℕ). k ++ l)
    (x.ensures ∙ c.reversed_8.ensures ∙ high_8 _)
    (y.ensures ∙ c.reversed_8-2.ensures ∙ high_8 _)
