-- `listing::add_lines` adds a line for each reply: so far they are the lines of the replies passed. Assumes nothing.
use Prim.Native.Nat.{◌-◌}
use lib.ListN.{length}
use Rattle.listing.proofs.Listed.{Going}
use Rattle.listing.proofs.add_lines.Given as goal

abbrev pub invariant-loop-at : goal.invariant-loop-at
invariant-loop-at l = Going l.replies l.initial.out l.out l.place l.number l.at

abbrev pub decreases-loop-at : goal.decreases-loop-at
decreases-loop-at l = length l.replies - l.at
