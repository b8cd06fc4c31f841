-- `listing::add_listing` adds the lines of the replies, and then the last line. Assumes nothing.
use Prim.Native.Nat.{ℕ, ◌+◌, ◌*◌, ◌≤◌}
use native.Mathlib.Omega.{arith}
use lib.ListN.{length}
use Rattle.listing.specs.Listing.{text_room, end_of}
use Rattle.listing.proofs.Decimal.{at_most}
use Rattle.listing.proofs.Lines.{end_length}
use Rattle.listing.proofs.add_listing.Goals as goal

-- the lines leave room for the last one
end_fits : {n place : ℕ} (refusal taken : ℕ) → n ≤ 65536 → place ≤ 4 * n → place + length (end_of refusal taken) ≤ text_room
end_fits refusal taken h k = omega (arith, h, k, end_length refusal taken, at_most 20 refusal, at_most 20 taken)

pub add_end-requires : goal.add_end-requires
add_end-requires c =
    omega (arith, c.requires.1, end_fits c.args.refusal c.args.taken c.requires.0 c.add_lines-place.ensures.upper_bound)

pub returns-clause-upper_bound : goal.returns-clause-upper_bound
returns-clause-upper_bound c =
    omega (arith, c.add_end.ensures.moved, end_fits c.args.refusal c.args.taken c.requires.0 c.add_lines-place.ensures.upper_bound)
