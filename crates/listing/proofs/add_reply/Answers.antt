-- `listing::add_reply` reads kind, refusal and data of the reply and adds the parts of its line in turn. Assumes nothing.
use mathlib.Core.Path.{◌≡◌, ap}
use Prim.Native.Nat.{◌-◌, ◌<◌}
use native.Mathlib.Omega.{arith}
use lib.ListN.{length, take, drop, get_or}
use Rattle.listing.specs.Listing.{line_of, reply_line}
use Rattle.listing.proofs.Adding.{both, stored}
use Rattle.listing.proofs.Lines.{line_length}
use Rattle.listing.proofs.Listed.{as_line}
use Rattle.listing.proofs.Replies.{kind_of_lem}
use Rattle.listing.proofs.add_reply.Goals as goal

pub returns : goal.returns
returns c =
    let a = c.args in
    let l = a.rest.now in
    -- the line of what the code reads is that of the reply
    let line_is : line_of a.number c.own_kind-kind.result (get_or l 4 0) (take (a.size - 5) (drop 5 l)) ≡ reply_line a.number l =
    as_line a.number l a.size c.own_kind-kind.result _ c.requires.front.is_size c.own_kind-kind.ensures
    (kind_of_lem l (λ i. omega (arith, c.type_inv.rest i)) c.four_at.ensures) in
    -- so there is room for its newline
    let newline_fits : c.add_data-d.result < length c.add_data-d.new.out =
    omega (
      arith,
      c.requires.rest_in_bounds,
      ap length line_is,
      line_length a.number c.own_kind-kind.result (get_or l 4 0) (take (a.size - 5) (drop 5 l)),
    ) in
    rw line_is at (both c.add_decimal-a.ensures (both c.add_field-b.ensures (both c.add_field-c.ensures (both c.add_data-d.ensures
    (stored 10 _ _ newline_fits)))))
