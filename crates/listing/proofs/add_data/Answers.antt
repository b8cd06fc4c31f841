-- `listing::add_data` adds the text of one byte after the other: so far it is the text of the bytes passed. Assumes nothing.
use borrow.Author.Rules.{rules}
use mathlib.Core.Path.{refl}
use native.Mathlib.Omega.{arith}
use lib.Seq.{take_all}
use Rattle.listing.proofs.Adding.{nothing, both}
use Rattle.listing.proofs.Lines.{data_next, data_room}
use Rattle.listing.proofs.add_data.Goals as goal

pub loop-i-init : goal.loop-i-init
loop-i-init c = (search rules, refl, nothing c.args.out.now c.args.place)

pub add_hex-next-requires : goal.add_hex-next-requires
add_hex-next-requires c =
    let l = c.loop-i in
    data_room c.args.bytes.now l.i c.args.place l.next (omega arith) l.invariant.2 l.invariant.1 c.requires

pub loop-i-preserved : goal.loop-i-preserved
loop-i-preserved c =
    let l = c.loop-i in
    (search rules, search rules, rw (data_next c.args.bytes.now l.i (omega arith)) (both l.invariant.2 c.add_hex-next.ensures))

pub returns : goal.returns
returns c = rw (← take_all c.loop-i.i c.args.bytes.now (omega arith)) c.loop-i.invariant.2
