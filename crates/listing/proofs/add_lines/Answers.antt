-- `listing::add_lines` adds a line for each reply: so far they are the lines of the replies passed. Assumes nothing.
use mathlib.Core.Path.{◌≡◌, sym, ◌∙◌}
use Prim.Native.Nat.{ℕ, ◌*◌, ◌-◌, ◌≤◌, ◌<◌}
use native.Mathlib.Omega.{arith}
use borrow.Author.Rules.{rules}
use mathlib.Core.List.{List}
use lib.ListN.{length, take, drop, get_or, length-drop}
use Rattle.listing.specs.Listing.{whole_size, reply_line, Front}
use Rattle.listing.proofs.Replies.{none}
use Rattle.listing.proofs.Listed.{Going, stops, finishes, goes_on, all_rest, sized, next_short}
use Rattle.listing.proofs.add_lines.Goals as goal

-- the size that the code found, of what is left of the replies
size_is : (replies : List ℕ) (at : ℕ) {size : ℕ} → size ≡ whole_size (take (length replies - at) (drop at replies))
    → size ≡ whole_size (drop at replies)
size_is replies at e = rw (all_rest replies at) at e

-- the line of the reply that it found has room
line_fits : {replies before after : List ℕ} {place number at size : ℕ} → Going replies before after place number at
    → ((i : ℕ) → get_or replies i 0 < 256) → length replies ≤ 65536 → Front (drop at replies) size
    → length (reply_line number (drop at replies)) ≤ 4 * size
line_fits {replies} {number = number} {at = at} {size = size} g bytes few f = next_short replies number at size bytes few g.at_most g.few f

pub returns-then-size-eq0-clause-adds : goal.returns-then-size-eq0-clause-adds
returns-then-size-eq0-clause-adds c =
    let l = c.loop-at in
    let a = c.args in
    stops a.replies.now a.out.now l.out l.place l.number l.at l.invariant c.requires.1
    (none (drop l.at a.replies.now) (sym (size_is a.replies.now l.at c.whole_size-size.ensures) ∙ c.if-size-eq0.true))

pub add_reply-place-requires-clause-front : goal.add_reply-place-requires-clause-front
add_reply-place-requires-clause-front c =
    let l = c.loop-at in
    let replies = c.args.replies.now in
    rw (all_rest replies l.at) (sized (drop l.at replies) _ (size_is replies l.at c.whole_size-size.ensures) c.if-size-eq0.false).1

pub add_reply-place-requires-clause-rest_in_bounds : goal.add_reply-place-requires-clause-rest_in_bounds
add_reply-place-requires-clause-rest_in_bounds c =
    let l = c.loop-at in
    let replies = c.args.replies.now in
    let f = (sized (drop l.at replies) _ (size_is replies l.at c.whole_size-size.ensures) c.if-size-eq0.false).1 in
    let d = length-drop l.at replies in
    let fits = line_fits l.invariant (λ i. omega (arith, c.type_inv.replies i)) c.requires.0 f in
    rw (all_rest replies l.at) (omega (arith, fits, f.within))

pub loop-at-preserved : goal.loop-at-preserved
loop-at-preserved c =
    let l = c.loop-at in
    let a = c.args in
    let replies = a.replies.now in
    let f = sized (drop l.at replies) _ (size_is replies l.at c.whole_size-size.ensures) c.if-size-eq0.false in
    goes_on replies a.out.now l.out l.place l.number l.at l.invariant c.requires.1 c.add_reply-place.new.out c.add_reply-place.result
    c.whole_size-size.result f.0 f.1 (search rules) (line_fits l.invariant (λ i. omega (arith, c.type_inv.replies i)) c.requires.0 f.1)
    (rw (all_rest replies l.at) at c.add_reply-place.ensures)

pub returns-clause-adds : goal.returns-clause-adds
returns-clause-adds c =
    let l = c.loop-at in
    let a = c.args in
    finishes a.replies.now a.out.now l.out l.place l.number l.at l.invariant c.requires.1 c.loop-at-test.false
