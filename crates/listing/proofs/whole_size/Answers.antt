-- `listing::whole_size` makes the tests of a whole reply: the first by itself, the others joined. Assumes nothing.
use mathlib.Core.Path.{◌≡◌, sym, ap, ◌∙◌}
use mathlib.Core.Bool.{Bool, cond, ◌||◌}
use Prim.Native.Nat.{ℕ, ◌+◌, ◌/◌, ◌%◌, ◌≤◌, ◌<◌}
use native.Mathlib.Omega.{arith}
use lib.Dec.{ltb}
use mathlib.Core.List.{List}
use Rattle.numbers.specs.Little.{four_at}
use lib.ListN.{length, get_or}
use Rattle.listing.specs.Listing.{whole_size}
use Rattle.listing.proofs.Replies.{size_of, kind_of_lem, too_short, sized_by}
use Rattle.listing.proofs.whole_size.Goals as goal

-- what the first four bytes tell, by the tests
by_tests : (l : List ℕ) {head : ℕ} → ((i : ℕ) → get_or l i 0 < 256) → head ≡ four_at l 0 → 5 ≤ length l
    → let size = 2 + head % 65536 in cond ((ltb size 5 || ltb (length l) size) || ltb (head / 65536) 128) 0 size ≡ whole_size l
by_tests l bytes e h = sized_by l _ _ h (size_of l bytes e) (kind_of_lem l bytes e)

pub returns-then-rest-lt5 : goal.returns-then-rest-lt5
returns-then-rest-lt5 c = too_short c.args.rest.now (omega arith)

pub returns-then-size-rest : goal.returns-then-size-rest
returns-then-size-rest c =
    let size = 2 + c.four_at-head.result % 65536 in
    sym (ap (λ (b : Bool). cond b 0 size) c.if-size-rest.true)
    ∙ by_tests c.args.rest.now (λ i. omega (arith, c.type_inv.rest i)) c.four_at-head.ensures (omega arith)

pub returns : goal.returns
returns c =
    let size = 2 + c.four_at-head.result % 65536 in
    sym (ap (λ (b : Bool). cond b 0 size) c.if-size-rest.false)
    ∙ by_tests c.args.rest.now (λ i. omega (arith, c.type_inv.rest i)) c.four_at-head.ensures (omega arith)
