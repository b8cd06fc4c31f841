-- `listing::text::add` copies the text to its place: the loop's invariant is the copy so far. Assumes nothing.
use mathlib.Core.Path.{◌≡◌, refl, ◌∙◌}
use Prim.Native.Nat.{◌+◌}
use native.Mathlib.Omega.{arith}
use native.Mathlib.Numerals.{add-one}
use borrow.Author.Rules.{rules}
use lib.ListN.{length, get_or, length-set}
use lib.Seq.{paste-zero, paste-suc}
use Rattle.listing.proofs.Adding.{copied}
use Rattle.listing.proofs.text.add.Goals as goal

pub loop-i-init : goal.loop-i-init
loop-i-init c = (search rules, paste-zero c.args.out.now c.args.place c.args.text.now, refl)

pub loop-i-preserved : goal.loop-i-preserved
loop-i-preserved c =
    let a = c.args in
    let l = c.loop-i in (
      search rules,
      rw (l.invariant.1, add-one l.i) (paste-suc a.out.now a.place a.text.now l.i 0 (omega arith) (omega arith)),
      length-set l.out (a.place + l.i) (get_or a.text.now l.i 0) ∙ l.invariant.2,
    )

pub returns : goal.returns
returns c =
    let a = c.args in
    let l = c.loop-i in
    let e : l.i ≡ length a.text.now = omega arith in
    rw (l.invariant.1, e) (copied a.text.now a.out.now a.place c.requires)
