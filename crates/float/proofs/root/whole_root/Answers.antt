-- `float::root::whole_root` meets its contract: a mean is never below the root, and where it does not fall the last one is the root. Assumes nothing.
use lib.Dec.{lit<}
use Rattle.float.proofs.root.whole_root.Goals as goal

pub mean-s-requires : goal.mean-s-requires
mean-s-requires c = (lit< tt, lit< tt, c.requires.0, c.requires.1)

pub mean-t-requires : goal.mean-t-requires
mean-t-requires c = (c.mean-s.ensures.1, c.mean-s.ensures.2, c.requires.0, c.requires.1)

pub loop-t-init : goal.loop-t-init
loop-t-init c = record { above = c.mean-s.ensures.0.above; next = c.mean-t.ensures.0; some = c.mean-t.ensures.1; few = c.mean-t.ensures.2 }

pub mean-t-requires-in-loop-t : goal.mean-t-requires-in-loop-t
mean-t-requires-in-loop-t c =
    let l = c.loop-t.invariant in
    let p = c.requires in
    (l.some, l.few, p.0, p.1)

pub loop-t-smaller : goal.loop-t-smaller
loop-t-smaller c = c.loop-t-test.true

pub loop-t-preserved : goal.loop-t-preserved
loop-t-preserved c = record {
  above = c.loop-t.invariant.next.above;
  next = c.mean-t-in-loop-t.ensures.0;
  some = c.mean-t-in-loop-t.ensures.1;
  few = c.mean-t-in-loop-t.ensures.2;
}

pub returns : goal.returns
returns c = let l = c.loop-t.invariant in (l.next.last c.loop-t-test.false, l.above)
