-- `record_runs::head::read_frame` meets its contract: at each return the tests that led there say which case of `frame_under` holds. Assumes nothing.
use mathlib.Core.Path.{sym}
use mathlib.Core.Logic.{⊎_elim}
use Prim.Native.Nat.{◌≤◌}
use native.Mathlib.Omega.{arith}
use lib.Dec.{ltb}
use borrow.Author.Tests.{ltb-true, ltb-false}
use Rattle.terms.specs.Limits.{most_payload, least_length, most_length}
use Rattle.record_files.proofs.Tests.{either, neither}
use Rattle.record_runs.proofs.Heads.{short, low, high, cut, whole}
use Rattle.record_runs.proofs.head.read_frame.Goals as goal

pub returns-then-size-at : goal.returns-then-size-at
returns-then-size-at c = sym (short most_payload c.args.rest.now (omega (arith, c.requires.0)))

pub returns-then-n : goal.returns-then-n
returns-then-n c =
    let l = c.args.rest.now in
    let n = c.two-n.result in
    ⊎_elim (λ x. sym (low most_payload l (omega (arith, c.requires.0)) (omega (arith, ltb-true n least_length x))))
    (λ y. let h = ltb-true most_length n y in sym (high most_payload l (omega (arith, c.requires.0)) (omega arith) (omega arith)))
    (either (ltb n least_length) (ltb most_length n) c.if-n.true)

pub returns-then-size-at-2 : goal.returns-then-size-at-2
returns-then-size-at-2 c =
    let ranged : (let n = c.two-n.result in (least_length ≤ n) × (n ≤ most_length)) = let n = c.two-n.result in
    let h = neither (ltb n least_length) (ltb most_length n) c.if-n.false in
    (ltb-false n least_length h.0, ltb-false most_length n h.1) in
    let n = ranged in
    sym (cut most_payload c.args.rest.now (omega (arith, c.requires.0)) (omega (arith, n.0))
    (omega (arith, n.1)) (omega (arith, c.requires.0, c.if-size-at-2.true)))

pub returns : goal.returns
returns c =
    let ranged : (let n = c.two-n.result in (least_length ≤ n) × (n ≤ most_length)) = let n = c.two-n.result in
    let h = neither (ltb n least_length) (ltb most_length n) c.if-n.false in
    (ltb-false n least_length h.0, ltb-false most_length n h.1) in
    let n = ranged in
    rw c.two-n.ensures
    (sym (whole most_payload c.args.rest.now (omega (arith, c.requires.0)) (omega (arith, n.0))
    (omega (arith, n.1)) (omega (arith, c.requires.0, c.if-size-at-2.false))))
