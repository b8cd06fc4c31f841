-- `record_runs::step::pass_record` meets its contract: a frame that is broken stops, a whole one is worked by its kind with its payload. Assumes nothing.
use mathlib.Core.Path.{refl, sym, ap, ◌∙◌}
use Prim.Native.Nat.{◌+◌, ◌-◌}
use native.Mathlib.Nat.{add-sub_cancel_left}
use native.Mathlib.Omega.{arith}
use lib.ListN.{drop, length-drop}
use lib.Seq.{length-take-le}
use Rattle.terms.specs.Limits.{most_payload}
use Rattle.terms.specs.Kind.{kind_named}
use Rattle.record_runs.proofs.Heads.{fits}
use Rattle.record_runs.proofs.Turning.{framed, broken}
use Rattle.record_runs.proofs.step.pass_record.Goals as goal

pub bounds-rest-2 : goal.bounds-rest-2
bounds-rest-2 c = let f = fits most_payload c.args.rest.now c.in-Ok.n (sym c.in-Ok.ensures) in omega (arith, f.there)

pub bounds-rest-3 : goal.bounds-rest-3
bounds-rest-3 c = let f = fits most_payload c.args.rest.now c.in-Ok.n (sym c.in-Ok.ensures) in omega (arith, f.there)

pub slice_bounds-pass_kind-end : goal.slice_bounds-pass_kind-end
slice_bounds-pass_kind-end c = let f = fits most_payload c.args.rest.now c.in-Ok.n (sym c.in-Ok.ensures) in omega (arith, f.there)

pub pass_kind-requires : goal.pass_kind-requires
pass_kind-requires c =
    let n = c.in-Ok.n in
    let f = fits most_payload c.args.rest.now c.in-Ok.n (sym c.in-Ok.ensures) in
    let l = c.args.rest.now in
    let e = length-take-le (4 + n - 4) (drop 4 l) (omega (arith, f.there, length-drop 4 l)) in
    (c.requires.0, omega (arith, e, f.small), c.requires.2)

pub returns-in-Ok : goal.returns-in-Ok
returns-in-Ok c =
    let a = c.args in
    let l = a.rest.now in
    let n = c.in-Ok.n in
    let w = c.pass_kind in
    let f = fits most_payload c.args.rest.now c.in-Ok.n (sym c.in-Ok.ensures) in
    let kind = c.from-kind.ensures ∙ ap kind_named c.two.ensures in
    framed l n _ f.there kind (sym c.in-Ok.ensures) (rw (add-sub_cancel_left 4 n) at w.ensures)

pub returns-in-Err : goal.returns-in-Err
returns-in-Err c =
    broken _ _ (sym c.in-Err.ensures) c.stop.ensures refl
