-- `record_runs::run::run_all` meets its contract: after each record the run stands where the definition's does. Assumes nothing.
use mathlib.Core.Path.{refl, sym, subst}
use Prim.Native.Nat.{◌<◌}
use Rattle.stack.proofs.TwoWords.{is_stack}
use Rattle.chip.specs.Held.{state_in}
use Rattle.chip.proofs.Ready.{Ready}
use Rattle.error_memory.specs.Memory.{Card}
use Rattle.record_runs.proofs.Looping.{starts, in_input, in_replies_lem, begins, stands, stops, less, goes_on, ends}
use Rattle.record_runs.proofs.Prefix.{lawful}
use Rattle.record_runs.proofs.Ready.{calm_turn}
use Rattle.record_runs.proofs.run.run_all.Goals as goal

pub begin-place-requires : goal.begin-place-requires
begin-place-requires c = c.requires.1

pub loop-place-init : goal.loop-place-init
loop-place-init c = (_, starts lawful refl c.begin-place.ensures, c.requires.0)

pub slice_bounds-rest-count : goal.slice_bounds-rest-count
slice_bounds-rest-count c = in_input lawful c.loop-place.invariant.1

pub slice_bounds-rest-start : goal.slice_bounds-rest-start
slice_bounds-rest-start c = in_input lawful c.loop-place.invariant.1

pub slice_bounds-room-count : goal.slice_bounds-room-count
slice_bounds-room-count c = in_replies_lem lawful c.loop-place.invariant.1

pub slice_bounds-room-start : goal.slice_bounds-room-start
slice_bounds-room-start c = in_replies_lem lawful c.loop-place.invariant.1

pub pass_record-t-requires : goal.pass_record-t-requires
pass_record-t-requires c =
    let fits = c.requires.1 in
    let inv = c.loop-place.invariant in
    let test = c.loop-place-test.true in
    (inv.2, begins lawful inv.1 fits test, stands lawful inv.1 fits test)

pub returns-then-t-ne0 : goal.returns-then-t-ne0
returns-then-t-ne0 c =
    stops lawful c.loop-place.invariant.1 c.requires.1 c.loop-place-test.true c.pass_record-t.ensures c.if-t-ne0.true _ (λ e. refl)

pub loop-place-smaller : goal.loop-place-smaller
loop-place-smaller c = less lawful c.loop-place.invariant.1 c.requires.1 c.loop-place-test.true c.pass_record-t.ensures c.if-t-ne0.false

pub loop-place-preserved : goal.loop-place-preserved
loop-place-preserved c =
    let l = c.loop-place in
    let ready : Ready (state_in l.card.chip) = record { stack = is_stack l.card.chip.stack.top l.card.chip.stack.rest; ready = l.invariant.2 } in (
      _,
      goes_on lawful l.invariant.1 c.requires.1 c.loop-place-test.true c.pass_record-t.ensures c.if-t-ne0.false,
      subst (λ (x : Card). x.chip.status < 128) (sym c.pass_record-t.ensures.state_is) (calm_turn _ _ _ ready),
    )

pub returns : goal.returns
returns c = ends lawful c.loop-place.invariant.1 c.loop-place-test.false refl
