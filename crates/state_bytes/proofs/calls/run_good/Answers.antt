-- `state_bytes::calls::run_good` meets its contract: the run on the card that was read, the state and the report written. Assumes nothing.
use mathlib.Core.Path.{sym, subst}
use Prim.Native.Nat.{◌<◌}
use native.Mathlib.Omega.{arith}
use lib.ListN.{length}
use Rattle.chip.specs.State.{State}
use Rattle.chip.specs.Step.{given}
use Rattle.error_memory.specs.Held.{card_under}
use Rattle.record_runs.proofs.Ready.{run_small}
use Rattle.state_bytes.proofs.States.{state_sized, state_ready}
use Rattle.state_bytes.proofs.calls.run_good.Goals as goal

pub card_in-requires : goal.card_in-requires
card_in-requires c = state_sized c.args.state.now c.requires.0

pub run_all-r-requires : goal.run_all-r-requires
run_all-r-requires c =
    (subst (λ (s : State). s.status < 128) (sym c.card_in.ensures.0) (state_ready c.args.state.now c.requires.0), c.requires.2)

pub settle-requires : goal.settle-requires
settle-requires c =
    let a = c.args in
    let start = card_under (given a.mode a.rule) c.card_in.result in (
      state_sized a.state.now c.requires.0,
      c.requires.1,
      omega (arith, c.run_all-r.ensures.refusal_is, run_small start a.input.now (length a.replies.now)),
    )
