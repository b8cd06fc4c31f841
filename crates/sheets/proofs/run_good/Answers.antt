-- `sheets::run_good` meets its contract: the run on the card that was read and on the sheets where they lie, the state and the report written. Assumes nothing.
use mathlib.Core.Path.{sym, subst}
use Prim.Native.Nat.{◌<◌}
use native.Mathlib.Omega.{arith}
use lib.ListN.{length}
use Rattle.chip.specs.State.{State}
use Rattle.chip.specs.Step.{given}
use Rattle.error_memory.specs.Held.{card_under}
use Rattle.state_bytes.proofs.States.{state_sized, state_ready}
use Rattle.sheets.specs.Step.{holding}
use Rattle.sheets.proofs.Calling.{run_small}
use Rattle.sheets.proofs.run_good.Goals as goal

pub card_in-requires : goal.card_in-requires
card_in-requires c = state_sized c.args.state.now c.requires.0

pub run_lines-r-requires : goal.run_lines-r-requires
run_lines-r-requires c = (
  subst (λ (s : State). s.status < 128) (sym c.card_in.ensures.0) (state_ready c.args.state.now c.requires.0),
  c.requires.1,
  c.requires.3,
)

pub settle-requires : goal.settle-requires
settle-requires c =
    let a = c.args in
    let start = card_under (given a.mode a.rule) c.card_in.result in (
      state_sized a.state.now c.requires.0,
      c.requires.2,
      omega (arith, c.run_lines-r.ensures.refusal_is, run_small (holding start a.sheets.now) a.input.now (length a.replies.now)),
    )
