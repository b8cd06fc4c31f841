-- `list_text::list` lists what the run from reset left, or that the input is too long. Assumes nothing.
use mathlib.Core.Path.{◌≡◌, refl}
use Prim.Native.Nat.{ℕ}
use native.Mathlib.Omega.{arith}
use lib.ListN.{length, replicate, length-replicate}
use Rattle.chip.specs.Step.{given}
use Rattle.error_memory.specs.Held.{card_under}
use Rattle.record_runs.specs.Held.{Work, Passed, at_start}
use Rattle.listing.specs.Listing.{reply_room}
use Rattle.listing.proofs.Adding.{told_as}
use Rattle.list_text.proofs.Printing.{idle, as_run, refusal_small, of_run}
use Rattle.list_text.specs.Printout.{run_for}
use Rattle.list_text.proofs.list.Goals as goal

room_is : length (replicate {A = ℕ} reply_room 0) ≡ reply_room
room_is = length-replicate {A = ℕ} reply_room 0

pub run_all-r-requires : goal.run_all-r-requires
run_all-r-requires c =
    let a = c.args in
    (idle c.reset_card.result (given a.mode a.rule) c.reset_card.ensures, c.if-input-gt-MOST_INPUT.false)

pub overflow_cast-r : goal.overflow_cast-r
overflow_cast-r c =
    let on = given c.args.mode c.args.rule in
    let input = c.args.input.now in
    let work : Work = record {
      place = at_start (length input) (length (replicate {A = ℕ} reply_room 0));
      card = c.reset_card.result;
      room = replicate reply_room 0;
      pass = c.run_all-r.result;
      left = c.run_all-r.new.replies;
    } in
    let ran : Passed (card_under on) (run_for on input) work = as_run on input work c.reset_card.ensures c.run_all-r.ensures room_is in
    omega (arith, refusal_small on input work ran (refl, refl))

pub returns : goal.returns
returns c =
    let on = given c.args.mode c.args.rule in
    let input = c.args.input.now in
    let work : Work = record {
      place = at_start (length input) (length (replicate {A = ℕ} reply_room 0));
      card = c.reset_card.result;
      room = replicate reply_room 0;
      pass = c.run_all-r.result;
      left = c.run_all-r.new.replies;
    } in
    let ran : Passed (card_under on) (run_for on input) work = as_run on input work c.reset_card.ensures c.run_all-r.ensures room_is in
    told_as (of_run on input work ran (refl, refl) c.if-input-gt-MOST_INPUT.false) c.add_listing-2.ensures.adds
