-- `record_text::trace::add_after` adds the state that the run leaves, or nothing where it is stopped. Assumes nothing.
use mathlib.Core.Path.{◌≡◌}
use native.Mathlib.Omega.{arith}
use borrow.Author.Rules.{rules}
use lib.ListN.{length}
use Rattle.listing.proofs.Adding.{both}
use Rattle.listing.proofs.Decimal.{at_most}
use Rattle.listing.proofs.Lines.{data_length}
use Rattle.record_text.proofs.Tracing.{state_short}
use Rattle.record_text.proofs.trace.add_after.Goals as goal

pub add_decimal-a-requires : goal.add_decimal-a-requires
add_decimal-a-requires c =
    omega (arith, c.requires, at_most 20 c.args.number)

pub add_data-b-requires : goal.add_data-b-requires
add_data-b-requires c =
    let state = c.run-refusal.new.state in
    let long : length state ≡ 21 = search rules in
    omega (arith, c.requires, c.add_decimal-a.ensures.moved, at_most 20 c.args.number, data_length state)

pub add-requires : goal.add-requires
add-requires c =
    let state = c.run-refusal.new.state in
    let long : length state ≡ 21 = search rules in
    omega (arith, c.requires, c.add_decimal-a.ensures.moved, c.add_data-b.ensures.moved, at_most 20 c.args.number, data_length state)

pub returns-clause-upper_bound : goal.returns-clause-upper_bound
returns-clause-upper_bound c =
    let state = c.run-refusal.new.state in
    let long : length state ≡ 21 = search rules in
    let line = both c.add_decimal-a.ensures (both c.add_data-b.ensures c.add.ensures) in
    omega (arith, line.moved, state_short c.args.number state (omega arith))
