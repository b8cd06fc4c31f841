-- `record_text::told::add_command` adds the name and `sr`, or `command` and the code where there is no name. Assumes nothing.
use Prim.Native.Nat.{◌%◌}
use native.Mathlib.Omega.{arith}
use Rattle.record_text.specs.Names.{name_of}
use Rattle.listing.proofs.Adding.{both}
use Rattle.listing.proofs.Adding.{told_as}
use Rattle.record_text.proofs.Telling.{by_code, by_name, no_letters, some_letters}
use Rattle.record_text.proofs.told.add_command.Goals as goal

pub returns-then-size-eq0-clause-adds : goal.returns-then-size-eq0-clause-adds
returns-then-size-eq0-clause-adds c =
    told_as (by_code c.args.code (no_letters _ _ _ c.name_of-name.ensures.reads c.if-size-eq0.true))
    (both c.add_kind-next.ensures.0 c.add_hex.ensures)

pub returns-clause-adds : goal.returns-clause-adds
returns-clause-adds c =
    let n = c.name_of-name.ensures in
    let code = c.args.code in
    let name = c.name_of-name.result in
    let some = some_letters name.text (name_of (code % 128)) name.size n.reads (omega (arith, n.few, n.room)) c.if-size-eq0.false in
    told_as (by_name code some) (both (told_as n.reads c.add-next.ensures) c.add_sr.ensures.0)
