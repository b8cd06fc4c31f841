-- `record_text::names::name_of` lays down the letters of the table's number. Assumes nothing.
use mathlib.Core.Path.{ap, ◌∙◌}
use Prim.Native.Nat.{◌%◌, ◌<◌}
use native.Mathlib.Omega.{arith}
use lib.ListN.{length}
use Rattle.record_text.specs.Names.{name_of}
use Rattle.record_text.proofs.Tables.{key_at, letters_of}
use Rattle.record_text.proofs.names.name_of.Goals as goal

pub returns : goal.returns
unfolding name_of
returns c =
    let code = c.args.code % 128 in
    let small : code < 128 = omega arith in
    record {
      reads = letters_of code c.four_at-key.result _ _ small (c.four_at-key.ensures ∙ key_at code small) c.letters.ensures.0
          c.put_word.ensures;
      room = ap length c.put_word.ensures;
      few = c.letters.ensures.1;
    }
