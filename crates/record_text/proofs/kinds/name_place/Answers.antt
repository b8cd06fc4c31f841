-- `record_text::kinds::name_place` reads both ends from the table. Assumes nothing.
use Rattle.record_text.proofs.Tables.{place_of_name}
use Rattle.record_text.proofs.kinds.name_place.Goals as goal

pub returns : goal.returns
returns c =
    place_of_name c.args.kind c.four_at-ends.result c.requires.0 c.requires.1 c.four_at-ends.ensures
