-- `record_text::names::is_name` is the test against the letters of the name. Assumes nothing.
use mathlib.Core.Path.{ap, ◌∙◌}
use mathlib.Core.List.{List}
use Prim.Native.Nat.{ℕ}
use Rattle.record_text.specs.Letters.{same}
use Rattle.record_text.proofs.Same.{is_same}
use Rattle.record_text.proofs.names.is_name.Goals as goal

pub returns : goal.returns
returns c =
    let text = c.args.text.now in
    is_same c.same.result text _ c.same.ensures.0 c.same.ensures.1 ∙ ap (λ (name : List ℕ). same name text) c.name_of-name.ensures.reads
