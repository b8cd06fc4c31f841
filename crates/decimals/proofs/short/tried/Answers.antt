-- `decimals::short::tried` brings the decimal back. Assumes nothing.
use mathlib.Core.Path.{◌≡◌, sym, ap, ◌∙◌}
use mathlib.Core.Bool.{Bool}
use Prim.Native.Nat.{◌+◌, ◌*◌, ◌^◌}
use Rattle.decimals.specs.Bring.{bring_of}
use Rattle.decimals.specs.Short.{gives_word, gives_of}
use Rattle.decimals.proofs.Shortest.{try_yes, try_no}
use Rattle.decimals.proofs.short.tried.Goals as goal

pub returns-then-is_word : goal.returns-then-is_word
returns-then-is_word c =
    let a = c.args in
    -- what the test says
    let gives : c.is_word.result ≡ gives_of a.rule a.word (a.whole * 10 ^ a.places + a.fraction) a.places =
    c.is_word.ensures
    ∙ ap (gives_word a.word) (c.bring.ensures ∙ ap (λ (s : Bool). bring_of a.rule s (a.whole * 10 ^ a.places + a.fraction) a.places)
    c.is_negative.ensures) in
    (try_yes a.rule a.word a.whole a.fraction a.places c.requires.1 (sym gives ∙ c.if-is_word.true), c.requires)

pub returns : goal.returns
returns c =
    let a = c.args in
    let gives : c.is_word.result ≡ gives_of a.rule a.word (a.whole * 10 ^ a.places + a.fraction) a.places =
    c.is_word.ensures
    ∙ ap (gives_word a.word) (c.bring.ensures ∙ ap (λ (s : Bool). bring_of a.rule s (a.whole * 10 ^ a.places + a.fraction) a.places)
    c.is_negative.ensures) in
    (try_no a.rule a.word a.whole a.fraction a.places (sym gives ∙ c.if-is_word.false), tt)
