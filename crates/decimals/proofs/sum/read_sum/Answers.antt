-- `decimals::sum::read_sum` looks at the length and the sign, and reads. Assumes nothing.
use mathlib.Core.Path.{sym, ap, ◌∙◌}
use mathlib.Core.Bool.{not}
use Rattle.listing.proofs.Listed.{all_rest}
use Rattle.decimals.proofs.SumReading.{another, no_sign, unread, read}
use Rattle.decimals.proofs.sum.read_sum.Goals as goal

pub returns-then-text : goal.returns-then-text
returns-then-text c = another c.args.text.now c.if-text.true

pub returns-then-not-is_sign : goal.returns-then-not-is_sign
returns-then-not-is_sign c = no_sign c.args.text.now c.if-text.false (sym c.is_sign.ensures ∙ c.if-not-is_sign.true)

pub returns-then-not-read_bytes : goal.returns-then-not-read_bytes
returns-then-not-read_bytes c =
    let found = c.read_bytes in
    let text = c.args.text.now in
    unread text found.result found.new.bytes c.if-text.false (sym c.is_sign.ensures ∙ c.if-not-is_sign.false)
    (rw (all_rest text 1) at found.ensures) (ap not c.if-not-read_bytes.true)

pub returns : goal.returns
returns c =
    let found = c.read_bytes in
    let text = c.args.text.now in (
      read text found.result found.new.bytes c.if-text.false (sym c.is_sign.ensures ∙ c.if-not-is_sign.false)
          (rw (all_rest text 1) at found.ensures) (ap not c.if-not-read_bytes.false) _ c.of_bytes.ensures.0,
      c.of_bytes.ensures.1,
    )
