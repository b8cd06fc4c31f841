-- `pundaliket::send` meets its contract: a slice of another length, a refusal, or the bits sent. Assumes nothing.
use Rattle.pundaliket.proofs.Calling.{no_slice, no_value, a_value}
use Rattle.pundaliket.proofs.send.Goals as goal

pub returns-then-out-ne-WORD_BYTES : goal.returns-then-out-ne-WORD_BYTES
returns-then-out-ne-WORD_BYTES c = no_slice c.args.reply c.args.out.now c.if-out-ne-WORD_BYTES.true c.number.result
    c.number.ensures.0

pub returns-then-code-ne0 : goal.returns-then-code-ne0
returns-then-code-ne0 c =
    let a = c.args in
    let n = c.number-code in
    no_value a.reply a.out.now c.if-out-ne-WORD_BYTES.false n.result n.ensures.0 c.if-code-ne0.true

pub returns : goal.returns
returns c =
    let a = c.args in
    let n = c.number-code in
    a_value a.reply a.out.now c.if-out-ne-WORD_BYTES.false n.result n.ensures.0
    c.if-code-ne0.false _ c.put_word.ensures
