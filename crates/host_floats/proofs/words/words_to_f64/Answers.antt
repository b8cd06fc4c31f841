-- `host_floats::words::words_to_f64` meets its contract: its tests are the definition's, in the same order, and nothing is written before all are passed.
-- Assumes nothing.
use Rattle.host_floats.proofs.Answers.{part_words, no_room_words, bad_word, words_written}
use Rattle.host_floats.proofs.words.words_to_f64.Goals as goal

pub returns-then-words-ne0 : goal.returns-then-words-ne0
returns-then-words-ne0 c =
    let a = c.args in
    part_words a.words.now a.out.now _ c.if-words-ne0.true c.away.ensures

pub returns-then-out-words : goal.returns-then-out-words
returns-then-out-words c =
    let a = c.args in
    no_room_words a.words.now a.out.now _ c.if-words-ne0.false c.if-out-words.true c.away-then-out-words.ensures

pub returns-then-refusal-eq0 : goal.returns-then-refusal-eq0
returns-then-refusal-eq0 c =
    let a = c.args in
    words_written a.words.now a.out.now c.look-reply.result c.if-words-ne0.false c.if-out-words.false c.look-reply.ensures _ c.if-refusal-eq0.true
    c.write.ensures

pub returns-else-refusal-eq0 : goal.returns-else-refusal-eq0
returns-else-refusal-eq0 c =
    let a = c.args in
    bad_word a.words.now a.out.now c.look-reply.result c.if-words-ne0.false c.if-out-words.false c.look-reply.ensures c.if-refusal-eq0.false
