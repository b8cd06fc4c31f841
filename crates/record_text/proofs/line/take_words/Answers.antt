-- `record_text::line::take_words` takes one word after another: taking on leads to the payload. Assumes nothing.
use mathlib.Core.Path.{◌≡◌, ap, ◌∙◌}
use mathlib.Core.List.{◌∷◌}
use Prim.Native.Nat.{◌^◌, ◌<◌}
use native.Mathlib.Omega.{arith}
use borrow.Author.Rules.{rules}
use lib.ListN.{take}
use Rattle.record_text.specs.Line.{put}
use Rattle.record_text.specs.Words.{word, words_at, between}
use Rattle.record_text.proofs.Taking.{no_word, a_word, gather_starts, gathered, no_more, goes_wrong, gathers}
use Rattle.record_text.proofs.line.take_words.Goals as goal

pub loop-more-init : goal.loop-more-init
loop-more-init c =
    let a = c.args in
    gather_starts a.rule a.form a.kind a.many a.line.now a.from a.payload.now c.requires.0 c.requires.1

pub returns-then-begin-end : goal.returns-then-begin-end
returns-then-begin-end c =
    let l = c.loop-more in
    let a = c.args in
    let w = c.next_word-s in (
      no_more a.rule a.form a.kind a.many a.line.now a.from _ _ _ _ _ l.invariant c.loop-more-test.true
          (no_word a.line.now l.at w.result w.ensures c.if-begin-end.true),
      (l.invariant.few, l.invariant.within),
    )

pub put_value-got-requires : goal.put_value-got-requires
put_value-got-requires c =
    let l = c.loop-more in
    let w = c.next_word-s.ensures in
    let begin : c.next_word-s.result.from < 2 ^ 63 = search rules in
    (omega (arith, l.invariant.room), l.invariant.few, c.value_of-value.ensures.1, begin)

pub returns-in-Wrong : goal.returns-in-Wrong
returns-in-Wrong c =
    let l = c.loop-more in
    let line = c.args.line.now in
    let s = c.next_word-s.result in
    -- the word that was found, and what its value was put as
    let word_is : words_at l.at line ≡ word s.from (between s.from s.to line) ∷ words_at s.to line =
    a_word line l.at s c.next_word-s.ensures c.if-begin-end.false in
    let put_is = c.in-Wrong.ensures.0 ∙ ap (put (take l.count l.payload) s.from) c.value_of-value.ensures.0 in
    (goes_wrong _ _ _ _ _ _ _ _ _ _ _ l.invariant _ _ c.loop-more-test.true word_is _ _ put_is, tt)

pub loop-more-preserved : goal.loop-more-preserved
loop-more-preserved c =
    let l = c.loop-more in
    let line = c.args.line.now in
    let s = c.next_word-s.result in
    let word_is : words_at l.at line ≡ word s.from (between s.from s.to line) ∷ words_at s.to line =
    a_word line l.at s c.next_word-s.ensures c.if-begin-end.false in
    let put_is = c.in-Added.ensures.0 ∙ ap (put (take l.count l.payload) s.from) c.value_of-value.ensures.0 in
    gathers _ _ _ _ _ _ _ _ _ _ _ l.invariant _ _ c.loop-more-test.true word_is c.put_value-got.new.payload _ put_is
    c.in-Added.ensures.1 c.next_word-s.ensures.within (search rules)

pub returns : goal.returns
returns c =
    let l = c.loop-more in
    let a = c.args in
    (gathered a.rule a.form a.kind a.many a.line.now a.from _ _ _ _ _ l.invariant c.loop-more-test.false, (l.invariant.few, l.invariant.within))
