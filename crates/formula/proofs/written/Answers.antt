-- `formula::written` meets its contract: three ways to be turned away, and the file. Assumes nothing.
use mathlib.Core.Path.{refl}
use borrow.Author.Tests.{not-true, not-false}
use lib.ListN.{length}
use Rattle.formula.proofs.Translating.{away, improper, too_much, no_room_lem, written}
use Rattle.formula.proofs.written.Goals as goal

pub returns-then-not-w : goal.returns-then-not-w
returns-then-not-w c =
    let a = c.args in
    let m = c.measured-w in
    λ ts S. away (improper a.letters.now (length a.file.now) ts m.result (m.ensures.1 ts S).0 (not-true m.result.proper
    c.if-not-w.true)) c.turn_away.ensures.0 c.turn_away.ensures.1

pub returns-then-w-gt-MOST_NEED : goal.returns-then-w-gt-MOST_NEED
returns-then-w-gt-MOST_NEED c =
    let a = c.args in
    let m = c.measured-w in
    λ ts S. away (too_much a.letters.now (length a.file.now) ts m.result (m.ensures.1 ts S).0 (not-false m.result.proper
    c.if-not-w.false) c.if-w-gt-MOST_NEED.true) c.turn_away-then-w-gt-MOST_NEED.ensures.0 c.turn_away-then-w-gt-MOST_NEED.ensures.1

pub returns-then-file-w : goal.returns-then-file-w
returns-then-file-w c =
    let a = c.args in
    let m = c.measured-w in
    λ ts S. away (no_room_lem a.letters.now (length a.file.now) ts m.result (m.ensures.1 ts S).0 (not-false m.result.proper
    c.if-not-w.false) c.if-w-gt-MOST_NEED.false c.if-file-w.true) c.turn_away-then-file-w.ensures.0
    c.turn_away-then-file-w.ensures.1

pub returns : goal.returns
returns c =
    let a = c.args in
    let m = c.measured-w in
    λ ts S. written a.letters.now (length a.file.now) ts m.result (m.ensures.1 ts S).0 S c.requires.1 refl (not-false m.result.proper
    c.if-not-w.false) c.if-w-gt-MOST_NEED.false
    c.if-file-w.false (c.records.ensures ts S).1
