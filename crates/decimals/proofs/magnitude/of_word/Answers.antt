-- `decimals::magnitude::of_word` moves the mantissa up within 64 bits, from the last of four places below its own. Assumes nothing.
use native.Mathlib.Omega.{arith}
use Rattle.decimals.proofs.Parts.{raised, unraised}
use Rattle.decimals.proofs.magnitude.of_word.Goals as goal

pub returns-then-b-lt40 : goal.returns-then-b-lt40
returns-then-b-lt40 c =
    let b = c.biased_of-b in
    let m = c.mantissa_of-m in (
      unraised c.args.word m.result b.result _ m.ensures.0 b.ensures.0 m.ensures.1 (omega arith)
          c.at_zero.ensures.0,
      c.at_zero.ensures.1,
    )

pub returns-then-b-lt80 : goal.returns-then-b-lt80
returns-then-b-lt80 c =
    let b = c.biased_of-b in
    let m = c.mantissa_of-m in
    (raised c.args.word m.result b.result 40 _ m.ensures.0 b.ensures.0 m.ensures.1 (omega arith) (omega arith) c.at_forty.ensures.0, c.at_forty.ensures.1)

pub returns-then-b-lt88 : goal.returns-then-b-lt88
returns-then-b-lt88 c =
    let b = c.biased_of-b in
    let m = c.mantissa_of-m in
    (raised c.args.word m.result b.result 80 _ m.ensures.0 b.ensures.0 m.ensures.1 (omega arith) (omega arith) c.at_eighty.ensures.0, c.at_eighty.ensures.1)

pub returns : goal.returns
returns c =
    let b = c.biased_of-b in
    let m = c.mantissa_of-m in
    (raised c.args.word m.result b.result 88 _ m.ensures.0 b.ensures.0 m.ensures.1 (omega arith) (omega arith) c.at_one.ensures.0, c.at_one.ensures.1)
