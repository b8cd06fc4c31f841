-- `formula::postfix::records` meets its contract: a token a turn. Assumes nothing.
use mathlib.Core.Path.{refl, ◌∙◌, ap}
use Prim.Native.Nat.{◌+◌}
use native.Mathlib.Omega.{arith}
use lib.ListN.{length, drop, get_or, length-drop}
use lib.Seq.{length-take-le}
use Rattle.formula.specs.Grammar.{are_digits}
use Rattle.formula.specs.File.{constant_word}
use Rattle.formula.specs.declared.postfix.Written.{Written}
use Rattle.formula.proofs.Places.{lowered_le}
use Rattle.formula.proofs.Reading.{eight}
use Rattle.formula.proofs.Walking.{digits_at, letter_at, command_on, digits_on, letter_on, walked_all}
use Rattle.formula.proofs.postfix.records.Goals as goal

pub loop-i-init : goal.loop-i-init
loop-i-init c =
    record {
      inside = omega arith;
      same = refl;
      few = omega arith;
      low = omega arith;
      walks = λ ts S. record { left = ts; spelling_is = S.spelling_is; good = S.good; walked_is = refl; stored_is = refl };
    }

pub commanded-w-requires : goal.commanded-w-requires
commanded-w-requires c = omega (arith, c.loop-i.invariant.few, c.loop-i.invariant.inside, c.requires.1)

pub overflow_add-i : goal.overflow_add-i
overflow_add-i c = omega arith

pub loop-i-smaller-then-b-lt32 : goal.loop-i-smaller-then-b-lt32
loop-i-smaller-then-b-lt32 c = omega arith

pub loop-i-preserved-then-b-lt32 : goal.loop-i-preserved-then-b-lt32
loop-i-preserved-then-b-lt32 c =
    let G = c.loop-i.invariant in
    let e = c.commanded-w.ensures.0 in
    let h = c.loop-i-test.true in
    record {
      inside = omega arith;
      same = c.commanded-w.auto.out ∙ G.same;
      few = omega (arith, G.few, ap (λ (x : Written). x.end) e);
      low = omega (
        arith,
        G.low,
        ap (λ (x : Written). x.height) e,
        lowered_le
            (get_or c.args.bytes.now
            c.loop-i.i 0)
            c.loop-i.w.height,
      );
      walks = λ ts S. command_on h (G.walks ts S) c.if-b-lt32.true e c.commanded-w.ensures.1;
    }

pub overflow_add-first : goal.overflow_add-first
overflow_add-first c = omega arith

pub overflow_add-next : goal.overflow_add-next
overflow_add-next c = omega arith

pub slice_bounds-hex_word-count : goal.slice_bounds-hex_word-count
slice_bounds-hex_word-count c = omega arith

pub slice_bounds-hex_word-end : goal.slice_bounds-hex_word-end
slice_bounds-hex_word-end c = let D = digits_at c.loop-i-test.true (c.loop-i.invariant.walks c.requires.0.0 c.requires.0.1) c.if-b-eq35.true in omega (arith, D.0)

pub hex_word-requires : goal.hex_word-requires
hex_word-requires c =
    let l = c.loop-i in
    let D = digits_at c.loop-i-test.true (l.invariant.walks c.requires.0.0 c.requires.0.1)
    c.if-b-eq35.true in
    let t = c.args.bytes.now in
    let n = length-drop (l.i + 1) t in
    (ap length (eight t l.i) ∙ length-take-le 8 (drop (l.i + 1) t) (omega (arith, D.0)), ap are_digits (eight t l.i) ∙ D.1)

pub pushed-w-requires : goal.pushed-w-requires
pushed-w-requires c = let G = c.loop-i.invariant in (omega (arith, G.few, G.inside, c.requires.1), omega (arith, G.low, G.inside, c.requires.1))

pub loop-i-smaller-then-b-eq35 : goal.loop-i-smaller-then-b-eq35
loop-i-smaller-then-b-eq35 c = omega arith

pub loop-i-preserved-then-b-eq35 : goal.loop-i-preserved-then-b-eq35
loop-i-preserved-then-b-eq35 c =
    let l = c.loop-i in
    let G = l.invariant in
    let e = c.pushed-w.ensures.0 in
    let h = c.loop-i-test.true in
    let D = digits_at h (G.walks c.requires.0.0 c.requires.0.1) c.if-b-eq35.true in
    record {
      inside = D.0;
      same = c.pushed-w.auto.out ∙ G.same;
      few = omega (arith, G.few, ap (λ (x : Written). x.end) e);
      low = omega (arith, G.low, ap (λ (x : Written). x.height) e);
      walks = λ ts T. digits_on h (G.walks ts T) _ c.if-b-eq35.true (c.hex_word.ensures ∙ ap constant_word (eight c.args.bytes.now l.i)) e c.pushed-w.ensures.1;
    }

pub overflow_sub-b : goal.overflow_sub-b
overflow_sub-b c = (letter_at c.loop-i-test.true (c.loop-i.invariant.walks c.requires.0.0 c.requires.0.1) c.if-b-lt32.false c.if-b-eq35.false).0

pub overflow_cast-b : goal.overflow_cast-b
overflow_cast-b c = let R = letter_at c.loop-i-test.true (c.loop-i.invariant.walks c.requires.0.0 c.requires.0.1) c.if-b-lt32.false c.if-b-eq35.false in omega (arith, R.1)

pub letter_word-requires : goal.letter_word-requires
letter_word-requires c = (c.requires.2, (letter_at c.loop-i-test.true (c.loop-i.invariant.walks c.requires.0.0 c.requires.0.1) c.if-b-lt32.false c.if-b-eq35.false).1)

pub pushed-w-requires-else-b-eq35 : goal.pushed-w-requires-else-b-eq35
pushed-w-requires-else-b-eq35 c = let G = c.loop-i.invariant in (omega (arith, G.few, G.inside, c.requires.1), omega (arith, G.low, G.inside, c.requires.1))

pub overflow_add-i-else-b-eq35 : goal.overflow_add-i-else-b-eq35
overflow_add-i-else-b-eq35 c = omega arith

pub loop-i-smaller : goal.loop-i-smaller
loop-i-smaller c = omega arith

pub loop-i-preserved : goal.loop-i-preserved
loop-i-preserved c =
    let G = c.loop-i.invariant in
    let e = c.pushed-w-else-b-eq35.ensures.0 in
    let h = c.loop-i-test.true in
    record {
      inside = omega arith;
      same = c.pushed-w-else-b-eq35.auto.out ∙ G.same;
      few = omega (arith, G.few, ap (λ (x : Written). x.end) e);
      low = omega (arith, G.low, ap (λ (x : Written). x.height) e);
      walks = λ ts T. letter_on h (G.walks ts T) _ c.if-b-lt32.false c.if-b-eq35.false c.letter_word.ensures e c.pushed-w-else-b-eq35.ensures.1;
    }

pub returns : goal.returns
returns c = λ ts S. walked_all c.loop-i-test.false (c.loop-i.invariant.walks ts S)
