-- `formula::parts::factor`, `product` and `sum` meet their contracts: text and levels left fall at each call, and a sum or a product grows by one sign and one
-- operand a turn. Assumes nothing.
use Rattle.std.proofs.Common.{ℕ, refl, ◌∙◌, ap, get_or, arith}
use Rattle.formula.specs.Told.{at_of}
use Rattle.formula.proofs.Reading.{asks_small, reads_as, no_level, at_leaf, Begins, begins, inner_asks, inner_small, minus_read, bracket_read}
use Rattle.formula.proofs.Going.{Turn, going_starts, going_ends, turn, sign_small, right_asks, right_small, going_less, going_on}
use Rattle.formula.proofs.parts.+factor_product_sum.Goals as goal

pub factor-returns-then-depth-eq0 : goal.factor-returns-then-depth-eq0
factor-returns-then-depth-eq0 t c =
    let a = c.args in
    reads_as (no_level a.text.now (at_of a.place) a.depth c.if-depth-eq0.true) c.leaf.ensures

pub factor-overflow_add-place : goal.factor-overflow_add-place
factor-overflow_add-place t c =
    let B : Begins _ _ _ = begins c.requires c.byte_at-b.ensures c.at_of.ensures c.if-b-eq45.true (omega arith) in
    omega (arith, asks_small B.asks)

pub factor-factor-p-requires : goal.factor-factor-p-requires
factor-factor-p-requires t c =
    let B : Begins _ _ _ = begins c.requires c.byte_at-b.ensures c.at_of.ensures c.if-b-eq45.true (omega arith) in
    inner_asks B 0 c.args.depth t c.decreases (omega arith)

pub factor-joined-requires : goal.factor-joined-requires
factor-joined-requires t c =
    let B : Begins _ _ _ = begins c.requires c.byte_at-b.ensures c.at_of.ensures c.if-b-eq45.true (omega arith) in
    inner_small B refl c.factor-p.ensures

pub factor-returns-then-b-eq45 : goal.factor-returns-then-b-eq45
factor-returns-then-b-eq45 t c =
    let B : Begins _ _ _ = begins c.requires c.byte_at-b.ensures c.at_of.ensures c.if-b-eq45.true (omega arith) in
    minus_read _ _ _ _ B c.if-depth-eq0.false c.if-b-eq45.true c.factor-p.ensures c.joined.ensures

pub factor-overflow_add-place-then-b-eq40 : goal.factor-overflow_add-place-then-b-eq40
factor-overflow_add-place-then-b-eq40 t c =
    let B : Begins _ _ _ = begins c.requires c.byte_at-b.ensures c.at_of.ensures c.if-b-eq40.true (omega arith) in
    omega (arith, asks_small B.asks)

pub factor-sum-p-requires : goal.factor-sum-p-requires
factor-sum-p-requires t c =
    let B : Begins _ _ _ = begins c.requires c.byte_at-b.ensures c.at_of.ensures c.if-b-eq40.true (omega arith) in
    inner_asks B 2 c.args.depth t c.decreases (omega arith)

pub factor-bracketed-requires : goal.factor-bracketed-requires
factor-bracketed-requires t c =
    let B : Begins _ _ _ = begins c.requires c.byte_at-b.ensures c.at_of.ensures c.if-b-eq40.true (omega arith) in
    (B.asks.short, inner_small B refl c.sum-p.ensures)

pub factor-returns-then-b-eq40 : goal.factor-returns-then-b-eq40
factor-returns-then-b-eq40 t c =
    let B : Begins _ _ _ = begins c.requires c.byte_at-b.ensures c.at_of.ensures c.if-b-eq40.true (omega arith) in
    bracket_read _ _ _ _ B c.if-depth-eq0.false c.if-b-eq45.false c.if-b-eq40.true c.sum-p.ensures c.bracketed.ensures

pub factor-returns : goal.factor-returns
factor-returns t c =
    let a = c.args in
    reads_as (at_leaf a.text.now (at_of a.place) a.depth _ c.if-depth-eq0.false
    (c.byte_at-b.ensures ∙ ap (λ (k : ℕ). get_or a.text.now k 0) c.at_of.ensures)
    c.if-b-eq45.false c.if-b-eq40.false) c.leaf-2.ensures

pub product-loop-place-init : goal.product-loop-place-init
product-loop-place-init t c =
    going_starts c.requires.short c.factor-left.ensures

pub product-returns-then-code-eq0 : goal.product-returns-then-code-eq0
product-returns-then-code-eq0 t c =
    going_ends c.requires.short c.factor-left.ensures c.loop-place.invariant
    c.sign_at-code.ensures c.if-code-eq0.true

pub product-overflow_add-left : goal.product-overflow_add-left
product-overflow_add-left t c =
    let T : Turn _ _ _ _ _ _ = turn c.requires c.loop-place.invariant refl c.sign_at-code.ensures c.if-code-eq0.false in
    omega (arith, sign_small T)

pub product-factor-right-requires : goal.product-factor-right-requires
product-factor-right-requires t c =
    let T : Turn _ _ _ _ _ _ = turn c.requires c.loop-place.invariant refl c.sign_at-code.ensures c.if-code-eq0.false in
    right_asks T 0 c.args.depth t c.decreases

pub product-joined-left-requires : goal.product-joined-left-requires
product-joined-left-requires t c =
    let T : Turn _ _ _ _ _ _ = turn c.requires c.loop-place.invariant refl c.sign_at-code.ensures c.if-code-eq0.false in
    right_small T c.factor-right.ensures

pub product-loop-place-smaller : goal.product-loop-place-smaller
product-loop-place-smaller t c =
    let T : Turn _ _ _ _ _ _ = turn c.requires c.loop-place.invariant refl c.sign_at-code.ensures c.if-code-eq0.false in
    going_less T c.factor-right.ensures c.joined-left.ensures

pub product-loop-place-preserved : goal.product-loop-place-preserved
product-loop-place-preserved t c =
    let T : Turn _ _ _ _ _ _ = turn c.requires c.loop-place.invariant refl c.sign_at-code.ensures c.if-code-eq0.false in
    going_on T c.factor-right.ensures c.joined-left.ensures

pub sum-loop-place-init : goal.sum-loop-place-init
sum-loop-place-init t c =
    going_starts c.requires.short c.product-left.ensures

pub sum-returns-then-code-eq0 : goal.sum-returns-then-code-eq0
sum-returns-then-code-eq0 t c =
    going_ends c.requires.short c.product-left.ensures c.loop-place.invariant
    c.sign_at-code.ensures c.if-code-eq0.true

pub sum-overflow_add-left : goal.sum-overflow_add-left
sum-overflow_add-left t c =
    let T : Turn _ _ _ _ _ _ = turn c.requires c.loop-place.invariant refl c.sign_at-code.ensures c.if-code-eq0.false in
    omega (arith, sign_small T)

pub sum-product-right-requires : goal.sum-product-right-requires
sum-product-right-requires t c =
    let T : Turn _ _ _ _ _ _ = turn c.requires c.loop-place.invariant refl c.sign_at-code.ensures c.if-code-eq0.false in
    right_asks T 1 c.args.depth t c.decreases

pub sum-joined-left-requires : goal.sum-joined-left-requires
sum-joined-left-requires t c =
    let T : Turn _ _ _ _ _ _ = turn c.requires c.loop-place.invariant refl c.sign_at-code.ensures c.if-code-eq0.false in
    right_small T c.product-right.ensures

pub sum-loop-place-smaller : goal.sum-loop-place-smaller
sum-loop-place-smaller t c =
    let T : Turn _ _ _ _ _ _ = turn c.requires c.loop-place.invariant refl c.sign_at-code.ensures c.if-code-eq0.false in
    going_less T c.product-right.ensures c.joined-left.ensures

pub sum-loop-place-preserved : goal.sum-loop-place-preserved
sum-loop-place-preserved t c =
    let T : Turn _ _ _ _ _ _ = turn c.requires c.loop-place.invariant refl c.sign_at-code.ensures c.if-code-eq0.false in
    going_on T c.product-right.ensures c.joined-left.ensures
