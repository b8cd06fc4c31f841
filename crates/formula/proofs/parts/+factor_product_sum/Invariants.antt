-- The measures of `formula::parts::factor`, `product` and `sum`: text and levels left; and what the loops of a sum and of a product keep. Assumes nothing.
use Rattle.std.proofs.Common.{◌-◌, length}
use Rattle.formula.specs.Reader.{sum_sign, product_sign, factor_of, product_of}
use Rattle.formula.specs.Told.{at_of, end_of}
use Rattle.formula.proofs.Measure.{left_over}
use Rattle.formula.proofs.Going.{Going}
use Rattle.formula.proofs.parts.+factor_product_sum.Given as goal

abbrev pub decreases-factor : goal.decreases-factor
decreases-factor l = left_over 0 l.text.now (at_of l.place) l.depth

abbrev pub decreases-product : goal.decreases-product
decreases-product l = left_over 1 l.text.now (at_of l.place) l.depth

abbrev pub decreases-sum : goal.decreases-sum
decreases-sum l = left_over 2 l.text.now (at_of l.place) l.depth

abbrev pub invariant-product-loop-place : goal.invariant-product-loop-place
invariant-product-loop-place l =
    Going product_sign (factor_of l.depth) l.text
    (record { place = l.place; next = l.left; before = l.initial.out; after = l.out }) (end_of l.initial.left)

abbrev pub decreases-product-loop-place : goal.decreases-product-loop-place
decreases-product-loop-place l = length l.text - at_of l.left

abbrev pub invariant-sum-loop-place : goal.invariant-sum-loop-place
invariant-sum-loop-place l =
    Going sum_sign (product_of l.depth) l.text
    (record { place = l.place; next = l.left; before = l.initial.out; after = l.out }) (end_of l.initial.left)

abbrev pub decreases-sum-loop-place : goal.decreases-sum-loop-place
decreases-sum-loop-place l = length l.text - at_of l.left
